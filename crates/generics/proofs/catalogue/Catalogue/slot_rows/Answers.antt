use Rattle.std.proofs.Common.{vec_items, sym, ap, ◌∙◌}
use Rattle.generics.specs.Held.{held, row_kinds}
use Rattle.definitions.specs.Terms.{slots_of}
use Rattle.generics.proofs.Found.{kinds_at}
use Rattle.generics.proofs.catalogue.Catalogue.slot_rows.Goals as goal

pub returns-in-Head : goal.returns-in-Head
returns-in-Head c =
    let cat = c.args.self.now in
    ap row_kinds c.own_rows.ensures.rows ∙ kinds_at (vec_items cat.defs) (vec_items cat.rows) (vec_items cat.marks) c.in-Head.def ∙ ap (slots_of (held cat)) (sym c.in-Head.is)
