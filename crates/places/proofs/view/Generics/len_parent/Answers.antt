use Rattle.std.proofs.Common.{length, vec_items, sym, ap, ◌∙◌}
use lib.ListN.{length-map}
use Rattle.definitions.specs.Definitions.{parent_rows}
use Rattle.generics.specs.Held.{held}
use Rattle.generics.specs.Lays.{param_of}
use Rattle.places.proofs.view.Generics.len_parent.Goals as goal

pub returns : goal.returns
returns c =
    let cat = c.args.self.now.cat.now in
    sym (length-map c.parent_rows.result.now (param_of (vec_items cat.marks))) ∙ ap length c.parent_rows.ensures.params ∙ ap (λ p. length (parent_rows (held cat) p)) c.parent.ensures
