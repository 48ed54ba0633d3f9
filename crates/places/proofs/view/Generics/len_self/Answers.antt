use Rattle.std.proofs.Common.{length, vec_items, sym, ap, ◌∙◌}
use lib.ListN.{length-map}
use Rattle.generics.specs.Lays.{param_of}
use Rattle.places.proofs.view.Generics.len_self.Goals as goal

pub returns : goal.returns
returns c = sym (length-map c.own_rows.result.now (param_of (vec_items c.args.self.now.cat.now.marks))) ∙ ap length c.own_rows.ensures.params
