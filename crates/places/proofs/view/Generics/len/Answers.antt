use Rattle.std.proofs.Common.{arith}
use Rattle.definitions.specs.Definitions.{definition_at}
use Rattle.generics.specs.Held.{held}
use Rattle.places.proofs.Placed.{few_own, few_before, whole_long}
use Rattle.places.proofs.view.Generics.len.Goals as goal

pub overflow_add-result : goal.overflow_add-result
overflow_add-result c =
    let cat = c.args.self.now.cat.now in
    omega (arith, c.len_parent.ensures, c.len_self.ensures, few_own cat c.args.self.now.def, few_before cat c.args.self.now.def)

pub returns : goal.returns
returns c =
    let cat = c.args.self.now.cat.now in
    omega (arith, c.len_parent.ensures, c.len_self.ensures, whole_long (held cat) (definition_at (held cat) c.args.self.now.def))
