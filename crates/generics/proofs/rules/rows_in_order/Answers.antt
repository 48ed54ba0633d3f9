use Rattle.std.proofs.Common.{leb, rules, tests}
use Rattle.std.proofs.lemmas.Fn.{always_returns_same}
use Rattle.definitions.specs.Rules.{rank}
use Rattle.generics.proofs.Ordered.{sorted}
use Rattle.generics.proofs.rules.rows_in_order.Goals as goal

pub returns : goal.returns
returns c = sorted c.args.rows.now _ (c.is_sorted_by.ensures.cases (λ x y. leb (rank x.kind) (rank y.kind)) (always_returns_same _ _ _ (λ a r f k. (search (rules, tests), search (rules, tests)))))
