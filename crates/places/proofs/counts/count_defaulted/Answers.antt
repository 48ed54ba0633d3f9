use Rattle.std.proofs.Common.{◌≡◌, is_some, sym, ◌∙◌, rules}
use Rattle.std.specs.List.{count_by}
use Rattle.definitions.specs.Definitions.{Param}
use Rattle.generics.specs.Lays.{param_of}
use Rattle.generics.proofs.Tallied.{tally_counts}
use Rattle.places.proofs.Placed.{spelled_some}
use Rattle.places.proofs.counts.count_defaulted.Goals as goal

pub returns : goal.returns
returns c =
    let e : c.count.result ≡ count_by (λ x. is_some x.default) c.args.rows.now = search rules in
    λ marks. e ∙ sym (tally_counts (λ (p : Param). is_some p.default) (param_of marks) _ (λ x. spelled_some marks x.default) c.args.rows.now)
