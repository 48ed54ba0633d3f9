use Rattle.std.proofs.Common.{◌≡◌, nat_eq, refl, sym, ◌∙◌, rules}
use Rattle.std.specs.List.{count_by}
use Rattle.definitions.specs.Rules.{rank}
use Rattle.generics.proofs.Tallied.{tally_counts}
use Rattle.generics.proofs.ranks.count_ranked.Goals as goal

pub returns : goal.returns
returns g c =
    let e : c.count.result ≡ count_by (λ x. nat_eq (rank (g.R.Ranked.shown x)) c.args.rank) c.args.rows.now = search rules in
    e ∙ sym (tally_counts _ g.R.Ranked.shown _ (λ x. refl) c.args.rows.now)
