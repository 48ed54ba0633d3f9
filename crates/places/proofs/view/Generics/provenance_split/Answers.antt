use Rattle.std.proofs.Common.{◌≡◌, ℕ, vec_items, ap, ◌∙◌}
use Rattle.places.specs.declared.view.Provenance.{Provenance}
use Rattle.definitions.specs.Rules.{ranked}
use Rattle.places.specs.Places.{defaulted}
use Rattle.places.proofs.Placed.{kinds_meant}
use Rattle.places.proofs.view.Generics.provenance_split.Goals as goal

all_same : {a b c d e f p q r s t u : ℕ} → a ≡ p → b ≡ q → c ≡ r → d ≡ s → e ≡ t → f ≡ u → ◌≡◌ {A = Provenance} (record { parent = a; trait_self = b; lifetimes = c; named = d; defaulted = e; impl_traits = f }) (record { parent = p; trait_self = q; lifetimes = r; named = s; defaulted = t; impl_traits = u })
all_same ha hb hc hd he hf = rw (ha, hb, hc, hd, he, hf)

pub returns : goal.returns
returns c =
    let marks = vec_items c.args.self.now.cat.now.marks in
    let k = kinds_meant marks _ _ c.own_rows-rows.ensures.params in
    all_same c.len_parent.ensures (c.count_ranked.ensures ∙ rw c.rank.ensures (ap (ranked 0) k)) (c.count_ranked-2.ensures ∙ rw c.rank-2.ensures (ap (ranked 1) k)) (c.count_ranked-3.ensures ∙ rw c.rank-3.ensures (ap (ranked 2) k)) (c.count_defaulted.ensures marks ∙ ap defaulted c.own_rows-rows.ensures.params) (c.count_ranked-4.ensures ∙ rw c.rank-4.ensures (ap (ranked 3) k))
