-- What std's `is_sorted_by` says of rows and their ranks. Assumes nothing.
use Rattle.std.proofs.Common.{◌≡◌, ℕ, zero, suc, ◌<◌, ◌≤◌, Bool, true, false, ◌&&◌, leb, List, [], ◌∷◌, length, get_or, sym, refl, ap, arith, add-one}
use Rattle.std.specs.List.{IsAllAdjacentAnswer}
use Rattle.std.proofs.lemmas.Bool.{and_from, le-leb, lt-leb, leb-true, leb-false}
use Rattle.definitions.specs.declared.kinds.GenericParam.{GenericParam}
use Rattle.definitions.specs.Rules.{rank, in_order}
use Rattle.generics.specs.Lays.{params_asked}
use Rattle.generics.proofs.Walked.{no_param}

-- the rank of the row at a position
abbrev rank_at : List GenericParam → ℕ → ℕ
rank_at gs i = rank (get_or gs i no_param).kind

above : (low : ℕ) (gs : List GenericParam) → (0 < length gs → low ≤ rank_at gs 0) → ((i : ℕ) → suc i < length gs → rank_at gs i ≤ rank_at gs (suc i)) → true ≡ in_order low (params_asked gs)
above low [] first next = refl
above low (g ∷ gs) first next = sym (and_from (leb low (rank g.kind)) (in_order (rank g.kind) (params_asked gs)) (le-leb low (rank g.kind) (first (omega arith))) (sym (above (rank g.kind) gs (λ h. next 0 (omega arith)) (λ i h. next (suc i) (omega arith)))))

-- nothing that fails in a row of tests is mended by the test before
fails : (a b : Bool) → false ≡ b → false ≡ a && b
fails true b e = e
fails false b e = refl

below : (low : ℕ) (gs : List GenericParam) (i : ℕ) → suc i < length gs → rank_at gs (suc i) < rank_at gs i → false ≡ in_order low (params_asked gs)
below low [] i h q = absurd (omega arith)
below low (g ∷ []) i h q = absurd (omega arith)
below low (g ∷ k ∷ gs) zero h q = fails (leb low (rank g.kind)) _ (ap (λ b. b && in_order (rank k.kind) (params_asked gs)) (sym (lt-leb (rank g.kind) (rank k.kind) q)))
below low (g ∷ k ∷ gs) (suc i) h q = fails (leb low (rank g.kind)) _ (below (rank g.kind) (k ∷ gs) i (omega arith) q)

pub sorted : (gs : List GenericParam) (b : Bool) → IsAllAdjacentAnswer (λ x y c. c ≡ leb (rank x.kind) (rank y.kind)) gs b → b ≡ in_order 0 (params_asked gs)
sorted gs true h = above 0 gs (λ q. omega arith) next
  where
    next : (i : ℕ) → suc i < length gs → rank_at gs i ≤ rank_at gs (suc i)
    next i q =
        let t : true ≡ leb (rank_at gs i) (rank_at gs (suc i)) = rw add-one at (h i no_param (rw add-one q)) in
        leb-true (rank_at gs i) (rank_at gs (suc i)) (sym t)
sorted gs false h =
    let k = h.0 in
    let less : suc k < length gs = omega (arith, h.1) in
    let f : false ≡ leb (rank_at gs k) (rank_at gs (suc k)) = rw add-one at (h.2 no_param) in
    below 0 gs k less (leb-false (rank_at gs k) (rank_at gs (suc k)) (sym f))
