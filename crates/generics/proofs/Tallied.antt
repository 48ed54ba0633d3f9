-- Counting by `tally` is counting by std's `count_by`. Assumes nothing.
use Rattle.std.proofs.Common.{◌≡◌, ℕ, ◌+◌, Bool, true, false, cond, List, map, refl, ap, ◌∙◌, arith}
use Rattle.std.specs.List.{count_by}
use Rattle.std.proofs.lemmas.List.Recursion.{is_count_by}
use Rattle.definitions.specs.Rules.{one_if, tally}

one_more : (b : Bool) (n : ℕ) → one_if b + n ≡ cond b (1 + n) n
one_more true n = refl
one_more false n = omega arith

-- where a test on what is shown is a test on the items
pub tally_counts : {X Y : Type 0} (test : Y → Bool) (shown : X → Y) (p : X → Bool) → ((x : X) → test (shown x) ≡ p x) → (xs : List X) → tally test (map shown xs) ≡ count_by p xs
tally_counts test shown p same xs = is_count_by (λ l. tally test (map shown l)) p refl (λ x l. ap (λ b. one_if b + tally test (map shown l)) (same x) ∙ one_more (p x) (tally test (map shown l))) xs
