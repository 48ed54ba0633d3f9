-- No two entries have one variable. Assumes nothing.
use Rattle.std.proofs.Common.{◌≡◌, ℕ, zero, suc, ◌+◌, ◌≤◌, List, [], ◌∷◌, Some, None, Option, arith}
use Rattle.lowerers.specs.Numbers.{number_at, numbered_by, Apart, Makings, more, Took, VariableArg}

took_grows : (n m : ℕ) (o : Option ℕ) → Took n o m → n ≤ m
took_grows n m None t = omega arith
took_grows n m (Some v) t = omega arith

took_next : (n m v : ℕ) (o : Option ℕ) → o ≡ Some v → Took n o m → (v ≡ n) × (m ≡ n + 1)
took_next n m v None e t = absurd (grind arith)
took_next n m v (Some w) e t = let q : w ≡ v = cc in (omega arith, t.1)

-- a variable is not below those taken before
at_least : (n k : ℕ) (es : List VariableArg) → Makings n es k → (j v : ℕ) → number_at es j ≡ Some v → n ≤ v
at_least n k [] made j v e = absurd (grind arith)
at_least n k (x ∷ es) (more {m = m} t rest) zero v e = omega (arith, (took_next n m v (numbered_by x) e t).0)
at_least n k (x ∷ es) (more {m = m} t rest) (suc j) v e = omega (arith, took_grows n m (numbered_by x) t, at_least m k es rest j v e)

pub apart : Apart
apart n k [] made i j v h e f = grind arith
apart n k (x ∷ es) (more {m = m} t rest) zero zero v h e f = omega arith
apart n k (x ∷ es) (more {m = m} t rest) zero (suc j) v h e f = let p = took_next n m v (numbered_by x) e t in omega (arith, p.0, p.1, at_least m k es rest j v f)
apart n k (x ∷ es) (more {m = m} t rest) (suc i) zero v h e f = omega arith
apart n k (x ∷ es) (more {m = m} t rest) (suc i) (suc j) v h e f = apart m k es rest i j v (omega arith) e f
