-- One byte of a scan. Assumes nothing.
use Rattle.std.proofs.Common.{◌≡◌, ℕ, ◌+◌, ◌-◌, ◌≤◌, Bool, true, false, cond, eqb, Some, None, Option, arith}
use Rattle.std.specs.Prelude.{option_and_then}
use Rattle.listing.specs.declared.scanning.Mode.{Mode}
use Rattle.listing.specs.declared.scanning.Role.{Role}
use Rattle.listing.specs.declared.scanning.Role.TheVariants.{Opens, Closes, Inner}
use Rattle.listing.specs.declared.scanning.Scan.{Scan}
use Rattle.listing.specs.Nesting.{after, at_depth, moved, role}

at_most : (m : Mode) (r : Option Role) (n : ℕ) (t : Scan) → at_depth m (option_and_then (λ o. moved o n) r) ≡ Some t → t.depth ≤ n + 1
at_most m (Some Opens) n t e = let d : n + 1 ≡ t.depth = cc in omega arith
at_most m (Some Closes) n t e = lower (eqb n 0) e
  where
    lower : (z : Bool) → at_depth m (cond z None (Some (n - 1))) ≡ Some t → t.depth ≤ n + 1
    lower true e = absurd (grind arith)
    lower false e = let d : n - 1 ≡ t.depth = cc in omega arith
at_most m (Some Inner) n t e = let d : n ≡ t.depth = cc in omega arith
at_most m None n t e = absurd (grind arith)

-- a byte goes at most one deeper
pub shallow : (s : Scan) (b : ℕ) (t : Scan) → after s b ≡ Some t → t.depth ≤ s.depth + 1
unfolding after
shallow s b t e = at_most _ (role s.mode b) s.depth t e
