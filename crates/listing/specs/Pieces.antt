-- What it is to cut a text at a separator. Assumes nothing.
use Rattle.std.specs.Prelude.{◌≡◌, ℕ, ◌+◌, ◌<◌, Bool, true, false, cond, ◌&&◌, List, [], ◌∷◌, ◌++◌, length, Some, None, Option, ◌==◌}
use Rattle.std.specs.List.{flat_map, AllByRecursion}
use Rattle.listing.specs.declared.scanning.Scan.{Scan}
use Rattle.spans.specs.declared.Span.{Span}
use Rattle.listing.specs.declared.faults.Fault.{Fault}
use Rattle.listing.specs.declared.faults.Reason.TheVariants.{Unopened, Unclosed}
use Rattle.listing.specs.Nesting.{after, closed, start}

-- the byte separates: it is the separator, and no bracket and no quote is open
abbrev pub splits : ℕ → Scan → ℕ → Bool
splits sep s b = b == sep && closed s

-- from the scan on, no byte separates, and all that is opened is closed
abbrev pub single : ℕ → Scan → List ℕ → Bool
single sep s [] = closed s
single sep s (b ∷ bs) = cond (splits sep s b) false (elim (after s b) [ None ↦ false | Some t ↦ single sep t bs ])

-- the pieces with the separator between them
abbrev pub joined_by : ℕ → List (List ℕ) → List ℕ
joined_by sep [] = []
joined_by sep (p ∷ ps) = p ++ flat_map (λ q. sep ∷ q) ps

-- the pieces of a text, in order: nothing of it is lost, and no piece holds two
pub record Cut (sep : ℕ) (ps : List (List ℕ)) (text : List ℕ) : Type 0 where
  pub some : 0 < length ps
  pub whole : joined_by sep ps ≡ text
  pub each : AllByRecursion (λ p. single sep start p ≡ true) ps

-- the first byte, counted from i, at which the text cannot be cut: it closes what is not open, or the text ends
-- while something is open
abbrev pub fault : ℕ → Scan → ℕ → List ℕ → Option Fault
fault sep s i [] = cond (closed s) None (Some (record { at = i; reason = Unclosed }))
fault sep s i (b ∷ bs) = cond (splits sep s b) (fault sep start (i + 1) bs) (elim (after s b) [ None ↦ Some (record { at = i; reason = Unopened }) | Some t ↦ fault sep t (i + 1) bs ])

-- how many bytes separate
abbrev pub separators : ℕ → Scan → List ℕ → ℕ
separators sep s [] = 0
separators sep s (b ∷ bs) = cond (splits sep s b) (separators sep start bs + 1) (elim (after s b) [ None ↦ 0 | Some t ↦ separators sep t bs ])

-- the spans follow one another from n on, one byte between each two, and the last ends one before e
abbrev pub Adjacent : ℕ → List Span → ℕ → Type 0
Adjacent n [] e = n ≡ e
Adjacent n (s ∷ ss) e = (s.from ≡ n) × Adjacent (n + s.len + 1) ss e
