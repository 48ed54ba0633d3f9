-- The arguments that the text of a list holds. Assumes nothing.
use Rattle.std.specs.Prelude.{◌≡◌, ℕ, ◌+◌, ◌^◌, ◌<◌, true, false, ◌⊎◌, List, [], ◌∷◌, ◌++◌, map, length, Some, Ok, Err, Option, Result, find}
use Rattle.std.specs.Option.{option_map}
use Rattle.std.specs.List.{AllByRecursion}
use Rattle.listing.specs.declared.faults.Fault.{Fault}
use Rattle.listing.specs.declared.faults.Reason.TheVariants.{Empty, Many}
use Rattle.listing.specs.declared.faults.ReadError.{ReadError}
use Rattle.listing.specs.declared.faults.ReadError.TheVariants.{Unreadable, NoMemory}
use Rattle.spans.specs.declared.Span.{Span}
use Rattle.path.specs.declared.args.GenericArg.{GenericArg}
use Rattle.listing.specs.Blanks.{blank, trimmed}
use Rattle.listing.specs.Nesting.{start}
use Rattle.spans.specs.Parts.{part}
use Rattle.listing.specs.Pieces.{Adjacent, Cut, fault}
use Rattle.listing.specs.Tokens.{form}

-- one argument for each piece between commas, in order, none of them blank; a blank piece may stand behind them,
-- as in an empty list and behind a last comma
pub record Written (ps : List (List ℕ)) (text : List ℕ) : Type 0 where
  pub each : AllByRecursion (λ p. blank p ≡ false) ps
  pub pieces : Cut 44 ps text ⊎ ((end : List ℕ) × (blank end ≡ true) × Cut 44 (ps ++ end ∷ []) text)

-- where the first blank one of the spans begins
abbrev pub first_blank : List ℕ → List Span → Option ℕ
first_blank text ss = option_map (λ s. s.from) (find (λ s. blank (part text s)) ss)

-- the text cannot be cut, or a blank piece begins there
abbrev pub Faulty : List ℕ → Fault → Type 0
Faulty text u = (fault 44 start 0 text ≡ Some u) ⊎ ((ss : List Span) × Cut 44 (map (part text) ss) text × Adjacent 0 ss (length text + 1) × (first_blank text ss ≡ Some u.at) × (u.reason ≡ Empty))

-- the spans of the written arguments, or the fault of a text in which none are written
abbrev pub Listed : {A : Type 0} → (A → List Span) → List ℕ → Result A ReadError → Type 0
Listed items text (Ok v) = Written (map (part text) (items v)) text × ((e : ℕ) × Adjacent 0 (items v) e)
Listed items text (Err (Unreadable u)) = ((ps : List (List ℕ)) → Written ps text → ⊥) × Faulty text u
Listed items text (Err NoMemory) = Unit {0}

-- an argument without the white space around it
abbrev pub bare : List ℕ → List ℕ
bare p = part p (trimmed p)

-- one argument for each span, in order: its form, and its number from n on
abbrev pub args_of : List ℕ → ℕ → List Span → List GenericArg
args_of text n [] = []
args_of text n (s ∷ ss) = record { form = form (bare (part text s)); handle = n } ∷ args_of text (n + 1) ss

-- a text is not read, behind n arguments, since no arguments are written in it, or since there would be more than
-- 2^32 of them
abbrev pub Refused : {A : Type 0} → ℕ → List ℕ → Result A ReadError → Type 0
Refused n text (Ok v) = Unit {0}
Refused n text (Err (Unreadable u)) = (((ps : List (List ℕ)) → Written ps text → ⊥) × Faulty text u) ⊎ ((u ≡ record { at = 0; reason = Many }) × ((ps : List (List ℕ)) × Written ps text × (2 ^ 32 < n + length ps)))
Refused n text (Err NoMemory) = Unit {0}
