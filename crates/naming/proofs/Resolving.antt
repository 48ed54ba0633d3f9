-- What a path names, as a search over its numbered names. Assumes nothing.
use Rattle.std.proofs.Common.{◌≡◌, ℕ, ◌+◌, ltb, List, [], ◌∷◌, length, Some, None, Option, refl, ap, arith, le-ltb, lt-ltb}
use Rattle.std.specs.Bool.{then_some}
use Rattle.std.specs.List.{enumerate_from}
use Rattle.std.specs.Option.{option_or, unwrap_or}
use Rattle.spans.specs.declared.Span.{Span}
use Rattle.spans.specs.Parts.{part}
use Rattle.naming.specs.declared.known.Template.{Template}
use Rattle.naming.specs.declared.known.Meant.{Meant}
use Rattle.naming.specs.declared.known.Resolved.{Resolved}
use Rattle.naming.specs.Resolves.{meant_by, kind_of, left_over, a_module, first_known}
use Rattle.naming.proofs.Searched.{first_some}

-- what a name that stands for something says of its path of n names
abbrev carried : ℕ → ℕ → Option Meant → Option Resolved
carried n i None = None
carried n i (Some m) = Some (record { meant = Some m; resolution = record { kind = kind_of m; remaining = then_some (ltb (i + 1) n) (i + 1) } })

module _ (ts : List Template) (line : List ℕ) where
  -- what the name at its place says
  abbrev pub known_at : ℕ → ℕ × Span → Option Resolved
  known_at n p = carried n p.0 (meant_by ts (part line p.1))

  left : (ss : List Span) (i n : ℕ) → i + length ss ≡ n → then_some (ltb i n) i ≡ left_over ss i
  left [] i n e = ap (λ b. then_some b i) (le-ltb i n (omega (arith, e)))
  left (s ∷ ss) i n e = ap (λ b. then_some b i) (lt-ltb i n (omega (arith, e)))

  pub known_from : (ss : List Span) (i n : ℕ) → i + length ss ≡ n → unwrap_or (first_some (known_at n) (enumerate_from i ss)) a_module ≡ first_known ts line ss i
  known_from [] i n e = refl
  known_from (s ∷ ss) i n e = by (meant_by ts (part line s)) (known_from ss (i + 1) n (omega (arith, e)))
    where
      by : (o : Option Meant) → unwrap_or (first_some (known_at n) (enumerate_from (i + 1) ss)) a_module ≡ first_known ts line ss (i + 1)
          → unwrap_or (option_or (carried n i o) (first_some (known_at n) (enumerate_from (i + 1) ss))) a_module
          ≡ elim o [ None ↦ first_known ts line ss (i + 1) | Some m ↦ record { meant = Some m; resolution = record { kind = kind_of m; remaining = left_over ss (i + 1) } } ]
      by None later = later
      by (Some m) later = ap (λ o. record { meant = Some m; resolution = record { kind = kind_of m; remaining = o } }) (left ss (i + 1) n (omega (arith, e)))
