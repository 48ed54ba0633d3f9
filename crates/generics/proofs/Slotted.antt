-- The ends of terms and slots, by the rows as they are held. Assumes nothing.
use Rattle.std.proofs.Common.{◌≡◌, ℕ, ◌+◌, ◌-◌, ◌<◌, Bool, true, false, List, [], ◌∷◌, length, get_or, take, drop, Some, None, Option, arith, take_all, MatchOption}
use Rattle.definitions.specs.declared.kinds.Kind.{Kind}
use Rattle.definitions.specs.declared.kinds.Mark.{Mark}
use Rattle.generics.specs.declared.stored.Row.{Row}
use Rattle.definitions.specs.Definitions.{Definition, kind_of}
use Rattle.generics.specs.Lays.{no_row}
use Rattle.generics.specs.Held.{row_kinds}
use Rattle.definitions.specs.Terms.{Term, term, Slots, none, more, At, begins, slots_of}
use Rattle.definitions.proofs.Ends.{term_one, known}

-- what the pattern `[first, rest @ ..]` calls rest
rest_of : (r : Row) (rs : List Row) → take (length (r ∷ rs) - 1) rs ≡ rs
rest_of r rs = take_all _ rs (omega arith)

never : {P : Type 0} {b : Bool} → b ≡ true → false ≡ b → P
never e f = absurd (grind arith)

module _ {ds : List Definition} {whole : List Kind} {ms : List Mark} where
  -- the slots of no rows
  pub slots_none : (p : ℕ) (rs : List Row) → length rs ≡ 0 → Slots ds whole ms p p (row_kinds rs)
  slots_none p [] h = none
  slots_none p (r ∷ rs) h = absurd (omega arith)

  -- no term for the first row, so no slots
  pub slots_stop : (p : ℕ) (rs : List Row) → 0 < length rs → ((e : ℕ) → Term ds whole ms p e (kind_of (get_or rs 0 no_row).kind) → ⊥) → (e : ℕ) → Slots ds whole ms p e (row_kinds rs) → ⊥
  slots_stop p [] h no-term e s = omega arith
  slots_stop p (r ∷ rs) h no-term e (more t s) = no-term _ t

module _ (ds : List Definition) (whole : List Kind) (ms : List Mark) where
  -- after the term of the first row, the slots of the others
  pub slots_go : (p m : ℕ) (rs : List Row) (r : Option ℕ) → 0 < length rs → Term ds whole ms p m (kind_of (get_or rs 0 no_row).kind) → MatchOption r ((e : ℕ) → Slots ds whole ms m e (row_kinds (take (length rs - 1) (drop 1 rs))) → ⊥) (λ e. Slots ds whole ms m e (row_kinds (take (length rs - 1) (drop 1 rs)))) → MatchOption r ((e : ℕ) → Slots ds whole ms p e (row_kinds rs) → ⊥) (λ e. Slots ds whole ms p e (row_kinds rs))
  slots_go p m [] r h t found = absurd (omega arith)
  slots_go p m (x ∷ xs) None h t found = λ e s. other e s
    where
      other : (e : ℕ) → Slots ds whole ms p e (row_kinds (x ∷ xs)) → ⊥
      other e (more u s) = let q = term_one u t in found e (rw (rest_of x xs) (rw q at s))
  slots_go p m (x ∷ xs) (Some e) h t found = more t (rw (rest_of x xs) at found)

  -- a mark that may begin the term, and its slots
  pub term_go : (p : ℕ) (m : Mark) (k : Kind) (ks : List Kind) (r : Option ℕ) → At ms p m → begins ds whole m k ≡ true → ks ≡ slots_of ds m → MatchOption r ((e : ℕ) → Slots ds whole ms (p + 1) e ks → ⊥) (λ e. Slots ds whole ms (p + 1) e ks) → MatchOption r ((e : ℕ) → Term ds whole ms p e k → ⊥) (λ e. Term ds whole ms p e k)
  term_go p m k ks None at h same found = λ e t. found e (rw same (known at t).1)
  term_go p m k ks (Some e) at h same found = term m at h (rw same at found)

  pub term_stop : (p : ℕ) (m : Mark) (k : Kind) → At ms p m → false ≡ begins ds whole m k → (e : ℕ) → Term ds whole ms p e k → ⊥
  term_stop p m k at h e t = never (known at t).0 h
