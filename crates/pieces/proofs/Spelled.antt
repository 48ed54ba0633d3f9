-- Marks spelled with entries leave no ref. Assumes nothing.
use Rattle.std.proofs.Common.{List, [], ◌∷◌, length, Option, sym, subst, inl, inr, arith}
use Rattle.std.proofs.lemmas.Option.{slice_get_cases}
use Rattle.definitions.specs.declared.kinds.Mark.{Mark}
use Rattle.definitions.specs.declared.kinds.Mark.TheVariants.{Ref, Head, Base, Value, Region}
use Rattle.pieces.specs.Pieces.{entry_or, piece_with, spelled_with, IsNoRef, NoRef, RefBelow, RefsBelow}

module _ {A : Type 0} (entries : List A) where
  no_ref : (m : Mark) → RefBelow (length entries) m → IsNoRef (piece_with entries m)
  no_ref (Ref p) h = elim (slice_get_cases entries p).1 [
    | inl x ↦ subst (λ (o : Option A). IsNoRef (entry_or o (Ref p))) (sym x.2) tt
    | inr x ↦ absurd (omega (arith, x.0))
  ]
  no_ref (Head d) h = tt
  no_ref (Base n) h = tt
  no_ref (Value v) h = tt
  no_ref (Region n) h = tt

  pub no_refs : (ms : List Mark) → RefsBelow (length entries) ms → NoRef (spelled_with entries ms)
  no_refs [] h = tt
  no_refs (m ∷ ms) h = (no_ref m h.0, no_refs ms h.1)
