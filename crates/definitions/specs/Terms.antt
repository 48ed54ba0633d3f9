-- Which marks are a term. Assumes nothing.
use Rattle.std.specs.Prelude.{◌≡◌, ℕ, ◌+◌, ◌<◌, Bool, true, false, ◌&&◌, List, [], ◌∷◌, ◌++◌, length, nat_le, nat_lt, slice_index_or}
use Rattle.definitions.specs.declared.kinds.GenericDefKind.{GenericDefKind}
use Rattle.definitions.specs.declared.kinds.GenericDefKind.TheVariants.{Function, Adt, TypeAlias, Const as ConstDef, Trait, Impl}
use Rattle.definitions.specs.declared.kinds.Kind.{Kind}
use Rattle.definitions.specs.declared.kinds.Kind.TheVariants.{Lifetime, «Type» as TypeKind, Const}
use Rattle.definitions.specs.declared.kinds.Mark.{Mark}
use Rattle.definitions.specs.declared.kinds.Mark.TheVariants.{Ref, Head, Base, Value, Region}
use Rattle.definitions.specs.Definitions.{Definition, definition_at, kinds_of}

abbrev pub same_kind : Kind → Kind → Bool
same_kind Lifetime Lifetime = true
same_kind Lifetime TypeKind = false
same_kind Lifetime Const = false
same_kind TypeKind Lifetime = false
same_kind TypeKind TypeKind = true
same_kind TypeKind Const = false
same_kind Const Lifetime = false
same_kind Const TypeKind = false
same_kind Const Const = true

abbrev pub is_adt : GenericDefKind → Bool
is_adt Function = false
is_adt Adt = true
is_adt TypeAlias = false
is_adt ConstDef = false
is_adt Trait = false
is_adt Impl = false

-- a mark may begin a term of the kind: a parameter of that kind among the places it may refer to, a declared type,
-- a base type, a constant's value, a region
abbrev pub begins : List Definition → List Kind → Mark → Kind → Bool
begins ds whole (Ref p) k = nat_lt p (length whole) && same_kind (slice_index_or whole p Lifetime) k
begins ds whole (Head d) k = is_adt (definition_at ds d).kind && same_kind TypeKind k
begins ds whole (Base n) k = same_kind TypeKind k
begins ds whole (Value v) k = same_kind Const k
begins ds whole (Region n) k = same_kind Lifetime k

-- the kinds of the slots that follow a mark: one for each row of a head's definition, none for any other mark
abbrev pub slots_of : List Definition → Mark → List Kind
slots_of ds (Ref p) = []
slots_of ds (Head d) = kinds_of (definition_at ds d).rows
slots_of ds (Base n) = []
slots_of ds (Value v) = []
slots_of ds (Region n) = []

-- the mark that stands at a position
abbrev pub At : List Mark → ℕ → Mark → Type 0
At ms p m = (p < length ms) × (slice_index_or ms p (Ref 0) ≡ m)

mutual
  -- the marks from p up to e are one term of the kind: a mark that may begin it, and the mark's slots
  pub data Term (ds : List Definition) (whole : List Kind) (ms : List Mark) : ℕ → ℕ → Kind → Type 0 where
    term : {p e : ℕ} {k : Kind} (m : Mark) → At ms p m → begins ds whole m k ≡ true → Slots ds whole ms (p + 1) e (slots_of ds m) → Term ds whole ms p e k

  -- the marks from p up to e are one term for each of the kinds, one behind another
  pub data Slots (ds : List Definition) (whole : List Kind) (ms : List Mark) : ℕ → ℕ → List Kind → Type 0 where
    none : {p : ℕ} → Slots ds whole ms p p []
    more : {p m e : ℕ} {k : Kind} {ks : List Kind} → Term ds whole ms p m k → Slots ds whole ms m e ks → Slots ds whole ms p e (k ∷ ks)

-- the same as a test, from left to right: `ks` are the kinds of the terms that are still to come
abbrev pub reads : List Definition → List Kind → List Kind → List Mark → Bool
reads ds whole [] [] = true
reads ds whole [] (m ∷ ms) = false
reads ds whole (k ∷ ks) [] = false
reads ds whole (k ∷ ks) (m ∷ ms) = begins ds whole m k && reads ds whole (slots_of ds m ++ ks) ms

-- 1 to 32 marks that are one term of the kind, with nothing over
abbrev pub is_term : List Definition → List Kind → Kind → List Mark → Bool
is_term ds whole k ms = nat_le (length ms) 32 && reads ds whole (k ∷ []) ms

-- the test says what the relation says: all the marks are one term of the kind
abbrev pub ReadsTerms : Type 0
ReadsTerms = (ds : List Definition) (whole : List Kind) (k : Kind) (ms : List Mark) → (reads ds whole (k ∷ []) ms ≡ true → Term ds whole ms 0 (length ms) k) × (Term ds whole ms 0 (length ms) k → reads ds whole (k ∷ []) ms ≡ true)
