-- A default has few marks, and refers to the places before it. Assumes nothing.
use Rattle.std.proofs.Common.{◌≡◌, ℕ, zero, suc, ◌+◌, ◌-◌, ◌<◌, Bool, true, false, cond, not, ◌&&◌, ltb, List, [], ◌∷◌, ◌++◌, length, get_or, take, Some, None, Option, sym, refl, ap, ◌∙◌, subst, inl, inr, arith, length-append, length-take}
use lib.ListN.{length-map}
use Rattle.std.proofs.lemmas.List.{get_or_past, get_or-take, length-take-le}
use Rattle.std.proofs.lemmas.Bool.{and_parts, cases_lt, ltb-true}
use Rattle.definitions.specs.declared.kinds.GenericDefKind.{GenericDefKind}
use Rattle.definitions.specs.declared.kinds.GenericDefKind.TheVariants.{Function, Adt, TypeAlias, Const as ConstDef, Trait, Impl}
use Rattle.definitions.specs.declared.kinds.Kind.{Kind}
use Rattle.definitions.specs.declared.kinds.Mark.{Mark}
use Rattle.definitions.specs.declared.kinds.Mark.TheVariants.{Ref, Head, Base, Value, Region}
use Rattle.definitions.specs.Definitions.{Param, Definition, definition_at, kind_of, kinds_of, nothing, parent_rows, whole_rows}
use Rattle.definitions.specs.Follows.{Rightful, no_param, row_at}
use Rattle.definitions.specs.Rules.{may_be_parent, may_have_parent, Lawful}
use Rattle.definitions.specs.Terms.{begins, reads, slots_of}
use Rattle.definitions.proofs.Decided.{rightful}
use Rattle.definitions.proofs.Scans.{term_is}
use Rattle.std.specs.List.{slice_get}
use Rattle.std.proofs.lemmas.Option.{slice_get_within, get_or_from_slice_get}
use Rattle.places.specs.Places.{default_of, param_at}
use Rattle.pieces.specs.Pieces.{RefBelow, RefsBelow}
use Rattle.lowerer.specs.declared.meaning.ParamPlace.{ParamPlace}
use Rattle.lowerer.specs.declared.meaning.Meaning.{Meaning}
use Rattle.lowerer.specs.Meanings.{default_for, fills, kinds_before, kinds_by}
use Rattle.lowerer.proofs.Filled.{kinds_equal}
use Rattle.lowerers.specs.Entries.{Reaches}

-- marks that are read refer to the places that they may refer to
begin_below : (ds : List Definition) (places : List Kind) (m : Mark) (k : Kind) → begins ds places m k ≡ true → RefBelow (length places) m
begin_below ds places (Ref p) k h = ltb-true p (length places) (and_parts (ltb p (length places)) _ h).0
begin_below ds places (Head d) k h = tt
begin_below ds places (Base n) k h = tt
begin_below ds places (Value v) k h = tt
begin_below ds places (Region n) k h = tt

read_below : (ds : List Definition) (places ks : List Kind) (ms : List Mark) → reads ds places ks ms ≡ true → RefsBelow (length places) ms
read_below ds places ks [] h = tt
read_below ds places [] (m ∷ ms) h = absurd (grind arith)
read_below ds places (k ∷ ks) (m ∷ ms) h =
    let p = and_parts (begins ds places m k) (reads ds places (slots_of ds m ++ ks) ms) h in
    (begin_below ds places m k p.0, read_below ds places (slots_of ds m ++ ks) ms p.1)

get_first : {X : Type 0} (xs ys : List X) (i : ℕ) → i < length xs → slice_get (xs ++ ys) i ≡ slice_get xs i
get_first [] ys i h = absurd (omega arith)
get_first (x ∷ xs) ys zero h = refl
get_first (x ∷ xs) ys (suc i) h = get_first xs ys i (omega arith)

get_second : {X : Type 0} (xs ys : List X) (i j : ℕ) → i ≡ length xs + j → slice_get (xs ++ ys) i ≡ slice_get ys j
get_second [] ys i j e = let q : i ≡ j = omega arith in ap (slice_get ys) q
get_second (x ∷ xs) ys zero j e = absurd (omega arith)
get_second (x ∷ xs) ys (suc i) j e = get_second xs ys i j (omega arith)

-- what is behind a place that has a default
has_param : (o : Option Param) (ms : List Mark) → default_of o ≡ Some ms → (p : Param) × (o ≡ Some p) × (p.default ≡ Some ms)
has_param None ms e = absurd (grind arith)
has_param (Some p) ms e = (p, refl, e)

-- no definition is both a parent and a child
not_both : (k : GenericDefKind) → may_be_parent k ≡ true → may_have_parent k ≡ true → ⊥
not_both Function a b = grind arith
not_both Adt a b = grind arith
not_both TypeAlias a b = grind arith
not_both ConstDef a b = grind arith
not_both Trait a b = grind arith
not_both Impl a b = grind arith

module _ (ds : List Definition) (ok : Lawful ds) where
  right : (d : ℕ) → d < length ds → Rightful (take d ds) (definition_at ds d)
  right d h = rightful (take d ds) (definition_at ds d) (ok d h)

  -- a definition's parent is declared before it
  parent_long : (d : ℕ) → d < length ds → (o : Option ℕ) → (definition_at ds d).parent ≡ o → length (parent_rows (take d ds) o) ≡ length (parent_rows ds o)
  parent_long d h None e = refl
  parent_long d h (Some p) e =
      let q = (right d h).parents p e in
      let l = length-take d ds in
      let k : p < d = omega (arith, q.1) in
      ap (λ (x : Definition). length x.rows) (get_or-take d ds p nothing k)

  -- the default of an own row
  own_default : (d i : ℕ) (ms : List Mark) → d < length ds → i < length (definition_at ds d).rows → (row_at (definition_at ds d).rows i).default ≡ Some ms → Reaches (length (parent_rows ds (definition_at ds d).parent) + i) ms
  own_default d i ms h l e =
      let x = definition_at ds d in
      let t = (right d h).terms.defaults i ms l e in
      let before = kinds_of (parent_rows (take d ds) x.parent) ++ kinds_of (take i x.rows) in
      let kind : Param → Kind = λ p. kind_of p.kind in
      let r = read_below (take d ds) before (kind_of (row_at x.rows i).kind ∷ []) ms (term_is (take d ds) before ms (kind_of (row_at x.rows i).kind) t.1) in
      let n : length before ≡ length (parent_rows ds x.parent) + i = length-append (kinds_of (parent_rows (take d ds) x.parent)) (kinds_of (take i x.rows)) ∙ ap (λ k. k + length (kinds_of (take i x.rows))) (length-map (parent_rows (take d ds) x.parent) kind ∙ parent_long d h x.parent refl) ∙ ap (λ k. length (parent_rows ds x.parent) + k) (length-map (take i x.rows) kind ∙ length-take-le i x.rows (omega arith)) in
      (t.0, subst (λ k. RefsBelow k ms) n r)

  -- a parent has no parent
  orphan : (d p : ℕ) → d < length ds → (definition_at ds d).parent ≡ Some p → (p < length ds) × (length (parent_rows ds (definition_at ds p).parent) ≡ 0)
  orphan d p h e =
      let q = (right d h).parents p e in
      let l = length-take d ds in
      let k : p < d = omega (arith, q.1) in
      let m : p < length ds = omega arith in
      let be : may_be_parent (definition_at ds p).kind ≡ true = subst (λ (x : Definition). may_be_parent x.kind ≡ true) (get_or-take d ds p nothing k) q.2 in
      (m, alone m be (definition_at ds p).parent refl)
    where
      alone : p < length ds → may_be_parent (definition_at ds p).kind ≡ true → (o : Option ℕ) → (definition_at ds p).parent ≡ o → length (parent_rows ds o) ≡ 0
      alone m be None f = refl
      alone m be (Some g) f = absurd (not_both (definition_at ds p).kind be ((right p m).parents g f).0)

  own_at : (d i : ℕ) (x : Param) (ms : List Mark) → d < length ds → slice_get (definition_at ds d).rows i ≡ Some x → x.default ≡ Some ms → Reaches (length (parent_rows ds (definition_at ds d).parent) + i) ms
  own_at d i x ms h e f =
      let p : (i < length (definition_at ds d).rows) × (get_or (definition_at ds d).rows i no_param ≡ x) = (slice_get_within (definition_at ds d).rows i x e, get_or_from_slice_get (definition_at ds d).rows i x no_param e) in
      own_default d i ms h p.0 (ap (λ (y : Param). y.default) p.1 ∙ f)

  -- the default at a place of the whole list
  at_place : (d place : ℕ) (o : Option ℕ) (x : Param) (ms : List Mark) → d < length ds → (definition_at ds d).parent ≡ o → slice_get (parent_rows ds o ++ (definition_at ds d).rows) place ≡ Some x → x.default ≡ Some ms → Reaches place ms
  at_place d place None x ms h e f g = subst (λ n. Reaches n ms) (let q = ap (λ (o : Option ℕ). length (parent_rows ds o)) e in omega arith) (own_at d place x ms h f g)
  at_place d place (Some p) x ms h e f g = elim (cases_lt place (length (definition_at ds p).rows)) [
    | inl l ↦
        let q = orphan d p h e in
        let r = own_at p place x ms q.0 (sym (get_first (definition_at ds p).rows (definition_at ds d).rows place l) ∙ f) g in
        subst (λ n. Reaches n ms) (omega (arith, q.1)) r
    | inr l ↦
        let n = length (definition_at ds p).rows in
        let i = place - n in
        let b : place ≡ n + i = omega arith in
        let r = own_at d i x ms h (sym (get_second (definition_at ds p).rows (definition_at ds d).rows place i b) ∙ f) g in
        let k : length (parent_rows ds (definition_at ds d).parent) ≡ n = ap (λ (o : Option ℕ). length (parent_rows ds o)) e in
        subst (λ j. Reaches j ms) (omega arith) r
  ]

  pub default_reaches : (d place : ℕ) (ms : List Mark) → default_of (param_at ds d place) ≡ Some ms → (place < length (whole_rows ds (definition_at ds d))) × Reaches place ms
  default_reaches d place ms e =
      let p = has_param (param_at ds d place) ms e in
      let l : place < length (whole_rows ds (definition_at ds d)) = slice_get_within (whole_rows ds (definition_at ds d)) place p.0 p.1 in
      elim (cases_lt d (length ds)) [
        | inl h ↦ (l, at_place d place (definition_at ds d).parent p.0 ms h refl p.1 p.2)
        | inr h ↦
            let x = get_or_past ds d nothing h in
            let n : length (whole_rows ds (definition_at ds d)) ≡ 0 = ap (λ (y : Definition). length (whole_rows ds y)) x in
            absurd (omega (arith, l))
      ]

  -- the default that an inferred entry stands for refers to the entries handed along
  pub made_reaches : (r : ParamPlace) (infer : Bool) (before : List Kind) (ms : List Mark) → default_for ds r infer before ≡ Some ms → Reaches (length before) ms
  made_reaches r infer before ms e =
      let a = filled (not infer && fills ds r before) (default_of (param_at ds r.def r.place)) e in
      let f = and_parts (not infer) (fills ds r before) a.0 in
      let b = kinds_equal before (kinds_before ds r) f.1 in
      let d = default_reaches r.def r.place ms a.1 in
      let rows = whole_rows ds (definition_at ds r.def) in
      let kind : Param → Kind = λ p. kind_of p.kind in
      let n : length before ≡ r.place = ap length b ∙ length-map (take r.place rows) kind ∙ length-take-le r.place rows (omega arith) in
      subst (λ k. Reaches k ms) (sym n) d.1
    where
      filled : (t : Bool) (x : Option (List Mark)) → cond t x None ≡ Some ms → (t ≡ true) × (x ≡ Some ms)
      filled true x q = (refl, q)
      filled false x q = absurd (grind arith)

  pub entries_reached : {A : Type 0} (m : A → Meaning) (xs : List A) (r : ParamPlace) (infer : Bool) (ms : List Mark) → Some ms ≡ default_for ds r infer (kinds_by m xs) → Reaches (length xs) ms
  entries_reached m xs r infer ms e = subst (λ n. Reaches n ms) (length-map xs (λ a. (m a).kind)) (made_reaches r infer (kinds_by m xs) ms (sym e))
