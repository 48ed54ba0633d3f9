-- Kinds compared one by one. Assumes nothing.
use Rattle.std.proofs.Common.{◌≡◌, ℕ, suc, ◌+◌, min, Bool, true, false, ◌&&◌, List, [], ◌∷◌, length, take, Some, None, Option, refl, ap, ◌∙◌, add-zero, add_assoc, one-add, arith, length-take}
use lib.ListN.{length-map}
use Rattle.std.specs.List.{enumerate_from, list_all}
use Rattle.std.specs.Option.{option_map, option_eq}
use Rattle.std.proofs.lemmas.Bool.{and_parts, and_right}
use Rattle.definitions.specs.declared.kinds.Kind.{Kind}
use Rattle.definitions.specs.declared.kinds.Kind.TheVariants.{Lifetime, «Type» as TypeKind, Const}
use Rattle.definitions.specs.Definitions.{Param, definition_at, kind_of, kinds_of, whole_rows}
use Rattle.definitions.specs.Terms.{same_kind}
use Rattle.generics.specs.declared.catalogue.Catalogue.{Catalogue}
use Rattle.generics.specs.Held.{held}
use Rattle.places.specs.declared.view.Generics.{Generics}
use Rattle.std.specs.List.{slice_get}
use Rattle.places.specs.Views.{among, meant}
use Rattle.lowerer.specs.declared.meaning.Meaning.{Meaning}
use Rattle.lowerer.specs.Meanings.{kinds_by, same_kinds}

-- lists of different lengths are not the same
pub kinds_differ : (js ks : List Kind) → (length js ≡ length ks → ⊥) → same_kinds js ks ≡ false
kinds_differ [] [] h = absurd (h refl)
kinds_differ [] (k ∷ ks) h = refl
kinds_differ (j ∷ js) [] h = refl
kinds_differ (j ∷ js) (k ∷ ks) h = and_right (same_kind j k) (same_kinds js ks) (kinds_differ js ks (λ e. h (ap suc e)))

-- entries that are not as many as the places before a row
pub unfilled : {A : Type 0} (m : A → Meaning) (xs : List A) (rows : List Param) (place : ℕ) → (length xs ≡ min place (length rows) → ⊥) → same_kinds (kinds_by m xs) (kinds_of (take place rows)) ≡ false
unfilled m xs rows place h =
    let made = length-map xs (λ x. (m x).kind) in
    let kind : Param → Kind = λ p. kind_of p.kind in
    let wanted = length-map (take place rows) kind in
    kinds_differ (kinds_by m xs) (kinds_of (take place rows)) (λ e. h (omega (arith, made, wanted, length-take place rows)))

-- equal kinds
pub same_self : (k : Kind) → same_kind k k ≡ true
same_self Lifetime = refl
same_self TypeKind = refl
same_self Const = refl

-- no difference means that the kinds are equal
kind_equal : (j k : Kind) → same_kind j k ≡ true → j ≡ k
kind_equal Lifetime Lifetime h = refl
kind_equal Lifetime TypeKind h = absurd (grind arith)
kind_equal Lifetime Const h = absurd (grind arith)
kind_equal TypeKind Lifetime h = absurd (grind arith)
kind_equal TypeKind TypeKind h = refl
kind_equal TypeKind Const h = absurd (grind arith)
kind_equal Const Lifetime h = absurd (grind arith)
kind_equal Const TypeKind h = absurd (grind arith)
kind_equal Const Const h = refl

pub kinds_equal : (js ks : List Kind) → same_kinds js ks ≡ true → js ≡ ks
kinds_equal [] [] h = refl
kinds_equal [] (k ∷ ks) h = absurd (grind arith)
kinds_equal (j ∷ js) [] h = absurd (grind arith)
kinds_equal (j ∷ js) (k ∷ ks) h =
    let p = and_parts (same_kind j k) (same_kinds js ks) h in
    let a = kind_equal j k p.0 in
    let b = kinds_equal js ks p.1 in
    cc

pub kinds_same : (ks : List Kind) → same_kinds ks ks ≡ true
kinds_same [] = refl
kinds_same (k ∷ ks) = rw (same_self k) (kinds_same ks)

-- the kinds of entries against those of the first rows, one by one
module _ {A : Type 0} (m : A → Meaning) (f : ℕ → Option Kind) where
  abbrev pub is_alike : ℕ × A → Bool
  is_alike e = option_eq same_kind (Some (m e.1).kind) (f e.0)

  pub all_alike : (n : ℕ) (xs : List A) (rows : List Param) → ((i : ℕ) → f (n + i) ≡ option_map (λ (p : Param). kind_of p.kind) (slice_get rows i)) → list_all is_alike (enumerate_from n xs) ≡ same_kinds (kinds_by m xs) (kinds_of (take (length xs) rows))
  all_alike n [] rows h = refl
  all_alike n (x ∷ xs) [] h =
      let e : f n ≡ None = rw add-zero at (h 0) in
      rw e refl
  all_alike n (x ∷ xs) (p ∷ rows) h =
      let e : f n ≡ Some (kind_of p.kind) = rw add-zero at (h 0) in
      rw e (ap (λ b. same_kind (m x).kind (kind_of p.kind) && b) (all_alike (n + 1) xs rows (λ i. rw (add_assoc n 1 i, one-add) (h (suc i)))))

-- the rows that a view of a definition shows
pub shown_rows : (g : Generics) (cat : Catalogue) (d : ℕ) → g.cat.now ≡ cat → g.def ≡ d → whole_rows (among g) (meant g) ≡ whole_rows (held cat) (definition_at (held cat) d)
shown_rows g cat d e f = ap (λ (x : Catalogue). whole_rows (held x) (definition_at (held x) g.def)) e ∙ ap (λ n. whole_rows (held cat) (definition_at (held cat) n)) f
