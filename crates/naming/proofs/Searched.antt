-- What `find_map` finds over a chain whose list is known. Assumes nothing.
use Rattle.std.proofs.Common.{◌≡◌, ℕ, zero, suc, ◌+◌, ◌<◌, List, [], ◌∷◌, map, length, take, Option, Some, None, IsTrue, slice_get, IfSome, IsSomeAnd, MatchOption, refl, ap, subst, ◌∙◌, arith}
use Rattle.std.specs.Fn.{Called}
use Rattle.std.specs.Iterator.{Yields, DrainsIf}
use Rattle.std.specs.Iterator.Runs.{SomeRun, YieldsRun, AllItemsGive, IsFirstToGive}
use Rattle.std.specs.Option.{option_or}
use Rattle.std.proofs.lemmas.Iterator.{YieldsList, items_from_drains}
use Rattle.std.proofs.lemmas.Option.{IfSome_then}
use Rattle.std.proofs.lemmas.Iterator.Consumers.{YieldsList-so_far}

-- the first answer, if there is one
abbrev pub first_some : {B R : Type 0} → (B → Option R) → List B → Option R
first_some h [] = None
first_some h (x ∷ xs) = option_or (h x) (first_some h xs)

is_some : {T : Type 0} (P Q : T → Type 0) (o : Option T) → ((x : T) → P x → Q x) → IsSomeAnd o P → IsSomeAnd o Q
is_some P Q None f h = h
is_some P Q (Some x) f h = f x h

module _ {A B R : Type 0} (v : A → B) (h : B → Option R) where
  none_gives : (xs : List A) → ((k : ℕ) → IfSome (slice_get xs k) (λ x. None ≡ h (v x))) → None ≡ first_some h (map v xs)
  none_gives [] k = refl
  none_gives (x ∷ xs) k = none_gives xs (λ i. k (suc i)) ∙ ap (λ o. option_or o (first_some h (map v xs))) (k 0)

  some_gives : (y : R) (xs : List A) (all : List B) (i : ℕ) → map v xs ≡ take (length xs) all
      → IsSomeAnd (slice_get xs i) (λ x. Some y ≡ h (v x)) → ((k : ℕ) → k < i → IsSomeAnd (slice_get xs k) (λ x. None ≡ h (v x))) → Some y ≡ first_some h all
  some_gives y [] all i e here before = absurd here
  some_gives y (x ∷ xs) [] i e here before = absurd (cc)
  some_gives y (x ∷ xs) (z ∷ all) zero e here before =
      let same : v x ≡ z = cc in
      ap (λ o. option_or o (first_some h all)) here ∙ ap (λ w. option_or (h w) (first_some h all)) same
  some_gives y (x ∷ xs) (z ∷ all) (suc i) e here before =
      let same : v x ≡ z = cc in
      let rest : map v xs ≡ take (length xs) all = cc in
      some_gives y xs all i rest here (λ k b. before (suc k) (omega arith)) ∙ ap (λ o. option_or o (first_some h all)) (before 0 (omega arith))
      ∙ ap (λ w. option_or (h w) (first_some h all)) same

module _ {S A B R F : Type 0} {steps : S → Option A → S → Type 0} {v : A → B} {g : _} {s : S} {all : List B} (h : B → Option R) (f : F) where
  pub first_some_from_find_map : (r : Option R)
      → SomeRun steps s (λ p. MatchOption r (IsTrue p.whole × AllItemsGive p g f None) (λ y. (i : ℕ) × (i < p.len) × (p.len ≡ i + 1) × IsFirstToGive p g f (Some y) None i))
      → YieldsList steps v s all
      → ((x : A) (b : Option R) (q : F) → Called g f (x, tt) b q → (q ≡ f) × (b ≡ h (v x)))
      → r ≡ first_some h all
  unfolding YieldsRun
  first_some_from_find_map None d e gives =
      let p = d.0 in
      let ran : DrainsIf steps (Unit {0}) s p.items = subst (λ t. DrainsIf steps (Unit {0}) t p.items) d.1 (p.gave.0.0, p.gave.0.1, λ _. p.gave.0.2 d.2.0) in
      let told = d.2.1 (λ a b q k. (gives a.0 b q k).0) in
      none_gives v h p.items (λ k. IfSome_then (slice_get p.items k) (subst (λ o. IfSome o (λ x. Called g f (x, tt) None f)) (p.gave.1 k) (told k)) (λ x q. (gives x None f q).1))
      ∙ ap (first_some h) (items_from_drains p.items ran e)
  first_some_from_find_map (Some y) d e gives =
      let p = d.0 in
      let ran : Yields steps s p.items p.gave.0.0 = subst (λ t. Yields steps t p.items p.gave.0.0) d.1 p.gave.0.1 in
      let told = d.2.3 (λ a b q k. (gives a.0 b q k).0) in
      some_gives v h y p.items all d.2.0 (YieldsList-so_far e p.items p.gave.0.0 ran)
      (is_some (λ x. Called g f (x, tt) (Some y) f) _ _ (λ x q. (gives x (Some y) f q).1) (subst (λ o. IsSomeAnd o (λ x. Called g f (x, tt) (Some y) f)) (p.gave.1 d.2.0) told.0))
      (λ k b. is_some (λ x. Called g f (x, tt) None f) _ _ (λ x q. (gives x None f q).1) (subst (λ o. IsSomeAnd o (λ x. Called g f (x, tt) None f)) (p.gave.1 k) (told.1 k b)))
