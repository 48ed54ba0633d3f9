-- The written arguments of a list. Assumes nothing.
use Rattle.std.proofs.Common.{◌≡◌, ℕ, ◌+◌, ◌<◌, Bool, true, false, cond, ◌⊎◌, List, [], ◌∷◌, ◌++◌, map, length, MutBor, Some, None, Option, Err, sym, refl, ap, ◌∙◌, subst, inl, inr, arith}
use denote.Param.Members.{Once}
use Rattle.std.specs.Prelude.{find}
use Rattle.std.specs.Fn.{FnOnceReturnsAtMut}
use Rattle.std.specs.List.{AllByRecursion}
use Rattle.std.specs.List.Retain.{PopsIf}
use Rattle.std.specs.Option.{option_map}
use Rattle.std.proofs.lemmas.Bool.{both_ways}
use Rattle.std.proofs.lemmas.List.{map_push, same_from_push}
use Rattle.listing.specs.declared.faults.Fault.{Fault}
use Rattle.listing.specs.declared.faults.ReadError.{ReadError}
use Rattle.listing.specs.declared.faults.ReadError.TheVariants.{Unreadable, NoMemory}
use Rattle.spans.specs.declared.Span.{Span}
use Rattle.listing.specs.Answered.{Reads}
use Rattle.listing.specs.Arguments.{Written, first_blank, Listed}
use Rattle.listing.specs.Blanks.{blank}
use Rattle.listing.specs.Nesting.{start}
use Rattle.spans.specs.Parts.{part}
use Rattle.listing.specs.Pieces.{Adjacent, Cut, fault}
use Rattle.listing.proofs.Cuts.{same_cut}

-- the pieces, none of them blank
abbrev pub Filled : List (List ℕ) → Type 0
Filled ps = AllByRecursion (λ p. blank p ≡ false) ps

absurd_some : {P : Type 0} {n : ℕ} → Some n ≡ None → P
absurd_some e = absurd (grind arith)

module _ (text : List ℕ) where
  filled_one : (s : Span) (ss : List Span) (q : Bool) → blank (part text s) ≡ q → (first_blank text ss ≡ None → Filled (map (part text) ss)) → option_map (λ t. t.from) (cond q (Some s) (find (λ t. blank (part text t)) ss)) ≡ None → Filled (map (part text) (s ∷ ss))
  filled_one s ss true b more e = absurd_some e
  filled_one s ss false b more e = (b, more e)

  filled : (ss : List Span) → first_blank text ss ≡ None → Filled (map (part text) ss)
  filled [] e = tt
  filled (s ∷ ss) e = filled_one s ss (blank (part text s)) refl (filled ss) e

  not_filled : (ss : List Span) (at : ℕ) → first_blank text ss ≡ Some at → Filled (map (part text) ss) → ⊥
  not_filled [] at e f = absurd_some (sym e)
  not_filled (s ∷ ss) at e f = let b = f.0 in not_filled ss at (rw b at e) f.1

  front_one : (t : Span) (ss : List Span) (s : Span) (at : ℕ) (q : Bool) → blank (part text t) ≡ q → (first_blank text ss ≡ Some at → first_blank text (ss ++ s ∷ []) ≡ Some at) → option_map (λ u. u.from) (cond q (Some t) (find (λ u. blank (part text u)) ss)) ≡ Some at → first_blank text ((t ∷ ss) ++ s ∷ []) ≡ Some at
  front_one t ss s at true b more e = rw b e
  front_one t ss s at false b more e = rw b (more e)

  first_front : (ss : List Span) (s : Span) (at : ℕ) → first_blank text ss ≡ Some at → first_blank text (ss ++ s ∷ []) ≡ Some at
  first_front [] s at e = absurd_some (sym e)
  first_front (t ∷ ss) s at e = front_one t ss s at (blank (part text t)) refl (first_front ss s at) e

  adjacent_front : (n : ℕ) (ss : List Span) (s : Span) (e : ℕ) → Adjacent n (ss ++ s ∷ []) e → Adjacent n ss s.from
  adjacent_front n [] s e a = sym a.0
  adjacent_front n (t ∷ ss) s e a = (a.0, adjacent_front (n + t.len + 1) ss s e a.1)

  last_filled : (ps : List (List ℕ)) (p : List ℕ) → Filled (ps ++ p ∷ []) → blank p ≡ false
  last_filled [] p f = f.0
  last_filled (q ∷ ps) p f = last_filled ps p f.1

  -- what is kept of the spans of a cut: all but a blank last one
  pub record Kept (all kept : List Span) : Type 0 where
    pub front : List Span
    pub last : Span
    pub is : all ≡ front ++ last ∷ []
    pub which : ((blank (part text last) ≡ false) × (kept ≡ all)) ⊎ ((blank (part text last) ≡ true) × (kept ≡ front))

  -- what `pop_if` leaves of some spans, where it asks whether the last one is blank
  pub popped : {F : Type 0} (g : Once F (MutBor Span × Unit {0}) (Bool × (MutBor Span × Unit {0}))) (f : F) (r : Option Span) (all kept : List Span) → 0 < length all → ((x : Span) (b : Bool) (y : Span) → FnOnceReturnsAtMut g f x b y → (b ≡ blank (part text x)) × (y ≡ x)) → PopsIf g all kept f r → Kept all kept
  popped g f r all kept some asks (inl p) = absurd (omega (arith, ap length p.0))
  popped g f r all kept some asks (inr p) =
      let told = asks p.1 p.2 p.3 p.5 in
      record { front = p.0; last = p.1; is = p.4; which = left p.2 (sym told.0) p.7 }
    where
      left : (b : Bool) → blank (part text p.1) ≡ b → kept ≡ cond b p.0 (p.0 ++ p.3 ∷ []) → ((blank (part text p.1) ≡ false) × (kept ≡ all)) ⊎ ((blank (part text p.1) ≡ true) × (kept ≡ p.0))
      left true e k = inr (e, k)
      left false e k = inl (e, k ∙ ap (λ z. p.0 ++ z ∷ []) (asks p.1 p.2 p.3 p.5).1 ∙ sym p.4)

  module _ (all kept : List Span) (cut : Cut 44 (map (part text) all) text) (k : Kept all kept) where
    pub written : first_blank text kept ≡ None → Written (map (part text) kept) text
    written e =
        elim k.which [
          | inl h ↦ record { each = filled kept e; pieces = inl (let q = h.1 in rw q cut) }
          | inr h ↦ record { each = filled kept e; pieces = inr (part text k.last, h.0, subst (λ ps. Cut 44 ps text) (ap (map (part text)) k.is ∙ map_push (part text) k.front k.last ∙ ap (λ l. map (part text) l ++ part text k.last ∷ []) (sym h.1)) cut) }
        ]

    -- any written arguments are the pieces, with or without the last
    same_pieces : (ps : List (List ℕ)) → Cut 44 ps text → ps ≡ map (part text) k.front ++ part text k.last ∷ []
    same_pieces ps c = sym (same_cut 44 ps text c).0 ∙ (same_cut 44 _ text cut).0 ∙ ap (map (part text)) k.is ∙ map_push (part text) k.front k.last

    pub never : (at : ℕ) → first_blank text kept ≡ Some at → (ps : List (List ℕ)) → Written ps text → ⊥
    never at e ps w =
        elim k.which [
          | inl h ↦ elim w.pieces [
            | inl c ↦ not_filled kept at e (subst Filled (same_pieces ps c ∙ sym (map_push (part text) k.front k.last) ∙ ap (map (part text)) (sym k.is ∙ sym h.1)) w.each)
            | inr c ↦ both_ways _ h.0 (ap blank (sym (same_from_push _ _ _ _ (same_pieces _ c.2)).1) ∙ c.1)
          ]
          | inr h ↦ elim w.pieces [
            | inl c ↦ both_ways _ (last_filled _ _ (subst Filled (same_pieces ps c) w.each)) h.0
            | inr c ↦ not_filled kept at e (subst Filled ((same_from_push _ _ _ _ (same_pieces _ c.2)).0 ∙ ap (map (part text)) (sym h.1)) w.each)
          ]
        ]

    pub blank_in_all : (at : ℕ) → first_blank text kept ≡ Some at → first_blank text all ≡ Some at
    blank_in_all at e =
        elim k.which [
          | inl h ↦ ap (first_blank text) (sym h.1) ∙ e
          | inr h ↦ ap (first_blank text) k.is ∙ first_front k.front k.last at (ap (first_blank text) (sym h.1) ∙ e)
        ]

    pub adjacent : (e : ℕ) → Adjacent 0 all e → (n : ℕ) × Adjacent 0 kept n
    adjacent e a =
        elim k.which [
          | inl h ↦ (e, subst (λ l. Adjacent 0 l e) (sym h.1) a)
          | inr h ↦ (k.last.from, subst (λ l. Adjacent 0 l k.last.from) (sym h.1) (adjacent_front 0 k.front k.last e (subst (λ l. Adjacent 0 l e) k.is a)))
        ]

  -- a text that cannot be cut holds no arguments
  no_cut : (u : Fault) (ps : List (List ℕ)) → fault 44 start 0 text ≡ Some u → Cut 44 ps text → ⊥
  no_cut u ps e c = let n = (same_cut 44 ps text c).1 in grind arith

  pub broken : {A : Type 0} (items : A → List Span) (P : A → Type 0) (e : ReadError) → Reads (Err e) (fault 44 start 0 text) P → Listed items text (Err e)
  broken items P (Unreadable u) h =
      (λ ps w. elim w.pieces [ inl c ↦ no_cut u _ h c | inr c ↦ no_cut u _ h c.2 ], inl h)
  broken items P NoMemory h = tt
