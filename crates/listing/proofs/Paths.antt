-- One byte of a path. Assumes nothing.
use Rattle.std.proofs.Common.{◌≡◌, ℕ, ◌+◌, ◌<◌, ◌≤◌, Bool, true, false, cond, ◌||◌, eqb, List, ◌∷◌, length, get_or, drop, Some, None, Option, sym, refl, ap, ◌∙◌, subst, arith}
use Rattle.std.proofs.lemmas.List.{at_drop_more}
use Rattle.std.specs.Char.{is_ascii_digit}
use Rattle.listing.specs.declared.scanning.Scan.{Scan}
use Rattle.listing.specs.declared.shapes.Place.{Place}
use Rattle.listing.specs.declared.shapes.Place.TheVariants.{First, Next, Name, Gap, Colon, Inside, Behind}
use Rattle.listing.specs.Blanks.{white}
use Rattle.listing.specs.Nesting.{after, closed, letter}
use Rattle.listing.specs.Tokens.{deep, inside, path_from, place_after}
use Rattle.listing.proofs.Scans.{shallow}

-- what a place behind a byte says of the rest
abbrev carried : List ℕ → Option Place → Bool
carried bs None = false
carried bs (Some q) = path_from q bs

carries : (p : Place) (b : ℕ) (bs : List ℕ) → path_from p (b ∷ bs) ≡ carried bs (place_after p b)
carries p b bs = same (place_after p b)
  where
    same : (o : Option Place) → elim o [ None ↦ false | Some q ↦ path_from q bs ] ≡ carried bs o
    same None = refl
    same (Some q) = refl

module _ (text : List ℕ) (p : Place) (i : ℕ) (so : path_from p (drop i text) ≡ path_from First text) where
  pub on : (q : Place) → i < length text → place_after p (get_or text i 0) ≡ Some q → path_from q (drop (i + 1) text) ≡ path_from First text
  on q h e =
      let step : path_from p (drop i text) ≡ path_from q (drop (i + 1) text) = at_drop_more (path_from p) text i 0 h ∙ carries p _ _ ∙ ap (carried (drop (i + 1) text)) e in
      sym step ∙ so

-- a place that is at most n deep
data Low (n : ℕ) : Option Place → Type 0 where
  none : Low n None
  some : {q : Place} → deep q ≤ n → Low n (Some q)

low_cond : (n : ℕ) (t : Bool) (x y : Option Place) → Low n x → Low n y → Low n (cond t x y)
low_cond n true x y h k = h
low_cond n false x y h k = k

low_behind : (n : ℕ) (t : Bool) (s : Scan) → s.depth ≤ n → Low n (Some (cond t Behind (Inside s)))
low_behind n true s h = some (omega arith)
low_behind n false s h = some h

low_inside : (s : Scan) (b : ℕ) (o : Option Scan) → after s b ≡ o → Low (s.depth + 1) (inside o)
low_inside s b None e = none
low_inside s b (Some t) e = low_behind _ (closed t) t (shallow s b t e)

low_gap : (b : ℕ) → Low 1 (place_after Gap b)
low_gap b = low_cond 1 (white b) _ _ (some (omega arith)) (low_cond 1 (eqb b 58) _ _ (some (omega arith)) (low_cond 1 (eqb b 60) _ _ (some (omega arith)) none))

low_after : (p : Place) (b : ℕ) → Low (deep p + 1) (place_after p b)
low_after First b = low_cond 1 (letter b) _ _ (some (omega arith)) none
low_after Next b = low_cond 1 (letter b) _ _ (some (omega arith)) (low_cond 1 (white b) _ _ (some (omega arith)) (low_cond 1 (eqb b 60) _ _ (some (omega arith)) none))
low_after Name b = low_cond 1 (letter b || is_ascii_digit b) _ _ (some (omega arith)) (low_gap b)
low_after Gap b = low_gap b
low_after Colon b = low_cond 1 (eqb b 58) _ _ (some (omega arith)) none
low_after (Inside s) b = low_inside s b (after s b) refl
low_after Behind b = low_cond 1 (white b) _ _ (some (omega arith)) (low_cond 1 (eqb b 58) _ _ (some (omega arith)) none)

low_at : {n : ℕ} {q : Place} → Low n (Some q) → deep q ≤ n
low_at (some h) = h

-- a byte goes at most one deeper
pub deeper : (p : Place) (b : ℕ) (q : Place) → place_after p b ≡ Some q → deep q ≤ deep p + 1
deeper p b q e = low_at (subst (Low (deep p + 1)) e (low_after p b))
