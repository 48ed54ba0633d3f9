-- What one turn of `cut` keeps. Assumes nothing.
use Rattle.std.proofs.Common.{◌≡◌, ℕ, ◌+◌, ◌-◌, ◌<◌, ◌≤◌, true, false, List, [], ◌∷◌, ◌++◌, map, length, get_or, take, drop, Some, None, sym, ap, ◌∙◌, subst, append_assoc, append-nil, arith}
use Rattle.std.proofs.lemmas.List.{at_drop_more, at_drop_all, map_push, take_more, get_or-drop, length-drop, length-map}
use Rattle.listing.specs.declared.scanning.Scan.{Scan}
use Rattle.spans.specs.declared.Span.{Span}
use Rattle.listing.specs.Nesting.{after, closed, start}
use Rattle.spans.specs.Parts.{part}
use Rattle.listing.specs.Pieces.{splits, Cut, fault, separators, Adjacent}
use Rattle.listing.proofs.Cuts.{Cutting, all_of, with_byte, pieces, good, good_cut}

-- the bytes of the piece that is being read
abbrev pub begun : List ℕ → ℕ → ℕ → List ℕ
begun text from i = take (i - from) (drop from text)

abbrev pub extended : List ℕ → Cutting → List (List ℕ)
extended xs w = (xs ++ w.0) ∷ w.1

-- one more span
adjacent_push : (n : ℕ) (ss : List Span) (from i : ℕ) → from ≤ i → Adjacent n ss from → Adjacent n (ss ++ record { from = from; len = i - from } ∷ []) (i + 1)
adjacent_push n [] from i h e = (sym e, omega arith)
adjacent_push n (s ∷ ss) from i h a = (a.0, adjacent_push (n + s.len + 1) ss from i h a.1)

-- the spans are the pieces so far, and what is left gives the others
pub record Sofar (sep : ℕ) (text : List ℕ) (spans : List Span) (from : ℕ) (scan : Scan) (i : ℕ) : Type 0 where
  pub shallow : scan.depth ≤ i
  pub ordered : from ≤ i
  pub places : Adjacent 0 spans from
  pub faulty : fault sep scan i (drop i text) ≡ fault sep start 0 text
  pub given : map (part text) spans ++ extended (begun text from i) (pieces sep scan (drop i text)) ≡ all_of (pieces sep start text)

-- the same under other names
pub renamed : (sep : ℕ) (text : List ℕ) (spans spans' : List Span) (from from' : ℕ) (scan scan' : Scan) (i : ℕ) → spans' ≡ spans → from' ≡ from → scan' ≡ scan → Sofar sep text spans from scan i → Sofar sep text spans' from' scan' i
renamed sep text spans spans' from from' scan scan' i p q r so = rw (p, q, r) so

-- what is known at the end of the text
abbrev pub Finished : ℕ → List ℕ → List Span → ℕ → Type 0
Finished sep text spans n = (fault sep start 0 text ≡ None) × Cut sep (map (part text) spans) text × (length spans ≡ separators sep start text + 1) × Adjacent 0 spans (n + 1)

module _ (sep : ℕ) (text : List ℕ) (spans : List Span) (from : ℕ) (scan : Scan) (i : ℕ) (so : Sofar sep text spans from scan i) where
  module _ (inside : i < length text) where
    -- what the definitions make of the byte at i
    fault_here : fault sep scan (i) (drop i text) ≡ fault sep scan i (get_or text i 0 ∷ drop (i + 1) text)
    fault_here = at_drop_more (fault sep scan i) text i 0 inside

    pieces_here : pieces sep scan (drop i text) ≡ pieces sep scan (get_or text i 0 ∷ drop (i + 1) text)
    pieces_here = at_drop_more (pieces sep scan) text i 0 inside

    pub split : splits sep scan (get_or text i 0) ≡ true → Sofar sep text (spans ++ record { from = from; len = i - from } ∷ []) (i + 1) start (i + 1)
    split e =
        let rest : pieces sep scan (drop i text) ≡ ([], all_of (pieces sep start (drop (i + 1) text))) = pieces_here ∙ rw e in
        let left : fault sep scan i (drop i text) ≡ fault sep start (i + 1) (drop (i + 1) text) = fault_here ∙ rw e in
        let old : map (part text) spans ++ extended (begun text from i) ([], all_of (pieces sep start (drop (i + 1) text))) ≡ all_of (pieces sep start text) = ap (λ w. map (part text) spans ++ extended (begun text from i) w) (sym rest) ∙ so.given in
        let empty : i + 1 - (i + 1) ≡ 0 = omega arith in
        record {
          shallow = omega arith;
          ordered = omega arith;
          places = adjacent_push 0 spans from i so.ordered so.places;
          faulty = sym left ∙ so.faulty;
          given = rw (empty, map_push (part text) spans _, append_assoc) (rw append-nil at old);
        }

    -- one more byte of the piece
    longer : begun text from (i + 1) ≡ begun text from i ++ get_or text i 0 ∷ []
    longer =
        let o = so.ordered in
        let far : i + 1 - from ≡ i - from + 1 = omega arith in
        let back : from + (i - from) ≡ i = omega arith in
        let within : i - from < length (drop from text) = omega (arith, length-drop from text) in
        ap (λ n. take n (drop from text)) far ∙ take_more (drop from text) (i - from) 0 within ∙ ap (λ b. begun text from i ++ b ∷ []) (get_or-drop from text (i - from) 0 ∙ ap (λ n. get_or text n 0) back)

    pub goes_on : (t : Scan) → splits sep scan (get_or text i 0) ≡ false → after scan (get_or text i 0) ≡ Some t → t.depth ≤ i + 1 → Sofar sep text spans from t (i + 1)
    goes_on t e f low =
        let rest : pieces sep scan (drop i text) ≡ with_byte (get_or text i 0) (pieces sep t (drop (i + 1) text)) = pieces_here ∙ rw (e, f) in
        let left : fault sep scan i (drop i text) ≡ fault sep t (i + 1) (drop (i + 1) text) = fault_here ∙ rw (e, f) in
        let old : map (part text) spans ++ extended (begun text from i) (with_byte (get_or text i 0) (pieces sep t (drop (i + 1) text))) ≡ all_of (pieces sep start text) = ap (λ w. map (part text) spans ++ extended (begun text from i) w) (sym rest) ∙ so.given in
        let o = so.ordered in
        record {
          shallow = low;
          ordered = omega arith;
          places = so.places;
          faulty = sym left ∙ so.faulty;
          given = rw (longer, append_assoc (begun text from i)) old;
        }

  module _ (over : length text ≤ i) where
    -- the spans with the last one are the pieces
    complete : map (part text) (spans ++ record { from = from; len = i - from } ∷ []) ≡ all_of (pieces sep start text)
    complete =
        let rest : pieces sep scan (drop i text) ≡ ([], []) = at_drop_all (pieces sep scan) text i over in
        let old : map (part text) spans ++ extended (begun text from i) ([], []) ≡ all_of (pieces sep start text) = ap (λ w. map (part text) spans ++ extended (begun text from i) w) (sym rest) ∙ so.given in
        map_push (part text) spans _ ∙ rw append-nil at old

    pub finished : closed scan ≡ true → Finished sep text (spans ++ record { from = from; len = i - from } ∷ []) i
    finished e =
        let none : fault sep start 0 text ≡ None = sym so.faulty ∙ at_drop_all (fault sep scan i) text i over ∙ rw e in
        (none, subst (λ ps. Cut sep ps text) (sym complete) (good_cut sep text none), sym (length-map _ (part text)) ∙ ap length complete ∙ (good sep start 0 text none).number, adjacent_push 0 spans from i so.ordered so.places)

pub finished_at : (sep : ℕ) (text : List ℕ) (spans spans' : List Span) (from i n : ℕ) → i ≡ n → spans' ≡ spans ++ record { from = from; len = n - from } ∷ [] → Finished sep text (spans ++ record { from = from; len = i - from } ∷ []) i → Finished sep text spans' n
finished_at sep text spans spans' from i n e p h = rw p (rw e at h)
