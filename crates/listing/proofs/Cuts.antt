-- The pieces of a text, and that they are its only cut. Assumes nothing.
use Rattle.std.proofs.Common.{◌≡◌, ℕ, ◌+◌, Bool, true, false, cond, List, [], ◌∷◌, ◌++◌, length, Some, None, Option, sym, refl, ap, ◌∙◌, append-nil, arith}
use Rattle.std.specs.List.{AllByRecursion}
use Rattle.std.proofs.lemmas.Bool.{and_parts, and_from, eqb-true, eq-eqb}
use Rattle.listing.specs.declared.scanning.Scan.{Scan}
use Rattle.listing.specs.declared.faults.Fault.{Fault}
use Rattle.listing.specs.declared.faults.Reason.TheVariants.{Unopened, Unclosed}
use Rattle.listing.specs.Nesting.{after, closed, start}
use Rattle.listing.specs.Pieces.{splits, single, joined_by, Cut, fault, separators}

-- the first piece and the others
abbrev pub Cutting : Type 0
Cutting = List ℕ × List (List ℕ)

abbrev pub all_of : Cutting → List (List ℕ)
all_of w = w.0 ∷ w.1

abbrev pub with_byte : ℕ → Cutting → Cutting
with_byte b w = (b ∷ w.0, w.1)

-- the pieces of what is left, up to a fault
abbrev pub pieces : ℕ → Scan → List ℕ → Cutting
pieces sep s [] = ([], [])
pieces sep s (b ∷ bs) = cond (splits sep s b) ([], all_of (pieces sep start bs)) (elim (after s b) [ None ↦ ([], []) | Some t ↦ with_byte b (pieces sep t bs) ])

-- the first piece is one from the scan on, each other from the start on
abbrev pub Singles : ℕ → Scan → Cutting → Type 0
Singles sep s w = (single sep s w.0 ≡ true) × AllByRecursion (λ p. single sep start p ≡ true) w.1

-- what a text without fault gives
pub record Good (sep : ℕ) (s : Scan) (text : List ℕ) : Type 0 where
  pub whole : joined_by sep (all_of (pieces sep s text)) ≡ text
  pub each : Singles sep s (pieces sep s text)
  pub number : length (all_of (pieces sep s text)) ≡ separators sep s text + 1

never : {P : Type 0} {u : Fault} → Some u ≡ None → P
never e = absurd (grind arith)

good_end : (sep : ℕ) (s : Scan) (i : ℕ) (q : Bool) → closed s ≡ q → cond {A = Option Fault} q None (Some (record { at = i; reason = Unclosed })) ≡ None → Good sep s []
good_end sep s i true e h = record { whole = refl; each = (e, tt); number = refl }
good_end sep s i false e h = never h

good_more : (sep : ℕ) (s : Scan) (i b : ℕ) (bs : List ℕ) (q : Bool) (o : Option Scan) → splits sep s b ≡ q → after s b ≡ o → ((t : Scan) → fault sep t (i + 1) bs ≡ None → Good sep t bs) → cond q (fault sep start (i + 1) bs) (elim o [ None ↦ Some (record { at = i; reason = Unopened }) | Some t ↦ fault sep t (i + 1) bs ]) ≡ None → Good sep s (b ∷ bs)
good_more sep s i b bs true o e f rest h =
    let g = rest start h in
    let p = and_parts _ _ e in
    let same = eqb-true b sep p.0 in
    record {
      whole = rw e (ap (λ l. sep ∷ l) g.whole ∙ ap (λ n. n ∷ bs) (sym same));
      each = rw e (p.1, g.each);
      number = rw e (omega (arith, g.number));
    }
good_more sep s i b bs false None e f rest h = never h
good_more sep s i b bs false (Some t) e f rest h =
    let g = rest t h in
    record {
      whole = rw (e, f) (ap (λ l. b ∷ l) g.whole);
      each = rw (e, f) (rw (e, f) g.each.0, g.each.1);
      number = rw (e, f) g.number;
    }

pub good : (sep : ℕ) (s : Scan) (i : ℕ) (text : List ℕ) → fault sep s i text ≡ None → Good sep s text
good sep s i [] h = good_end sep s i (closed s) refl h
good sep s i (b ∷ bs) h = good_more sep s i b bs (splits sep s b) (after s b) refl refl (λ t. good sep t (i + 1) bs) h

pub good_cut : (sep : ℕ) (text : List ℕ) → fault sep start 0 text ≡ None → Cut sep (all_of (pieces sep start text)) text
good_cut sep text h =
    let g = good sep start 0 text h in
    record { some = omega arith; whole = g.whole; each = g.each }

-- a piece is read to its end
pub record Read (sep : ℕ) (s : Scan) (p rest : List ℕ) : Type 0 where
  pub last : Scan
  pub ends : closed last ≡ true
  pub gives : pieces sep s (p ++ rest) ≡ (p ++ (pieces sep last rest).0, (pieces sep last rest).1)
  pub faults : (i : ℕ) → fault sep s i (p ++ rest) ≡ fault sep last (i + length p) rest

read_more : (sep : ℕ) (s : Scan) (b : ℕ) (p rest : List ℕ) (q : Bool) (o : Option Scan) → splits sep s b ≡ q → after s b ≡ o → ((t : Scan) → single sep t p ≡ true → Read sep t p rest) → cond q false (elim o [ None ↦ false | Some t ↦ single sep t p ]) ≡ true → Read sep s (b ∷ p) rest
read_more sep s b p rest true o e f more h = absurd (grind arith)
read_more sep s b p rest false None e f more h = absurd (grind arith)
read_more sep s b p rest false (Some t) e f more h =
    let r = more t h in
    record {
      last = r.last;
      ends = r.ends;
      gives = rw (e, f) (ap (with_byte b) r.gives);
      faults = λ i. let far : i + 1 + length p ≡ i + length (b ∷ p) = omega arith in rw (e, f) (r.faults (i + 1) ∙ ap (λ n. fault sep r.last n rest) far);
    }

read : (sep : ℕ) (s : Scan) (p rest : List ℕ) → single sep s p ≡ true → Read sep s p rest
read sep s [] rest h = record { last = s; ends = h; gives = refl; faults = λ i. let far : i ≡ i + length {A = ℕ} [] = omega arith in ap (λ n. fault sep s n rest) far }
read sep s (b ∷ p) rest h = read_more sep s b p rest (splits sep s b) (after s b) refl refl (λ t. read sep t p rest) h

-- pieces joined again are cut into the same pieces, without a fault
pub record Only (sep : ℕ) (s : Scan) (p : List ℕ) (ps : List (List ℕ)) : Type 0 where
  pub gives : pieces sep s (joined_by sep (p ∷ ps)) ≡ (p, ps)
  pub faults : (i : ℕ) → fault sep s i (joined_by sep (p ∷ ps)) ≡ None

pub only : (sep : ℕ) (s : Scan) (p : List ℕ) (ps : List (List ℕ)) → Singles sep s (p, ps) → Only sep s p ps
only sep s p [] h =
    let r = read sep s p [] h.0 in
    let e = r.ends in
    record {
      gives = r.gives ∙ ap (λ l. (l, [])) (append-nil p);
      faults = λ i. r.faults i ∙ rw e;
    }
only sep s p (q ∷ qs) h =
    let r = read sep s p (sep ∷ joined_by sep (q ∷ qs)) h.0 in
    let o = only sep start q qs h.1 in
    let e : splits sep r.last sep ≡ true = and_from _ _ (eq-eqb sep sep refl) r.ends in
    record {
      gives = r.gives ∙ rw (e, o.gives) (ap (λ l. (l, q ∷ qs)) (append-nil p));
      faults = λ i. r.faults i ∙ rw e (o.faults _);
    }

-- a text is cut in one way
pub same_cut : (sep : ℕ) (ps : List (List ℕ)) (text : List ℕ) → Cut sep ps text → (all_of (pieces sep start text) ≡ ps) × (fault sep start 0 text ≡ None)
same_cut sep [] text c = absurd (omega (arith, c.some))
same_cut sep (p ∷ ps) text c =
    let o = only sep start p ps c.each in
    (ap (λ t. all_of (pieces sep start t)) (sym c.whole) ∙ ap all_of o.gives, ap (λ t. fault sep start 0 t) (sym c.whole) ∙ o.faults 0)
