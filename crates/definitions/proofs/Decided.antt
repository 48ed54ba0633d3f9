-- The tests on a declaration decide the relations. Assumes nothing.
use Rattle.std.proofs.Common.{◌≡◌, ℕ, zero, suc, ◌+◌, ◌<◌, ◌≤◌, Bool, true, false, cond, not, ◌&&◌, ◌||◌, eqb, ltb, leb, ◌⊎◌, List, [], ◌∷◌, ◌++◌, length, get_or, take, is_some, Some, None, Decides, Option, sym, refl, ap, ◌∙◌, subst, inl, inr, append_assoc, append-nil, arith}
use Rattle.std.proofs.lemmas.List.{get_or_past}
use Rattle.std.proofs.lemmas.Bool.{and_parts, and_from, ltb-true, lt-ltb, leb-true, le-leb, eqb-true, eq-eqb, ne_eqb, cases_lt, cases_eq, cases_Bool, or_cases, or_left, or_right, both_ways, not-true, not_from_false}
use Rattle.definitions.specs.declared.kinds.GenericDefKind.{GenericDefKind}
use Rattle.definitions.specs.declared.kinds.GenericDefKind.TheVariants.{Function, Adt, TypeAlias, Const as ConstDef, Trait, Impl}
use Rattle.definitions.specs.declared.kinds.RowKind.{RowKind}
use Rattle.definitions.specs.declared.kinds.RowKind.TheVariants.{TraitSelf, Lifetime as LifetimeRow, «Type» as TypeRow, Const as ConstRow, ImplTrait}
use Rattle.definitions.specs.declared.kinds.Kind.{Kind}
use Rattle.definitions.specs.declared.kinds.Kind.TheVariants.{«Type» as TypeKind}
use Rattle.definitions.specs.declared.kinds.Mark.{Mark}
use Rattle.definitions.specs.Definitions.{Param, Definition, nothing, kind_of, kinds_of, row_kinds_of, definition_at, parent_rows, whole_rows, marks_in, default_marks, row_total, mark_total}
use Rattle.definitions.specs.Rules.{may_have_parent, may_be_parent, rank, in_order, one_if, tally, ranked, selves_of, is_function, is_named, is_alias, parent_right, rows_right, default_right, defaults_right, default_reads, defaults_read, body_reads, terms_right, follows, has_room}
use Rattle.definitions.specs.Terms.{is_term, reads}
use Rattle.definitions.specs.Follows.{no_param, row_at, ParentFollows, RowsFollow, DefaultsFollow, OneTerm, TermsFollow, Fits, Rightful, TestsDecide}
use Rattle.definitions.proofs.Scans.{is_term_lem, term_is}

no : {P : Type 0} → true ≡ false → P
no e = absurd (grind arith)

-- parents

declared : (ds : List Definition) (p : ℕ) → may_be_parent (definition_at ds p).kind ≡ true → p < length ds
declared ds p h = elim (cases_lt p (length ds)) [
  | inl q ↦ q
  | inr q ↦ no (sym h ∙ ap (λ (d : Definition). may_be_parent d.kind) (get_or_past ds p nothing q))
]

parents_decide : (ds : List Definition) (k : GenericDefKind) (parent : Option ℕ) → Decides (parent_right ds k parent) (ParentFollows ds k parent)
parents_decide ds k None = (λ _. λ p e. absurd (grind arith), λ _. refl)
parents_decide ds k (Some q) = (there, back)
  where
    there : parent_right ds k (Some q) ≡ true → ParentFollows ds k (Some q)
    there h p e =
        let same : q ≡ p = cc in
        let parts = and_parts (may_have_parent k) (may_be_parent (definition_at ds q).kind) h in
        (parts.0, subst (λ n. n < length ds) same (declared ds q parts.1), subst (λ n. may_be_parent (definition_at ds n).kind ≡ true) same parts.1)

    back : ParentFollows ds k (Some q) → parent_right ds k (Some q) ≡ true
    back f = let g = f q refl in and_from (may_have_parent k) (may_be_parent (definition_at ds q).kind) g.0 g.2

-- the order of rows

abbrev Ordered : ℕ → List Param → Type 0
Ordered low rows = ((i : ℕ) → i < length rows → low ≤ rank (row_at rows i).kind) × ((i j : ℕ) → i < j → j < length rows → rank (row_at rows i).kind ≤ rank (row_at rows j).kind)

ordered : (low : ℕ) (rows : List Param) → in_order low rows ≡ true → Ordered low rows
ordered low [] h = (λ i q. absurd (omega arith), λ i j q r. absurd (omega arith))
ordered low (p ∷ ps) h =
    let parts = and_parts (leb low (rank p.kind)) (in_order (rank p.kind) ps) h in
    let l = leb-true low (rank p.kind) parts.0 in
    let rest = ordered (rank p.kind) ps parts.1 in
    (each l rest, pairs rest)
  where
    each : low ≤ rank p.kind → Ordered (rank p.kind) ps → (i : ℕ) → i < length (p ∷ ps) → low ≤ rank (row_at (p ∷ ps) i).kind
    each l rest zero q = l
    each l rest (suc i) q = omega (arith, rest.0 i (omega arith))

    pairs : Ordered (rank p.kind) ps → (i j : ℕ) → i < j → j < length (p ∷ ps) → rank (row_at (p ∷ ps) i).kind ≤ rank (row_at (p ∷ ps) j).kind
    pairs rest i zero q r = absurd (omega arith)
    pairs rest zero (suc j) q r = rest.0 j (omega arith)
    pairs rest (suc i) (suc j) q r = rest.1 i j (omega arith) (omega arith)

in_order_lem : (low : ℕ) (rows : List Param) → ((i : ℕ) → i < length rows → low ≤ rank (row_at rows i).kind) → ((i j : ℕ) → i < j → j < length rows → rank (row_at rows i).kind ≤ rank (row_at rows j).kind) → in_order low rows ≡ true
in_order_lem low [] each pairs = refl
in_order_lem low (p ∷ ps) each pairs = and_from (leb low (rank p.kind)) (in_order (rank p.kind) ps) (le-leb low (rank p.kind) (each 0 (omega arith))) (in_order_lem (rank p.kind) ps (λ i q. pairs 0 (suc i) (omega arith) (omega arith)) (λ i j q r. pairs (suc i) (suc j) (omega arith) (omega arith)))

-- rows counted: none passes the test, or the first alone

none_pass : {X : Type 0} (test : X → Bool) (xs : List X) (d : X) → tally test xs ≡ 0 → (i : ℕ) → i < length xs → test (get_or xs i d) ≡ false
none_pass test [] d h i q = absurd (omega arith)
none_pass test (x ∷ xs) d h i q = elim (cases_Bool (test x)) [
  | inl t ↦ let e = ap one_if t in absurd (omega arith)
  | inr f ↦ let e = ap one_if f in go i q f (none_pass test xs d (omega arith))
]
  where
    go : (i : ℕ) → i < length (x ∷ xs) → test x ≡ false → ((j : ℕ) → j < length xs → test (get_or xs j d) ≡ false) → test (get_or (x ∷ xs) i d) ≡ false
    go zero q f rest = f
    go (suc j) q f rest = rest j (omega arith)

pass_none : {X : Type 0} (test : X → Bool) (xs : List X) (d : X) → ((i : ℕ) → i < length xs → test (get_or xs i d) ≡ false) → tally test xs ≡ 0
pass_none test [] d h = refl
pass_none test (x ∷ xs) d h = let e = ap one_if (h 0 (omega arith)) in let r = pass_none test xs d (λ i q. h (suc i) (omega arith)) in omega arith

-- how many rows have the rank, by the rows themselves
abbrev has_rank : ℕ → Param → Bool
has_rank n p = eqb (rank p.kind) n

ranked_is : (n : ℕ) (rows : List Param) → ranked n (row_kinds_of rows) ≡ tally (has_rank n) rows
ranked_is n [] = refl
ranked_is n (p ∷ ps) = ap (λ m. one_if (eqb (rank p.kind) n) + m) (ranked_is n ps)

is_self : (k : RowKind) → rank k ≡ 0 → k ≡ TraitSelf
is_self TraitSelf e = refl
is_self LifetimeRow e = absurd (omega arith)
is_self TypeRow e = absurd (omega arith)
is_self ConstRow e = absurd (omega arith)
is_self ImplTrait e = absurd (omega arith)

is_impl : (k : RowKind) → rank k ≡ 3 → k ≡ ImplTrait
is_impl TraitSelf e = absurd (omega arith)
is_impl LifetimeRow e = absurd (omega arith)
is_impl TypeRow e = absurd (omega arith)
is_impl ConstRow e = absurd (omega arith)
is_impl ImplTrait e = refl

-- no row of the rank, as a count and by positions
unranked : (n : ℕ) (rows : List Param) → ranked n (row_kinds_of rows) ≡ 0 → (i : ℕ) → i < length rows → rank (row_at rows i).kind ≡ n → ⊥
unranked n rows h i q e = both_ways (eqb (rank (row_at rows i).kind) n) (none_pass (has_rank n) rows no_param (sym (ranked_is n rows) ∙ h) i q) (eq-eqb (rank (row_at rows i).kind) n e)

none_ranked : (n : ℕ) (rows : List Param) → ((i : ℕ) → i < length rows → rank (row_at rows i).kind ≡ n → ⊥) → ranked n (row_kinds_of rows) ≡ 0
none_ranked n rows h = ranked_is n rows ∙ pass_none (has_rank n) rows no_param (λ i q. ne_eqb (rank (row_at rows i).kind) n (h i q))

-- Self rows: their number, where the rows are in order, says that one stands first in a trait and none elsewhere
is_trait? : (k : GenericDefKind) → (k ≡ Trait) ⊎ (selves_of k ≡ 0)
is_trait? Function = inr refl
is_trait? Adt = inr refl
is_trait? TypeAlias = inr refl
is_trait? ConstDef = inr refl
is_trait? Trait = inl refl
is_trait? Impl = inr refl

abbrev Selves : GenericDefKind → List Param → Type 0
Selves k rows = (k ≡ Trait → (0 < length rows) × ((row_at rows 0).kind ≡ TraitSelf)) × ((i : ℕ) → i < length rows → (row_at rows i).kind ≡ TraitSelf → (k ≡ Trait) × (i ≡ 0))

one_first : (rows : List Param) → in_order 0 rows ≡ true → ranked 0 (row_kinds_of rows) ≡ 1 → (0 < length rows) × ((row_at rows 0).kind ≡ TraitSelf) × ((i : ℕ) → i < length rows → (row_at rows i).kind ≡ TraitSelf → i ≡ 0)
one_first [] o h = absurd (omega arith)
one_first (p ∷ ps) o h = elim (cases_eq (rank p.kind) 0) [
  | inl e ↦ let t = ap one_if (eq-eqb (rank p.kind) 0 e) in (omega arith, is_self p.kind e, alone (unranked 0 ps (omega arith)))
  | inr n ↦
      let t = ap one_if (ne_eqb (rank p.kind) 0 n) in
      let parts = and_parts (leb 0 (rank p.kind)) (in_order (rank p.kind) ps) o in
      absurd (later n (ordered (rank p.kind) ps parts.1) (omega arith))
]
  where
    alone : ((i : ℕ) → i < length ps → rank (row_at ps i).kind ≡ 0 → ⊥) → (i : ℕ) → i < length (p ∷ ps) → (row_at (p ∷ ps) i).kind ≡ TraitSelf → i ≡ 0
    alone h zero q e = refl
    alone h (suc i) q e = absurd (h i (omega arith) (ap rank e))

    later : (rank p.kind ≡ 0 → ⊥) → Ordered (rank p.kind) ps → ranked 0 (row_kinds_of ps) ≡ 1 → ⊥
    later n o h =
        let z : ranked 0 (row_kinds_of ps) ≡ 0 = none_ranked 0 ps (λ i q e. n (omega (arith, o.0 i q))) in
        omega arith

selves : (k : GenericDefKind) (rows : List Param) → in_order 0 rows ≡ true → ranked 0 (row_kinds_of rows) ≡ selves_of k → Selves k rows
selves k rows o h = elim (is_trait? k) [
  | inl t ↦ let f = one_first rows o (h ∙ ap selves_of t) in (λ _. (f.0, f.1), λ i q e. (t, f.2 i q e))
  | inr z ↦
      let n = unranked 0 rows (h ∙ z) in
      (λ t. let y : ◌≡◌ {A = ℕ} 0 1 = sym z ∙ ap selves_of t in absurd (omega arith), λ i q e. absurd (n i q (ap rank e)))
]

count_selves : (k : GenericDefKind) (rows : List Param) → Selves k rows → ranked 0 (row_kinds_of rows) ≡ selves_of k
count_selves k [] s = elim (is_trait? k) [
  | inl t ↦ let f = (s.0 t).0 in absurd (omega arith)
  | inr z ↦ sym z
]
count_selves k (p ∷ ps) s = elim (is_trait? k) [
  | inl t ↦
      let e = ap one_if (eq-eqb (rank p.kind) 0 (ap rank (s.0 t).1)) in
      let r = none_ranked 0 ps (λ i q e. let x = (s.1 (suc i) (omega arith) (is_self (row_at ps i).kind e)).1 in absurd (omega arith)) in
      let y = ap selves_of t in
      omega arith
  | inr z ↦
      let r = none_ranked 0 (p ∷ ps) (λ i q e. let x = (s.1 i q (is_self (row_at (p ∷ ps) i).kind e)).0 in let y : ◌≡◌ {A = ℕ} 0 1 = sym z ∙ ap selves_of x in absurd (omega arith)) in
      r ∙ sym z
]

rows_decide : (k : GenericDefKind) (rows : List Param) → Decides (rows_right k rows) (RowsFollow k rows)
rows_decide k rows = (there, back)
  where
    there : rows_right k rows ≡ true → RowsFollow k rows
    there h =
        let a = and_parts (leb (length rows) 32) _ h in
        let b = and_parts (in_order 0 rows) _ a.1 in
        let c = and_parts (eqb (ranked 0 (row_kinds_of rows)) (selves_of k)) (is_function k || eqb (ranked 3 (row_kinds_of rows)) 0) b.1 in
        let s = selves k rows b.0 (eqb-true (ranked 0 (row_kinds_of rows)) (selves_of k) c.0) in
        record {
          few = leb-true (length rows) 32 a.0;
          ordered = (ordered 0 rows b.0).1;
          first = s.0;
          alone = s.1;
          impls = λ i q e. elim (or_cases (is_function k) (eqb (ranked 3 (row_kinds_of rows)) 0) c.1) [
            | inl f ↦ f
            | inr z ↦ absurd (unranked 3 rows (eqb-true (ranked 3 (row_kinds_of rows)) 0 z) i q (ap rank e))
          ];
        }

    impl_right : RowsFollow k rows → (b : Bool) → is_function k ≡ b → is_function k || eqb (ranked 3 (row_kinds_of rows)) 0 ≡ true
    impl_right f true e = or_left (is_function k) (eqb (ranked 3 (row_kinds_of rows)) 0) e
    impl_right f false e = or_right (is_function k) (eqb (ranked 3 (row_kinds_of rows)) 0) (eq-eqb (ranked 3 (row_kinds_of rows)) 0 (none_ranked 3 rows (λ i q r. both_ways (is_function k) e (f.impls i q (is_impl (row_at rows i).kind r)))))

    back : RowsFollow k rows → rows_right k rows ≡ true
    back f =
        and_from (leb (length rows) 32) _ (le-leb (length rows) 32 f.few)
        (and_from (in_order 0 rows) _ (in_order_lem 0 rows (λ i q. omega arith) f.ordered)
        (and_from (eqb (ranked 0 (row_kinds_of rows)) (selves_of k)) (is_function k || eqb (ranked 3 (row_kinds_of rows)) 0) (eq-eqb (ranked 0 (row_kinds_of rows)) (selves_of k) (count_selves k rows (f.first, f.alone))) (impl_right f (is_function k) refl)))

-- room

room_decides : (ds : List Definition) (d : Definition) → Decides (has_room ds d) (Fits ds d)
room_decides ds d = (there, back)
  where
    there : has_room ds d ≡ true → Fits ds d
    there h =
        let a = and_parts (ltb (length ds) 64) _ h in
        let b = and_parts (leb (row_total ds + length d.rows) 512) (leb (mark_total ds + (default_marks d.rows + marks_in d.body)) 2048) a.1 in
        record {
          defs = ltb-true (length ds) 64 a.0;
          rows = leb-true (row_total ds + length d.rows) 512 b.0;
          marks = leb-true (mark_total ds + (default_marks d.rows + marks_in d.body)) 2048 b.1;
        }

    back : Fits ds d → has_room ds d ≡ true
    back f = and_from (ltb (length ds) 64) _ (lt-ltb (length ds) 64 f.defs) (and_from (leb (row_total ds + length d.rows) 512) _ (le-leb (row_total ds + length d.rows) 512 f.rows) (le-leb (mark_total ds + (default_marks d.rows + marks_in d.body)) 2048 f.marks))

-- defaults, row by row; `seen` says that one came before

one_right : (some named seen : Bool) → cond some named (not (named && seen)) ≡ true → (some ≡ true → named ≡ true) × (seen ≡ true → named ≡ true → some ≡ true)
one_right true named seen h = (λ _. h, λ _ _. refl)
one_right false true true h = no (sym h)
one_right false true false h = (λ e. no (sym e), λ e _. no (sym e))
one_right false false seen h = (λ e. no (sym e), λ _ e. no (sym e))

right_one : (some named seen : Bool) → (some ≡ true → named ≡ true) → (seen ≡ true → named ≡ true → some ≡ true) → cond some named (not (named && seen)) ≡ true
right_one true named seen a b = a refl
right_one false true true a b = no (sym (b refl refl))
right_one false true false a b = refl
right_one false false seen a b = refl

-- what the test says from a row on
pub record FromHere (seen : Bool) (rows : List Param) : Type 0 where
  pub named : (i : ℕ) → i < length rows → is_some (row_at rows i).default ≡ true → is_named (row_at rows i).kind ≡ true
  pub behind : (i j : ℕ) → i < j → j < length rows → is_some (row_at rows i).default ≡ true → is_named (row_at rows j).kind ≡ true → is_some (row_at rows j).default ≡ true
  pub before : seen ≡ true → (j : ℕ) → j < length rows → is_named (row_at rows j).kind ≡ true → is_some (row_at rows j).default ≡ true

from_here : (seen : Bool) (rows : List Param) → defaults_right seen rows ≡ true → FromHere seen rows
from_here seen [] h = record { named = λ i q e. absurd (omega arith); behind = λ i j q r e f. absurd (omega arith); before = λ t j q e. absurd (omega arith) }
from_here seen (p ∷ ps) h =
    let parts = and_parts (default_right seen p) (defaults_right (seen || is_some p.default) ps) h in
    let one = one_right (is_some p.default) (is_named p.kind) seen parts.0 in
    let rest = from_here (seen || is_some p.default) ps parts.1 in
    record { named = named one rest; behind = behind rest; before = before one rest }
  where
    named : (is_some p.default ≡ true → is_named p.kind ≡ true) × (seen ≡ true → is_named p.kind ≡ true → is_some p.default ≡ true) → FromHere (seen || is_some p.default) ps → (i : ℕ) → i < length (p ∷ ps) → is_some (row_at (p ∷ ps) i).default ≡ true → is_named (row_at (p ∷ ps) i).kind ≡ true
    named one rest zero q e = one.0 e
    named one rest (suc i) q e = rest.named i (omega arith) e

    behind : FromHere (seen || is_some p.default) ps → (i j : ℕ) → i < j → j < length (p ∷ ps) → is_some (row_at (p ∷ ps) i).default ≡ true → is_named (row_at (p ∷ ps) j).kind ≡ true → is_some (row_at (p ∷ ps) j).default ≡ true
    behind rest i zero q r e f = absurd (omega arith)
    behind rest zero (suc j) q r e f = rest.before (or_right seen (is_some p.default) e) j (omega arith) f
    behind rest (suc i) (suc j) q r e f = rest.behind i j (omega arith) (omega arith) e f

    before : (is_some p.default ≡ true → is_named p.kind ≡ true) × (seen ≡ true → is_named p.kind ≡ true → is_some p.default ≡ true) → FromHere (seen || is_some p.default) ps → seen ≡ true → (j : ℕ) → j < length (p ∷ ps) → is_named (row_at (p ∷ ps) j).kind ≡ true → is_some (row_at (p ∷ ps) j).default ≡ true
    before one rest t zero q e = one.1 t e
    before one rest t (suc j) q e = rest.before (or_left seen (is_some p.default) t) j (omega arith) e

here_from : (seen : Bool) (rows : List Param) → FromHere seen rows → defaults_right seen rows ≡ true
here_from seen [] f = refl
here_from seen (p ∷ ps) f =
    and_from (default_right seen p) (defaults_right (seen || is_some p.default) ps)
    (right_one (is_some p.default) (is_named p.kind) seen (f.named 0 (omega arith)) (λ t e. f.before t 0 (omega arith) e))
    (here_from (seen || is_some p.default) ps (record {
      named = λ i q e. f.named (suc i) (omega arith) e;
      behind = λ i j q r e g. f.behind (suc i) (suc j) (omega arith) (omega arith) e g;
      before = λ t j q e. elim (or_cases seen (is_some p.default) t) [
        | inl s ↦ f.before s (suc j) (omega arith) e
        | inr s ↦ f.behind 0 (suc j) (omega arith) (omega arith) s e
      ];
    }))

defaults_decide : (rows : List Param) → Decides (defaults_right false rows) (DefaultsFollow rows)
defaults_decide rows = (
  λ h. let f = from_here false rows h in record { named = f.named; behind = f.behind },
  λ f. here_from false rows (record { named = f.named; behind = f.behind; before = λ t j q e. no (sym t) }),
)

-- terms

one_term : (ds : List Definition) (places : List Kind) (k : Kind) (ms : List Mark) → is_term ds places k ms ≡ true → OneTerm ds places k ms
one_term ds places k ms h =
    let a = and_parts (leb (length ms) 32) (reads ds places (k ∷ []) ms) h in
    (leb-true (length ms) 32 a.0, is_term_lem ds places ms k a.1)

term_one_is : (ds : List Definition) (places : List Kind) (k : Kind) (ms : List Mark) → OneTerm ds places k ms → is_term ds places k ms ≡ true
term_one_is ds places k ms f = and_from (leb (length ms) 32) (reads ds places (k ∷ []) ms) (le-leb (length ms) 32 f.0) (term_is ds places ms k f.1)

read_here : (ds : List Definition) (before : List Kind) (p : Param) (o : Option (List Mark)) (ms : List Mark) → default_reads ds before p o ≡ true → o ≡ Some ms → OneTerm ds before (kind_of p.kind) ms
read_here ds before p o ms h e = one_term ds before (kind_of p.kind) ms (sym (ap (default_reads ds before p) e) ∙ h)

here_read : (ds : List Definition) (before : List Kind) (p : Param) (o : Option (List Mark)) → ((ms : List Mark) → o ≡ Some ms → OneTerm ds before (kind_of p.kind) ms) → default_reads ds before p o ≡ true
here_read ds before p None f = refl
here_read ds before p (Some ms) f = term_one_is ds before (kind_of p.kind) ms (f ms refl)

abbrev Defaults : List Definition → List Kind → List Param → Type 0
Defaults ds before rows = (i : ℕ) (ms : List Mark) → i < length rows → (row_at rows i).default ≡ Some ms → OneTerm ds (before ++ kinds_of (take i rows)) (kind_of (row_at rows i).kind) ms

defaults_read_lem : (ds : List Definition) (before : List Kind) (rows : List Param) → defaults_read ds before rows ≡ true → Defaults ds before rows
defaults_read_lem ds before [] h i ms q e = absurd (omega arith)
defaults_read_lem ds before (p ∷ ps) h zero ms q e =
    let a = and_parts (default_reads ds before p p.default) (defaults_read ds (before ++ kind_of p.kind ∷ []) ps) h in
    subst (λ places. OneTerm ds places (kind_of p.kind) ms) (sym (append-nil before)) (read_here ds before p p.default ms a.0 e)
defaults_read_lem ds before (p ∷ ps) h (suc i) ms q e =
    let a = and_parts (default_reads ds before p p.default) (defaults_read ds (before ++ kind_of p.kind ∷ []) ps) h in
    subst (λ places. OneTerm ds places (kind_of (row_at ps i).kind) ms) (append_assoc before (kind_of p.kind ∷ []) (kinds_of (take i ps))) (defaults_read_lem ds (before ++ kind_of p.kind ∷ []) ps a.1 i ms (omega arith) e)

read_defaults : (ds : List Definition) (before : List Kind) (rows : List Param) → Defaults ds before rows → defaults_read ds before rows ≡ true
read_defaults ds before [] f = refl
read_defaults ds before (p ∷ ps) f =
    and_from (default_reads ds before p p.default) (defaults_read ds (before ++ kind_of p.kind ∷ []) ps)
    (here_read ds before p p.default (λ ms e. subst (λ places. OneTerm ds places (kind_of p.kind) ms) (append-nil before) (f 0 ms (omega arith) e)))
    (read_defaults ds (before ++ kind_of p.kind ∷ []) ps (λ i ms q e. subst (λ places. OneTerm ds places (kind_of (row_at ps i).kind) ms) (sym (append_assoc before (kind_of p.kind ∷ []) (kinds_of (take i ps)))) (f (suc i) ms (omega arith) e)))

abbrev Body : List Definition → List Kind → GenericDefKind → Option (List Mark) → Type 0
Body ds whole k o = (is_some o ≡ is_alias k) × ((ms : List Mark) → o ≡ Some ms → OneTerm ds whole TypeKind ms)

body_reads_lem : (ds : List Definition) (whole : List Kind) (k : GenericDefKind) (o : Option (List Mark)) → body_reads ds whole k o ≡ true → Body ds whole k o
body_reads_lem ds whole k None h = (sym (not-true (is_alias k) h), λ ms e. absurd (grind arith))
body_reads_lem ds whole k (Some ns) h =
    let a = and_parts (is_alias k) (is_term ds whole TypeKind ns) h in
    (sym a.0, λ ms e. one_term ds whole TypeKind ms (let same : ns ≡ ms = cc in subst (λ l. is_term ds whole TypeKind l ≡ true) same a.1))

reads_body : (ds : List Definition) (whole : List Kind) (k : GenericDefKind) (o : Option (List Mark)) → Body ds whole k o → body_reads ds whole k o ≡ true
reads_body ds whole k None f = not_from_false (is_alias k) (sym f.0)
reads_body ds whole k (Some ms) f = and_from (is_alias k) (is_term ds whole TypeKind ms) (sym f.0) (term_one_is ds whole TypeKind ms (f.1 ms refl))

terms_decide : (ds : List Definition) (d : Definition) → Decides (terms_right ds d) (TermsFollow ds d)
terms_decide ds d = (there, back)
  where
    there : terms_right ds d ≡ true → TermsFollow ds d
    there h =
        let a = and_parts (defaults_read ds (kinds_of (parent_rows ds d.parent)) d.rows) (body_reads ds (kinds_of (whole_rows ds d)) d.kind d.body) h in
        let b = body_reads_lem ds (kinds_of (whole_rows ds d)) d.kind d.body a.1 in
        record { defaults = defaults_read_lem ds (kinds_of (parent_rows ds d.parent)) d.rows a.0; bodied = b.0; body = b.1 }

    back : TermsFollow ds d → terms_right ds d ≡ true
    back f = and_from (defaults_read ds (kinds_of (parent_rows ds d.parent)) d.rows) (body_reads ds (kinds_of (whole_rows ds d)) d.kind d.body) (read_defaults ds (kinds_of (parent_rows ds d.parent)) d.rows f.defaults) (reads_body ds (kinds_of (whole_rows ds d)) d.kind d.body (f.bodied, f.body))

pub tests_decide : (ds : List Definition) (d : Definition) → TestsDecide ds d
tests_decide ds d = record { parents = parents_decide ds d.kind d.parent; rows = rows_decide d.kind d.rows; defaults = defaults_decide d.rows; terms = terms_decide ds d; room = room_decides ds d }

-- what passes the tests follows the rules
pub rightful : (ds : List Definition) (d : Definition) → follows ds d ≡ true → Rightful ds d
rightful ds d h =
    let t = tests_decide ds d in
    let a = and_parts (parent_right ds d.kind d.parent) _ h in
    let b = and_parts (rows_right d.kind d.rows) _ a.1 in
    let c = and_parts (defaults_right false d.rows) (terms_right ds d) b.1 in
    record { parents = t.parents.0 a.0; rows = t.rows.0 b.0; defaults = t.defaults.0 c.0; terms = t.terms.0 c.1 }
