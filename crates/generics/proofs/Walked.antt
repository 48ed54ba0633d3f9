-- One row further in the tests over rows. Assumes nothing.
use Rattle.std.proofs.Common.{◌≡◌, ℕ, ◌+◌, ◌-◌, ◌<◌, ◌≤◌, Bool, true, false, ◌&&◌, ◌||◌, eqb, leb, List, [], ◌∷◌, ◌++◌, map, length, get_or, take, drop, is_some, Some, None, sym, ap, ◌∙◌, inl, inr, append_assoc, arith, refl, length-drop}
use mathlib.Core.List.{map-append, map-map}
use lib.ListN.{length-map}
use Rattle.std.specs.List.{list_all, enumerate_from}
use Rattle.std.proofs.lemmas.List.{drop_more, at_drop_more, map_more}
use Rattle.std.proofs.lemmas.Bool.{le-leb, lt-leb, cases_lt}
use Rattle.definitions.specs.declared.kinds.Kind.{Kind}
use Rattle.definitions.specs.declared.kinds.GenericParam.{GenericParam}
use Rattle.definitions.specs.declared.kinds.GenericDefKind.{GenericDefKind}
use Rattle.definitions.specs.declared.kinds.RowKind.{RowKind}
use Rattle.definitions.specs.declared.kinds.RowKind.TheVariants.{TraitSelf}
use Rattle.definitions.specs.Definitions.{Param, Definition, row_kinds_of, kind_of, kinds_of, marks_in, default_marks, parent_rows, whole_rows}
use Rattle.generics.specs.Held.{asked_kinds}
use Rattle.generics.specs.Lays.{param_asked, params_asked}
use Rattle.definitions.specs.Rules.{in_order, ranked, selves_of, is_function, rows_right, default_right, defaults_right, lessen, default_reads, defaults_read, body_reads, terms_right}

abbrev pub no_param : GenericParam
no_param = record { kind = TraitSelf; default = None }

-- a test that fails, or holds, in a row of tests whose whole answer is known
stops : (a b : Bool) {x y : Bool} → x ≡ a && b → x ≡ y → a ≡ false → false ≡ y
stops a b e f g = sym (ap (λ z. z && b) g) ∙ sym e ∙ f

goes : (a b : Bool) {x y : Bool} → x ≡ a && b → x ≡ y → a ≡ true → b ≡ y
goes a b e f g = sym (ap (λ z. z && b) g) ∙ sym e ∙ f

module _ (gs : List GenericParam) (i : ℕ) (h : i < length gs) where
  abbrev here : GenericParam
  here = get_or gs i no_param

  abbrev behind : List GenericParam
  behind = drop (i + 1) gs

  module _ (seen : Bool) {y : Bool} (known : defaults_right seen (params_asked (drop i gs)) ≡ y) where
    defaults_more : defaults_right seen (params_asked (drop i gs)) ≡ default_right seen (param_asked here) && defaults_right (seen || is_some (param_asked here).default) (params_asked behind)
    defaults_more = at_drop_more (λ xs. defaults_right seen (params_asked xs)) gs i no_param h

    pub defaults_stop : default_right seen (param_asked here) ≡ false → false ≡ y
    defaults_stop q = stops (default_right seen (param_asked here)) (defaults_right (seen || is_some (param_asked here).default) (params_asked behind)) defaults_more known q

    pub defaults_go : default_right seen (param_asked here) ≡ true → defaults_right (seen || is_some (param_asked here).default) (params_asked behind) ≡ y
    defaults_go q = goes (default_right seen (param_asked here)) (defaults_right (seen || is_some (param_asked here).default) (params_asked behind)) defaults_more known q

  pub marks_more : default_marks (params_asked (drop i gs)) ≡ marks_in (param_asked here).default + default_marks (params_asked behind)
  marks_more = at_drop_more (λ xs. default_marks (params_asked xs)) gs i no_param h

  pub before_more : (ks : List Kind) → (ks ++ asked_kinds (take i gs)) ++ kind_of here.kind ∷ [] ≡ ks ++ asked_kinds (take (i + 1) gs)
  before_more ks = append_assoc ks (asked_kinds (take i gs)) (kind_of here.kind ∷ []) ∙ ap (λ ys. ks ++ ys) (sym (map_more (λ (g : GenericParam). kind_of g.kind) gs i no_param h))

-- the test of each default, with its row's position
abbrev pub reads_at : List Definition → List Kind → List GenericParam → ℕ × GenericParam → Bool
reads_at ds ks gs e = default_reads ds (ks ++ asked_kinds (take e.0 gs)) (param_asked e.1) (param_asked e.1).default

-- the tests of all that is left, from a position on
pub all_read : (ds : List Definition) (ks : List Kind) (all : List GenericParam) (n : ℕ) (gs : List GenericParam) → drop n all ≡ gs → list_all (reads_at ds ks all) (enumerate_from n gs) ≡ defaults_read ds (ks ++ asked_kinds (take n all)) (params_asked gs)
all_read ds ks all n [] e = refl
all_read ds ks all n (g ∷ gs) e =
    let l = length-drop n all in
    let m = ap length e in
    let h : n < length all = omega arith in
    let d = sym (drop_more all n no_param h) ∙ e in
    let x : get_or all n no_param ≡ g = ap (λ xs. get_or xs 0 no_param) d in
    let rest : drop (n + 1) all ≡ gs = ap (drop 1) d in
    let before : (ks ++ asked_kinds (take n all)) ++ kind_of g.kind ∷ [] ≡ ks ++ asked_kinds (take (n + 1) all) = ap (λ (y : GenericParam). (ks ++ asked_kinds (take n all)) ++ kind_of y.kind ∷ []) (sym x) ∙ before_more all n h ks in
    ap (λ b. reads_at ds ks all (n, g) && b) (all_read ds ks all (n + 1) gs rest ∙ ap (λ zs. defaults_read ds zs (params_asked gs)) (sym before))

-- what is taken in two steps, or not
pub lessen_more : (whole part rest : ℕ) → part ≤ whole → lessen whole (part + rest) ≡ lessen (whole - part) rest
lessen_more whole part rest h = elim (cases_lt whole (part + rest)) [
  | inl q ↦ rw (lt-leb (part + rest) whole q, lt-leb rest (whole - part) (omega arith))
  | inr q ↦ let e : whole - (part + rest) ≡ (whole - part) - rest = omega arith in rw (le-leb (part + rest) whole q, le-leb rest (whole - part) (omega arith), e)
]

pub lessen_none : (whole part rest : ℕ) → whole < part → lessen whole (part + rest) ≡ None
lessen_none whole part rest h = rw (lt-leb (part + rest) whole (omega arith))

pub lessen_all : (whole : ℕ) → Some whole ≡ lessen whole 0
lessen_all whole = rw (le-leb 0 whole (omega arith)) (ap Some (omega arith))

-- the kinds of the whole list of a declaration
pub whole_kinds : (ps : List Param) (gs : List GenericParam) → kinds_of (ps ++ params_asked gs) ≡ kinds_of ps ++ asked_kinds gs
whole_kinds ps gs =
    let f : Param → Kind = λ p. kind_of p.kind in
    map-append f ps (params_asked gs) ∙ ap (λ ks. kinds_of ps ++ ks) (map-map f param_asked gs)

-- terms that were tested over the parent's kinds as they are held
pub terms_by : (ds : List Definition) (d : Definition) (gs : List GenericParam) (ks : List Kind) → d.rows ≡ params_asked gs → ks ≡ kinds_of (parent_rows ds d.parent) → terms_right ds d ≡ defaults_read ds ks d.rows && body_reads ds (ks ++ asked_kinds gs) d.kind d.body
terms_by ds d gs ks same is =
    let w : kinds_of (whole_rows ds d) ≡ kinds_of (parent_rows ds d.parent) ++ asked_kinds gs = ap (λ rs. kinds_of (parent_rows ds d.parent ++ rs)) same ∙ whole_kinds (parent_rows ds d.parent) gs in
    rw (is, w)

-- the rules on rows, over the rows as they are handed over
pub rows_by : (k : GenericDefKind) (gs : List GenericParam) → rows_right k (params_asked gs) ≡ leb (length gs) 32 && (in_order 0 (params_asked gs) && (eqb (ranked 0 (map (λ (g : GenericParam). g.kind) gs)) (selves_of k) && (is_function k || eqb (ranked 3 (map (λ (g : GenericParam). g.kind) gs)) 0)))
rows_by k gs =
    let f : Param → RowKind = λ p. p.kind in
    let e : row_kinds_of (params_asked gs) ≡ map (λ (g : GenericParam). g.kind) gs = map-map f param_asked gs in
    let l = length-map gs param_asked in
    rw (l, e)

-- four tests in a row
pub fails_third : (a b c d : Bool) → a ≡ true → b ≡ true → c ≡ false → false ≡ a && (b && (c && d))
fails_third a b c d e f g = rw (e, f, g)

pub fourth : (a b c d : Bool) → a ≡ true → b ≡ true → c ≡ true → d ≡ a && (b && (c && d))
fourth a b c d e f g = rw (e, f, g)
