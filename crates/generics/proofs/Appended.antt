-- A catalogue's lists with one definition more. Assumes nothing.
use Rattle.std.proofs.Common.{◌≡◌, ℕ, zero, suc, ◌+◌, ◌<◌, ◌≤◌, true, List, [], ◌∷◌, ◌++◌, map, length, get_or, take, drop, Some, None, Option, sym, refl, ap, ◌∙◌, inl, inr, append_assoc, append-nil, arith, length-append, length-drop}
use mathlib.Core.List.{map-append}
use Rattle.std.proofs.lemmas.List.{take-map, drop-map, take-append-le, drop-append-le, drop_at, take_all, take_at, get_or_append_left, get_or_push, length_push}
use Rattle.std.proofs.lemmas.Bool.{cases_lt}
use Rattle.definitions.specs.declared.kinds.Mark.{Mark}
use Rattle.spans.specs.declared.Span.{Span}
use Rattle.spans.specs.Parts.{part, past}
use Rattle.generics.specs.declared.stored.Row.{Row}
use Rattle.generics.specs.declared.stored.Def.{Def}
use Rattle.definitions.specs.Definitions.{Param, Definition, nothing, marks_in, default_marks, row_total, mark_total}
use Rattle.generics.specs.Laid.{marks_of, span_at, laid, flat}
use Rattle.generics.specs.Lays.{spelled, param_of, definition_of, definitions, no_row, no_def, end_of, Within, Counted}
use Rattle.definitions.specs.Rules.{follows, has_room, Lawful, Limited}
use Rattle.definitions.proofs.Decided.{tests_decide}

-- lists of general elements

map_same : {X Y : Type 0} (f g : X → Y) (xs : List X) (d : X) → ((i : ℕ) → i < length xs → f (get_or xs i d) ≡ g (get_or xs i d)) → map f xs ≡ map g xs
map_same f g [] d h = refl
map_same f g (x ∷ xs) d h = ap (λ y. y ∷ map f xs) (h 0 (omega arith)) ∙ ap (λ ys. g x ∷ ys) (map_same f g xs d (λ i k. h (suc i) (omega arith)))

each_append : {X : Type 0} (P : X → Type 0) (xs ys : List X) (d : X) → ((i : ℕ) → i < length xs → P (get_or xs i d)) → ((i : ℕ) → i < length ys → P (get_or ys i d)) → (i : ℕ) → i < length (xs ++ ys) → P (get_or (xs ++ ys) i d)
each_append P [] ys d all more i h = more i h
each_append P (x ∷ xs) ys d all more zero h = all 0 (omega arith)
each_append P (x ∷ xs) ys d all more (suc i) h = each_append P xs ys d (λ k q. all (suc k) (omega arith)) more i (omega arith)

each_one : {X : Type 0} (P : X → Type 0) (y d : X) → P y → (i : ℕ) → i < length (y ∷ []) → P (get_or (y ∷ []) i d)
each_one P y d p zero h = p
each_one P y d p (suc i) h = absurd (omega arith)

part_same : {X : Type 0} (s : Span) (xs ys : List X) → past s ≤ length xs → part (xs ++ ys) s ≡ part xs s
part_same s xs ys h =
    let l = length-drop s.from xs in
    ap (take s.len) (drop-append-le s.from xs ys (omega arith)) ∙ take-append-le s.len (drop s.from xs) ys (omega arith)

part_last : {X : Type 0} (xs ys : List X) (s : Span) → s.from ≡ length xs → s.len ≡ length ys → part (xs ++ ys) s ≡ ys
part_last xs ys s e f = ap (take s.len) (drop_at xs ys s.from (sym e)) ∙ take_all s.len ys (omega arith)

part_map : {X Y : Type 0} (f : X → Y) (s : Span) (xs : List X) → map f (part xs s) ≡ part (map f xs) s
part_map f s xs = sym (take-map f s.len (drop s.from xs)) ∙ ap (take s.len) (sym (drop-map f s.from xs))

-- what was there is spelled as before

spelled_same : (marks more : List Mark) (s : Option Span) → end_of s ≤ length marks → spelled (marks ++ more) s ≡ spelled marks s
spelled_same marks more None h = refl
spelled_same marks more (Some s) h = ap Some (part_same s marks more h)

param_same : (marks more : List Mark) (r : Row) → end_of r.default ≤ length marks → param_of (marks ++ more) r ≡ param_of marks r
param_same marks more r h = ap (λ o. record { kind = r.kind; default = o }) (spelled_same marks more r.default h)

module _ (defs : List Def) (rows : List Row) (marks : List Mark) (ok : Within defs rows marks) (new_rows : List Row) (new_marks : List Mark) where
  definition_same : (i : ℕ) → i < length defs → definition_of (rows ++ new_rows) (marks ++ new_marks) (get_or defs i no_def) ≡ definition_of rows marks (get_or defs i no_def)
  definition_same i h =
      let d = get_or defs i no_def in
      let params : map (param_of (marks ++ new_marks)) rows ≡ map (param_of marks) rows = map_same (param_of (marks ++ new_marks)) (param_of marks) rows no_row (λ j q. param_same marks new_marks (get_or rows j no_row) (ok.2 j q)) in
      let r : map (param_of (marks ++ new_marks)) (part (rows ++ new_rows) d.rows) ≡ map (param_of marks) (part rows d.rows) =
      ap (map (param_of (marks ++ new_marks))) (part_same d.rows rows new_rows (ok.0 i h)) ∙ part_map (param_of (marks ++ new_marks)) d.rows rows ∙ ap (λ l. part l d.rows) params ∙ sym (part_map (param_of marks) d.rows rows) in
      let b = spelled_same marks new_marks d.body (ok.1 i h) in
      ap (λ x. record { kind = d.kind; parent = d.parent; rows = x; body = spelled (marks ++ new_marks) d.body }) r ∙ ap (λ x. record { kind = d.kind; parent = d.parent; rows = map (param_of marks) (part rows d.rows); body = x }) b

  pub definitions_same : definitions defs (rows ++ new_rows) (marks ++ new_marks) ≡ definitions defs rows marks
  definitions_same = map_same (definition_of (rows ++ new_rows) (marks ++ new_marks)) (definition_of rows marks) defs no_def definition_same

-- what is new is spelled as it was asked for

marks_long : (o : Option (List Mark)) → length (marks_of o) ≡ marks_in o
marks_long None = refl
marks_long (Some ms) = refl

flat_long : (ps : List Param) → length (flat ps) ≡ default_marks ps
flat_long [] = refl
flat_long (p ∷ ps) = length-append (marks_of p.default) (flat ps) ∙ ap (λ n. n + length (flat ps)) (marks_long p.default) ∙ ap (λ n. marks_in p.default + n) (flat_long ps)

laid_long : (at : ℕ) (ps : List Param) → length (laid at ps) ≡ length ps
laid_long at [] = refl
laid_long at (p ∷ ps) = ap suc (laid_long (at + marks_in p.default) ps)

span_spells : (pre post : List Mark) (at : ℕ) (o : Option (List Mark)) → at ≡ length pre → spelled (pre ++ (marks_of o ++ post)) (span_at at o) ≡ o
span_spells pre post at None e = refl
span_spells pre post at (Some ms) e = ap Some (ap (take (length ms)) (drop_at pre (ms ++ post) at (sym e)) ∙ take_at ms post (length ms) refl)

span_ends : (at : ℕ) (o : Option (List Mark)) → end_of (span_at at o) ≤ at + marks_in o
span_ends at None = omega arith
span_ends at (Some ms) = omega arith

laid_spells : (pre post : List Mark) (at : ℕ) (ps : List Param) → at ≡ length pre → map (param_of (pre ++ (flat ps ++ post))) (laid at ps) ≡ ps
laid_spells pre post at [] e = refl
laid_spells pre post at (p ∷ ps) e =
    let ms = marks_of p.default in
    let whole : pre ++ ((ms ++ flat ps) ++ post) ≡ pre ++ (ms ++ (flat ps ++ post)) = ap (λ l. pre ++ l) (append_assoc ms (flat ps) post) in
    let first : spelled (pre ++ ((ms ++ flat ps) ++ post)) (span_at at p.default) ≡ p.default = ap (λ l. spelled l (span_at at p.default)) whole ∙ span_spells pre (flat ps ++ post) at p.default e in
    let next = at + marks_in p.default in
    let n = length-append pre ms in
    let m = marks_long p.default in
    let rest : map (param_of ((pre ++ ms) ++ (flat ps ++ post))) (laid next ps) ≡ ps = laid_spells (pre ++ ms) post next ps (omega arith) in
    let same : pre ++ ((ms ++ flat ps) ++ post) ≡ (pre ++ ms) ++ (flat ps ++ post) = whole ∙ sym (append_assoc pre ms (flat ps ++ post)) in
    ap (λ o. (record { kind = p.kind; default = o }) ∷ map (param_of (pre ++ ((ms ++ flat ps) ++ post))) (laid next ps)) first ∙ ap (λ qs. p ∷ qs) (ap (λ l. map (param_of l) (laid next ps)) same ∙ rest)

laid_ends : (at : ℕ) (ps : List Param) (i : ℕ) → i < length (laid at ps) → end_of (get_or (laid at ps) i no_row).default ≤ at + default_marks ps
laid_ends at [] i h = absurd (omega arith)
laid_ends at (p ∷ ps) zero h = omega (arith, span_ends at p.default)
laid_ends at (p ∷ ps) (suc i) h = omega (arith, laid_ends (at + marks_in p.default) ps i (omega arith))

-- the totals of one definition more

rows_total : (ds : List Definition) (d : Definition) → row_total (ds ++ d ∷ []) ≡ row_total ds + length d.rows
rows_total [] d = omega arith
rows_total (x ∷ ds) d = omega (arith, rows_total ds d)

marks_total : (ds : List Definition) (d : Definition) → mark_total (ds ++ d ∷ []) ≡ mark_total ds + (default_marks d.rows + marks_in d.body)
marks_total [] d = omega arith
marks_total (x ∷ ds) d = omega (arith, marks_total ds d)

-- one definition more keeps the rules

pub lawful_more : (ds : List Definition) (d : Definition) → Lawful ds → follows ds d ≡ true → Lawful (ds ++ d ∷ [])
lawful_more ds d ok new i h = elim (cases_lt i (length ds)) [
  | inl q ↦ rw (take-append-le i ds (d ∷ []) (omega arith), get_or_append_left ds (d ∷ []) nothing i q) (ok i q)
  | inr q ↦
      let e : length ds ≡ i = omega (arith, length_push ds d) in
      rw (take_at ds (d ∷ []) i e, get_or_push ds d nothing i e) new
]

pub limited_more : (ds : List Definition) (d : Definition) → has_room ds d ≡ true → Limited (ds ++ d ∷ [])
limited_more ds d h =
    let f = (tests_decide ds d).room.0 h in
    (omega (arith, f.defs, length_push ds d), omega (arith, f.rows, rows_total ds d), omega (arith, f.marks, marks_total ds d))

-- the catalogue's lists after a declaration
module _ (defs : List Def) (rows : List Row) (marks : List Mark) (d : Definition) (count : ℕ) where
  abbrev new_rows : List Row
  new_rows = laid (length marks) d.rows

  abbrev new_marks : List Mark
  new_marks = flat d.rows ++ marks_of d.body

  abbrev pub new_def : Def
  new_def = record { kind = d.kind; parent = d.parent; rows = record { from = length rows; len = count }; body = span_at (length marks + default_marks d.rows) d.body }

  new_spells : count ≡ length d.rows → definition_of (rows ++ new_rows) (marks ++ new_marks) new_def ≡ d
  new_spells e =
      let at = length marks + default_marks d.rows in
      let r : map (param_of (marks ++ new_marks)) (part (rows ++ new_rows) new_def.rows) ≡ d.rows = ap (map (param_of (marks ++ new_marks))) (part_last rows new_rows new_def.rows refl (e ∙ sym (laid_long (length marks) d.rows))) ∙ laid_spells marks (marks_of d.body) (length marks) d.rows refl in
      let whole : marks ++ new_marks ≡ (marks ++ flat d.rows) ++ (marks_of d.body ++ []) = sym (append_assoc marks (flat d.rows) (marks_of d.body)) ∙ ap (λ l. (marks ++ flat d.rows) ++ l) (sym (append-nil (marks_of d.body))) in
      let here : at ≡ length (marks ++ flat d.rows) = omega (arith, length-append marks (flat d.rows), flat_long d.rows) in
      let b : spelled (marks ++ new_marks) (span_at at d.body) ≡ d.body = ap (λ l. spelled l (span_at at d.body)) whole ∙ span_spells (marks ++ flat d.rows) [] at d.body here in
      ap (λ x. record { kind = d.kind; parent = d.parent; rows = x; body = spelled (marks ++ new_marks) (span_at at d.body) }) r ∙ ap (λ x. record { kind = d.kind; parent = d.parent; rows = d.rows; body = x }) b

  pub definitions_more : Within defs rows marks → count ≡ length d.rows → definitions (defs ++ new_def ∷ []) (rows ++ new_rows) (marks ++ new_marks) ≡ definitions defs rows marks ++ d ∷ []
  definitions_more ok e =
      map-append (definition_of (rows ++ new_rows) (marks ++ new_marks)) defs (new_def ∷ []) ∙ ap (λ l. l ++ definition_of (rows ++ new_rows) (marks ++ new_marks) new_def ∷ []) (definitions_same defs rows marks ok new_rows new_marks) ∙ ap (λ x. definitions defs rows marks ++ x ∷ []) (new_spells e)

  rows_long : length (rows ++ new_rows) ≡ length rows + length d.rows
  rows_long = omega (arith, length-append rows new_rows, laid_long (length marks) d.rows)

  marks_grown : length (marks ++ new_marks) ≡ length marks + (default_marks d.rows + marks_in d.body)
  marks_grown = omega (arith, length-append marks new_marks, length-append (flat d.rows) (marks_of d.body), flat_long d.rows, marks_long d.body)

  pub within_more : Within defs rows marks → count ≡ length d.rows → Within (defs ++ new_def ∷ []) (rows ++ new_rows) (marks ++ new_marks)
  within_more ok e =
      let l = rows_long in
      let m = marks_grown in
      let at = length marks + default_marks d.rows in (
        each_append (λ (x : Def). past x.rows ≤ length (rows ++ new_rows)) defs (new_def ∷ []) no_def (λ i h. omega (arith, ok.0 i h)) (each_one (λ (x : Def). past x.rows ≤ length (rows ++ new_rows)) new_def no_def (omega arith)),
        each_append (λ (x : Def). end_of x.body ≤ length (marks ++ new_marks)) defs (new_def ∷ []) no_def (λ i h. omega (arith, ok.1 i h)) (each_one (λ (x : Def). end_of x.body ≤ length (marks ++ new_marks)) new_def no_def (omega (arith, span_ends at d.body))),
        each_append (λ (r : Row). end_of r.default ≤ length (marks ++ new_marks)) rows new_rows no_row (λ i h. omega (arith, ok.2 i h)) (λ i h. omega (arith, laid_ends (length marks) d.rows i h)),
      )

  pub counted_more : Within defs rows marks → Counted defs rows marks → count ≡ length d.rows → Counted (defs ++ new_def ∷ []) (rows ++ new_rows) (marks ++ new_marks)
  counted_more ok all e =
      let ds = definitions defs rows marks in
      let n = definitions_more ok e in (
        ap row_total n ∙ rows_total ds d ∙ ap (λ k. k + length d.rows) all.0 ∙ sym rows_long,
        ap mark_total n ∙ marks_total ds d ∙ ap (λ k. k + (default_marks d.rows + marks_in d.body)) all.1 ∙ sym marks_grown,
      )

-- all that holds of a catalogue's lists
pub record Kept (defs : List Def) (rows : List Row) (marks : List Mark) : Type 0 where
  pub within : Within defs rows marks
  pub counted : Counted defs rows marks
  pub limited : Limited (definitions defs rows marks)
  pub lawful : Lawful (definitions defs rows marks)

pub kept_more : (defs moreDefs : List Def) (rows moreRows : List Row) (marks moreMarks : List Mark) (d : Definition) (count : ℕ) (x : Def) → Kept defs rows marks → follows (definitions defs rows marks) d ≡ true → has_room (definitions defs rows marks) d ≡ true → count ≡ length d.rows → x ≡ new_def defs rows marks d count → moreDefs ≡ defs ++ x ∷ [] → moreRows ≡ rows ++ laid (length marks) d.rows → moreMarks ≡ (marks ++ flat d.rows) ++ marks_of d.body → Kept moreDefs moreRows moreMarks × (definitions moreDefs moreRows moreMarks ≡ definitions defs rows marks ++ d ∷ [])
kept_more defs moreDefs rows moreRows marks moreMarks d count x ok law room e new is-defs is-rows is-marks =
    let ds = definitions defs rows marks in
    let more = definitions_more defs rows marks d count ok.within e in
    let all = marks ++ (flat d.rows ++ marks_of d.body) in
    let m : moreMarks ≡ all = is-marks ∙ append_assoc marks (flat d.rows) (marks_of d.body) in
    rw (is-defs, is-rows, m, new) (
      (record {
        within = within_more defs rows marks d count ok.within e;
        counted = counted_more defs rows marks d count ok.within ok.counted e;
        limited = rw more (limited_more ds d room);
        lawful = rw more (lawful_more ds d ok.lawful law);
      }),
      more,
    )
