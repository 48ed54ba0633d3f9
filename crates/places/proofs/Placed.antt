-- What stands at a place. Assumes nothing.
use Rattle.std.proofs.Common.{◌≡◌, ℕ, ◌+◌, ◌≤◌, List, map, length, take, is_some, Some, None, Option, sym, refl, ap, ◌∙◌, inl, inr, arith, length-append}
use mathlib.Core.List.{map-map}
use lib.ListN.{length-map}
use Rattle.std.proofs.lemmas.List.{get_or_past}
use Rattle.std.proofs.lemmas.Bool.{cases_lt}
use Rattle.generics.specs.declared.catalogue.Catalogue.{Catalogue}
use Rattle.definitions.specs.declared.kinds.Mark.{Mark}
use Rattle.definitions.specs.declared.kinds.RowKind.{RowKind}
use Rattle.generics.specs.declared.stored.Row.{Row}
use Rattle.spans.specs.declared.Span.{Span}
use Rattle.definitions.specs.Definitions.{Param, Definition, row_kinds_of, definition_at, nothing, parent_rows, whole_rows}
use Rattle.generics.specs.Held.{held, kinds_held}
use Rattle.generics.specs.Lays.{param_of, spelled}
use Rattle.definitions.specs.Rules.{Lawful}
use Rattle.definitions.proofs.Decided.{rightful}

-- no definition has more than 32 rows, so no whole list has more than 64 places
few : (ds : List Definition) → Lawful ds → (d : ℕ) → length (definition_at ds d).rows ≤ 32
few ds ok d = elim (cases_lt d (length ds)) [
  | inl h ↦ (rightful (take d ds) (definition_at ds d) (ok d h)).rows.few
  | inr h ↦ rw (get_or_past ds d nothing h) (omega arith)
]

pub few_own : (cat : Catalogue) (d : ℕ) → length (definition_at (held cat) d).rows ≤ 32
few_own cat d = few (held cat) cat.lawful d

few_parent : (ds : List Definition) → Lawful ds → (p : Option ℕ) → length (parent_rows ds p) ≤ 32
few_parent ds ok None = omega arith
few_parent ds ok (Some p) = few ds ok p

pub few_before : (cat : Catalogue) (d : ℕ) → length (parent_rows (held cat) (definition_at (held cat) d).parent) ≤ 32
few_before cat d = few_parent (held cat) cat.lawful (definition_at (held cat) d).parent

pub whole_long : (ds : List Definition) (d : Definition) → length (whole_rows ds d) ≡ length (parent_rows ds d.parent) + length d.rows
whole_long ds d = length-append (parent_rows ds d.parent) d.rows

-- rows as they are held, and as they are meant
module _ (marks : List Mark) (held : List Row) (rows : List Param) (e : map (param_of marks) held ≡ rows) where
  pub kinds_meant : kinds_held held ≡ row_kinds_of rows
  kinds_meant = let f : Param → RowKind = λ p. p.kind in sym (map-map f (param_of marks) held) ∙ ap row_kinds_of e

  pub long_meant : length held ≡ length rows
  long_meant = sym (length-map held (param_of marks)) ∙ ap length e

pub spelled_some : (marks : List Mark) (s : Option Span) → is_some (spelled marks s) ≡ is_some s
spelled_some marks None = refl
spelled_some marks (Some s) = refl
