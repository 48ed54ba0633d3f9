-- What is found at a position of the catalogue's lists. Assumes nothing.
use Rattle.std.proofs.Common.{◌≡◌, ℕ, List, length, get_or, sym, ap, ◌∙◌, inl, inr, arith}
use mathlib.Core.List.{map-map}
use lib.ListN.{length-map}
use Rattle.std.proofs.lemmas.List.{get_or-map, get_or_past}
use Rattle.std.proofs.lemmas.Bool.{cases_lt}
use Rattle.definitions.specs.declared.kinds.Kind.{Kind}
use Rattle.definitions.specs.declared.kinds.Mark.{Mark}
use Rattle.spans.specs.Parts.{part}
use Rattle.generics.specs.declared.stored.Row.{Row}
use Rattle.generics.specs.declared.stored.Def.{Def}
use Rattle.definitions.specs.Definitions.{Param, Definition, definition_at, nothing, kind_of, kinds_of}
use Rattle.generics.specs.Lays.{param_of, definition_of, definitions, no_def}
use Rattle.generics.specs.Held.{row_kinds}

module _ (defs : List Def) (rows : List Row) (marks : List Mark) where
  -- the definition that a number names, declared or not
  pub defs_at : (d : ℕ) → definition_at (definitions defs rows marks) d ≡ definition_of rows marks (get_or defs d no_def)
  defs_at d = elim (cases_lt d (length defs)) [
    | inl h ↦ get_or-map (definition_of rows marks) defs d no_def nothing h
    | inr h ↦ get_or_past (definitions defs rows marks) d nothing (let l = length-map defs (definition_of rows marks) in omega arith) ∙ ap (definition_of rows marks) (sym (get_or_past defs d no_def h))
  ]

  pub kinds_at : (d : ℕ) → row_kinds (part rows (get_or defs d no_def).rows) ≡ kinds_of (definition_at (definitions defs rows marks) d).rows
  kinds_at d =
      let f : Param → Kind = λ p. kind_of p.kind in
      sym (map-map f (param_of marks) (part rows (get_or defs d no_def).rows)) ∙ ap (λ (x : Definition). kinds_of x.rows) (sym (defs_at d))
