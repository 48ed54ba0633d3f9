-- What the catalogue's lists hold: the definitions that its parts spell. Assumes nothing.
use Rattle.std.specs.Prelude.{◌≡◌, ℕ, ◌<◌, ◌≤◌, List, map, length, Some, None, Option, slice_index_or}
use Rattle.std.specs.Option.{option_map}
use Rattle.definitions.specs.declared.kinds.Mark.{Mark}
use Rattle.definitions.specs.declared.kinds.GenericParam.{GenericParam}
use Rattle.definitions.specs.declared.kinds.Declaration.{Declaration}
use Rattle.definitions.specs.declared.kinds.RowKind.TheVariants.{TraitSelf}
use Rattle.definitions.specs.declared.kinds.GenericDefKind.TheVariants.{Function}
use Rattle.spans.specs.declared.Span.{Span}
use Rattle.spans.specs.Parts.{part, past}
use Rattle.generics.specs.declared.stored.Row.{Row}
use Rattle.generics.specs.declared.stored.Def.{Def}
use Rattle.definitions.specs.Definitions.{Param, Definition, row_total, mark_total}

abbrev pub spelled : List Mark → Option Span → Option (List Mark)
spelled marks None = None
spelled marks (Some s) = Some (part marks s)

abbrev pub param_of : List Mark → Row → Param
param_of marks r = record { kind = r.kind; default = spelled marks r.default }

abbrev pub definition_of : List Row → List Mark → Def → Definition
definition_of rows marks d =
    record {
      kind = d.kind;
      parent = d.parent;
      rows = map (param_of marks) (part rows d.rows);
      body = spelled marks d.body;
    }

-- the definitions of a catalogue, in the order in which they were declared
abbrev pub definitions : List Def → List Row → List Mark → List Definition
definitions defs rows marks = map (definition_of rows marks) defs

abbrev pub no_row : Row
no_row = record { kind = TraitSelf; default = None }

abbrev pub no_def : Def
no_def = record { kind = Function; parent = None; rows = record { from = 0; len = 0 }; body = None }

-- where a part of the marks ends
abbrev pub end_of : Option Span → ℕ
end_of None = 0
end_of (Some s) = past s

-- each row's default is a part of the marks
abbrev pub Spelled : List Mark → List Row → Type 0
Spelled marks rows = (i : ℕ) → i < length rows → end_of (slice_index_or rows i no_row).default ≤ length marks

-- the parts lie within the lists
abbrev pub Within : List Def → List Row → List Mark → Type 0
Within defs rows marks =
    ((i : ℕ) → i < length defs → past (slice_index_or defs i no_def).rows ≤ length rows)
    × ((i : ℕ) → i < length defs → end_of (slice_index_or defs i no_def).body ≤ length marks)
    × Spelled marks rows

-- every row and every mark that is held belongs to a definition
abbrev pub Counted : List Def → List Row → List Mark → Type 0
Counted defs rows marks = (row_total (definitions defs rows marks) ≡ length rows) × (mark_total (definitions defs rows marks) ≡ length marks)

-- a declaration, as the definition that it asks for
abbrev pub param_asked : GenericParam → Param
param_asked g = record { kind = g.kind; default = option_map (λ x. x.now) g.default }

abbrev pub params_asked : List GenericParam → List Param
params_asked gs = map param_asked gs

abbrev pub asked : Declaration → Definition
asked d = record { kind = d.kind; parent = d.parent; rows = params_asked d.rows.now; body = option_map (λ x. x.now) d.body }
