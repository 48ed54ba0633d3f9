-- What a catalogue holds, by its definitions. Assumes nothing.
use Rattle.std.specs.Prelude.{ℕ, List, ◌++◌, map, vec_items, slice_index_or}
use Rattle.definitions.specs.declared.kinds.Kind.{Kind}
use Rattle.definitions.specs.declared.kinds.GenericParam.{GenericParam}
use Rattle.definitions.specs.declared.kinds.RowKind.{RowKind}
use Rattle.generics.specs.declared.stored.Row.{Row}
use Rattle.generics.specs.declared.stored.Def.{Def}
use Rattle.generics.specs.declared.catalogue.Catalogue.{Catalogue}
use Rattle.generics.specs.declared.terms.Scope.{Scope}
use Rattle.generics.specs.declared.terms.TermReader.{TermReader}
use Rattle.definitions.specs.declared.kinds.Mark.{Mark}
use Rattle.definitions.specs.Terms.{Term, Slots}
use Rattle.definitions.specs.Definitions.{Definition, kind_of}
use Rattle.spans.specs.Parts.{part}
use Rattle.generics.specs.Lays.{definitions, no_def}

-- the definitions that were declared, in order: a definition's number is its position
abbrev pub held : Catalogue → List Definition
held cat = definitions (vec_items cat.defs) (vec_items cat.rows) (vec_items cat.marks)

abbrev pub def_at : Catalogue → ℕ → Def
def_at cat d = slice_index_or (vec_items cat.defs) d no_def

abbrev pub rows_at : Catalogue → ℕ → List Row
rows_at cat d = part (vec_items cat.rows) (def_at cat d).rows

abbrev pub kinds_held : List Row → List RowKind
kinds_held rows = map (λ (r : Row). r.kind) rows

abbrev pub row_kinds : List Row → List Kind
row_kinds rows = map (λ (r : Row). kind_of r.kind) rows

abbrev pub asked_kinds : List GenericParam → List Kind
asked_kinds gs = map (λ (g : GenericParam). kind_of g.kind) gs

-- the kinds of the places that a term may refer to
abbrev pub scope_kinds : Scope → List Kind
scope_kinds s = row_kinds s.parent.now ++ asked_kinds s.own.now

-- the marks from p up to e are one term of the kind, over what the reader knows; and one term for each of the kinds
abbrev pub TermBy : TermReader → List Mark → ℕ → ℕ → Kind → Type 0
TermBy r ms p e k = Term (held r.cat.now) (scope_kinds r.scope) ms p e k

abbrev pub SlotsBy : TermReader → List Mark → ℕ → ℕ → List Kind → Type 0
SlotsBy r ms p e ks = Slots (held r.cat.now) (scope_kinds r.scope) ms p e ks
