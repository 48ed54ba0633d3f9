-- How rows and marks are laid one behind another in the catalogue's lists. Assumes nothing.
use Rattle.std.specs.Prelude.{ℕ, ◌+◌, List, [], ◌∷◌, ◌++◌, length, Some, None, Option}
use Rattle.definitions.specs.declared.kinds.Mark.{Mark}
use Rattle.spans.specs.declared.Span.{Span}
use Rattle.generics.specs.declared.stored.Row.{Row}
use Rattle.definitions.specs.Definitions.{Param, marks_in}

-- the marks of a default or a body, none where there is none
abbrev pub marks_of : Option (List Mark) → List Mark
marks_of None = []
marks_of (Some ms) = ms

-- the part that marks take from a position on
abbrev pub span_at : ℕ → Option (List Mark) → Option Span
span_at at None = None
span_at at (Some ms) = Some (record { from = at; len = length ms })

-- rows whose defaults lie one behind another from a position on
abbrev pub laid : ℕ → List Param → List Row
laid at [] = []
laid at (p ∷ ps) = record { kind = p.kind; default = span_at at p.default } ∷ laid (at + marks_in p.default) ps

-- the marks of all defaults, one behind another
abbrev pub flat : List Param → List Mark
flat [] = []
flat (p ∷ ps) = marks_of p.default ++ flat ps
