-- What a view of a definition's parameters speaks of. Assumes nothing.
use Rattle.std.specs.Prelude.{List}
use Rattle.definitions.specs.Definitions.{Definition, definition_at}
use Rattle.generics.specs.Held.{held}
use Rattle.places.specs.declared.view.Generics.{Generics}

-- the definitions of the catalogue
abbrev pub among : Generics → List Definition
among g = held g.cat.now

-- the definition that the number names; what is not declared is a function without rows
abbrev pub meant : Generics → Definition
meant g = definition_at (among g) g.def
