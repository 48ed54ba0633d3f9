-- What the rows of a definition are if nothing is written for them. Assumes nothing.
use Rattle.std.specs.Prelude.{◌≡◌, ℕ, ◌+◌, ◌≤◌, List, map}
use Rattle.definitions.specs.Definitions.{Param, Definition, definition_at, whole_rows}
use Rattle.diagnostics.specs.Tells.{View}
use Rattle.lowerer.specs.declared.meaning.Meaning.{Meaning}
use Rattle.lowerer.specs.Meanings.{unwritten_as}

-- the whole list of the definition with this number
abbrev pub rows_of : List Definition → ℕ → List Param
rows_of ds d = whole_rows ds (definition_at ds d)

-- every row of a list made by inferred, one after another
abbrev pub unwritten_list : List Param → List Meaning
unwritten_list rows = map unwritten_as rows

-- reports and room are as they were, and the stock is lower by n at most
pub record SpentAtMost (n : ℕ) (v w : View) : Type 0 where
  pub told : w.told ≡ v.told
  pub room : w.room ≡ v.room
  pub most : w.stock ≤ v.stock
  pub least : v.stock ≤ w.stock + n
