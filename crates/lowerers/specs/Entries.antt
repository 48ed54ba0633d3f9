-- Entries of either lowerer. Assumes nothing.
use Rattle.std.specs.Prelude.{◌≡◌, ℕ, ◌≤◌, Bool, true, false, cond, List, length, None, Option, nat_lt}
use Rattle.definitions.specs.declared.kinds.Kind.{Kind}
use Rattle.definitions.specs.declared.kinds.Mark.{Mark}
use Rattle.definitions.specs.Definitions.{Definition}
use Rattle.lowerer.specs.declared.meaning.Meaning.{Meaning}
use Rattle.lowerer.specs.declared.meaning.ParamPlace.{ParamPlace}
use Rattle.lowerer.specs.declared.meaning.Source.{Source}
use Rattle.lowerer.specs.declared.meaning.Source.TheVariants as source
use Rattle.lowerer.specs.Meanings.{default_for}
use Rattle.pieces.specs.Pieces.{RefsBelow}
use Rattle.lowerers.specs.declared.entries.Made.{Made}

module _ {K : Type 0} where
  abbrev pub meant_by : Made K → Meaning
  meant_by e = e.meaning

  -- nothing is kept of an entry besides its meaning: it has no pieces in any store, no variable and no name
  abbrev pub NothingKept : Made K → Type 0
  NothingKept e = e.kept ≡ None

-- the marks of the default that an inferred entry stands for, with so much stock
abbrev pub default_made : List Definition → ParamPlace → Bool → List Kind → ℕ → Option (List Mark)
default_made ds r infer before stock = cond (nat_lt 0 stock) (default_for ds r infer before) None

-- few marks, all whose refs are to places below n
abbrev pub Reaches : ℕ → List Mark → Type 0
Reaches n ms = (length ms ≤ 32) × RefsBelow n ms

-- unknown entries and those of the parent are open
abbrev pub is_open : Source → Bool
is_open (source.Supplied h) = false
is_open (source.Explicit h) = false
is_open source.Default = false
is_open source.Unknown = true
is_open source.Parent = true
is_open (source.Elided r) = false
