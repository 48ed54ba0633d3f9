-- The pieces of a term over a list of entries. Assumes nothing.
use Rattle.std.specs.Prelude.{ℕ, ◌<◌, List, [], ◌∷◌, map, Some, None, Option}
use Rattle.std.specs.List.{slice_get}
use Rattle.definitions.specs.declared.kinds.Mark.{Mark}
use Rattle.definitions.specs.declared.kinds.Mark.TheVariants.{Ref, Head, Base, Value, Region}
use Rattle.pieces.specs.declared.Piece.{Piece}
use Rattle.pieces.specs.declared.Piece.TheVariants as piece

-- a mark that is no ref, or a ref to a place below n
abbrev pub RefBelow : ℕ → Mark → Type 0
RefBelow n (Ref p) = p < n
RefBelow n (Head d) = Unit {0}
RefBelow n (Base b) = Unit {0}
RefBelow n (Value v) = Unit {0}
RefBelow n (Region r) = Unit {0}

-- every ref among the marks is to a place below n
abbrev pub RefsBelow : ℕ → List Mark → Type 0
RefsBelow n [] = Unit {0}
RefsBelow n (m ∷ ms) = RefBelow n m × RefsBelow n ms

module _ {A : Type 0} where
  -- an entry, or the mark where there is none
  abbrev pub entry_or : Option A → Mark → Piece A
  entry_or None m = piece.Mark m
  entry_or (Some a) m = piece.Entry a

  -- entry p for ref p, and every other mark as it is
  abbrev pub piece_with : List A → Mark → Piece A
  piece_with entries (Ref p) = entry_or (slice_get entries p) (Ref p)
  piece_with entries (Head d) = piece.Mark (Head d)
  piece_with entries (Base n) = piece.Mark (Base n)
  piece_with entries (Value v) = piece.Mark (Value v)
  piece_with entries (Region n) = piece.Mark (Region n)

  abbrev pub spelled_with : List A → List Mark → List (Piece A)
  spelled_with entries ms = map (piece_with entries) ms

  -- a piece that is no ref
  abbrev pub IsNoRef : Piece A → Type 0
  IsNoRef (piece.Mark (Ref p)) = ⊥
  IsNoRef (piece.Mark (Head d)) = Unit {0}
  IsNoRef (piece.Mark (Base n)) = Unit {0}
  IsNoRef (piece.Mark (Value v)) = Unit {0}
  IsNoRef (piece.Mark (Region n)) = Unit {0}
  IsNoRef (piece.Entry a) = Unit {0}

  -- no piece is a ref
  abbrev pub NoRef : List (Piece A) → Type 0
  NoRef [] = Unit {0}
  NoRef (p ∷ ps) = IsNoRef p × NoRef ps
