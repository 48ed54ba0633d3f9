-- What the term lowerer shows, and which pieces an entry has. Assumes nothing.
use Rattle.std.specs.Prelude.{◌≡◌, ℕ, ◌+◌, ◌-◌, ◌/◌, ◌≤◌, min, cond, List, length, take, IfSome, Some, None, Option, nat_le}
use Rattle.std.specs.Option.{option_map}
use Rattle.definitions.specs.declared.kinds.Mark.{Mark}
use Rattle.definitions.specs.Definitions.{marks_in}
use Rattle.diagnostics.specs.Lists.{own_view}
use Rattle.diagnostics.specs.Tells.{View}
use Rattle.pieces.specs.declared.Piece.{Piece}
use Rattle.pieces.specs.Pieces.{spelled_with, NoRef}
use Rattle.spans.specs.declared.Span.{Span}
use Rattle.spans.specs.Parts.{part}
use Rattle.lowerers.specs.declared.lowering.Lowering.{Lowering}
use Rattle.lowerers.specs.declared.entries.Made.{Made}
use Rattle.lowerers.specs.declared.terms.Terms.{Terms}
use Rattle.lowerers.specs.Entries.{NothingKept}
use Rattle.lowerers.specs.Shown.{with_stock}

-- the free places of a store: at most 65,536 places are used
abbrev pub places_left : ℕ → ℕ → ℕ
places_left size used = min size 65536 - used

-- the stock is the free places divided by 32, the most that a default takes
abbrev pub term_view : Lowering Terms → View
term_view s = with_stock (own_view s.reports) (places_left (length s.makes.store.now) s.makes.used / 32)

-- an entry of the term lowerer
abbrev pub TermArg : Type 0
TermArg = Made Span

-- what was written into the store
abbrev pub written : Terms → List (Piece TermArg)
written s = take s.used s.store.now

-- a part of a list, if the list is so long
abbrev pub part_of : List (Piece TermArg) → Option Span → Option (List (Piece TermArg))
part_of ps None = None
part_of ps (Some p) = cond (nat_le (p.from + p.len) (length ps)) (Some (part ps p)) None

-- the pieces of an entry, if it has any
abbrev pub written_in : Terms → TermArg → Option (List (Piece TermArg))
written_in s e = part_of (written s) e.kept

-- the pieces of every entry stay as they are, the store as large as it is, and no more than 65,536 of its places are
-- used, as in every store (a ghost field of `Terms`)
pub record Keeps (s t : Terms) : Type 0 where
  pub pieces : (e : TermArg) (ps : List (Piece TermArg)) → written_in s e ≡ Some ps → written_in t e ≡ Some ps
  pub size : length t.store.now ≡ length s.store.now
  pub within : t.used ≤ min (length t.store.now) 65536

-- what inferred does with the store for the marks of a default, if it stands for one: they are written out with entry p
-- for ref p, no ref is left, and each piece takes one place; an entry that stands for none never has pieces
pub record Writing (o : Option (List Mark)) (entries : List TermArg) (s t : Terms) (e : TermArg) : Type 0 where
  pub pieces : written_in t e ≡ option_map (spelled_with entries) o
  pub plain : o ≡ None → NothingKept e
  pub whole : IfSome (written_in t e) NoRef
  pub places : t.used ≡ s.used + marks_in o
  pub keeps : Keeps s t
