use Rattle.std.proofs.Common.{◌≡◌, ◌+◌, ◌++◌, length, take}
use Rattle.pieces.specs.Pieces.{spelled_with}
use Rattle.lowerers.specs.Stores.{written}
use Rattle.lowerers.proofs.terms.makes.TermsMakes.default_entry.Given as goal

-- the pieces of the first marks stand behind what was written before
abbrev pub invariant-loop-mark : goal.invariant-loop-mark
invariant-loop-mark l = (written l.self ≡ written l.initial.self ++ spelled_with l.entries (take l.mark-index l.marks)) × (l.self.used ≡ l.initial.self.used + l.mark-index) × (length l.self.store.now ≡ length l.initial.self.store.now)
