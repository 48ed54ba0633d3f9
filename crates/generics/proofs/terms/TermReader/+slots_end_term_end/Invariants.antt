use Rattle.std.proofs.Common.{◌+◌, ◌-◌, ◌*◌, length}
use Rattle.generics.proofs.terms.TermReader.+slots_end_term_end.Given as goal

-- the marks that are left, twice, and one more for the slots, which may begin with a term at the same mark
abbrev pub decreases-slots_end : goal.decreases-slots_end
decreases-slots_end l = 2 * (length l.marks.now - l.pos) + 1

abbrev pub decreases-term_end : goal.decreases-term_end
decreases-term_end l = 2 * (length l.marks.now - l.pos)
