use Rattle.std.proofs.Common.{vec_items}
use Rattle.listing.proofs.Walked.{Sofar}
use Rattle.listing.proofs.cutting.cut.Given as goal

abbrev pub invariant-loop-i : goal.invariant-loop-i
invariant-loop-i l = Sofar l.separator l.text (vec_items l.spans) l.from l.scan l.i
