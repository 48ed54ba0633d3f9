use Rattle.std.proofs.Common.{take}
use Rattle.diagnostics.specs.Tells.{ToldAll}
use Rattle.path.specs.Prohibits.{reports_on}
use Rattle.path.proofs.prohibited.tell_prohibited.Given as goal

abbrev pub invariant-loop-i : goal.invariant-loop-i
invariant-loop-i g l = ToldAll (reports_on 0 (take l.i l.module-items)) (g.R.ReportList.view l.initial.reports) (g.R.ReportList.view l.reports)
