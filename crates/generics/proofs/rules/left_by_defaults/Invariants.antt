use Rattle.std.proofs.Common.{◌≡◌, drop}
use Rattle.definitions.specs.Definitions.{default_marks}
use Rattle.generics.specs.Lays.{params_asked}
use Rattle.definitions.specs.Rules.{lessen}
use Rattle.generics.proofs.rules.left_by_defaults.Given as goal

abbrev pub invariant-loop-row : goal.invariant-loop-row
invariant-loop-row l = lessen l.free (default_marks (params_asked (drop l.row-index l.rows))) ≡ lessen l.left (default_marks (params_asked l.rows))
