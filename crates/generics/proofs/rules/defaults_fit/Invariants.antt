use Rattle.std.proofs.Common.{◌≡◌, false, drop}
use Rattle.generics.specs.Lays.{params_asked}
use Rattle.definitions.specs.Rules.{defaults_right}
use Rattle.generics.proofs.rules.defaults_fit.Given as goal

abbrev pub invariant-loop-row : goal.invariant-loop-row
invariant-loop-row l = defaults_right l.seen (params_asked (drop l.row-index l.rows)) ≡ defaults_right false (params_asked l.rows)
