use Rattle.std.proofs.Common.{rules}
use Rattle.generics.specs.Held.{held}
use Rattle.lowerers.specs.Entries.{meant_by}
use Rattle.lowerers.proofs.Reaching.{entries_reached}
use Rattle.lowerers.proofs.makes.LoweringGenericArgsLowerer.inferred_kind.Goals as goal

pub default_entry-requires-clause-marks : goal.default_entry-requires-clause-marks
default_entry-requires-clause-marks g c = entries_reached (held c.args.cat.now) c.args.cat.now.lawful meant_by c.args.preceding.now c.args.row c.args.infer c.in-Some.marks.now (search rules)
