use Rattle.std.proofs.Common.{◌≡◌, ◌≤◌, length, map, take, vec_items, vec_len}
use Rattle.generics.specs.Held.{held}
use Rattle.nothing_written.specs.Unwritten.{rows_of, unwritten_list, SpentAtMost}
use Rattle.nothing_written.proofs.entries_of.Given as goal

-- one entry for each place so far, each as if nothing were written for it where the stock was enough
abbrev pub invariant-loop-place : goal.invariant-loop-place
invariant-loop-place g l = record {
  many : vec_len l.entries ≡ l.place;
  within : l.place ≤ length (rows_of (held l.cat) l.def);
  spent : SpentAtMost l.place (g.L.ReportList.view l.fn.lowerer) (g.L.ReportList.view l.lowerer);
  unwritten : length (rows_of (held l.cat) l.def) ≤ (g.L.ReportList.view l.fn.lowerer).stock → map g.L.GenericArgsLowerer.meaning (vec_items l.entries) ≡ unwritten_list (take l.place (rows_of (held l.cat) l.def));
}
