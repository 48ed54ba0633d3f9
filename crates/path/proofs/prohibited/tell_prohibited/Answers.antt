use Rattle.std.proofs.Common.{None, arith}
use Rattle.diagnostics.proofs.Tellings.{told_then}
use Rattle.path.proofs.Modules.{one_more, room_left, before_end, before_next}
use Rattle.path.proofs.prohibited.tell_prohibited.Goals as goal

pub tell_list-requires : goal.tell_list-requires
tell_list-requires g c =
    let left = room_left c.loop-i.i _ _ _ c.loop-i.invariant in
    let there = before_end c.loop-i.i _ _ c.loop-i-test.true in
    omega (arith, left, c.requires.room, there)

pub tell_list-requires-in-Some-Some : goal.tell_list-requires-in-Some-Some
tell_list-requires-in-Some-Some g c =
    let left = room_left c.loop-i.i _ _ _ c.loop-i.invariant in
    let there = before_next c.loop-i.i _ _ c.loop-i.auto.i-end in
    omega (arith, left, c.requires.room, there, c.in-Some-Some.ensures.lookup.3.0)

pub loop-i-preserved : goal.loop-i-preserved
loop-i-preserved g c =
    let more = one_more _ c.loop-i.i (record { args = None }) c.loop-i-test.true in
    rw more (told_then _ _ _ _ _ c.loop-i.invariant c.tell_list.ensures)
