use Rattle.std.proofs.Common.{get_or, sym, arith}
use Rattle.listing.proofs.Paths.{deeper, on}
use Rattle.listing.proofs.shapes.is_path.Goals as goal

pub loop-byte-preserved : goal.loop-byte-preserved
loop-byte-preserved c =
    let h = deeper c.loop-byte.place (get_or c.args.text.now c.loop-byte.byte-index 0) c.in-Some.next (sym c.in-Some.ensures) in
    let before = c.loop-byte.invariant.0 in
    (omega arith, on _ _ _ c.loop-byte.invariant.1 _ c.loop-byte-test.true (sym c.in-Some.ensures))
