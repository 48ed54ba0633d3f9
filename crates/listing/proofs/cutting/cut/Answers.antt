use Rattle.std.proofs.Common.{◌≡◌, length, get_or, vec_items, Some, None, Ok, Option, sym, ap, ◌∙◌, arith}
use Rattle.std.specs.Option.{ok_or}
use Rattle.listing.specs.Nesting.{after}
use Rattle.listing.proofs.Scans.{shallow}
use Rattle.listing.proofs.Walked.{renamed, split, goes_on, finished, finished_at}
use Rattle.listing.proofs.cutting.cut.Goals as goal
use Rattle.listing.proofs.cutting.cut.Goals.{then-is_split+in_ok-push, else-is_split+in_ok-scan}

-- where `ok_or` gives an `Ok`
some_from_ok : {A E : Type 0} (o : Option A) (e : E) (x : A) → ok_or o e ≡ Ok x → o ≡ Some x
some_from_ok None e x p = cc
some_from_ok (Some y) e x p = cc

pub loop-i-preserved : goal.loop-i-preserved
loop-i-preserved c =
    elim c.if-is_split.branch [
      | then-is_split+in_ok-push w ↦
          renamed _ _ _ _ _ _ _ _ _ (ap vec_items w.spans-is ∙ w.in_ok-push.ensures.items) w.from-is (w.scan-is ∙ w.start-scan-then-is_split.ensures)
          (split _ _ _ _ _ _ c.loop-i.invariant c.loop-i-test.true (sym w.if-is_split.ensures))
      | else-is_split+in_ok-scan w ↦
          let next : after c.loop-i.scan (get_or c.args.text.now c.loop-i.i 0) ≡ Some w.in_ok-scan.scan = sym w.after.ensures ∙ some_from_ok _ _ _ (sym w.in_ok-scan.ensures.value) in
          let low = shallow _ _ _ next in
          let before = c.loop-i.invariant.shallow in
          renamed _ _ _ _ _ _ _ _ _ (ap vec_items w.spans-is) w.from-is w.scan-is
          (goes_on _ _ _ _ _ _ c.loop-i.invariant c.loop-i-test.true _ (sym w.if-is_split.ensures) next (omega arith))
    ]

pub returns : goal.returns
returns c =
    let e : c.loop-i.i ≡ length c.args.text.now = omega arith in
    let h = finished _ _ _ _ _ _ c.loop-i.invariant (omega arith) (sym c.if-not-closed.ensures) in
    let all = finished_at _ _ _ _ _ _ _ e c.in_ok-push-2.ensures.items h in
    record { pieces = (all.0, all.1); places = all.3; number = c.push-2.new.self.ok.0 ∙ all.2 }
