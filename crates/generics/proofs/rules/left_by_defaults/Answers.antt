use Rattle.std.proofs.Common.{◌+◌, drop, sym, ap, ◌∙◌, arith}
use Rattle.std.proofs.lemmas.List.{at_drop_all}
use Rattle.generics.specs.Lays.{params_asked}
use Rattle.definitions.specs.Definitions.{default_marks}
use Rattle.definitions.specs.Rules.{lessen}
use Rattle.generics.proofs.Walked.{marks_more, lessen_all, lessen_more, lessen_none}
use Rattle.generics.proofs.rules.left_by_defaults.Goals as goal

pub returns-in_err-free : goal.returns-in_err-free
returns-in_err-free c =
    let m = marks_more c.args.rows.now c.loop-row.row-index c.loop-row-test.true in
    c.from_residual.ensures ∙ sym (lessen_none _ _ _ (omega (arith, c.in_err-free.ensures))) ∙ ap (λ n. lessen c.loop-row.free n) (ap (λ k. k + default_marks (params_asked (drop (c.loop-row.row-index + 1) c.args.rows.now))) c.marks_in.ensures ∙ sym m) ∙ c.loop-row.invariant

pub loop-row-preserved : goal.loop-row-preserved
loop-row-preserved c =
    let m = marks_more c.args.rows.now c.loop-row.row-index c.loop-row-test.true in
    let rest = default_marks (params_asked (drop (c.loop-row.row-index + 1) c.args.rows.now)) in
    ap (λ n. lessen n rest) c.in_ok-free.ensures.1 ∙ sym (lessen_more _ _ _ c.in_ok-free.ensures.0) ∙ ap (λ n. lessen c.loop-row.free n) (ap (λ k. k + rest) c.marks_in.ensures ∙ sym m) ∙ c.loop-row.invariant

pub returns : goal.returns
returns c = lessen_all c.loop-row.free ∙ sym (ap (λ n. lessen c.loop-row.free n) (at_drop_all (λ xs. default_marks (params_asked xs)) c.args.rows.now c.loop-row.row-index c.loop-row-test.false)) ∙ c.loop-row.invariant
