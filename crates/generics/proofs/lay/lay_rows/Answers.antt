use Rattle.std.proofs.Common.{vec_len, ◌∙◌, arith}
use Rattle.std.proofs.lemmas.List.{at_drop_all}
use Rattle.definitions.specs.Definitions.{default_marks}
use Rattle.generics.specs.Lays.{params_asked}
use Rattle.generics.proofs.Grown.{rows_on, marks_on, rows_all, marks_all}
use Rattle.generics.proofs.Walked.{marks_more}
use Rattle.generics.proofs.lay.lay_rows.Goals as goal

pub lay_term-default-requires : goal.lay_term-default-requires
lay_term-default-requires c =
    let m = marks_more c.args.new.now c.loop-row.row-index c.loop-row-test.true in
    omega (arith, c.loop-row.invariant.3, c.loop-row.invariant.5, c.requires.marks)

pub loop-row-preserved : goal.loop-row-preserved
loop-row-preserved c =
    let new = c.args.new.now in
    let i = c.loop-row.row-index in
    let h = c.loop-row-test.true in
    let m = marks_more new i h in
    let next = c.lay_term-default.ensures.len in (
      rows_on new i h _ _ _ (vec_len c.loop-row.marks) (vec_len c.lay_term-default.new.marks) _ c.lay_term-default.ensures.span next c.push_reserved.ensures.items c.loop-row.invariant.0,
      marks_on new i h _ _ _ c.lay_term-default.ensures.items c.loop-row.invariant.1,
      c.push_reserved.ensures.capacity ∙ c.loop-row.invariant.2,
      c.lay_term-default.ensures.capacity ∙ c.loop-row.invariant.3,
      omega (arith, c.push_reserved.ensures.len, c.loop-row.invariant.4),
      omega (arith, c.loop-row.invariant.5),
    )

pub returns : goal.returns
returns c =
    let new = c.args.new.now in
    let i = c.loop-row.row-index in
    let h = c.loop-row-test.false in
    record {
      rows = rows_all new i h _ _ (vec_len c.loop-row.marks) c.loop-row.invariant.0;
      marks = marks_all new i h _ _ c.loop-row.invariant.1;
      marks_len = let e = at_drop_all (λ xs. default_marks (params_asked xs)) new i h in omega (arith, c.loop-row.invariant.5);
      rows_capacity = c.loop-row.invariant.2;
      marks_capacity = c.loop-row.invariant.3;
    }
