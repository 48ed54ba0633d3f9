use Rattle.std.proofs.Common.{◌++◌, vec_items, refl, ap, ◌∙◌, arith}
use Rattle.std.proofs.lemmas.List.{take_all}
use Rattle.definitions.specs.declared.kinds.Mark.TheVariants.{Ref}
use Rattle.generics.proofs.Grown.{push_on}
use Rattle.generics.proofs.lay.lay_marks.Goals as goal

pub loop-mark-preserved : goal.loop-mark-preserved
loop-mark-preserved c = (
  push_on _ _ _ c.args.new.now c.loop-mark.mark-index (Ref 0) c.loop-mark-test.true c.loop-mark.invariant.0 c.push_reserved.ensures.items,
  c.push_reserved.ensures.capacity ∙ c.loop-mark.invariant.1,
  omega (arith, c.push_reserved.ensures.len, c.loop-mark.invariant.2),
)

pub returns : goal.returns
returns c =
    record {
      items = c.loop-mark.invariant.0 ∙ ap (λ l. vec_items c.args.marks.now ++ l) (take_all c.loop-mark.mark-index c.args.new.now c.loop-mark-test.false);
      capacity = c.loop-mark.invariant.1;
      from = c.len-from.ensures;
      size = refl;
      len = omega (arith, c.loop-mark.invariant.2);
    }
