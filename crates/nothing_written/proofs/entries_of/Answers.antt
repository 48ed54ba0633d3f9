use Rattle.std.proofs.Common.{◌<◌, false, length, map, ap, ◌∙◌, arith, rules, vec_items}
use Rattle.generics.specs.Held.{held}
use Rattle.lowerer.specs.declared.meaning.ParamPlace.{ParamPlace}
use Rattle.lowerer.specs.Meanings.{inferred_as, kinds_by}
use Rattle.nothing_written.specs.Unwritten.{rows_of}
use Rattle.nothing_written.proofs.Unwriting.{one_more}
use Rattle.nothing_written.proofs.entries_of.Goals as goal

pub loop-place-preserved : goal.loop-place-preserved
loop-place-preserved g c =
    let ds = held c.args.cat.now in
    let more : c.loop-place.place < length (rows_of ds c.args.def) = search rules in
    let spent = c.inferred_kind-entry.ensures.state in
    let so_far = c.loop-place.invariant.spent in
    let row : ParamPlace = record { def = c.args.def; place = c.loop-place.place } in
    let m = g.L.GenericArgsLowerer.meaning in
    let stock = (g.L.ReportList.view c.loop-place.lowerer).stock in
    record {
      many = search rules;
      within = omega arith;
      spent = record {
        told = spent.told ∙ so_far.told;
        room = spent.room ∙ so_far.room;
        most = grind (arith, spent.stock, so_far.most);
        least = grind (arith, spent.stock, so_far.least);
      };
      unwritten = λ enough. ap (map m) c.in_ok-push.ensures.items ∙ one_more m ds row (vec_items c.loop-place.entries) c.inferred_kind-entry.result stock more (omega (arith, enough, more, so_far.least)) (c.loop-place.invariant.unwritten enough) (c.inferred_kind-entry.ensures.entry ∙ ap (λ xs. inferred_as ds row false (kinds_by m xs) stock) c.as_slice.ensures.value);
    }
