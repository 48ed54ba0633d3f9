use Rattle.std.proofs.Common.{refl, ap, ◌∙◌, arith, ◌++◌}
use Rattle.std.proofs.lemmas.List.{take_all}
use Rattle.pieces.specs.Pieces.{spelled_with}
use Rattle.lowerers.specs.Stores.{written}
use Rattle.lowerers.proofs.Stored.{wrote}
use Rattle.lowerers.proofs.terms.makes.TermsMakes.default_entry.Goals as goal

pub returns-clause-infers : goal.returns-clause-infers
returns-clause-infers c =
    let s = c.args.self.now in
    let entries = c.args.entries.now in
    let ms = c.args.marks.now in
    let all = take_all c.loop-mark.mark-index ms c.loop-mark-test.false in
    wrote s c.loop-mark.self _ entries ms (c.loop-mark.invariant.0 ∙ ap (λ ys. written s ++ spelled_with entries ys) all) (omega (arith, c.loop-mark.invariant.1, c.loop-mark-test.false, c.loop-mark.auto.mark-index-end)) c.loop-mark.invariant.2 refl c.requires.marks.1
