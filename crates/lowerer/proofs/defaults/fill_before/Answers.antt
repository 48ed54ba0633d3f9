use Rattle.std.proofs.Common.{◌≡◌, false, nat_eq, length, sym, ap, ◌∙◌, arith, rules}
use Rattle.definitions.specs.Definitions.{definition_at, whole_rows}
use Rattle.generics.specs.Held.{held}
use Rattle.places.specs.Views.{among, meant}
use Rattle.lowerer.proofs.Filled.{shown_rows, unfilled}
use Rattle.lowerer.proofs.defaults.fill_before.Goals as goal

pub returns-else-preceding-min : goal.returns-else-preceding-min
returns-else-preceding-min g c =
    let ds = held c.args.cat.now in
    let rows = whole_rows ds (definition_at ds c.args.row.def) in
    let v = c.of-generics.result in
    let n : length (whole_rows (among v) (meant v)) ≡ length rows = ap length (shown_rows v c.args.cat.now c.args.row.def c.of-generics.ensures.catalogue c.of-generics.ensures.definition) in
    let no : nat_eq (length c.args.preceding.now) c.min.result ≡ false = search rules in
    no ∙ sym (unfilled g.E.Entry.means c.args.preceding.now rows c.args.row.place (λ e. c.if-preceding-min.false (omega (arith, n, c.min.ensures, c.len.ensures))))
