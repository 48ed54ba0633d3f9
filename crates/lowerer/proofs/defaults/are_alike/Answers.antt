use Rattle.std.proofs.Common.{ℕ, Option, ◌∙◌, zero-add, ap, rules, tests}
use Rattle.std.specs.Option.{option_map}
use Rattle.std.proofs.lemmas.Iterator.{YieldsList-from_slice}
use Rattle.std.proofs.lemmas.Iterator.Consumers.{YieldsList-from_enumerate}
use Rattle.std.proofs.lemmas.Iterator.Search.{all_from_yields_List}
use Rattle.definitions.specs.declared.kinds.Kind.{Kind}
use Rattle.definitions.specs.Definitions.{Param, kind_of, whole_rows}
use Rattle.std.specs.List.{slice_get}
use Rattle.places.specs.Views.{among, meant}
use Rattle.lowerer.proofs.Filled.{is_alike, all_alike}
use Rattle.lowerer.proofs.defaults.are_alike.Goals as goal

pub returns : goal.returns
returns g c =
    let xs = c.args.entries.now in
    let rows = whole_rows (among c.args.generics) (meant c.args.generics) in
    let kind_at : ℕ → Option Kind = λ i. option_map (λ (r : Param). kind_of r.kind) (slice_get rows i) in
    all_from_yields_List (is_alike g.E.Entry.means kind_at) _ _ _ c.all.ensures.ran (YieldsList-from_enumerate (YieldsList-from_slice xs cc) (cc)) (λ x b q k. search (rules, tests))
    ∙ all_alike g.E.Entry.means kind_at 0 xs rows (λ i. ap kind_at (zero-add i))
