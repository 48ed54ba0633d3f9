use Rattle.std.proofs.Common.{refl, ap, append-nil, ◌∙◌, rules, tests}
use Rattle.std.proofs.lemmas.Iterator.{YieldsList-from_slice}
use Rattle.std.proofs.lemmas.Iterator.Consumers.{YieldsList-from_enumerate}
use Rattle.std.proofs.lemmas.Iterator.Search.{all_from_yields_List}
use Rattle.generics.specs.Held.{held, row_kinds}
use Rattle.generics.specs.Lays.{params_asked}
use Rattle.definitions.specs.Rules.{defaults_read}
use Rattle.generics.proofs.Walked.{reads_at, all_read}
use Rattle.generics.proofs.catalogue.Catalogue.defaults_are_terms.Goals as goal

pub returns : goal.returns
returns c =
    let rows = c.args.rows.now in
    let ds = held c.args.self.now in
    let ks = row_kinds c.args.parent.now in
    all_from_yields_List (reads_at ds ks rows) _ _ _ c.all.ensures.ran (YieldsList-from_enumerate (YieldsList-from_slice rows cc) (cc)) (λ x b q k. search (rules, tests))
    ∙ all_read ds ks rows 0 rows refl
    ∙ ap (λ zs. defaults_read ds zs (params_asked rows)) (append-nil ks)
