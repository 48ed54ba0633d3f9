use Rattle.std.proofs.Common.{◌&&◌, sym, refl, ap, ◌∙◌}
use Rattle.generics.specs.Held.{held, row_kinds, scope_kinds}
use Rattle.generics.specs.Lays.{asked}
use Rattle.definitions.specs.Rules.{body_reads}
use Rattle.generics.proofs.Walked.{terms_by}
use Rattle.generics.proofs.catalogue.Catalogue.terms_fit.Goals as goal

pub returns-then-defaults_are_terms : goal.returns-then-defaults_are_terms
returns-then-defaults_are_terms c =
    let ds = held c.args.self.now in
    let d = asked c.args.d in
    let own = c.args.d.rows.now in
    let ks = row_kinds c.parent_rows-parent.result.now in
    c.body_fits.ensures ∙ ap (λ b. b && body_reads ds (scope_kinds (record { parent = c.parent_rows-parent.result; own = c.args.d.rows })) d.kind d.body) c.if-defaults_are_terms.ensures ∙ sym (terms_by ds d own ks refl c.parent_rows-parent.ensures.kinds)
