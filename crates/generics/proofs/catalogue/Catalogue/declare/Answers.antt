use Rattle.std.proofs.Common.{◌≡◌, Bool, true, false, Decides, sym, rules}
use Rattle.std.proofs.lemmas.Bool.{both_ways}
use Rattle.generics.specs.Held.{held}
use Rattle.generics.specs.Lays.{asked}
use Rattle.definitions.proofs.Decided.{tests_decide}
use Rattle.generics.proofs.catalogue.Catalogue.declare.Goals as goal

-- what a test that held, or failed, says
holds : {P : Type 0} (b : Bool) → true ≡ b → Decides b P → P
holds b e d = d.0 (sym e)

fails : {P : Type 0} (b : Bool) → false ≡ b → Decides b P → P → ⊥
fails b e d p = both_ways b (sym e) (d.1 p)

pub returns-then-not-parent_fits : goal.returns-then-not-parent_fits
returns-then-not-parent_fits c =
    let t = tests_decide (held c.args.self.now) (asked c.args.d) in
    record { answered = search rules; ruled = fails _ c.if-not-parent_fits.ensures t.parents; left = search rules }

pub returns-then-not-rows_fit : goal.returns-then-not-rows_fit
returns-then-not-rows_fit c =
    let t = tests_decide (held c.args.self.now) (asked c.args.d) in
    record { answered = search rules; ruled = (holds _ c.if-not-parent_fits.ensures t.parents, fails _ c.if-not-rows_fit.ensures t.rows); left = search rules }

pub returns-then-not-defaults_fit : goal.returns-then-not-defaults_fit
returns-then-not-defaults_fit c =
    let t = tests_decide (held c.args.self.now) (asked c.args.d) in
    record { answered = search rules; ruled = (holds _ c.if-not-parent_fits.ensures t.parents, holds _ c.if-not-rows_fit.ensures t.rows, fails _ c.if-not-defaults_fit.ensures t.defaults); left = search rules }

pub returns-then-not-terms_fit : goal.returns-then-not-terms_fit
returns-then-not-terms_fit c =
    let t = tests_decide (held c.args.self.now) (asked c.args.d) in
    record { answered = search rules; ruled = (holds _ c.if-not-parent_fits.ensures t.parents, holds _ c.if-not-rows_fit.ensures t.rows, holds _ c.if-not-defaults_fit.ensures t.defaults, fails _ c.if-not-terms_fit.ensures t.terms); left = search rules }

pub returns-then-not-has_room : goal.returns-then-not-has_room
returns-then-not-has_room c =
    let t = tests_decide (held c.args.self.now) (asked c.args.d) in
    record { answered = search rules; ruled = (holds _ c.if-not-parent_fits.ensures t.parents, holds _ c.if-not-rows_fit.ensures t.rows, holds _ c.if-not-defaults_fit.ensures t.defaults, holds _ c.if-not-terms_fit.ensures t.terms, fails _ c.if-not-has_room.ensures t.room); left = search rules }

pub returns : goal.returns
returns c =
    let t = tests_decide (held c.args.self.now) (asked c.args.d) in
    record { answered = search rules; ruled = (holds _ c.if-not-parent_fits.ensures t.parents, holds _ c.if-not-rows_fit.ensures t.rows, holds _ c.if-not-defaults_fit.ensures t.defaults, holds _ c.if-not-terms_fit.ensures t.terms, holds _ c.if-not-has_room.ensures t.room); left = search rules }
