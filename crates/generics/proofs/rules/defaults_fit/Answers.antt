use Rattle.std.proofs.Common.{◌≡◌, ◌+◌, ◌||◌, get_or, drop, is_some, sym, ap, ◌∙◌, rules}
use Rattle.std.proofs.lemmas.List.{at_drop_all}
use Rattle.generics.specs.Lays.{param_asked, params_asked}
use Rattle.definitions.specs.Rules.{defaults_right}
use Rattle.generics.proofs.Walked.{no_param, defaults_stop, defaults_go}
use Rattle.generics.proofs.rules.defaults_fit.Goals as goal
use Rattle.generics.proofs.rules.defaults_fit.Goals.{then-seen, else-seen}

pub returns-then-not-default_fits : goal.returns-then-not-default_fits
returns-then-not-default_fits c = defaults_stop c.args.rows.now c.loop-row.row-index c.loop-row-test.true c.loop-row.seen c.loop-row.invariant (sym c.if-not-default_fits.ensures)

-- whether a default was seen, with this row
seen_is : (c : goal.Joined-seen) → c.if-seen.seen ≡ c.loop-row.seen || is_some (param_asked (get_or c.args.rows.now c.loop-row.row-index no_param)).default
seen_is c = elim c.if-seen.branch [
  | then-seen w ↦ search rules
  | else-seen w ↦ search rules
]

pub loop-row-preserved : goal.loop-row-preserved
loop-row-preserved c =
    let rows = c.args.rows.now in
    let i = c.loop-row.row-index in
    ap (λ b. defaults_right b (params_asked (drop (i + 1) rows))) (seen_is c) ∙ defaults_go rows i c.loop-row-test.true c.loop-row.seen c.loop-row.invariant (sym c.if-not-default_fits.ensures)

pub returns : goal.returns
returns c = sym (at_drop_all (λ xs. defaults_right c.loop-row.seen (params_asked xs)) c.args.rows.now c.loop-row.row-index c.loop-row-test.false) ∙ c.loop-row.invariant
