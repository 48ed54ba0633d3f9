use Rattle.std.proofs.Common.{◌≡◌, true, ◌||◌, eqb, map, length, sym, ap, ◌∙◌, arith}
use lib.ListN.{length-map}
use Rattle.std.proofs.lemmas.Bool.{le-leb, eq-eqb, ne_eqb, or_left}
use Rattle.std.proofs.lemmas.Bool.Decides.{nat_tests}
use Rattle.generics.specs.Lays.{param_asked}
use Rattle.definitions.specs.Rules.{ranked, selves_of, is_function}
use Rattle.definitions.specs.declared.kinds.GenericParam.{GenericParam}
use Rattle.definitions.specs.declared.kinds.RowKind.{RowKind}
use Rattle.generics.proofs.Walked.{rows_by, fails_third, fourth}
use Rattle.generics.proofs.rules.rows_fit.Goals as goal

abbrev kind_in : GenericParam → RowKind
kind_in g = g.kind

pub returns-then-rows-gt32 : goal.returns-then-rows-gt32
returns-then-rows-gt32 c = let l = length-map c.args.rows.now param_asked in grind (arith, nat_tests)

pub returns-then-count_ranked-self_rows : goal.returns-then-count_ranked-self_rows
returns-then-count_ranked-self_rows c =
    let gs = c.args.rows.now in
    let k = c.args.kind in
    fails_third _ _ _ _ (le-leb (length gs) 32 c.if-rows-gt32.false) (sym c.if-not-rows_in_order.ensures) (ne_eqb (ranked 0 (map kind_in gs)) (selves_of k) (λ e. c.if-count_ranked-self_rows.true ((c.count_ranked.ensures ∙ ap (λ n. ranked n (map kind_in gs)) c.rank.ensures) ∙ e ∙ sym c.self_rows.ensures))) ∙ sym (rows_by k gs)

pub returns-then-is_function : goal.returns-then-is_function
returns-then-is_function c =
    let gs = c.args.rows.now in
    let k = c.args.kind in
    let t = c.if-is_function.ensures in
    let e : eqb (ranked 0 (map kind_in gs)) (selves_of k) ≡ true = eq-eqb _ _ (sym (c.count_ranked.ensures ∙ ap (λ n. ranked n (map kind_in gs)) c.rank.ensures) ∙ c.if-count_ranked-self_rows.false ∙ c.self_rows.ensures) in
    (c.if-is_function.true ∙ sym (or_left (is_function k) (eqb (ranked 3 (map kind_in gs)) 0) (sym t))) ∙ fourth _ _ _ _ (le-leb (length gs) 32 c.if-rows-gt32.false) (sym c.if-not-rows_in_order.ensures) e ∙ sym (rows_by k gs)

pub returns-else-is_function : goal.returns-else-is_function
returns-else-is_function c =
    let gs = c.args.rows.now in
    let k = c.args.kind in
    let e : eqb (ranked 0 (map kind_in gs)) (selves_of k) ≡ true = eq-eqb _ _ (sym (c.count_ranked.ensures ∙ ap (λ n. ranked n (map kind_in gs)) c.rank.ensures) ∙ c.if-count_ranked-self_rows.false ∙ c.self_rows.ensures) in
    (ap (λ n. eqb n 0) (c.count_ranked-else-is_function.ensures ∙ ap (λ n. ranked n (map kind_in gs)) c.rank-else-is_function.ensures) ∙ ap (λ b. b || eqb (ranked 3 (map kind_in gs)) 0) c.if-is_function.ensures) ∙ fourth _ _ _ _ (le-leb (length gs) 32 c.if-rows-gt32.false) (sym c.if-not-rows_in_order.ensures) e ∙ sym (rows_by k gs)
