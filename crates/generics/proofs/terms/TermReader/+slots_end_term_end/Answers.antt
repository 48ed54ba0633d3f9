use Rattle.std.proofs.Common.{◌≡◌, ◌<◌, ◌≤◌, length, sym, arith, rules}
use Rattle.std.proofs.lemmas.Option.{gets}
use Rattle.definitions.specs.Terms.{At}
use Rattle.definitions.proofs.Ends.{term_grows, term_within, inside}
use Rattle.generics.proofs.Slotted.{slots_none, slots_stop, slots_go, term_go, term_stop}
use Rattle.generics.proofs.terms.TermReader.+slots_end_term_end.Goals as goal

pub slots_end-returns-in_err-next-in-len1-up : goal.slots_end-returns-in_err-next-in-len1-up
slots_end-returns-in_err-next-in-len1-up t c =
    let some : 0 < length c.args.rows.now = search rules in
    simp c.from_residual.ensures (slots_stop _ _ some (rw c.kind.ensures at c.in_err-next-in-len1-up.ensures))

pub slots_end-slots_end-requires : goal.slots_end-slots_end-requires
slots_end-slots_end-requires t c =
    let h = c.in_ok-next-in-len1-up.ensures in
    omega (arith, term_grows h, term_within h)

pub slots_end-returns-in-empty : goal.slots_end-returns-in-empty
slots_end-returns-in-empty t c =
    let none : length c.args.rows.now ≡ 0 = search rules in
    slots_none _ _ none

pub slots_end-returns-in_ok-next-in-len1-up : goal.slots_end-returns-in_ok-next-in-len1-up
slots_end-returns-in_ok-next-in-len1-up t c =
    let some : 0 < length c.args.rows.now = search rules in
    slots_go _ _ _ _ _ _ _ some (rw c.kind.ensures at c.in_ok-next-in-len1-up.ensures) c.slots_end.ensures

pub term_end-returns-in_err-mark : goal.term_end-returns-in_err-mark
term_end-returns-in_err-mark t c = let out : length c.args.marks.now ≤ c.args.pos = search (rules, gets) in simp c.from_residual.ensures (λ e h. omega (arith, inside h))

pub term_end-returns-then-not-may_begin : goal.term_end-returns-then-not-may_begin
term_end-returns-then-not-may_begin t c = let at : At c.args.marks.now c.args.pos c.in_ok-mark.field-0.now = search (rules, gets) in term_stop _ _ _ _ _ _ at c.if-not-may_begin.ensures

pub term_end-returns : goal.term_end-returns
term_end-returns t c = let at : At c.args.marks.now c.args.pos c.in_ok-mark.field-0.now = search (rules, gets) in term_go _ _ _ _ _ _ _ _ at (sym c.if-not-may_begin.ensures) c.slot_rows.ensures c.slots_end.ensures
