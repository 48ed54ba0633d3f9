use Rattle.std.proofs.Common.{rules, vec_items, sym, refl, ap, ◌∙◌, inr, arith}
use Rattle.std.proofs.lemmas.Result.{err_from_is_err_and}
use Rattle.std.specs.declared.alloc.Global.{Global}
use Rattle.spans.specs.declared.Span.{Span}
use Rattle.listing.specs.Arguments.{first_blank}
use Rattle.listing.proofs.Listings.{popped, written, never, blank_in_all, adjacent, broken}
use Rattle.listing.proofs.lists.arguments.Goals as goal

pub returns-in_err-spans : goal.returns-in_err-spans
returns-in_err-spans c =
    let p = err_from_is_err_and c.from_residual.result c.from_residual.ensures.1 in
    rw (p.1, p.2) (broken _ (vec_items {X = Span} {Z = Global}) _ _ c.in_err-spans.ensures.pieces)

pub returns-in-Some : goal.returns-in-Some
returns-in-Some c =
    let told = c.in_ok-spans.ensures in
    let k = popped c.args.text.now _ _ _ _ _ (omega (arith, told.number)) (λ x b y h. search rules) c.pop_if.ensures.cases in
    let at = ap (first_blank c.args.text.now) (sym c.as_slice.ensures.value) ∙ sym c.in-Some.ensures in
    rw c.unreadable.ensures (never _ _ _ told.pieces.1 k _ at, inr (vec_items c.in_ok-spans.spans, told.pieces.1, told.places, blank_in_all _ _ _ told.pieces.1 k _ at, refl))

pub returns-in-None : goal.returns-in-None
returns-in-None c =
    let told = c.in_ok-spans.ensures in
    let k = popped c.args.text.now _ _ _ _ _ (omega (arith, told.number)) (λ x b y h. search rules) c.pop_if.ensures.cases in
    let none = ap (first_blank c.args.text.now) (sym c.as_slice.ensures.value) ∙ sym c.in-None.ensures in
    (written _ _ _ told.pieces.1 k none, adjacent _ _ _ told.pieces.1 k _ told.places)
