use Rattle.std.proofs.Common.{◌-◌, ◌<◌, ◌≤◌, ltb, length, vec_items, sym, ap, ◌∙◌, arith}
use Rattle.std.proofs.lemmas.Bool.{lt-ltb, le-ltb, cond-true, cond-false}
use Rattle.definitions.specs.Definitions.{definition_at, row_kinds_of}
use Rattle.generics.specs.Held.{held}
use Rattle.places.specs.Places.{name_in, name_from}
use Rattle.places.proofs.Placed.{few_own, kinds_meant, long_meant}
use Rattle.places.proofs.view.Generics.name_at.Goals as goal

pub name_in-requires : goal.name_in-requires
name_in-requires c =
    let cat = c.args.self.now.cat.now in
    omega (arith, long_meant (vec_items cat.marks) _ _ c.own_rows-own.ensures.params, few_own cat c.args.self.now.def)

pub name_in-requires-then-place-before : goal.name_in-requires-then-place-before
name_in-requires-then-place-before c =
    let cat = c.args.self.now.cat.now in
    omega (arith, long_meant (vec_items cat.marks) _ _ c.own_rows-before.ensures.params, few_own cat c.in-Some.parent)

pub name_in-requires-else-place-before : goal.name_in-requires-else-place-before
name_in-requires-else-place-before c =
    let cat = c.args.self.now.cat.now in
    omega (arith, long_meant (vec_items cat.marks) _ _ c.own_rows-own.ensures.params, few_own cat c.args.self.now.def)

pub returns-in-None : goal.returns-in-None
returns-in-None c =
    let cat = c.args.self.now.cat.now in
    let d = c.args.self.now.def in
    c.name_in.ensures ∙ ap (λ ks. name_in d ks c.args.place) (kinds_meant (vec_items cat.marks) _ _ c.own_rows-own.ensures.params) ∙ ap (λ p. name_from (held cat) d p c.args.place) c.in-None.ensures

pub returns-then-place-before : goal.returns-then-place-before
returns-then-place-before c =
    let cat = c.args.self.now.cat.now in
    let d = c.args.self.now.def in
    let p = c.in-Some.parent in
    let place = c.args.place in
    let l = long_meant (vec_items cat.marks) _ _ c.own_rows-before.ensures.params in
    let h : place < length (definition_at (held cat) p).rows = omega (arith, c.if-place-before.true) in
    c.name_in-then-place-before.ensures ∙ ap (λ ks. name_in p ks place) (kinds_meant (vec_items cat.marks) _ _ c.own_rows-before.ensures.params) ∙ sym (cond-true (ltb place (length (definition_at (held cat) p).rows)) _ _ (lt-ltb place _ h)) ∙ ap (λ x. name_from (held cat) d x place) c.in-Some.ensures

pub returns-else-place-before : goal.returns-else-place-before
returns-else-place-before c =
    let cat = c.args.self.now.cat.now in
    let d = c.args.self.now.def in
    let p = c.in-Some.parent in
    let place = c.args.place in
    let l = long_meant (vec_items cat.marks) _ _ c.own_rows-before.ensures.params in
    let h : length (definition_at (held cat) p).rows ≤ place = omega (arith, c.if-place-before.false) in
    c.name_in-else-place-before.ensures ∙ ap (λ ks. name_in d ks (place - length c.own_rows-before.result.now)) (kinds_meant (vec_items cat.marks) _ _ c.own_rows-own.ensures.params) ∙ ap (λ n. name_in d (row_kinds_of (definition_at (held cat) d).rows) (place - n)) l ∙ sym (cond-false (ltb place (length (definition_at (held cat) p).rows)) _ _ (le-ltb place _ h)) ∙ ap (λ x. name_from (held cat) d x place) c.in-Some.ensures
