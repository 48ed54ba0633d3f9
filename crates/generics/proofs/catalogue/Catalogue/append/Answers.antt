use Rattle.std.proofs.Common.{◌≡◌, ℕ, ◌+◌, true, List, [], ◌∷◌, ◌++◌, length, vec_items, vec_len, Option, sym, ap, ◌∙◌, arith}
use Rattle.generics.specs.declared.catalogue.Catalogue.{Catalogue}
use Rattle.definitions.specs.declared.kinds.Declaration.{Declaration}
use Rattle.definitions.specs.declared.kinds.Mark.{Mark}
use Rattle.generics.specs.declared.stored.Def.{Def}
use Rattle.generics.specs.declared.stored.Row.{Row}
use Rattle.spans.specs.declared.Span.{Span}
use Rattle.definitions.specs.Rules.{follows, has_room}
use Rattle.definitions.specs.Definitions.{default_marks}
use Rattle.generics.specs.Held.{held}
use Rattle.generics.specs.Laid.{span_at, laid, flat, marks_of}
use Rattle.generics.specs.Lays.{asked, definitions}
use Rattle.generics.proofs.Appended.{Kept, kept_more, new_def}
use Rattle.generics.proofs.Sizes.{roomy, defs_long, asked_long}
use Rattle.generics.proofs.catalogue.Catalogue.append.Goals as goal

pub overflow_cast-number : goal.overflow_cast-number
overflow_cast-number c =
    let r = roomy c.args.self.now c.args.d c.requires.fits in
    omega (arith, c.len-number.ensures.count, defs_long c.args.self.now)

pub lay_rows-requires : goal.lay_rows-requires
lay_rows-requires c =
    let cat = c.args.self.now in
    let r = roomy cat c.args.d c.requires.fits in
    record { rows = omega (arith, cat.rows_room); marks = omega (arith, cat.marks_room) }

pub lay_term-body-requires : goal.lay_term-body-requires
lay_term-body-requires c =
    let cat = c.args.self.now in
    let r = roomy cat c.args.d c.requires.fits in
    omega (arith, cat.marks_room, c.lay_rows.ensures.marks_len, c.lay_rows.ensures.marks_capacity)

pub push_reserved-requires : goal.push_reserved-requires
push_reserved-requires c =
    let cat = c.args.self.now in
    let r = roomy cat c.args.d c.requires.fits in
    omega (arith, cat.defs_room)

-- what was laid behind the catalogue's lists is the definition that the declaration asks for
grown : (cat : Catalogue) (d : Declaration) → follows (held cat) (asked d) ≡ true → has_room (held cat) (asked d) ≡ true → (first from : ℕ) (body : Option Span) (defs : List Def) (rows : List Row) (flats marks : List Mark) → first ≡ vec_len cat.rows → from ≡ vec_len cat.marks + default_marks (asked d).rows → body ≡ span_at from (asked d).body → defs ≡ vec_items cat.defs ++ (record { kind = d.kind; parent = d.parent; rows = record { from = first; len = length d.rows.now }; body = body }) ∷ [] → rows ≡ vec_items cat.rows ++ laid (vec_len cat.marks) (asked d).rows → flats ≡ vec_items cat.marks ++ flat (asked d).rows → marks ≡ flats ++ marks_of (asked d).body → Kept defs rows marks × (definitions defs rows marks ≡ held cat ++ asked d ∷ [])
grown cat d law room first from body defs rows flats marks is-first is-from is_IsBody is-defs is-rows is-flats is-marks =
    let x = asked d in
    let old = vec_items cat.marks in
    let count = length d.rows.now in
    let f : first ≡ length (vec_items cat.rows) = is-first ∙ cat.rows.ok.0 in
    let at : from ≡ length old + default_marks x.rows = is-from ∙ ap (λ n. n + default_marks x.rows) cat.marks.ok.0 in
    let b : body ≡ span_at (length old + default_marks x.rows) x.body = is_IsBody ∙ ap (λ n. span_at n x.body) at in
    let pushed : Def = record { kind = d.kind; parent = d.parent; rows = record { from = first; len = count }; body = body } in
    let new : pushed ≡ new_def (vec_items cat.defs) (vec_items cat.rows) old x count = ap (λ n. record { kind = d.kind; parent = d.parent; rows = record { from = n; len = count }; body = body }) f ∙ ap (λ z. record { kind = d.kind; parent = d.parent; rows = record { from = length (vec_items cat.rows); len = count }; body = z }) b in
    let ok : Kept (vec_items cat.defs) (vec_items cat.rows) old = record { within = cat.within; counted = cat.counted; limited = cat.limited; lawful = cat.lawful } in
    kept_more (vec_items cat.defs) defs (vec_items cat.rows) rows old marks x count pushed ok law room (sym (asked_long d)) new is-defs
    (is-rows ∙ ap (λ n. vec_items cat.rows ++ laid n x.rows) cat.marks.ok.0)
    (is-marks ∙ ap (λ l. l ++ marks_of x.body) is-flats)

pub invariant_of-self : goal.invariant_of-self
invariant_of-self c =
    let cat = c.args.self.now in
    let k = (grown cat c.args.d c.requires.follows c.requires.fits _ _ _ _ _ _ _ c.len.ensures c.lay_rows.ensures.marks_len c.lay_term-body.ensures.span c.push_reserved.ensures.items c.lay_rows.ensures.rows c.lay_rows.ensures.marks c.lay_term-body.ensures.items).0 in
    record {
      within = k.within;
      counted = k.counted;
      limited = k.limited;
      lawful = k.lawful;
      defs_room = omega (arith, cat.defs_room, c.push_reserved.ensures.capacity);
      rows_room = omega (arith, cat.rows_room, c.lay_rows.ensures.rows_capacity);
      marks_room = omega (arith, cat.marks_room, c.lay_rows.ensures.marks_capacity, c.lay_term-body.ensures.capacity);
    }

pub returns : goal.returns
returns c =
    let cat = c.args.self.now in
    record {
      number = c.len-number.ensures.count;
      held = (grown cat c.args.d c.requires.follows c.requires.fits _ _ _ _ _ _ _ c.len.ensures c.lay_rows.ensures.marks_len c.lay_term-body.ensures.span c.push_reserved.ensures.items c.lay_rows.ensures.rows c.lay_rows.ensures.marks c.lay_term-body.ensures.items).1;
    }
