use Rattle.std.proofs.Common.{◌<◌, length, Some, sym, ap, ◌∙◌, arith}
use Rattle.std.specs.Option.{option_map}
use Rattle.definitions.specs.Definitions.{Definition, nothing}
use Rattle.generics.specs.Held.{held}
use Rattle.std.proofs.lemmas.Option.{slice_get-get_or, slice_get_past}
use Rattle.places.proofs.view.Generics.kind.Goals as goal

pub returns-then-self-len : goal.returns-then-self-len
returns-then-self-len c =
    let cat = c.args.self.now.cat.now in
    let d = c.args.self.now.def in
    let h : d < length (held cat) = omega (arith, c.len.ensures.count) in
    ap (λ (x : Definition). Some x.kind) c.def_at.ensures.means ∙ ap (option_map (λ (x : Definition). x.kind)) (sym (slice_get-get_or (held cat) d nothing h))

pub returns-else-self-len : goal.returns-else-self-len
returns-else-self-len c =
    let cat = c.args.self.now.cat.now in
    ap (option_map (λ (x : Definition). x.kind)) (sym (slice_get_past (held cat) c.args.self.now.def (omega (arith, c.len.ensures.count))))
