use Rattle.std.proofs.Common.{◌≡◌, map, vec_items, sym, ap, ◌∙◌, rules}
use mathlib.Core.List.{map-map}
use Rattle.definitions.specs.declared.kinds.Kind.{Kind}
use Rattle.definitions.specs.Definitions.{Param, kind_of, kinds_of, parent_rows}
use Rattle.generics.specs.Held.{held}
use Rattle.generics.specs.Lays.{param_of}
use Rattle.generics.proofs.catalogue.Catalogue.parent_rows.Goals as goal

-- the kinds are those of the parameters
pub returns-clause-kinds : goal.returns-clause-kinds
returns-clause-kinds c =
    let cat = c.args.self.now in
    let f : Param → Kind = λ p. kind_of p.kind in
    let params : map (param_of (vec_items cat.marks)) c.map_or.result.now ≡ parent_rows (held cat) c.args.parent = search rules in
    sym (map-map f (param_of (vec_items cat.marks)) c.map_or.result.now) ∙ ap kinds_of params
