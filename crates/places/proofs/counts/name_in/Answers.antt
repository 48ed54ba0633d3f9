use Rattle.std.proofs.Common.{◌≡◌, take, Some, sym, refl, ap, ◌∙◌, rules}
use Rattle.std.specs.List.{count_by, slice_get}
use Rattle.std.specs.Option.{option_map}
use Rattle.std.proofs.lemmas.List.{take-map}
use Rattle.std.proofs.lemmas.Option.{gets, slice_get-map}
use Rattle.definitions.specs.declared.kinds.GenericParamId.{GenericParamId}
use Rattle.definitions.specs.declared.kinds.RowKind.{RowKind}
use Rattle.definitions.specs.Definitions.{is_lifetime}
use Rattle.generics.specs.declared.stored.Row.{Row}
use Rattle.generics.specs.Held.{kinds_held}
use Rattle.generics.proofs.Tallied.{tally_counts}
use Rattle.places.specs.Places.{alike, same_bool}
use Rattle.places.proofs.counts.name_in.Goals as goal

pub returns : goal.returns
returns c =
    let rows = c.args.rows.now in
    let i = c.args.i in
    let b = c.is_lifetime-lifetime.result in
    let shown : Row → RowKind = λ r. r.kind in
    let e : c.count-alike.result ≡ count_by (λ (r : Row). same_bool (is_lifetime r.kind) b) (take i rows) = search rules in
    let n : c.count-alike.result ≡ alike b (take i (kinds_held rows)) = e ∙ sym (tally_counts (λ k. same_bool (is_lifetime k) b) shown _ (λ x. refl) (take i rows)) ∙ ap (alike b) (sym (take-map shown i rows)) in
    let got : slice_get rows i ≡ Some c.in_ok-get.field-0.now = search (rules, gets) in
    let there : slice_get (kinds_held rows) i ≡ Some c.in_ok-get.field-0.now.kind = slice_get-map shown rows i ∙ ap (option_map shown) got in
    let f : RowKind → GenericParamId = λ k. record { def = c.args.def; lifetime = is_lifetime k; local = alike (is_lifetime k) (take i (kinds_held rows)) } in
    ap (λ m. Some (record { def = c.args.def; lifetime = b; local = m })) n ∙ ap (λ x. Some (record { def = c.args.def; lifetime = x; local = alike x (take i (kinds_held rows)) })) c.is_lifetime-lifetime.ensures ∙ ap (option_map f) (sym there)
