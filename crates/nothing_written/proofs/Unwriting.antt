-- Entries made one after another where nothing is written. Assumes nothing.
use Rattle.std.proofs.Common.{◌≡◌, ℕ, ◌+◌, ◌<◌, false, List, [], ◌∷◌, ◌++◌, map, length, take, get_or, sym, ap, ◌∙◌, add-one}
use Rattle.std.proofs.Math.Seq.{take-suc}
use mathlib.Core.List.{map-append, map-map}
use Rattle.std.proofs.lemmas.Option.{slice_get-get_or}
use Rattle.definitions.specs.declared.kinds.Kind.{Kind}
use Rattle.definitions.specs.Definitions.{Definition, kinds_of}
use Rattle.definitions.specs.Follows.{no_param}
use Rattle.lowerer.specs.declared.meaning.Meaning.{Meaning}
use Rattle.lowerer.specs.declared.meaning.ParamPlace.{ParamPlace}
use Rattle.lowerer.specs.Meanings.{inferred_as, kinds_by, unwritten_as}
use Rattle.lowerer.proofs.Unwritten.{unwritten_at}
use Rattle.nothing_written.specs.Unwritten.{rows_of, unwritten_list}

-- one entry more, where stock is left
pub one_more : {A : Type 0} (m : A → Meaning) (ds : List Definition) (r : ParamPlace) (xs : List A) (x : A) (stock : ℕ) → r.place < length (rows_of ds r.def) → 0 < stock → map m xs ≡ unwritten_list (take r.place (rows_of ds r.def)) → m x ≡ inferred_as ds r false (kinds_by m xs) stock → map m (xs ++ x ∷ []) ≡ unwritten_list (take (r.place + 1) (rows_of ds r.def))
one_more m ds r xs x stock h s e f =
    let rows = rows_of ds r.def in
    let p = get_or rows r.place no_param in
    let front = take r.place rows in
    let kind : Meaning → Kind = λ k. k.kind in
    let before : kinds_by m xs ≡ kinds_of front = sym (map-map kind m xs) ∙ ap (map kind) e ∙ map-map kind unwritten_as front in
    let made : m x ≡ unwritten_as p = f ∙ unwritten_at ds r (kinds_by m xs) stock p before s (slice_get-get_or rows r.place no_param h) in
    let more : take (r.place + 1) rows ≡ front ++ p ∷ [] = ap (λ n. take n rows) (add-one r.place) ∙ take-suc rows r.place no_param h in
    map-append m xs (x ∷ []) ∙ ap (λ ys. ys ++ m x ∷ []) e ∙ ap (λ y. unwritten_list front ++ y ∷ []) made ∙ sym (map-append unwritten_as front (p ∷ [])) ∙ sym (ap unwritten_list more)
