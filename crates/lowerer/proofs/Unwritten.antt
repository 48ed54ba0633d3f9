-- What inferred makes of a row. Assumes nothing.
use Rattle.std.proofs.Common.{◌≡◌, ℕ, ◌<◌, false, true, ltb, List, Some, refl}
use Rattle.std.proofs.lemmas.Bool.{lt-ltb}
use Rattle.definitions.specs.declared.kinds.Kind.{Kind}
use Rattle.definitions.specs.Definitions.{Param, Definition}
use Rattle.places.specs.Places.{param_at}
use Rattle.lowerer.specs.declared.meaning.ParamPlace.{ParamPlace}
use Rattle.lowerer.specs.Meanings.{fills, inferred_as, kinds_before, unwritten_as}
use Rattle.lowerer.proofs.Filled.{kinds_same}

-- with inference off, where the entries handed along are of the kinds of the places before the row and stock is left
pub unwritten_at : (ds : List Definition) (r : ParamPlace) (before : List Kind) (stock : ℕ) (p : Param) → before ≡ kinds_before ds r → 0 < stock → param_at ds r.def r.place ≡ Some p → inferred_as ds r false before stock ≡ unwritten_as p
unwritten_at ds r before stock p e h f =
    let t : fills ds r before ≡ true = rw e (kinds_same (kinds_before ds r)) in
    let s : ltb 0 stock ≡ true = lt-ltb 0 stock h in
    rw (f, s, t) refl
