-- When an inferred entry is a default. Assumes nothing.
use Rattle.std.proofs.Common.{◌≡◌, Bool, true, false, cond, not, ◌&&◌, ltb, List, is_some, Some, None, Option, refl, arith}
use Rattle.std.specs.Option.{option_map}
use Rattle.std.proofs.lemmas.Bool.{and_from, and_parts, lt-ltb, ltb-true, not_from_false, not-true}
use Rattle.definitions.specs.declared.kinds.Mark.{Mark}
use Rattle.definitions.specs.declared.kinds.RowKind.{RowKind}
use Rattle.definitions.specs.Definitions.{Param}
use Rattle.places.specs.Places.{default_of, param_at}
use Rattle.lowerer.specs.declared.meaning.Source.{Source}
use Rattle.lowerer.specs.declared.meaning.Source.TheVariants.{Default, Unknown}
use Rattle.lowerer.specs.Meanings.{at_row, default_for, default_if, fills, inferred_as, kinds_before, row_kind_at, Defaulted, DefaultExactly}
use Rattle.lowerer.proofs.Filled.{kinds_equal, kinds_same}

if_default : (x : Option (List Mark)) (t : Bool) → default_if (cond t x None) ≡ Default → (t ≡ true) × (is_some x ≡ true)
if_default None true e = absurd (grind arith)
if_default None false e = absurd (grind arith)
if_default (Some ms) true e = (refl, refl)
if_default (Some ms) false e = absurd (grind arith)

if_stocked : (t : Bool) (s : Source) → cond t s Unknown ≡ Default → (t ≡ true) × (s ≡ Default)
if_stocked true s e = (refl, e)
if_stocked false s e = absurd (grind arith)

if_row : (o : Option RowKind) (s : Source) → (at_row o s).source ≡ Default → s ≡ Default
if_row None s e = absurd (grind arith)
if_row (Some k) s e = e

then_default : (x : Option (List Mark)) (t s : Bool) → t ≡ true → s ≡ true → is_some x ≡ true → cond s (default_if (cond t x None)) Unknown ≡ Default
then_default None t s e f h = absurd (grind arith)
then_default (Some ms) t s e f h = rw (e, f)

then_row : (o : Option Param) (t s : Bool) → t ≡ true → s ≡ true → is_some (default_of o) ≡ true → (at_row (option_map (λ (p : Param). p.kind) o) (cond s (default_if (cond t (default_of o) None)) Unknown)).source ≡ Default
then_row None t s e f h = absurd (grind arith)
then_row (Some p) t s e f h = then_default p.default t s e f h

pub default_exactly : DefaultExactly
default_exactly ds r infer before stock = (only, also)
  where
    only : (inferred_as ds r infer before stock).source ≡ Default → Defaulted ds r infer before stock
    only e =
        let a = if_row (row_kind_at ds r) _ e in
        let b = if_stocked (ltb 0 stock) (default_if (default_for ds r infer before)) a in
        let d = if_default (default_of (param_at ds r.def r.place)) (not infer && fills ds r before) b.1 in
        let f = and_parts (not infer) (fills ds r before) d.0 in
        record {
          off = not-true infer f.0;
          stocked = ltb-true 0 stock b.0;
          has = d.1;
          filled = kinds_equal before (kinds_before ds r) f.1;
        }

    also : Defaulted ds r infer before stock → (inferred_as ds r infer before stock).source ≡ Default
    also d =
        let f : fills ds r before ≡ true = rw d.filled (kinds_same (kinds_before ds r)) in
        then_row (param_at ds r.def r.place) (not infer && fills ds r before) (ltb 0 stock) (and_from (not infer) (fills ds r before) (not_from_false infer d.off) f) (lt-ltb 0 stock d.stocked) d.has
