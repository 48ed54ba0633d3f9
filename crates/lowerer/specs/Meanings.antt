-- What the entry of each making means. Assumes nothing.
use Rattle.std.specs.Prelude.{◌≡◌, ℕ, ◌<◌, Bool, true, false, cond, not, ◌&&◌, List, [], ◌∷◌, map, take, is_some, Some, None, Option, nat_lt}
use Rattle.std.specs.Option.{option_map}
use Rattle.definitions.specs.declared.kinds.Kind.{Kind}
use Rattle.definitions.specs.declared.kinds.Kind.TheVariants.{Lifetime as LifetimeKind, «Type» as TypeKind, Const as ConstKind}
use Rattle.definitions.specs.declared.kinds.Mark.{Mark}
use Rattle.definitions.specs.declared.kinds.RowKind.{RowKind}
use Rattle.definitions.specs.Definitions.{Param, Definition, definition_at, kind_of, kinds_of, whole_rows}
use Rattle.definitions.specs.Terms.{same_kind}
use Rattle.places.specs.Places.{default_of, param_at}
use Rattle.path.specs.declared.args.GenericArg.{GenericArg}
use Rattle.lowerer.specs.declared.fit.Fit.{Fit}
use Rattle.lowerer.specs.declared.fit.Fit.TheVariants.{Agrees, TypeLikeConst}
use Rattle.lowerer.specs.declared.meaning.Meaning.{Meaning}
use Rattle.lowerer.specs.declared.meaning.ParamPlace.{ParamPlace}
use Rattle.lowerer.specs.declared.meaning.Source.{Source}
use Rattle.lowerer.specs.declared.meaning.Source.TheVariants.{Supplied, Explicit, Default, Unknown, Parent, Elided}
use Rattle.lowerer.specs.Fits.{fit_of}

abbrev pub means : Kind → Source → Meaning
means k s = record { kind = k; source = s }

-- what the row is, if it is one of the catalogue's
abbrev pub row_kind_at : List Definition → ParamPlace → Option RowKind
row_kind_at ds r = option_map (λ (p : Param). p.kind) (param_at ds r.def r.place)

-- of the row's kind; where the row is none of the catalogue's, of kind type and unknown
abbrev pub at_row : Option RowKind → Source → Meaning
at_row None s = means TypeKind Unknown
at_row (Some k) s = means (kind_of k) s

-- a written argument is supplied with its handle where it agrees with the row as it is written
abbrev pub supplied_if : Option Fit → ℕ → Source
supplied_if None h = Unknown
supplied_if (Some Agrees) h = Supplied h
supplied_if (Some TypeLikeConst) h = Unknown

abbrev pub supplied_to : Option RowKind → GenericArg → Source
supplied_to None a = Unknown
supplied_to (Some k) a = supplied_if (fit_of a.form k) a.handle

-- a written argument at a row
abbrev pub provided_as : List Definition → ParamPlace → GenericArg → Meaning
provided_as ds r a = at_row (row_kind_at ds r) (supplied_to (row_kind_at ds r) a)

-- a path or a placeholder that stands for a constant
abbrev pub type_like_as : ℕ → Meaning
type_like_as h = means ConstKind (Supplied h)

-- a Self type that was handed over
abbrev pub explicit_as : ℕ → Meaning
explicit_as h = means TypeKind (Explicit h)

-- the region that stands for a lifetime that was left out (Reference, lifetime elision)
abbrev pub elided_as : ℕ → Meaning
elided_as n = means LifetimeKind (Elided n)

-- the kinds of entries, by what each means
abbrev pub kinds_by : {A : Type 0} → (A → Meaning) → List A → List Kind
kinds_by m xs = map (λ a. (m a).kind) xs

-- as many kinds, and the same one by one
abbrev pub same_kinds : List Kind → List Kind → Bool
same_kinds [] [] = true
same_kinds [] (k ∷ ks) = false
same_kinds (j ∷ js) [] = false
same_kinds (j ∷ js) (k ∷ ks) = same_kind j k && same_kinds js ks

-- the kinds of the places before a row
abbrev pub kinds_before : List Definition → ParamPlace → List Kind
kinds_before ds r = kinds_of (take r.place (whole_rows ds (definition_at ds r.def)))

-- entries of these kinds fill the places before the row, kind by kind
abbrev pub fills : List Definition → ParamPlace → List Kind → Bool
fills ds r before = same_kinds before (kinds_before ds r)

-- the marks of the default that an inferred entry stands for, if it stands for one; the stock is not asked here. No
-- default is put in under inference or where the places it may refer to are not filled
abbrev pub default_for : List Definition → ParamPlace → Bool → List Kind → Option (List Mark)
default_for ds r infer before = cond (not infer && fills ds r before) (default_of (param_at ds r.def r.place)) None

abbrev pub default_if : Option (List Mark) → Source
default_if None = Unknown
default_if (Some ms) = Default

-- a row for which nothing is written, with so much stock: its default or unknown
abbrev pub inferred_as : List Definition → ParamPlace → Bool → List Kind → ℕ → Meaning
inferred_as ds r infer before stock = at_row (row_kind_at ds r) (cond (nat_lt 0 stock) (default_if (default_for ds r infer before)) Unknown)

-- what inferred makes of a row, inference off, where stock is left and the places before it are filled: its default if it
-- has one, else unknown (Reference, generic parameters: by its grammar type and const parameters may have a default, and
-- lifetimes have none)
abbrev pub unwritten_as : Param → Meaning
unwritten_as p = means (kind_of p.kind) (default_if p.default)

-- a row of the parent; at stock 0 unknown
abbrev pub parent_as : List Definition → ParamPlace → ℕ → Meaning
parent_as ds r stock = at_row (row_kind_at ds r) (cond (nat_lt 0 stock) Parent Unknown)

-- inference is off, the stock is above 0, the row has a default, and the entries handed along fill the places before
-- it kind by kind
pub record Defaulted (ds : List Definition) (r : ParamPlace) (infer : Bool) (before : List Kind) (stock : ℕ) : Type 0 where
  pub off : infer ≡ false
  pub stocked : 0 < stock
  pub has : is_some (default_of (param_at ds r.def r.place)) ≡ true
  pub filled : before ≡ kinds_before ds r

-- just then an inferred entry is a default
abbrev pub DefaultExactly : Type 0
DefaultExactly = (ds : List Definition) (r : ParamPlace) (infer : Bool) (before : List Kind) (stock : ℕ) → ((inferred_as ds r infer before stock).source ≡ Default → Defaulted ds r infer before stock) × (Defaulted ds r infer before stock → (inferred_as ds r infer before stock).source ≡ Default)
