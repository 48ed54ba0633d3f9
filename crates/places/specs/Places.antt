-- What a reader of the catalogue learns of a definition and of its places. Assumes nothing.
use Rattle.std.specs.Prelude.{ℕ, ◌-◌, Bool, true, false, cond, List, length, take, is_some, Some, None, Option, nat_lt}
use Rattle.std.specs.List.{slice_get}
use Rattle.std.specs.Option.{option_map}
use Rattle.definitions.specs.declared.kinds.GenericParamId.{GenericParamId}
use Rattle.definitions.specs.declared.kinds.Mark.{Mark}
use Rattle.definitions.specs.declared.kinds.RowKind.{RowKind}
use Rattle.places.specs.declared.view.Provenance.{Provenance}
use Rattle.definitions.specs.Definitions.{Param, Definition, is_lifetime, definition_at, row_kinds_of, parent_rows, whole_rows}
use Rattle.definitions.specs.Rules.{ranked, tally}

-- the definition that a number names, if it is declared
abbrev pub declared_at : List Definition → ℕ → Option Definition
declared_at ds d = slice_get ds d

-- the parameter at a place of a definition's whole list, if the definition and the place are there
abbrev pub param_at : List Definition → ℕ → ℕ → Option Param
param_at ds d place = slice_get (whole_rows ds (definition_at ds d)) place

abbrev pub default_of : Option Param → Option (List Mark)
default_of None = None
default_of (Some p) = p.default

-- how many of the rows have a default
abbrev pub defaulted : List Param → ℕ
defaulted ps = tally (λ (p : Param). is_some p.default) ps

abbrev pub same_bool : Bool → Bool → Bool
same_bool true true = true
same_bool true false = false
same_bool false true = false
same_bool false false = true

-- how many of the rows are lifetimes, or how many are not
abbrev pub alike : Bool → List RowKind → ℕ
alike b ks = tally (λ (k : RowKind). same_bool (is_lifetime k) b) ks

-- the name of a definition's own row: lifetimes are numbered alone, all other rows together
abbrev pub name_in : ℕ → List RowKind → ℕ → Option GenericParamId
name_in d rows i = option_map (λ (k : RowKind). record { def = d; lifetime = is_lifetime k; local = alike (is_lifetime k) (take i rows) }) (slice_get rows i)

-- the name of the parameter at a place; a parent's parameter keeps its parent's name
abbrev pub name_from : List Definition → ℕ → Option ℕ → ℕ → Option GenericParamId
name_from ds d None place = name_in d (row_kinds_of (definition_at ds d).rows) place
name_from ds d (Some p) place = cond (nat_lt place (length (definition_at ds p).rows)) (name_in p (row_kinds_of (definition_at ds p).rows) place) (name_in d (row_kinds_of (definition_at ds d).rows) (place - length (definition_at ds p).rows))

abbrev pub name_at : List Definition → ℕ → ℕ → Option GenericParamId
name_at ds d place = name_from ds d (definition_at ds d).parent place

-- how many rows the parent has, and how many own rows are Self, lifetimes, named, named with a default, impl-trait
abbrev pub provenance : List Definition → Definition → Provenance
provenance ds d =
    record {
      parent = length (parent_rows ds d.parent);
      trait_self = ranked 0 (row_kinds_of d.rows);
      lifetimes = ranked 1 (row_kinds_of d.rows);
      named = ranked 2 (row_kinds_of d.rows);
      defaulted = defaulted d.rows;
      impl_traits = ranked 3 (row_kinds_of d.rows);
    }
