-- What a definition is: its kind, its parent, its rows with their defaults, and its body. Assumes nothing.
use Rattle.std.specs.Prelude.{ℕ, ◌+◌, Bool, true, false, List, [], ◌∷◌, ◌++◌, map, length, Some, None, Option, slice_index_or}
use Rattle.definitions.specs.declared.kinds.GenericDefKind.{GenericDefKind}
use Rattle.definitions.specs.declared.kinds.GenericDefKind.TheVariants.{Function}
use Rattle.definitions.specs.declared.kinds.RowKind.{RowKind}
use Rattle.definitions.specs.declared.kinds.RowKind.TheVariants.{TraitSelf, Lifetime as LifetimeRow, «Type» as TypeRow, Const as ConstRow, ImplTrait}
use Rattle.definitions.specs.declared.kinds.Kind.{Kind}
use Rattle.definitions.specs.declared.kinds.Kind.TheVariants.{Lifetime, «Type» as TypeKind, Const}
use Rattle.definitions.specs.declared.kinds.Mark.{Mark}

-- a row: what it is, and the marks of its default, if it has one
pub record Param : Type 0 where
  pub kind : RowKind
  pub default : Option (List Mark)

-- a definition; its parent is named by its number
pub record Definition : Type 0 where
  pub kind : GenericDefKind
  pub parent : Option ℕ
  pub rows : List Param
  pub body : Option (List Mark)

-- Self and impl-trait rows take types (Reference, generic parameters: a parameter is a lifetime, a type or a constant)
abbrev pub kind_of : RowKind → Kind
kind_of TraitSelf = TypeKind
kind_of LifetimeRow = Lifetime
kind_of TypeRow = TypeKind
kind_of ConstRow = Const
kind_of ImplTrait = TypeKind

abbrev pub is_lifetime : RowKind → Bool
is_lifetime TraitSelf = false
is_lifetime LifetimeRow = true
is_lifetime TypeRow = false
is_lifetime ConstRow = false
is_lifetime ImplTrait = false

abbrev pub row_kinds_of : List Param → List RowKind
row_kinds_of rows = map (λ (p : Param). p.kind) rows

abbrev pub kinds_of : List Param → List Kind
kinds_of rows = map (λ (p : Param). kind_of p.kind) rows

-- what a number that is not declared stands for: a function without rows
abbrev pub nothing : Definition
nothing = record { kind = Function; parent = None; rows = []; body = None }

abbrev pub definition_at : List Definition → ℕ → Definition
definition_at ds d = slice_index_or ds d nothing

abbrev pub parent_rows : List Definition → Option ℕ → List Param
parent_rows ds None = []
parent_rows ds (Some p) = (definition_at ds p).rows

-- the whole list: the parent's rows, then the own rows; a place is a position in it
abbrev pub whole_rows : List Definition → Definition → List Param
whole_rows ds d = parent_rows ds d.parent ++ d.rows

-- how many marks a default or a body has
abbrev pub marks_in : Option (List Mark) → ℕ
marks_in None = 0
marks_in (Some ms) = length ms

abbrev pub default_marks : List Param → ℕ
default_marks [] = 0
default_marks (p ∷ ps) = marks_in p.default + default_marks ps

-- how many rows, and how many marks, the definitions have together
abbrev pub row_total : List Definition → ℕ
row_total [] = 0
row_total (d ∷ ds) = length d.rows + row_total ds

abbrev pub mark_total : List Definition → ℕ
mark_total [] = 0
mark_total (d ∷ ds) = default_marks d.rows + marks_in d.body + mark_total ds
