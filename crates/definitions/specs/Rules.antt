-- Which definitions may be declared after others. Assumes nothing.
use Rattle.std.specs.Prelude.{◌≡◌, ℕ, ◌+◌, ◌-◌, ◌<◌, ◌≤◌, Bool, true, false, cond, not, ◌&&◌, ◌||◌, List, [], ◌∷◌, ◌++◌, length, take, is_some, Some, None, Option, ◌==◌, nat_eq, nat_le, nat_lt}
use Rattle.definitions.specs.declared.kinds.GenericDefKind.{GenericDefKind}
use Rattle.definitions.specs.declared.kinds.GenericDefKind.TheVariants.{Function, Adt, TypeAlias, Const as ConstDef, Trait, Impl}
use Rattle.definitions.specs.declared.kinds.RowKind.{RowKind}
use Rattle.definitions.specs.declared.kinds.RowKind.TheVariants.{TraitSelf, Lifetime as LifetimeRow, «Type» as TypeRow, Const as ConstRow, ImplTrait}
use Rattle.definitions.specs.declared.kinds.Kind.{Kind}
use Rattle.definitions.specs.declared.kinds.Kind.TheVariants.{«Type» as TypeKind}
use Rattle.definitions.specs.declared.kinds.Mark.{Mark}
use Rattle.definitions.specs.Definitions.{Param, Definition, row_kinds_of, kind_of, kinds_of, definition_at, parent_rows, whole_rows, marks_in, default_marks, row_total, mark_total}
use Rattle.definitions.specs.Terms.{is_term}

-- functions, aliases and constants may stand in a trait or an impl (Reference, associated items)
abbrev pub may_have_parent : GenericDefKind → Bool
may_have_parent Function = true
may_have_parent Adt = false
may_have_parent TypeAlias = true
may_have_parent ConstDef = true
may_have_parent Trait = false
may_have_parent Impl = false

abbrev pub may_be_parent : GenericDefKind → Bool
may_be_parent Function = false
may_be_parent Adt = false
may_be_parent TypeAlias = false
may_be_parent ConstDef = false
may_be_parent Trait = true
may_be_parent Impl = true

-- a parent is a declared trait or impl, and only what may have a parent names one
abbrev pub parent_right : List Definition → GenericDefKind → Option ℕ → Bool
parent_right ds k None = true
parent_right ds k (Some p) = may_have_parent k && may_be_parent (definition_at ds p).kind

-- where rows of a kind stand among the others: Self, lifetimes, types and constants mixed, impl-trait rows
-- (Reference, generic parameters: lifetimes come before types and constants, which may be mixed)
abbrev pub rank : RowKind → ℕ
rank TraitSelf = 0
rank LifetimeRow = 1
rank TypeRow = 2
rank ConstRow = 2
rank ImplTrait = 3

-- no row stands behind one of a later rank; `low` is the rank of the row before
abbrev pub in_order : ℕ → List Param → Bool
in_order low [] = true
in_order low (p ∷ ps) = nat_le low (rank p.kind) && in_order (rank p.kind) ps

abbrev pub one_if : Bool → ℕ
one_if true = 1
one_if false = 0

-- how many elements pass a test
abbrev pub tally : {X : Type 0} → (X → Bool) → List X → ℕ
tally test [] = 0
tally test (x ∷ xs) = one_if (test x) + tally test xs

-- how many rows have the rank
abbrev pub ranked : ℕ → List RowKind → ℕ
ranked n ks = tally (λ (k : RowKind). nat_eq (rank k) n) ks

-- a trait has one Self row, and nothing else has one
abbrev pub selves_of : GenericDefKind → ℕ
selves_of Function = 0
selves_of Adt = 0
selves_of TypeAlias = 0
selves_of ConstDef = 0
selves_of Trait = 1
selves_of Impl = 0

abbrev pub is_function : GenericDefKind → Bool
is_function Function = true
is_function Adt = false
is_function TypeAlias = false
is_function ConstDef = false
is_function Trait = false
is_function Impl = false

-- at most 32 rows, in order, with the Self rows that the kind has, and impl-trait rows in functions only
-- (Reference, impl trait: in argument position)
abbrev pub rows_right : GenericDefKind → List Param → Bool
rows_right k rows = nat_le (length rows) 32 && (in_order 0 rows && (ranked 0 (row_kinds_of rows) == selves_of k && (is_function k || ranked 3 (row_kinds_of rows) == 0)))

abbrev pub is_named : RowKind → Bool
is_named TraitSelf = false
is_named LifetimeRow = false
is_named TypeRow = true
is_named ConstRow = true
is_named ImplTrait = false

-- only named rows have defaults, and after one that has a default every named row has one; `seen` says that
-- one came before (Reference, generic parameters)
abbrev pub default_right : Bool → Param → Bool
default_right seen p = cond (is_some p.default) (is_named p.kind) (not (is_named p.kind && seen))

abbrev pub defaults_right : Bool → List Param → Bool
defaults_right seen [] = true
defaults_right seen (p ∷ ps) = default_right seen p && defaults_right (seen || is_some p.default) ps

-- a default is a term of its row's kind that refers to places before its own
abbrev pub default_reads : List Definition → List Kind → Param → Option (List Mark) → Bool
default_reads ds before p None = true
default_reads ds before p (Some ms) = is_term ds before (kind_of p.kind) ms

abbrev pub defaults_read : List Definition → List Kind → List Param → Bool
defaults_read ds before [] = true
defaults_read ds before (p ∷ ps) = default_reads ds before p p.default && defaults_read ds (before ++ kind_of p.kind ∷ []) ps

abbrev pub is_alias : GenericDefKind → Bool
is_alias Function = false
is_alias Adt = false
is_alias TypeAlias = true
is_alias ConstDef = false
is_alias Trait = false
is_alias Impl = false

-- an alias has a body, a term of kind type that refers to places of the whole list; nothing else has one
abbrev pub body_reads : List Definition → List Kind → GenericDefKind → Option (List Mark) → Bool
body_reads ds whole k None = not (is_alias k)
body_reads ds whole k (Some ms) = is_alias k && is_term ds whole TypeKind ms

abbrev pub terms_right : List Definition → Definition → Bool
terms_right ds d = defaults_read ds (kinds_of (parent_rows ds d.parent)) d.rows && body_reads ds (kinds_of (whole_rows ds d)) d.kind d.body

-- a definition follows the rules, with the definitions `ds` declared before it
abbrev pub follows : List Definition → Definition → Bool
follows ds d = parent_right ds d.kind d.parent && (rows_right d.kind d.rows && (defaults_right false d.rows && terms_right ds d))

-- 64 definitions, 512 rows and 2,048 marks are not passed with one definition more
abbrev pub has_room : List Definition → Definition → Bool
has_room ds d = nat_lt (length ds) 64 && (nat_le (row_total ds + length d.rows) 512 && nat_le (mark_total ds + (default_marks d.rows + marks_in d.body)) 2048)

-- each definition follows the rules with those before it
abbrev pub Lawful : List Definition → Type 0
Lawful ds = (i : ℕ) → i < length ds → follows (take i ds) (definition_at ds i) ≡ true

-- the stated limits are kept
abbrev pub Limited : List Definition → Type 0
Limited ds = (length ds ≤ 64) × (row_total ds ≤ 512) × (mark_total ds ≤ 2048)

-- what is left when a part is taken from a number, if it is large enough
abbrev pub lessen : ℕ → ℕ → Option ℕ
lessen whole part = cond (nat_le part whole) (Some (whole - part)) None
