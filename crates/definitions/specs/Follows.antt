-- The rules on definitions as relations between positions, and that the tests say the same. Assumes nothing.
use Rattle.std.specs.Prelude.{◌≡◌, ℕ, ◌+◌, ◌<◌, ◌≤◌, true, false, List, ◌++◌, length, take, is_some, Some, None, Decides, Option, slice_index_or}
use Rattle.definitions.specs.declared.kinds.GenericDefKind.{GenericDefKind}
use Rattle.definitions.specs.declared.kinds.GenericDefKind.TheVariants.{Trait}
use Rattle.definitions.specs.declared.kinds.RowKind.TheVariants.{TraitSelf, ImplTrait}
use Rattle.definitions.specs.declared.kinds.Kind.{Kind}
use Rattle.definitions.specs.declared.kinds.Kind.TheVariants.{«Type» as TypeKind}
use Rattle.definitions.specs.declared.kinds.Mark.{Mark}
use Rattle.definitions.specs.Definitions.{Param, Definition, kind_of, kinds_of, definition_at, parent_rows, whole_rows, marks_in, default_marks, row_total, mark_total}
use Rattle.definitions.specs.Rules.{may_have_parent, may_be_parent, rank, is_function, is_named, is_alias, parent_right, rows_right, defaults_right, terms_right, has_room}
use Rattle.definitions.specs.Terms.{Term}

abbrev pub no_param : Param
no_param = record { kind = TraitSelf; default = None }

-- the row at a position
abbrev pub row_at : List Param → ℕ → Param
row_at rows i = slice_index_or rows i no_param

-- a parent is named only where one may be, and is declared
abbrev pub ParentFollows : List Definition → GenericDefKind → Option ℕ → Type 0
ParentFollows ds k parent = (p : ℕ) → parent ≡ Some p → (may_have_parent k ≡ true) × (p < length ds) × (may_be_parent (definition_at ds p).kind ≡ true)

-- the rules on rows: no row stands before one of an earlier rank; Self stands first in a trait and nowhere else;
-- impl-trait rows stand in functions only
pub record RowsFollow (k : GenericDefKind) (rows : List Param) : Type 0 where
  pub few : length rows ≤ 32
  pub ordered : (i j : ℕ) → i < j → j < length rows → rank (row_at rows i).kind ≤ rank (row_at rows j).kind
  pub first : k ≡ Trait → (0 < length rows) × ((row_at rows 0).kind ≡ TraitSelf)
  pub alone : (i : ℕ) → i < length rows → (row_at rows i).kind ≡ TraitSelf → (k ≡ Trait) × (i ≡ 0)
  pub impls : (i : ℕ) → i < length rows → (row_at rows i).kind ≡ ImplTrait → is_function k ≡ true

-- only named rows have defaults, and behind one that has a default every named row has one
pub record DefaultsFollow (rows : List Param) : Type 0 where
  pub named : (i : ℕ) → i < length rows → is_some (row_at rows i).default ≡ true → is_named (row_at rows i).kind ≡ true
  pub behind : (i j : ℕ) → i < j → j < length rows → is_some (row_at rows i).default ≡ true → is_named (row_at rows j).kind ≡ true → is_some (row_at rows j).default ≡ true

-- at most 32 marks that are one term of the kind over these places
abbrev pub OneTerm : List Definition → List Kind → Kind → List Mark → Type 0
OneTerm ds places k ms = (length ms ≤ 32) × Term ds places ms 0 (length ms) k

-- a default is a term of its row's kind over the places before its own; an alias, and nothing else, has a body, a type
-- over all places
pub record TermsFollow (ds : List Definition) (d : Definition) : Type 0 where
  pub defaults : (i : ℕ) (ms : List Mark) → i < length d.rows → (row_at d.rows i).default ≡ Some ms → OneTerm ds (kinds_of (parent_rows ds d.parent) ++ kinds_of (take i d.rows)) (kind_of (row_at d.rows i).kind) ms
  pub bodied : is_some d.body ≡ is_alias d.kind
  pub body : (ms : List Mark) → d.body ≡ Some ms → OneTerm ds (kinds_of (whole_rows ds d)) TypeKind ms

-- the stated limits with one definition more
pub record Fits (ds : List Definition) (d : Definition) : Type 0 where
  pub defs : length ds < 64
  pub rows : row_total ds + length d.rows ≤ 512
  pub marks : mark_total ds + (default_marks d.rows + marks_in d.body) ≤ 2048

-- a definition follows the rules, with the definitions `ds` declared before it
pub record Rightful (ds : List Definition) (d : Definition) : Type 0 where
  pub parents : ParentFollows ds d.kind d.parent
  pub rows : RowsFollow d.kind d.rows
  pub defaults : DefaultsFollow d.rows
  pub terms : TermsFollow ds d

-- each of the definitions does, with those before it
abbrev pub AllRightful : List Definition → Type 0
AllRightful ds = (i : ℕ) → i < length ds → Rightful (take i ds) (definition_at ds i)

-- each test decides its relation
pub record TestsDecide (ds : List Definition) (d : Definition) : Type 0 where
  pub parents : Decides (parent_right ds d.kind d.parent) (ParentFollows ds d.kind d.parent)
  pub rows : Decides (rows_right d.kind d.rows) (RowsFollow d.kind d.rows)
  pub defaults : Decides (defaults_right false d.rows) (DefaultsFollow d.rows)
  pub terms : Decides (terms_right ds d) (TermsFollow ds d)
  pub room : Decides (has_room ds d) (Fits ds d)
