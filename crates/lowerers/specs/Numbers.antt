-- What the variable lowerer shows, and which entry has which variable. Assumes nothing.
use Rattle.std.specs.Prelude.{◌≡◌, ℕ, zero, suc, ◌+◌, ◌-◌, ◌<◌, cond, ◌&&◌, List, [], ◌∷◌, Some, None, Option, ◌≢◌, nat_lt}
use Rattle.diagnostics.specs.Lists.{own_view}
use Rattle.diagnostics.specs.Tells.{View}
use Rattle.lowerer.specs.declared.meaning.ParamPlace.{ParamPlace}
use Rattle.lowerer.specs.declared.meaning.Source.{Source}
use Rattle.lowerer.specs.declared.meaning.Source.TheVariants as source
use Rattle.lowerers.specs.declared.lowering.Lowering.{Lowering}
use Rattle.lowerers.specs.declared.entries.Made.{Made}
use Rattle.lowerers.specs.declared.variables.Kept.{Kept}
use Rattle.lowerers.specs.declared.variables.Kept.TheVariants.{Variable, Default}
use Rattle.lowerers.specs.declared.variables.Variables.{Variables}
use Rattle.lowerers.specs.Entries.{is_open}
use Rattle.lowerers.specs.Shown.{with_stock}

-- how many of the 256 variables are left
abbrev pub variables_left : ℕ → ℕ
variables_left taken = 256 - taken

abbrev pub variable_view : Lowering Variables → View
variable_view s = with_stock (own_view s.reports) (variables_left s.makes.taken)

-- an entry of the variable lowerer
abbrev pub VariableArg : Type 0
VariableArg = Made Kept

abbrev pub number_in : Option Kept → Option ℕ
number_in None = None
number_in (Some (Variable n)) = Some n
number_in (Some (Default r)) = None

abbrev pub row_in : Option Kept → Option ParamPlace
row_in None = None
row_in (Some (Variable n)) = None
row_in (Some (Default r)) = Some r

-- the variable of an entry, if it has one
abbrev pub numbered_by : VariableArg → Option ℕ
numbered_by e = number_in e.kept

-- the row whose default an entry is, if it is one
abbrev pub named_by : VariableArg → Option ParamPlace
named_by e = row_in e.kept

-- what is kept of an entry that takes the next variable, if one is left
abbrev pub kept_next : ℕ → Option Kept
kept_next taken = cond (nat_lt taken 256) (Some (Variable taken)) None

-- the variable of an entry that was made while so many were taken: the next one, if one is left and the entry is open
abbrev pub next_for : ℕ → Source → Option ℕ
next_for taken s = cond (nat_lt 0 (variables_left taken) && is_open s) (Some taken) None

-- a default is named by its row
abbrev pub name_for : Source → ParamPlace → Option ParamPlace
name_for (source.Supplied h) r = None
name_for (source.Explicit h) r = None
name_for source.Default r = Some r
name_for source.Unknown r = None
name_for source.Parent r = None
name_for (source.Elided n) r = None

-- a making that gave its entry the next variable, or none; n were taken before it and m after it
abbrev pub Took : ℕ → Option ℕ → ℕ → Type 0
Took n None m = m ≡ n
Took n (Some v) m = (v ≡ n) × (m ≡ n + 1)

-- what inferred and parent do with the variables for the row r
pub record Numbering (s t : Variables) (r : ParamPlace) (e : VariableArg) : Type 0 where
  pub number : numbered_by e ≡ next_for s.taken e.meaning.source
  pub took : Took s.taken (numbered_by e) t.taken
  pub name : named_by e ≡ name_for e.meaning.source r

-- entries made one after another, with n variables taken before them and m after them
pub data Makings : ℕ → List VariableArg → ℕ → Type 0 where
  none : {n : ℕ} → Makings n [] n
  more : {n m k : ℕ} {e : VariableArg} {es : List VariableArg} → Took n (numbered_by e) m → Makings m es k → Makings n (e ∷ es) k

abbrev pub number_at : List VariableArg → ℕ → Option ℕ
number_at [] i = None
number_at (e ∷ es) zero = numbered_by e
number_at (e ∷ es) (suc i) = number_at es i

-- no two of them have one variable
abbrev pub Apart : Type 0
Apart = (n k : ℕ) (es : List VariableArg) → Makings n es k → (i j v : ℕ) → i < j → number_at es i ≡ Some v → number_at es j ≢ Some v
