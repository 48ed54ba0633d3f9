-- What a report list shows, and what telling and clearing do to it.
use Rattle.std.specs.Prelude.{◌≡◌, ℕ, ◌+◌, ◌<◌, List, [], ◌∷◌, ◌++◌, length}
use Rattle.diagnostics.specs.declared.reports.PathLoweringDiagnostic.{PathLoweringDiagnostic}

-- the reports told, in order, how many more can be told, and the stock: at least so many more entries of defaults and
-- parents can be made
pub record View : Type 0 where
  pub told : List PathLoweringDiagnostic
  pub room : ℕ
  pub stock : ℕ

-- a new list, with room for n reports
pub record Fresh (n : ℕ) (v : View) : Type 0 where
  pub told : v.told ≡ []
  pub room : v.room ≡ n
  pub stock : v.stock ≡ 0

-- a tell: one report more and one place less, or nothing where there is no room
pub record Told (r : PathLoweringDiagnostic) (v w : View) : Type 0 where
  pub appended : 0 < v.room → (w.told ≡ v.told ++ (r ∷ [])) × (w.room + 1 ≡ v.room)
  pub full : v.room ≡ 0 → (w.told ≡ v.told) × (w.room ≡ v.room)
  pub stock : w.stock ≡ v.stock

-- tells of these reports, in order, all of which had room
pub record ToldAll (rs : List PathLoweringDiagnostic) (v w : View) : Type 0 where
  pub told : w.told ≡ v.told ++ rs
  pub room : w.room + length rs ≡ v.room
  pub stock : w.stock ≡ v.stock

-- a clear: the places of the reports are room again
pub record Cleared (v w : View) : Type 0 where
  pub told : w.told ≡ []
  pub room : w.room ≡ length v.told + v.room
  pub stock : w.stock ≡ v.stock

-- told plus room
abbrev pub capacity_of : View → ℕ
capacity_of v = length v.told + v.room

-- what tells and clears, any number of them, can make of a list
pub data Leads : View → View → Type 0 where
  here : {v : View} → Leads v v
  tells : {v w x : View} (r : PathLoweringDiagnostic) → Leads v w → Told r w x → Leads v x
  clears : {v w x : View} → Leads v w → Cleared w x → Leads v x

-- told plus room never changes, and stock neither
abbrev pub Capacity-stays : Type 0
Capacity-stays = (v w : View) → Leads v w → (capacity_of w ≡ capacity_of v) × (w.stock ≡ v.stock)
