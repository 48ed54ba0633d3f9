-- What a making does to what a lowerer shows. Assumes nothing.
use Rattle.std.specs.Prelude.{◌≡◌, ℕ, ◌+◌, ◌⊎◌}
use Rattle.diagnostics.specs.Tells.{View}

-- the same, or one less
abbrev pub OneLess : ℕ → ℕ → Type 0
OneLess before after = (after ≡ before) ⊎ (after + 1 ≡ before)

-- reports, room and stock are as they were
pub record Untouched (v w : View) : Type 0 where
  pub told : w.told ≡ v.told
  pub room : w.room ≡ v.room
  pub stock : w.stock ≡ v.stock

-- reports and room are as they were, and the stock is lower by one or as it was
pub record Spent (v w : View) : Type 0 where
  pub told : w.told ≡ v.told
  pub room : w.room ≡ v.room
  pub stock : OneLess v.stock w.stock
