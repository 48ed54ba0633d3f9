-- What a lowerer shows. Assumes nothing.
use Rattle.std.specs.Prelude.{ℕ, []}
use Rattle.diagnostics.specs.Lists.{own_view}
use Rattle.diagnostics.specs.Tells.{View}
use Rattle.lowerers.specs.declared.lowering.Lowering.{Lowering}

-- what a report list shows, with a stock
abbrev pub with_stock : View → ℕ → View
with_stock v n = record { told = v.told; room = v.room; stock = n }

-- what a lowerer shows, by the stock of what it makes its entries with
abbrev pub view_by : {M : Type 0} → (M → ℕ) → Lowering M → View
view_by left s = with_stock (own_view s.reports) (left s.makes)

-- a new lowerer: nothing told, room for 64 reports, and a stock
abbrev pub fresh_view : ℕ → View
fresh_view n = record { told = []; room = 64; stock = n }
