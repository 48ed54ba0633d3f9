-- What the two report lists show.
use Rattle.std.specs.Prelude.{ℕ, ◌-◌, List, length, take}
use Rattle.std.specs.declared.convert.AsSlice.{Ghosts as Lending}
use Rattle.diagnostics.specs.declared.reports.PathLoweringDiagnostic.{PathLoweringDiagnostic}
use Rattle.diagnostics.specs.declared.held.Places.{Ghosts as Placing}
use Rattle.diagnostics.specs.declared.held.Reports.{Reports}
use Rattle.diagnostics.specs.Tells.{View}

-- the first `count` places were told, the others are room
abbrev pub places_view : List PathLoweringDiagnostic → ℕ → View
places_view places count = record { told = take count places; room = length places - count; stock = 0 }

-- a list with places of its own
abbrev pub own_view : {p : Placing (List PathLoweringDiagnostic)} {l : Lending (List PathLoweringDiagnostic) PathLoweringDiagnostic} → Reports (List PathLoweringDiagnostic) p l → View
own_view s = places_view s.places s.count
