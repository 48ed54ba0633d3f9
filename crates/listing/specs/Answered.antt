-- What a reading answers. Assumes nothing.
use Rattle.std.specs.Prelude.{◌≡◌, Some, None, Ok, Err, Option, Result}
use Rattle.listing.specs.declared.faults.Fault.{Fault}
use Rattle.listing.specs.declared.faults.ReadError.{ReadError}
use Rattle.listing.specs.declared.faults.ReadError.TheVariants.{Unreadable, NoMemory}

-- where the text has no fault, what it should be; else the fault. Nothing is said where memory is wanting
abbrev pub Reads : {X : Type 0} → Result X ReadError → Option Fault → (X → Type 0) → Type 0
Reads (Ok x) f P = (f ≡ None) × P x
Reads (Err (Unreadable u)) f P = f ≡ Some u
Reads (Err NoMemory) f P = Unit {0}
