-- The words for why a text cannot be read. Assumes nothing.
use Rattle.std.specs.Prelude.{ℕ, ◌+◌, List, ◌++◌, min, codes, decimal}
use Rattle.listing.specs.declared.faults.Reason.{Reason}
use Rattle.listing.specs.declared.faults.Reason.TheVariants as reason
use Rattle.listing.specs.declared.faults.Fault.{Fault}
use Rattle.listing.specs.declared.faults.ReadError.{ReadError}
use Rattle.listing.specs.declared.faults.ReadError.TheVariants.{Unreadable, NoMemory}

-- why a text cannot be read
abbrev pub reason_words : Reason → List ℕ
reason_words reason.Unopened = codes "a bracket is closed that is not open, or an apostrophe is out of place"
reason_words reason.Unclosed = codes "a bracket or a quote is not closed"
reason_words reason.Empty = codes "nothing stands between two commas"
reason_words reason.Many = codes "there are too many arguments"
reason_words reason.Name = codes "a name should stand here"
reason_words reason.Behind = codes "what stands behind a name is no list"
reason_words reason.Colons = codes "names are joined by two colons"
reason_words reason.Row = codes "a row is written 'name, Name or const NAME"
reason_words reason.Default = codes "a default is a number, a name, 'static or a row's lifetime"
reason_words reason.Twice = codes "a template of this name is declared already"
reason_words reason.Heading = codes "no heading stands before this line"

-- where it cannot be read, by the byte counted from 1, and why
abbrev pub fault_words : Fault → List ℕ
fault_words u = codes "cannot be read, column " ++ decimal (min (u.at + 1) 0xffff_ffff_ffff_ffff) ++ codes ": " ++ reason_words u.reason

-- what a reading refuses with
abbrev pub error_words : ReadError → List ℕ
error_words (Unreadable u) = fault_words u
error_words NoMemory = codes "memory allocation failed"
