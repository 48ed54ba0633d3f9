-- How brackets and quotes nest. Assumes nothing.
use Rattle.std.specs.Prelude.{ℕ, ◌+◌, ◌-◌, Bool, true, false, cond, ◌||◌, Some, None, Option, option_and_then, ◌==◌, nat_lt}
use Rattle.std.specs.Char.{is_ascii_digit, is_ascii_alphabetic}
use Rattle.listing.specs.declared.scanning.Mode.{Mode}
use Rattle.listing.specs.declared.scanning.Mode.TheVariants.{Plain, Word, Dash, Text, TextSlash, Tick, Ticked, Sealed, TickSlash, Escape}
use Rattle.listing.specs.declared.scanning.Role.{Role}
use Rattle.listing.specs.declared.scanning.Role.TheVariants.{Opens, Closes, Inner}
use Rattle.listing.specs.declared.scanning.Scan.{Scan}

-- a letter or _
abbrev pub letter : ℕ → Bool
letter b = is_ascii_alphabetic b || b == 95

-- a letter, _ or a digit
abbrev pub name_byte : ℕ → Bool
name_byte b = letter b || is_ascii_digit b

-- outside quotes: " begins a text, ' a lifetime or a quoted character, - may begin an arrow
abbrev fresh : ℕ → Mode
fresh b = cond (b == 34) Text (cond (b == 39) Tick (cond (b == 45) Dash (cond (name_byte b) Word Plain)))

-- a byte of a character that takes several
abbrev pub wide : ℕ → Bool
wide b = nat_lt 127 b

-- a byte that may stand in an escape: a name's byte, { or }
abbrev pub escaped : ℕ → Bool
escaped b = name_byte b || b == 123 || b == 125

abbrev pub next_mode : Mode → ℕ → Mode
next_mode Plain b = fresh b
next_mode Word b = fresh b
next_mode Dash b = fresh b
next_mode Text b = cond (b == 34) Plain (cond (b == 92) TextSlash Text)
next_mode TextSlash b = Text
next_mode Tick b = cond (b == 92) TickSlash (cond (name_byte b) Ticked Sealed)
next_mode Ticked b = cond (b == 39) Plain (fresh b)
next_mode Sealed b = cond (b == 39) Plain Sealed
next_mode TickSlash b = Escape
next_mode Escape b = cond (b == 39) Plain Escape

-- < ( [ { open, and > ) ] } close
abbrev pub bracket : ℕ → Role
bracket b = cond (b == 60 || b == 40 || b == 91 || b == 123) Opens (cond (b == 62 || b == 41 || b == 93 || b == 125) Closes Inner)

-- a bracket that is quoted, and the > of an arrow, are none; an apostrophe right behind a name, and a quoted
-- character that does not end, cannot stand there
abbrev pub role : Mode → ℕ → Option Role
role Plain b = Some (bracket b)
role Word b = cond (b == 39) None (Some (bracket b))
role Dash b = cond (b == 62) (Some Inner) (Some (bracket b))
role Text b = Some Inner
role TextSlash b = Some Inner
role Tick b = Some Inner
role Ticked b = cond (b == 39) (Some Inner) (Some (bracket b))
role Sealed b = cond (b == 39 || wide b) (Some Inner) None
role TickSlash b = Some Inner
role Escape b = cond (b == 39 || escaped b) (Some Inner) None

abbrev pub start : Scan
start = record { depth = 0; mode = Plain }

-- the depth behind a byte of the role, if there is one
abbrev pub moved : Role → ℕ → Option ℕ
moved Opens n = Some (n + 1)
moved Closes n = cond (n == 0) None (Some (n - 1))
moved Inner n = Some n

abbrev pub at_depth : Mode → Option ℕ → Option Scan
at_depth m None = None
at_depth m (Some n) = Some (record { depth = n; mode = m })

-- where a scan stands behind a byte, unless the byte closes what is not open, or cannot stand there
unfoldable pub after : Scan → ℕ → Option Scan
after s b = at_depth (next_mode s.mode b) (option_and_then (λ r. moved r s.depth) (role s.mode b))

-- no quote is open
abbrev ended : Mode → Bool
ended Plain = true
ended Word = true
ended Dash = true
ended Text = false
ended TextSlash = false
ended Tick = false
ended Ticked = true
ended Sealed = false
ended TickSlash = false
ended Escape = false

-- no quote and no bracket is open
unfoldable pub closed : Scan → Bool
closed s = cond (ended s.mode) (s.depth == 0) false
