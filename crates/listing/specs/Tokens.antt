-- Which form an argument is written in. Assumes nothing.
use Rattle.std.specs.Prelude.{ℕ, ◌-◌, Bool, true, false, cond, ◌&&◌, ◌||◌, List, [], ◌∷◌, length, Some, None, codes, Option, ◌==◌, nat_lt, slice_index}
use Rattle.std.specs.Char.{is_ascii_digit}
use Rattle.std.specs.List.{prefix_len}
use Rattle.std.specs.Str.{bytes_eq}
use Rattle.path.specs.declared.args.Form.{Form}
use Rattle.path.specs.declared.args.Form.TheVariants.{Lifetime, «Type», Path, Placeholder, Constant}
use Rattle.listing.specs.declared.scanning.Mode.TheVariants.{Plain}
use Rattle.listing.specs.declared.scanning.Scan.{Scan}
use Rattle.listing.specs.declared.shapes.Place.{Place}
use Rattle.listing.specs.declared.shapes.Place.TheVariants.{First, Next, Name, Gap, Colon, Inside, Behind}
use Rattle.listing.specs.Blanks.{white}
use Rattle.listing.specs.Nesting.{after, closed, letter, name_byte}

-- behind a name: white space, a colon or a list may follow
abbrev behind : ℕ → Option Place
behind b = cond (white b) (Some Gap) (cond (b == 58) (Some Colon) (cond (b == 60) (Some (Inside (record { depth = 1; mode = Plain }))) None))

-- in a list: it ends with the bracket that closes it
abbrev pub inside : Option Scan → Option Place
inside None = None
inside (Some t) = Some (cond (closed t) Behind (Inside t))

-- the place in a path behind one more byte, if a path can have it there
abbrev pub place_after : Place → ℕ → Option Place
place_after First b = cond (letter b) (Some Name) None
place_after Next b = cond (letter b) (Some Name) (cond (white b) (Some Next) (cond (b == 60) (Some (Inside (record { depth = 1; mode = Plain }))) None))
place_after Name b = cond (name_byte b) (Some Name) (behind b)
place_after Gap b = behind b
place_after Colon b = cond (b == 58) (Some Next) None
place_after (Inside s) b = inside (after s b)
place_after Behind b = cond (white b) (Some Behind) (cond (b == 58) (Some Colon) None)

-- how many brackets are open there
abbrev pub deep : Place → ℕ
deep First = 0
deep Next = 0
deep Name = 0
deep Gap = 0
deep Colon = 0
deep (Inside s) = s.depth
deep Behind = 0

-- a path may end there
abbrev pub ends : Place → Bool
ends First = false
ends Next = false
ends Name = true
ends Gap = true
ends Colon = false
ends (Inside s) = false
ends Behind = true

-- names joined by ::, each with a list behind it or without
abbrev pub path_from : Place → List ℕ → Bool
path_from p [] = ends p
path_from p (b ∷ bs) = elim (place_after p b) [ None ↦ false | Some q ↦ path_from q bs ]

-- the byte between apostrophes, and no name behind one
abbrev pub quoted : List ℕ → Bool
quoted text = nat_lt 2 (length text) && slice_index text (length text - 1) == 39

-- a number, a text or a block: begins with a digit, - " or {
abbrev pub begins_constant : ℕ → Bool
begins_constant b = is_ascii_digit b || b == 45 || b == 34 || b == 123

-- true or false
abbrev pub truth : List ℕ → Bool
truth text = bytes_eq text (codes "true") || bytes_eq text (codes "false")

-- the form of an argument without white space around: 'x is a lifetime, _ a placeholder, a literal or a block a
-- constant, a path a path, and the rest are types
abbrev pub form : List ℕ → Form
form text = cond (slice_index text 0 == 39) (cond (quoted text) Constant Lifetime) (cond (bytes_eq text (codes "_")) Placeholder (cond (begins_constant (slice_index text 0) || truth text) Constant (cond (path_from First text) Path «Type»)))

-- how long the name is that a text begins with
abbrev pub name_length : List ℕ → ℕ
name_length text = cond (letter (slice_index text 0)) (prefix_len name_byte text) 0
