-- White space. Assumes nothing.
use Rattle.std.specs.Prelude.{ℕ, ◌-◌, Bool, ◌||◌, List, length, ◌==◌}
use Rattle.std.specs.List.{list_all, prefix_len, suffix_len}
use Rattle.spans.specs.declared.Span.{Span}

-- a space, a tab or a carriage return
abbrev pub white : ℕ → Bool
white b = b == 32 || b == 9 || b == 13

-- nothing but white space
abbrev pub blank : List ℕ → Bool
blank text = list_all white text

-- the text without the white space that it begins and ends with
abbrev pub trimmed : List ℕ → Span
trimmed text = record { from = prefix_len white text; len = length text - suffix_len white text - prefix_len white text }
