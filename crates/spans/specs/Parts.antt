-- Which items of a list a span names. Assumes nothing.
use Rattle.std.specs.Prelude.{ℕ, ◌+◌, List, take, drop}
use Rattle.spans.specs.declared.Span.{Span}

abbrev pub part : {X : Type 0} → List X → Span → List X
part xs s = take s.len (drop s.from xs)

-- the position behind its last item
abbrev pub past : Span → ℕ
past s = s.from + s.len
