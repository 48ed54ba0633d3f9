use Rattle.std.proofs.Common.{◌≡◌, ◌+◌, ◌++◌, take, vec_items, vec_len, vec_capacity}
use Rattle.generics.proofs.lay.lay_marks.Given as goal

abbrev pub invariant-loop-mark : goal.invariant-loop-mark
invariant-loop-mark l =
    (vec_items l.marks ≡ vec_items l.initial.marks ++ take l.mark-index l.new)
    × (vec_capacity l.marks ≡ vec_capacity l.initial.marks)
    × (vec_len l.marks ≡ vec_len l.initial.marks + l.mark-index)
