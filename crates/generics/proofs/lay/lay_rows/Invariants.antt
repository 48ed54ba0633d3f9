use Rattle.std.proofs.Common.{◌≡◌, ◌+◌, ◌++◌, drop, vec_items, vec_len, vec_capacity}
use Rattle.definitions.specs.Definitions.{default_marks}
use Rattle.generics.specs.Laid.{flat, laid}
use Rattle.generics.specs.Lays.{params_asked}
use Rattle.generics.proofs.lay.lay_rows.Given as goal

-- what is there, with what is still to be laid, comes to the whole
abbrev pub invariant-loop-row : goal.invariant-loop-row
invariant-loop-row l =
    (vec_items l.rows ++ laid (vec_len l.marks) (params_asked (drop l.row-index l.new)) ≡ vec_items l.initial.rows ++ laid (vec_len l.initial.marks) (params_asked l.new))
    × (vec_items l.marks ++ flat (params_asked (drop l.row-index l.new)) ≡ vec_items l.initial.marks ++ flat (params_asked l.new))
    × (vec_capacity l.rows ≡ vec_capacity l.initial.rows)
    × (vec_capacity l.marks ≡ vec_capacity l.initial.marks)
    × (vec_len l.rows ≡ vec_len l.initial.rows + l.row-index)
    × (vec_len l.marks + default_marks (params_asked (drop l.row-index l.new)) ≡ vec_len l.initial.marks + default_marks (params_asked l.new))
