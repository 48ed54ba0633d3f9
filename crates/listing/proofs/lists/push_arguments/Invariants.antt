use Rattle.std.proofs.Common.{◌≡◌, ◌+◌, ◌++◌, drop, vec_items, vec_len, vec_capacity}
use Rattle.listing.specs.Arguments.{args_of}
use Rattle.listing.proofs.lists.push_arguments.Given as goal

abbrev pub invariant-loop-span : goal.invariant-loop-span
invariant-loop-span l =
    (vec_items l.args ++ args_of l.text (vec_len l.args) (drop l.span-index l.spans) ≡ vec_items l.initial.args ++ args_of l.text (vec_len l.initial.args) l.spans)
    × (vec_len l.args ≡ vec_len l.initial.args + l.span-index)
    × (vec_capacity l.args ≡ vec_capacity l.initial.args)
