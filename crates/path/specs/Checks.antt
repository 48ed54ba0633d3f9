-- What the check of a path answers.
use Rattle.std.specs.Prelude.{ℕ, Bool, false, cond, ◌&&◌, ◌||◌, Some, None, Ok, Err, Option, Result, ◌==◌, nat_lt}
use Rattle.path.specs.declared.checked.CheckedPath.{CheckedPath}
use Rattle.path.specs.declared.checked.CheckRefusal.{CheckRefusal}
use Rattle.path.specs.declared.checked.CheckRefusal.TheVariants.{ManySegments, BadIndex, NoRoom}
use Rattle.path.specs.Prohibits.{resolved_segment}

-- the number of a refusal
abbrev pub refusal_number : CheckRefusal → ℕ
refusal_number ManySegments = 11
refusal_number BadIndex = 12
refusal_number NoRoom = 13

-- a path passes with its resolved segment, or is refused with a number
pub data CheckAnswer : Type 0 where
  passes : ℕ → CheckAnswer
  refused : ℕ → CheckAnswer

-- what was answered
abbrev pub check_answer : Result CheckedPath CheckRefusal → CheckAnswer
check_answer (Ok path) = passes path.segment
check_answer (Err e) = refused (refusal_number e)

-- a remaining index of 0, or above the number of segments, if there are any
abbrev pub bad_index : ℕ → Option ℕ → Bool
bad_index count None = false
bad_index count (Some index) = nat_lt 0 count && (index == 0 || nat_lt count index)

-- what is to be answered for `count` segments, with that room in the report list; the first cause decides
abbrev pub check_rule : ℕ → Option ℕ → ℕ → CheckAnswer
check_rule count remaining room = cond (nat_lt 16 count) (refused 11) (cond (bad_index count remaining) (refused 12) (cond (nat_lt room count) (refused 13) (passes (resolved_segment count remaining))))
