-- The reports about modules, one module more.
use Rattle.std.proofs.Common.{◌≡◌, ℕ, zero, suc, ◌+◌, ◌<◌, ◌≤◌, List, [], ◌∷◌, ◌++◌, length, get_or, take, Some, None, Option, sym, ap, ◌∙◌, add-one, arith, length-append, length-take}
use Rattle.std.proofs.lemmas.List.{append-nil, append_assoc}
use Rattle.diagnostics.specs.declared.reports.GenericArgsProhibitedReason.{GenericArgsProhibitedReason}
use Rattle.diagnostics.specs.declared.reports.GenericArgsProhibitedReason.TheVariants.{Module}
use Rattle.path.specs.declared.segments.GenericArgs.{GenericArgs}
use Rattle.path.specs.declared.segments.PathSegment.{PathSegment}
use Rattle.diagnostics.specs.Tells.{View, ToldAll}
use Rattle.path.specs.Prohibits.{report_on, reports_on}

pub on_short : (i : ℕ) (a : Option GenericArgs) (why : Option GenericArgsProhibitedReason) → length (report_on i a why) ≤ 1
on_short i None why = omega arith
on_short i (Some list) None = omega arith
on_short i (Some list) (Some why) = omega arith

-- there are no more reports than segments
pub short : (i n : ℕ) (xs : List PathSegment) → length (reports_on i (take n xs)) ≤ n
short i zero xs = omega arith
short i (suc n) [] = omega arith
short i (suc n) (x ∷ xs) = simp length-append (omega (arith, on_short i x.args (Some Module), short (i + 1) n xs))

more : (n : ℕ) (xs : List PathSegment) (i k : ℕ) (d : PathSegment) → i < length xs → n + i ≡ k → reports_on n (take (suc i) xs) ≡ reports_on n (take i xs) ++ report_on k (get_or xs i d).args (Some Module)
more n [] i k d h e = absurd (omega arith)
more n (x ∷ xs) zero k d h e =
    let same : n ≡ k = omega arith in
    append-nil (report_on n x.args (Some Module)) ∙ ap (λ m. report_on m x.args (Some Module)) same
more n (x ∷ xs) (suc i) k d h e =
    ap (λ l. report_on n x.args (Some Module) ++ l) (more (n + 1) xs i k d (omega arith) (omega arith)) ∙ sym (append_assoc (report_on n x.args (Some Module)) (reports_on (n + 1) (take i xs)) (report_on k (get_or xs i d).args (Some Module)))

pub one_more : (xs : List PathSegment) (i : ℕ) (d : PathSegment) → i < length xs → reports_on 0 (take (i + 1) xs) ≡ reports_on 0 (take i xs) ++ report_on i (get_or xs i d).args (Some Module)
one_more xs i d h = rw add-one (more 0 xs i i d h (omega arith))

-- each place before the n-th takes at most one from the room
pub room_left : (n : ℕ) (xs : List PathSegment) (v w : View) → ToldAll (reports_on 0 (take n xs)) v w → v.room ≤ w.room + n
room_left n xs v w t = omega (arith, t.room, short 0 n xs)

-- a position in the first n segments
module _ (i n : ℕ) (xs : List PathSegment) where
  pub before_end : i < length (take n xs) → i < length xs
  before_end h = omega (arith, h, length-take n xs)

  pub before_next : i ≤ length (take n xs) → i ≤ n
  before_next h = omega (arith, h, length-take n xs)
