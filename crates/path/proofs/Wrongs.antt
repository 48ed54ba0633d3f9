-- The reports about a path are exactly those of what is wrong with it.
use Rattle.std.proofs.Common.{◌≡◌, ℕ, zero, suc, ◌+◌, ◌<◌, ◌≤◌, true, ◌⊎◌, List, [], ◌∷◌, ◌++◌, length, take, is_some, Some, None, Option, sym, refl, inl, inr, arith, length-take}
use Rattle.std.proofs.lemmas.List.{append_assoc}
use Rattle.diagnostics.specs.declared.reports.GenericArgsProhibitedReason.{GenericArgsProhibitedReason}
use Rattle.diagnostics.specs.declared.reports.GenericArgsProhibitedReason.TheVariants.{Module}
use Rattle.diagnostics.specs.declared.reports.PathLoweringDiagnostic.{PathLoweringDiagnostic}
use Rattle.diagnostics.specs.declared.reports.PathLoweringDiagnostic.TheVariants.{GenericArgsProhibited}
use Rattle.path.specs.declared.segments.GenericArgs.{GenericArgs}
use Rattle.path.specs.declared.segments.PathSegment.{PathSegment}
use Rattle.path.specs.declared.segments.Resolution.{Resolution}
use Rattle.path.specs.Prohibits.{reason_of, resolved_of, list_at, report_on, reports_on, prohibited, Among, Upward, Exactly}

apart : (d : PathLoweringDiagnostic) (xs ys : List PathLoweringDiagnostic) → Among d (xs ++ ys) → Among d xs ⊎ Among d ys
apart d [] ys a = inr a
apart d (x ∷ xs) ys (inl e) = inl (inl e)
apart d (x ∷ xs) ys (inr a) = elim (apart d xs ys a) [ inl b ↦ inl (inr b) | inr b ↦ inr b ]

among_left : (d : PathLoweringDiagnostic) (xs ys : List PathLoweringDiagnostic) → Among d xs → Among d (xs ++ ys)
among_left d [] ys a = absurd a
among_left d (x ∷ xs) ys (inl e) = inl e
among_left d (x ∷ xs) ys (inr a) = inr (among_left d xs ys a)

among_right : (d : PathLoweringDiagnostic) (xs ys : List PathLoweringDiagnostic) → Among d ys → Among d (xs ++ ys)
among_right d [] ys a = a
among_right d (x ∷ xs) ys a = inr (among_right d xs ys a)

record On (n : ℕ) (a : Option GenericArgs) (w : Option GenericArgsProhibitedReason) (i : ℕ) (why : GenericArgsProhibitedReason) : Type 0 where
  at : i ≡ n
  list : is_some a ≡ true
  reason : w ≡ Some why

on : (n : ℕ) (a : Option GenericArgs) (w : Option GenericArgsProhibitedReason) (i : ℕ) (why : GenericArgsProhibitedReason) → Among (GenericArgsProhibited i why) (report_on n a w) → On n a w i why
on n None w i why h = absurd h
on n (Some list) None i why h = absurd h
on n (Some list) (Some y) i why (inl e) = record { at = cc; list = refl; reason = cc }
on n (Some list) (Some y) i why (inr h) = absurd h

on_back : (n : ℕ) (a : Option GenericArgs) (w : Option GenericArgsProhibitedReason) (i : ℕ) (why : GenericArgsProhibitedReason) → On n a w i why → Among (GenericArgsProhibited i why) (report_on n a w)
on_back n None w i why o = absurd (let l = o.list in grind arith)
on_back n (Some list) None i why o = absurd (let l = o.reason in grind arith)
on_back n (Some list) (Some y) i why o = let l = o.reason in let e = o.at in inl (cc)

-- module k of those from n on
record OnModule (n : ℕ) (xs : List PathSegment) (m : ℕ) (i : ℕ) (why : GenericArgsProhibitedReason) : Type 0 where
  k : ℕ
  at : i ≡ n + k
  below : k < m
  list : is_some (list_at xs k) ≡ true
  reason : why ≡ Module

on_module : (n : ℕ) (xs : List PathSegment) (m i : ℕ) (why : GenericArgsProhibitedReason) → Among (GenericArgsProhibited i why) (reports_on n (take m xs)) → OnModule n xs m i why
on_module n xs zero i why h = absurd h
on_module n [] (suc m) i why h = absurd h
on_module n (x ∷ xs) (suc m) i why h =
    elim (apart (GenericArgsProhibited i why) (report_on n x.args (Some Module)) (reports_on (n + 1) (take m xs)) h) [
      | inl a ↦
          let o = on n x.args (Some Module) i why a in
          let e = o.reason in
          record { k = 0; at = omega (arith, o.at); below = omega arith; list = o.list; reason = cc }
      | inr b ↦
          let o = on_module (n + 1) xs m i why b in
          record { k = suc o.k; at = omega (arith, o.at); below = omega (arith, o.below); list = o.list; reason = o.reason }
    ]

on_module_back : (n : ℕ) (xs : List PathSegment) (m i k : ℕ) → i ≡ n + k → k < m → is_some (list_at xs k) ≡ true → Among (GenericArgsProhibited i Module) (reports_on n (take m xs))
on_module_back n xs zero i k e h l = absurd (omega arith)
on_module_back n [] (suc m) i k e h l = absurd (grind arith)
on_module_back n (x ∷ xs) (suc m) i zero e h l =
    among_left (GenericArgsProhibited i Module) (report_on n x.args (Some Module)) (reports_on (n + 1) (take m xs)) (on_back n x.args (Some Module) i Module (record { at = omega arith; list = l; reason = refl }))
on_module_back n (x ∷ xs) (suc m) i (suc k) e h l =
    among_right (GenericArgsProhibited i Module) (report_on n x.args (Some Module)) (reports_on (n + 1) (take m xs)) (on_module_back (n + 1) xs m i k (omega arith) (omega arith) l)

up_last : (i n : ℕ) (a : Option GenericArgs) (w : Option GenericArgsProhibitedReason) → i ≤ n → Upward i (report_on n a w)
up_last i n None w h = tt
up_last i n (Some list) None h = tt
up_last i n (Some list) (Some why) h = (h, tt)

up_one : (i n : ℕ) (a : Option GenericArgs) (w : Option GenericArgsProhibitedReason) (rest : List PathLoweringDiagnostic) → i ≤ n → ((j : ℕ) → j ≤ n + 1 → Upward j rest) → Upward i (report_on n a w ++ rest)
up_one i n None w rest h f = f i (omega arith)
up_one i n (Some list) None rest h f = f i (omega arith)
up_one i n (Some list) (Some why) rest h f = (h, f (n + 1) (omega arith))

up_all : (i n : ℕ) (xs : List PathSegment) (rest : List PathLoweringDiagnostic) → i ≤ n → ((j : ℕ) → j ≤ n + length xs → Upward j rest) → Upward i (reports_on n xs ++ rest)
up_all i n [] rest h f = f i (omega arith)
up_all i n (x ∷ xs) rest h f =
    rw append_assoc (up_one i n x.args (Some Module) (reports_on (n + 1) xs ++ rest) h (λ j l. up_all j (n + 1) xs rest l (λ k m. f k (omega arith))))

pub exactly : (segments : List PathSegment) (r : Resolution) → Exactly segments r (prohibited segments r)
exactly segments r =
    let n = resolved_of segments r in
    let modules = reports_on 0 (take n segments) in
    let last = report_on n (list_at segments n) (reason_of r.kind) in
    record {
      sound = λ i why a. elim (apart (GenericArgsProhibited i why) modules last a) [
        | inl b ↦
            let o = on_module 0 segments n i why b in
            let e : o.k ≡ i = omega (arith, o.at) in
            record { has_list = rw e at o.list; may_not = inl (omega (arith, o.below), o.reason) }
        | inr b ↦
            let o = on n (list_at segments n) (reason_of r.kind) i why b in
            let e : n ≡ i = sym o.at in
            record { has_list = rw e at o.list; may_not = inr (o.at, o.reason) }
      ];
      whole = λ i why w. elim w.may_not [
        | inl b ↦ rw b.1 (among_left (GenericArgsProhibited i Module) modules last (on_module_back 0 segments n i i (omega arith) b.0 w.has_list))
        | inr b ↦
            let e : i ≡ n = b.0 in
            among_right (GenericArgsProhibited i why) modules last (on_back n (list_at segments n) (reason_of r.kind) i why (record { at = e; list = rw e at w.has_list; reason = b.1 }))
      ];
      upward = up_all 0 0 (take n segments) last (omega arith) (λ j h. up_last j n (list_at segments n) (reason_of r.kind) (omega (arith, length-take n segments)));
    }
