-- Which segments of a path may have no list, and the reports about those that have one.
use Rattle.std.specs.Prelude.{◌≡◌, ℕ, ◌+◌, ◌-◌, ◌<◌, ◌≤◌, true, cond, ◌⊎◌, List, [], ◌∷◌, ◌++◌, length, take, is_some, Some, None, Option, ◌==◌, slice_index_or}
use Rattle.diagnostics.specs.declared.reports.GenericArgsProhibitedReason.{GenericArgsProhibitedReason}
use Rattle.diagnostics.specs.declared.reports.GenericArgsProhibitedReason.TheVariants as reason
use Rattle.diagnostics.specs.declared.reports.PathLoweringDiagnostic.{PathLoweringDiagnostic}
use Rattle.diagnostics.specs.declared.reports.PathLoweringDiagnostic.TheVariants.{GenericArgsProhibited, IncorrectGenericsLen, IncorrectGenericsOrder, ElidedLifetimesInPath, ElisionFailure, MissingLifetime}
use Rattle.path.specs.declared.segments.GenericArgs.{GenericArgs}
use Rattle.path.specs.declared.segments.PathSegment.{PathSegment}
use Rattle.path.specs.declared.segments.Resolution.{Resolution}
use Rattle.path.specs.declared.segments.TypeNs.{TypeNs}
use Rattle.path.specs.declared.segments.TypeNs.TheVariants.{SelfType, AdtSelfType, GenericParam, BuiltinType, Module, Adt, EnumVariant, TypeAlias, Trait}

-- why the resolved segment may have no list, by what the path names
abbrev pub reason_of : TypeNs → Option GenericArgsProhibitedReason
reason_of SelfType = Some reason.SelfTy
reason_of AdtSelfType = Some reason.SelfTy
reason_of GenericParam = Some reason.TyParam
reason_of BuiltinType = Some reason.PrimitiveTy
reason_of Module = Some reason.Module
reason_of Adt = None
reason_of EnumVariant = None
reason_of TypeAlias = None
reason_of Trait = None

-- the resolved one of `count` segments: the remaining index less one, else the last; 0 if there are none
abbrev pub resolved_segment : ℕ → Option ℕ → ℕ
resolved_segment count None = count - 1
resolved_segment count (Some index) = cond (count == 0) 0 (index - 1)

-- the number of the resolved segment of a path
abbrev pub resolved_of : List PathSegment → Resolution → ℕ
resolved_of segments r = resolved_segment (length segments) r.remaining

-- the list of segment i, if it has one
abbrev pub list_at : List PathSegment → ℕ → Option GenericArgs
list_at segments i = (slice_index_or segments i (record { args = None })).args

-- the report about segment i, if it has a list and there is a reason against one
abbrev pub report_on : ℕ → Option GenericArgs → Option GenericArgsProhibitedReason → List PathLoweringDiagnostic
report_on i None why = []
report_on i (Some list) None = []
report_on i (Some list) (Some why) = GenericArgsProhibited i why ∷ []

-- the reports about modules, the first of which is segment i
abbrev pub reports_on : ℕ → List PathSegment → List PathLoweringDiagnostic
reports_on i [] = []
reports_on i (s ∷ more) = report_on i s.args (Some reason.Module) ++ reports_on (i + 1) more

-- the reports about a path, in order: those about the modules before the resolved segment, then that about it
abbrev pub prohibited : List PathSegment → Resolution → List PathLoweringDiagnostic
prohibited segments r = reports_on 0 (take (resolved_of segments r) segments) ++ report_on (resolved_of segments r) (list_at segments (resolved_of segments r)) (reason_of r.kind)

-- segment i has a list and may have none: it is a module, or the resolved segment where there is a reason
pub record Wrong (segments : List PathSegment) (r : Resolution) (i : ℕ) (why : GenericArgsProhibitedReason) : Type 0 where
  pub has_list : is_some (list_at segments i) ≡ true
  pub may_not : ((i < resolved_of segments r) × (why ≡ reason.Module)) ⊎ ((i ≡ resolved_of segments r) × (reason_of r.kind ≡ Some why))

-- a report is one of a list
abbrev pub Among : PathLoweringDiagnostic → List PathLoweringDiagnostic → Type 0
Among d [] = ⊥
Among d (e ∷ more) = (d ≡ e) ⊎ Among d more

-- reports of prohibited lists alone, on segments from i on, each on a later one than the report before
abbrev pub Upward : ℕ → List PathLoweringDiagnostic → Type 0
Upward i [] = Unit {0}
Upward i (GenericArgsProhibited n why ∷ more) = (i ≤ n) × Upward (n + 1) more
Upward i (IncorrectGenericsLen a b c d e ∷ more) = ⊥
Upward i (IncorrectGenericsOrder a b c d ∷ more) = ⊥
Upward i (ElidedLifetimesInPath a b c d ∷ more) = ⊥
Upward i (ElisionFailure a b c ∷ more) = ⊥
Upward i (MissingLifetime a b c ∷ more) = ⊥

-- the reports are of what is wrong, of all that is wrong, and go upward
pub record Exactly (segments : List PathSegment) (r : Resolution) (ds : List PathLoweringDiagnostic) : Type 0 where
  pub sound : (i : ℕ) (why : GenericArgsProhibitedReason) → Among (GenericArgsProhibited i why) ds → Wrong segments r i why
  pub whole : (i : ℕ) (why : GenericArgsProhibitedReason) → Wrong segments r i why → Among (GenericArgsProhibited i why) ds
  pub upward : Upward 0 ds
