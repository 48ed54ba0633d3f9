-- The words for what takes no arguments.
use Rattle.std.specs.Prelude.{ℕ, List, codes}
use Rattle.diagnostics.specs.declared.reports.GenericArgsProhibitedReason.{GenericArgsProhibitedReason}
use Rattle.diagnostics.specs.declared.reports.GenericArgsProhibitedReason.TheVariants.{Module, TyParam, SelfTy, PrimitiveTy}

-- what takes no arguments
abbrev pub prohibited_words : GenericArgsProhibitedReason → List ℕ
prohibited_words Module = codes "a module"
prohibited_words TyParam = codes "a type parameter"
prohibited_words SelfTy = codes "the type itself"
prohibited_words PrimitiveTy = codes "a built-in type"
