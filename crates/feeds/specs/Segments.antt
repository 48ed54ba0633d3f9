-- What is read of a path. Assumes nothing.
use Rattle.std.specs.Prelude.{◌≡◌, ℕ, List, ◌++◌, map, length}
use Rattle.path.specs.declared.args.GenericArg.{GenericArg}
use Rattle.path.specs.declared.segments.GenericArgs.{GenericArgs}
use Rattle.spans.specs.declared.Span.{Span}
use Rattle.listing.specs.Arguments.{Written, args_of}
use Rattle.spans.specs.Parts.{part}

-- the list stands behind the arguments that were read before: one argument for each that is written, in order
pub record ListRead (text : List ℕ) (old new : List GenericArg) (g : GenericArgs) : Type 0 where
  pub spans : List Span
  pub written : Written (map (part text) spans) text
  pub added : new ≡ old ++ args_of text (length old) spans
  pub start : g.start ≡ length old
  pub len : g.len ≡ length spans
