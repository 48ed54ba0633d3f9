use Rattle.std.proofs.Common.{◌≡◌, ℕ, eqb, List, [], ◌∷◌, length, Some, None, Option, MatchOption, ◌∙◌, rules}
use Rattle.std.specs.Option.{option_eq}
use Rattle.std.proofs.lemmas.Bool.{le-leb}
use Rattle.definitions.specs.declared.kinds.Kind.{Kind}
use Rattle.definitions.specs.declared.kinds.Mark.{Mark}
use Rattle.definitions.specs.Definitions.{Definition}
use Rattle.definitions.specs.Terms.{Term, reads}
use Rattle.definitions.proofs.Scans.{ends_at, ends_nowhere, reads_terms}
use Rattle.generics.proofs.terms.TermReader.is_term.Goals as goal

-- the end that was found decides
decided : (ds : List Definition) (whole : List Kind) (ms : List Mark) (k : Kind) (r : Option ℕ) → MatchOption r ((e : ℕ) → Term ds whole ms 0 e k → ⊥) (λ e. Term ds whole ms 0 e k) → option_eq eqb r (Some (length ms)) ≡ reads ds whole (k ∷ []) ms
decided ds whole ms k None h = ends_nowhere _ _ _ _ h
decided ds whole ms k (Some e) h = ends_at _ _ _ _ _ h

pub returns-then-marks-le32 : goal.returns-then-marks-le32
returns-then-marks-le32 c = record { relation = reads_terms; test = rw (le-leb (length c.args.marks.now) 32 c.if-marks-le32.true) (c.eq.ensures ∙ decided _ _ _ _ _ c.term_end.ensures) }

pub returns-else-marks-le32 : goal.returns-else-marks-le32
returns-else-marks-le32 c = record { relation = reads_terms; test = search rules }
