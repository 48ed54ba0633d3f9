-- Reports told one behind another.
use Rattle.std.proofs.Common.{List, ◌++◌, ap, ◌∙◌, arith, length-append}
use Rattle.std.proofs.lemmas.List.{append_assoc}
use Rattle.diagnostics.specs.declared.reports.PathLoweringDiagnostic.{PathLoweringDiagnostic}
use Rattle.diagnostics.specs.Tells.{View, ToldAll}

pub told_then : (xs ys : List PathLoweringDiagnostic) (u v w : View) → ToldAll xs u v → ToldAll ys v w → ToldAll (xs ++ ys) u w
told_then xs ys u v w p q =
    record {
      told = q.told ∙ ap (λ l. l ++ ys) p.told ∙ append_assoc u.told xs ys;
      room = simp length-append (omega arith);
      stock = q.stock ∙ p.stock;
    }
