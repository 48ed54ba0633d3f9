-- Told plus room stays as it is.
use Rattle.std.proofs.Common.{◌≡◌, ℕ, zero, suc, length, refl, ap, ◌∙◌, arith}
use Rattle.std.proofs.lemmas.List.{length_push}
use Rattle.diagnostics.specs.declared.reports.PathLoweringDiagnostic.{PathLoweringDiagnostic}
use Rattle.diagnostics.specs.Tells.{View, Told, Cleared, here, tells, clears, capacity_of, Capacity-stays}

told_stays : (r : PathLoweringDiagnostic) (v w : View) (n : ℕ) → v.room ≡ n → Told r v w → capacity_of w ≡ capacity_of v
told_stays r v w zero e t =
    let l = ap length (t.full e).0 in
    omega (arith, l, (t.full e).1)
told_stays r v w (suc n) e t =
    let a = t.appended (omega arith) in
    let l = ap length a.0 ∙ length_push v.told r in
    omega (arith, l, a.1)

cleared_stays : (v w : View) → Cleared v w → capacity_of w ≡ capacity_of v
cleared_stays v w c =
    let l = ap length c.told in
    omega (arith, l, c.room)

pub capacity_stays : Capacity-stays
capacity_stays v w here = (refl, refl)
capacity_stays v w (tells {w = m} r before t) =
    let b = capacity_stays v m before in
    (told_stays r m w m.room refl t ∙ b.0, t.stock ∙ b.1)
capacity_stays v w (clears {w = m} before c) =
    let b = capacity_stays v m before in
    (cleared_stays m w c ∙ b.0, c.stock ∙ b.1)
