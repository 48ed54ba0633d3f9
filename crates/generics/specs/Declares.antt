-- What a declaration answers, and what it leaves. Assumes nothing.
use Rattle.std.specs.Prelude.{◌≡◌, ℕ, false, cond, List, [], ◌∷◌, ◌++◌, length, Ok, Err, Result}
use Rattle.generics.specs.declared.refusal.DeclareRefusal.{DeclareRefusal}
use Rattle.generics.specs.declared.refusal.DeclareRefusal.TheVariants.{Parent, Rows, Default, Term, Full}
use Rattle.generics.specs.declared.catalogue.Catalogue.{Catalogue}
use Rattle.definitions.specs.Definitions.{Definition}
use Rattle.generics.specs.Held.{held}
use Rattle.generics.specs.Refusals.{number_of}
use Rattle.definitions.specs.Follows.{ParentFollows, RowsFollow, DefaultsFollow, TermsFollow, Fits}
use Rattle.definitions.specs.Rules.{parent_right, rows_right, defaults_right, terms_right, has_room}

-- an answer: a definition's number, or the number of a refusal
pub data Answer : Type 0 where
  gives : ℕ → Answer
  refuses : ℕ → Answer

abbrev pub answer : Result ℕ DeclareRefusal → Answer
answer (Ok n) = gives n
answer (Err e) = refuses (number_of e)

-- the conditions in the order in which they are tried
abbrev pub declares : List Definition → Definition → Answer
declares ds d =
    cond (parent_right ds d.kind d.parent)
    (cond (rows_right d.kind d.rows)
    (cond (defaults_right false d.rows)
    (cond (terms_right ds d)
    (cond (has_room ds d) (gives (length ds)) (refuses 5))
    (refuses 4))
    (refuses 3))
    (refuses 2))
    (refuses 1)

-- the same by relation: each refusal is given exactly if its rule is broken and none before it
abbrev pub Refused : List Definition → Definition → DeclareRefusal → Type 0
Refused ds d Parent = ParentFollows ds d.kind d.parent → ⊥
Refused ds d Rows = ParentFollows ds d.kind d.parent × (RowsFollow d.kind d.rows → ⊥)
Refused ds d Default = ParentFollows ds d.kind d.parent × RowsFollow d.kind d.rows × (DefaultsFollow d.rows → ⊥)
Refused ds d Term = ParentFollows ds d.kind d.parent × RowsFollow d.kind d.rows × DefaultsFollow d.rows × (TermsFollow ds d → ⊥)
Refused ds d Full = ParentFollows ds d.kind d.parent × RowsFollow d.kind d.rows × DefaultsFollow d.rows × TermsFollow ds d × (Fits ds d → ⊥)

abbrev pub Ruled : List Definition → Definition → Result ℕ DeclareRefusal → Type 0
Ruled ds d (Ok n) = ParentFollows ds d.kind d.parent × RowsFollow d.kind d.rows × DefaultsFollow d.rows × TermsFollow ds d × Fits ds d
Ruled ds d (Err e) = Refused ds d e

-- an acceptance appends the definition, a refusal alters nothing
abbrev pub Left : Catalogue → Definition → Result ℕ DeclareRefusal → Catalogue → Type 0
Left old d (Ok n) new = held new ≡ held old ++ d ∷ []
Left old d (Err e) new = new ≡ old
