-- The numbers of refusals, and their words. Assumes nothing.
use Rattle.std.specs.Prelude.{ℕ, List, codes}
use Rattle.generics.specs.declared.refusal.DeclareRefusal.{DeclareRefusal}
use Rattle.generics.specs.declared.refusal.DeclareRefusal.TheVariants.{Parent, Rows, Default, Term, Full}

abbrev pub number_of : DeclareRefusal → ℕ
number_of Parent = 1
number_of Rows = 2
number_of Default = 3
number_of Term = 4
number_of Full = 5

-- why a definition is not declared
abbrev pub words_of : DeclareRefusal → List ℕ
words_of Parent = codes "its parent is no declared trait or impl, or it may have none"
words_of Rows = codes "it has more than 32 rows, or a lifetime stands behind another row"
words_of Default = codes "a lifetime has a default, or a row without one stands behind a row with one"
words_of Term = codes "a default does not fit its row"
words_of Full = codes "the catalogue is full"
