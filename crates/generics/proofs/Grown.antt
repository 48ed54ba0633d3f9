-- Lists that grow at their end. Assumes nothing.
use Rattle.std.proofs.Common.{◌≡◌, ℕ, ◌+◌, ◌<◌, ◌≤◌, List, [], ◌∷◌, ◌++◌, length, get_or, take, drop, Option, sym, ap, ◌∙◌, append_assoc, append-nil}
use Rattle.std.proofs.lemmas.List.{take_more, at_drop_more, at_drop_all}
use Rattle.definitions.specs.declared.kinds.GenericParam.{GenericParam}
use Rattle.definitions.specs.declared.kinds.Mark.{Mark}
use Rattle.spans.specs.declared.Span.{Span}
use Rattle.generics.specs.declared.stored.Row.{Row}
use Rattle.definitions.specs.Definitions.{marks_in}
use Rattle.generics.specs.Laid.{marks_of, span_at, laid, flat}
use Rattle.generics.specs.Lays.{param_asked, params_asked}
use Rattle.generics.proofs.Walked.{no_param}

pub push_on : {X : Type 0} (old xs new all : List X) (i : ℕ) (d : X) → i < length all → xs ≡ old ++ take i all → new ≡ xs ++ get_or all i d ∷ [] → new ≡ old ++ take (i + 1) all
push_on old xs new all i d h was is = rw (is, was, take_more all i d h, append_assoc)

module _ (gs : List GenericParam) (i : ℕ) where
  abbrev here : GenericParam
  here = get_or gs i no_param

  -- one row more, and what is still to be laid
  pub rows_on : i < length gs → (rows new total : List Row) (at next : ℕ) (x : Option Span) → x ≡ span_at at (param_asked here).default → next ≡ at + marks_in (param_asked here).default → new ≡ rows ++ (record { kind = here.kind; default = x }) ∷ [] → rows ++ laid at (params_asked (drop i gs)) ≡ total → new ++ laid next (params_asked (drop (i + 1) gs)) ≡ total
  rows_on h rows new total at next x span goes is was =
      rw (is, goes, span, append_assoc) (ap (λ l. rows ++ l) (sym (at_drop_more (λ xs. laid at (params_asked xs)) gs i no_param h)) ∙ was)

  pub marks_on : i < length gs → (marks new total : List Mark) → new ≡ marks ++ marks_of (param_asked here).default → marks ++ flat (params_asked (drop i gs)) ≡ total → new ++ flat (params_asked (drop (i + 1) gs)) ≡ total
  marks_on h marks new total is was =
      rw (is, append_assoc) (ap (λ l. marks ++ l) (sym (at_drop_more (λ xs. flat (params_asked xs)) gs i no_param h)) ∙ was)

  -- nothing is left to be laid
  pub rows_all : length gs ≤ i → (rows total : List Row) (at : ℕ) → rows ++ laid at (params_asked (drop i gs)) ≡ total → rows ≡ total
  rows_all h rows total at was = sym (append-nil rows) ∙ ap (λ l. rows ++ l) (sym (at_drop_all (λ xs. laid at (params_asked xs)) gs i h)) ∙ was

  pub marks_all : length gs ≤ i → (marks total : List Mark) → marks ++ flat (params_asked (drop i gs)) ≡ total → marks ≡ total
  marks_all h marks total was = sym (append-nil marks) ∙ ap (λ l. marks ++ l) (sym (at_drop_all (λ xs. flat (params_asked xs)) gs i h)) ∙ was
