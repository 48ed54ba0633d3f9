-- The test from left to right says what the relation says. Assumes nothing.
use Rattle.std.proofs.Common.{◌≡◌, ℕ, zero, suc, ◌+◌, ◌≤◌, true, false, ◌&&◌, eqb, List, [], ◌∷◌, ◌++◌, length, get_or, drop, sym, refl, ap, ◌∙◌, inl, inr, arith, length-drop}
use Rattle.std.proofs.lemmas.List.{drop_more, drop_all}
use Rattle.std.proofs.lemmas.Bool.{and_parts, cases_lt, cases_Bool, both_ways, eq-eqb, ne_eqb}
use Rattle.definitions.specs.declared.kinds.Kind.{Kind}
use Rattle.definitions.specs.declared.kinds.Mark.{Mark}
use Rattle.definitions.specs.declared.kinds.Mark.TheVariants.{Ref}
use Rattle.definitions.specs.Definitions.{Definition}
use Rattle.definitions.specs.Terms.{Term, term, Slots, none, more, At, begins, slots_of, reads, ReadsTerms}
use Rattle.definitions.proofs.Ends.{term_within, term_one, slots_grow}

-- nothing is read as no terms but no marks
none_left : (ds : List Definition) (whole : List Kind) (xs : List Mark) → reads ds whole [] xs ≡ true → length xs ≡ 0
none_left ds whole [] h = refl
none_left ds whole (x ∷ xs) h = absurd (grind arith)

module _ (ds : List Definition) (whole : List Kind) (ms : List Mark) where
  -- at a mark that is there, the test goes on with its slots
  step : (p : ℕ) (k : Kind) (ks : List Kind) (m : Mark) → At ms p m → reads ds whole (k ∷ ks) (drop p ms) ≡ begins ds whole m k && reads ds whole (slots_of ds m ++ ks) (drop (p + 1) ms)
  step p k ks m at = ap (reads ds whole (k ∷ ks)) (drop_more ms p (Ref 0) at.0 ∙ ap (λ x. x ∷ drop (p + 1) ms) at.1)

  -- at the end of the marks there is no term
  ended : {P : Type 0} (p : ℕ) (k : Kind) (ks : List Kind) → length ms ≤ p → reads ds whole (k ∷ ks) (drop p ms) ≡ true → P
  ended p k ks h r =
      let e : false ≡ true = sym (ap (reads ds whole (k ∷ ks)) (drop_all p ms h)) ∙ r in
      absurd (grind arith)

  mutual
    -- behind a term, what is still to come decides
    term_read : {p e : ℕ} {k : Kind} (ks : List Kind) → Term ds whole ms p e k → reads ds whole (k ∷ ks) (drop p ms) ≡ reads ds whole ks (drop e ms)
    term_read {p} {e} {k} ks (term m at h s) = step p k ks m at ∙ ap (λ b. b && reads ds whole (slots_of ds m ++ ks) (drop (p + 1) ms)) h ∙ slots_read ks s

    slots_read : {p e : ℕ} {js : List Kind} (ks : List Kind) → Slots ds whole ms p e js → reads ds whole (js ++ ks) (drop p ms) ≡ reads ds whole ks (drop e ms)
    slots_read ks none = refl
    slots_read ks (more {ks = js} t s) = term_read (js ++ ks) t ∙ slots_read ks s

  -- what the test accepts is made of terms; n bounds the marks that are left
  found : (n p : ℕ) (js ks : List Kind) → length ms ≤ p + n → reads ds whole (js ++ ks) (drop p ms) ≡ true → (e : ℕ) × Slots ds whole ms p e js × (reads ds whole ks (drop e ms) ≡ true)
  found n p [] ks h r = (p, none, r)
  found zero p (j ∷ js) ks h r = ended p j (js ++ ks) (omega arith) r
  found (suc n) p (j ∷ js) ks h r = elim (cases_lt p (length ms)) [
    | inl q ↦
        let m = get_or ms p (Ref 0) in
        let parts = and_parts (begins ds whole m j) (reads ds whole (slots_of ds m ++ (js ++ ks)) (drop (p + 1) ms)) (sym (step p j (js ++ ks) m (q, refl)) ∙ r) in
        let slots = found n (p + 1) (slots_of ds m) (js ++ ks) (omega arith) parts.1 in
        let rest = found n slots.0 js ks (omega (arith, slots_grow slots.1)) slots.2 in
        (rest.0, more (term m (q, refl) parts.0 slots.1) rest.1, rest.2)
    | inr q ↦ ended p j (js ++ ks) q r
  ]

  one : {e : ℕ} {k : Kind} → Slots ds whole ms 0 e (k ∷ []) → Term ds whole ms 0 e k
  one (more t none) = t

  pub is_term_lem : (k : Kind) → reads ds whole (k ∷ []) ms ≡ true → Term ds whole ms 0 (length ms) k
  is_term_lem k r =
      let f = found (length ms) 0 (k ∷ []) [] (omega arith) r in
      let t = one f.1 in
      let l = none_left ds whole (drop f.0 ms) f.2 in
      let n = length-drop f.0 ms in
      let e : f.0 ≡ length ms = omega (arith, term_within t) in
      rw e at t

  pub term_is : (k : Kind) → Term ds whole ms 0 (length ms) k → reads ds whole (k ∷ []) ms ≡ true
  term_is k t = term_read [] t ∙ ap (reads ds whole []) (drop_all (length ms) ms (omega arith))

pub reads_terms : ReadsTerms
reads_terms ds whole k ms = (is_term_lem ds whole ms k, term_is ds whole ms k)

-- an end that was found, or that there is none, decides the test
module _ (ds : List Definition) (whole : List Kind) (ms : List Mark) (k : Kind) where
  pub ends_at : (e : ℕ) → Term ds whole ms 0 e k → eqb e (length ms) ≡ reads ds whole (k ∷ []) ms
  ends_at e t = elim (cases_Bool (reads ds whole (k ∷ []) ms)) [
    | inl r ↦ eq-eqb e (length ms) (term_one t (is_term_lem ds whole ms k r)) ∙ sym r
    | inr r ↦ ne_eqb e (length ms) (λ q. both_ways _ r (term_is ds whole ms k (rw q at t))) ∙ sym r
  ]

  pub ends_nowhere : ((e : ℕ) → Term ds whole ms 0 e k → ⊥) → false ≡ reads ds whole (k ∷ []) ms
  ends_nowhere stop = elim (cases_Bool (reads ds whole (k ∷ []) ms)) [
    | inl r ↦ absurd (stop (length ms) (is_term_lem ds whole ms k r))
    | inr r ↦ sym r
  ]
