-- What the relations `Term` and `Slots` say of the positions they name. Assumes nothing.
use Rattle.std.proofs.Common.{◌≡◌, ℕ, ◌+◌, ◌<◌, ◌≤◌, true, List, length, sym, refl, ◌∙◌, arith}
use Rattle.definitions.specs.declared.kinds.Kind.{Kind}
use Rattle.definitions.specs.declared.kinds.Mark.{Mark}
use Rattle.definitions.specs.Definitions.{Definition}
use Rattle.definitions.specs.Terms.{Term, term, Slots, none, more, At, begins, slots_of}

module _ {ds : List Definition} {whole : List Kind} {ms : List Mark} where
  mutual
    pub term_grows : {p e : ℕ} {k : Kind} → Term ds whole ms p e k → p < e
    term_grows (term m at h s) = omega (arith, slots_grow s)

    pub slots_grow : {p e : ℕ} {ks : List Kind} → Slots ds whole ms p e ks → p ≤ e
    slots_grow none = omega arith
    slots_grow (more t s) = omega (arith, term_grows t, slots_grow s)

  mutual
    pub term_within : {p e : ℕ} {k : Kind} → Term ds whole ms p e k → e ≤ length ms
    term_within (term m at h s) = slots_within s (omega (arith, at.0))

    pub slots_within : {p e : ℕ} {ks : List Kind} → Slots ds whole ms p e ks → p ≤ length ms → e ≤ length ms
    slots_within none h = h
    slots_within (more t s) h = slots_within s (term_within t)

  pub inside : {p e : ℕ} {k : Kind} → Term ds whole ms p e k → p < length ms
  inside (term m at h s) = at.0

  -- a term at a mark that is known
  pub known : {p e : ℕ} {m : Mark} {k : Kind} → At ms p m → Term ds whole ms p e k → (begins ds whole m k ≡ true) × Slots ds whole ms (p + 1) e (slots_of ds m)
  known at (term n bt h s) = let e = sym bt.1 ∙ at.1 in (rw e at h, rw e at s)

  mutual
    pub term_one : {p e f : ℕ} {k : Kind} → Term ds whole ms p e k → Term ds whole ms p f k → e ≡ f
    term_one (term m at h s) u = slots_one s (known at u).1

    pub slots_one : {p e f : ℕ} {ks : List Kind} → Slots ds whole ms p e ks → Slots ds whole ms p f ks → e ≡ f
    slots_one none none = refl
    slots_one (more t s) (more u r) = slots_one s (let e = sym (term_one t u) in rw e at r)
