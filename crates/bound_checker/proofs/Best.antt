-- The first place where a fact isn't kept, as edges are gone through.
use Rattle.std.proofs.Common.{◌≡◌, ◌∙◌, refl, sym, subst, ℕ, ◌<◌, ◌≤◌, Bool, true, false, cond, eqb, ltb, arith, List, [], ◌∷◌, ◌++◌, ◌⊎◌, inl, inr, Option, Some, None}
use Rattle.std.specs.Prelude.{◌&&◌, ◌||◌}
use Rattle.std.proofs.lemmas.Bool.{and_from, and_parts, cases_lt, eq-eqb, eqb-true, lt-ltb, ltb-true, or_cases, or_left, or_right}
use Rattle.std.proofs.lemmas.List.Elements.{Contains-append_left, Contains-push, Contains-push_cases}
use Rattle.flow_graph.specs.declared.parts.Edge.{Edge}
use Rattle.run_law.specs.Certificate.{Blocks, IsKept}
use Rattle.run_law.specs.Program.{Program}
use Rattle.bound_checker.specs.Checked.{IsBest, IsBlockEdge, IsEarlier, IsLeastFailing, IsLeastIn, IsLost, better, is_earlier}
use Rattle.bound_checker.specs.declared.place.Lost.{Lost}

abbrev pub Before : Lost → Lost → Type 0
Before s t = IsEarlier s.from s.to s.register t.from t.to t.register

pub before_holds : (s t : Lost) → is_earlier s t ≡ true → Before s t
before_holds s t is = elim (or_cases (ltb s.from t.from) (eqb s.from t.from && (ltb s.to t.to || (eqb s.to t.to && ltb s.register t.register))) is) [
  | inl less ↦ inl (ltb-true s.from t.from less)
  | inr rest ↦ inr (later rest)
]
  where
    later : (eqb s.from t.from && (ltb s.to t.to || (eqb s.to t.to && ltb s.register t.register))) ≡ true → (s.from ≡ t.from) × ((s.to < t.to) ⊎ ((s.to ≡ t.to) × (s.register < t.register)))
    later rest =
        let p = and_parts (eqb s.from t.from) (ltb s.to t.to || (eqb s.to t.to && ltb s.register t.register)) rest in (
          eqb-true s.from t.from p.0,
          elim (or_cases (ltb s.to t.to) (eqb s.to t.to && ltb s.register t.register) p.1) [
            | inl less ↦ inl (ltb-true s.to t.to less)
            | inr last ↦ inr (let q = and_parts (eqb s.to t.to) (ltb s.register t.register) last in (eqb-true s.to t.to q.0, ltb-true s.register t.register q.1))
          ],
        )

pub before_true : (s t : Lost) → Before s t → is_earlier s t ≡ true
before_true s t (inl less) = or_left (ltb s.from t.from) (eqb s.from t.from && (ltb s.to t.to || (eqb s.to t.to && ltb s.register t.register))) (lt-ltb s.from t.from less)
before_true s t (inr (same, inl less)) =
    or_right (ltb s.from t.from) (eqb s.from t.from && (ltb s.to t.to || (eqb s.to t.to && ltb s.register t.register)))
    (and_from (eqb s.from t.from) (ltb s.to t.to || (eqb s.to t.to && ltb s.register t.register)) (eq-eqb s.from t.from same)
    (or_left (ltb s.to t.to) (eqb s.to t.to && ltb s.register t.register) (lt-ltb s.to t.to less)))
before_true s t (inr (same, inr (also, less))) =
    or_right (ltb s.from t.from) (eqb s.from t.from && (ltb s.to t.to || (eqb s.to t.to && ltb s.register t.register)))
    (and_from (eqb s.from t.from) (ltb s.to t.to || (eqb s.to t.to && ltb s.register t.register)) (eq-eqb s.from t.from same)
    (or_right (ltb s.to t.to) (eqb s.to t.to && ltb s.register t.register) (and_from (eqb s.to t.to) (ltb s.register t.register) (eq-eqb s.to t.to also) (lt-ltb s.register t.register less))))

pub transitive : (a b c d e f g h i : ℕ) → IsEarlier a b c d e f → IsEarlier d e f g h i → IsEarlier a b c g h i
transitive a b c d e f g h i (inl p) (inl q) = inl (omega (arith, p, q))
transitive a b c d e f g h i (inl p) (inr (same, q)) = inl (omega (arith, p, same))
transitive a b c d e f g h i (inr (same, p)) (inl q) = inl (omega (arith, q, same))
transitive a b c d e f g h i (inr (same, inl p)) (inr (other, inl q)) = inr (same ∙ other, inl (omega (arith, p, q)))
transitive a b c d e f g h i (inr (same, inl p)) (inr (other, inr (more, q))) = inr (same ∙ other, inl (omega (arith, p, more)))
transitive a b c d e f g h i (inr (same, inr (less, p))) (inr (other, inl q)) = inr (same ∙ other, inl (omega (arith, q, less)))
transitive a b c d e f g h i (inr (same, inr (less, p))) (inr (other, inr (more, q))) = inr (same ∙ other, inr (less ∙ more, omega (arith, p, q)))

-- a lower register is as early
pub lower : (a b c r d e f : ℕ) → r ≤ c → IsEarlier a b c d e f → IsEarlier a b r d e f
lower a b c r d e f le (inl p) = inl p
lower a b c r d e f le (inr (same, inl p)) = inr (same, inl p)
lower a b c r d e f le (inr (same, inr (also, p))) = inr (same, inr (also, omega (arith, le, p)))

pub not_itself : (a b r q : ℕ) → q ≤ r → IsEarlier a b r a b q → ⊥
not_itself a b r q le (inl p) = omega (arith, p)
not_itself a b r q le (inr (same, inl p)) = omega (arith, p)
not_itself a b r q le (inr (same, inr (also, p))) = omega (arith, le, p)

-- one more edge that leads to no block's start
pub best_skips : (p : Program) (b : Blocks) (es : List Edge) (e : Edge) (best : Option Lost) → (IsBlockEdge p b e → ⊥) → IsBest p b es best → IsBest p b (es ++ e ∷ []) best
best_skips p b es e None none is = λ d among block r below. elim (Contains-push_cases es e d among) [
  | inl old ↦ is d old block r below
  | inr same ↦ absurd (none (subst (λ x. IsBlockEdge p b x) (sym same) block))
]
best_skips p b es e (Some t) none is =
    record {
      edge = is.edge;
      among = Contains-append_left es (e ∷ []) is.edge is.among;
      is_edge = is.is_edge;
      from_is = is.from_is;
      to_is = is.to_is;
      register = is.register;
      fails = is.fails;
      first = λ d r among block below fails earlier. elim (Contains-push_cases es e d among) [
        | inl old ↦ is.first d r old block below fails earlier
        | inr same ↦ none (subst (λ x. IsBlockEdge p b x) (sym same) block)
      ];
    }

-- one that keeps all
pub kept_all : (p : Program) (b : Blocks) (es : List Edge) (e : Edge) (best : Option Lost) → IsBest p b es best → IsLost p b e None → IsBest p b (es ++ e ∷ []) best
kept_all p b es e None is kept = λ d among block r below. elim (Contains-push_cases es e d among) [
  | inl old ↦ is d old block r below
  | inr same ↦ subst (λ x. IsKept p b x r) same (kept r below)
]
kept_all p b es e (Some t) is kept =
    record {
      edge = is.edge;
      among = Contains-append_left es (e ∷ []) is.edge is.among;
      is_edge = is.is_edge;
      from_is = is.from_is;
      to_is = is.to_is;
      register = is.register;
      fails = is.fails;
      first = λ d r among block below fails earlier. elim (Contains-push_cases es e d among) [
        | inl old ↦ is.first d r old block below fails earlier
        | inr same ↦ fails (subst (λ x. IsKept p b x r) same (kept r below))
      ];
    }

-- one that loses a register
place_of : Edge → ℕ → Lost
place_of e q = record { from = e.from; to = e.to; register = q }

not_below : (p : Program) (b : Blocks) (e : Edge) (q r : ℕ) → IsLeastFailing p b e q → (IsKept p b e r → ⊥) → q ≤ r
not_below p b e q r lost fails = elim (cases_lt r q) [ inl less ↦ absurd (fails (lost.earlier r less)) | inr more ↦ more ]

first_lost : (p : Program) (b : Blocks) (es : List Edge) (e : Edge) (q : ℕ) → IsBlockEdge p b e → IsBest p b es None → IsLeastFailing p b e q → IsLeastIn p b (es ++ e ∷ []) (record { from = e.from; to = e.to; register = q })
first_lost p b es e q block is lost =
    record {
      edge = e;
      among = Contains-push es e;
      is_edge = block;
      from_is = refl;
      to_is = refl;
      register = lost.register;
      fails = lost.fails;
      first = λ d r among there below fails earlier. elim (Contains-push_cases es e d among) [
        | inl old ↦ fails (is d old there r below)
        | inr same ↦ let here = subst (λ x. IsKept p b x r → ⊥) (sym same) fails in
            not_itself e.from e.to r q (not_below p b e q r lost here) (subst (λ x. IsEarlier x.from x.to r e.from e.to q) (sym same) earlier)
      ];
    }

taken_over : (p : Program) (b : Blocks) (es : List Edge) (e : Edge) (q : ℕ) (s : Lost) → IsBlockEdge p b e → IsLeastIn p b es s → IsLeastFailing p b e q → (c : Bool) → is_earlier (record { from = e.from; to = e.to; register = q }) s ≡ c
    → IsLeastIn p b (es ++ e ∷ []) (cond c (record { from = e.from; to = e.to; register = q }) s)
taken_over p b es e q s block is lost true less =
    let t : Lost = record { from = e.from; to = e.to; register = q } in
    record {
      edge = e;
      among = Contains-push es e;
      is_edge = block;
      from_is = refl;
      to_is = refl;
      register = lost.register;
      fails = lost.fails;
      first = λ d r among there below fails earlier. elim (Contains-push_cases es e d among) [
        | inl old ↦ is.first d r old there below fails (transitive d.from d.to r e.from e.to q s.from s.to s.register earlier (before_holds t s less))
        | inr same ↦ let here = subst (λ x. IsKept p b x r → ⊥) (sym same) fails in
            not_itself e.from e.to r q (not_below p b e q r lost here) (subst (λ x. IsEarlier x.from x.to r e.from e.to q) (sym same) earlier)
      ];
    }
taken_over p b es e q s block is lost false more =
    let t : Lost = record { from = e.from; to = e.to; register = q } in
    record {
      edge = is.edge;
      among = Contains-append_left es (e ∷ []) is.edge is.among;
      is_edge = is.is_edge;
      from_is = is.from_is;
      to_is = is.to_is;
      register = is.register;
      fails = is.fails;
      first = λ d r among there below fails earlier. elim (Contains-push_cases es e d among) [
        | inl old ↦ is.first d r old there below fails earlier
        | inr same ↦ let here = subst (λ x. IsKept p b x r → ⊥) (sym same) fails in
            let early = subst (λ x. IsEarlier x.from x.to r s.from s.to s.register) (sym same) earlier in
            let yes_is = before_true t s (lower e.from e.to r q s.from s.to s.register (not_below p b e q r lost here) early) in
            let never : true ≡ false = sym yes_is ∙ more in absurd (cc)
      ];
    }

pub best_more : (p : Program) (b : Blocks) (es : List Edge) (e : Edge) (best : Option Lost) (lost : Option ℕ) → IsBlockEdge p b e → IsBest p b es best → IsLost p b e lost → IsBest p b (es ++ e ∷ []) (better best e lost)
best_more p b es e best None block is lost = kept_all p b es e best is lost
best_more p b es e None (Some q) block is lost = first_lost p b es e q block is lost
best_more p b es e (Some s) (Some q) block is lost = taken_over p b es e q s block is lost (is_earlier (record { from = e.from; to = e.to; register = q }) s) refl
