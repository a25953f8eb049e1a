-- Levels of calls, and calls that are reached again.
use Rattle.std.proofs.Common.{ℕ, zero, suc, ◌+◌, ◌<◌, ◌≤◌, ◌≡◌, ◌⊎◌, inl, inr, refl, sym, ap, subst, ◌∙◌, min, not, Bool, true, false, nat_eq, if◌then◌else◌, Option, Some, None, List, [], ◌∷◌, Contains, All, length, get_or, arith, replicate}
use Rattle.std.proofs.lemmas.Bool.{cases_eq, cases_lt, eq-eqb, eqb-true}
use Rattle.std.proofs.lemmas.List.Elements.{All-from_get_or, All-replicate, All-weaker, Contains-append_cases, Contains-append_left, Contains-append_right, Contains-get_or}
use Rattle.std.proofs.lemmas.Grind.{get_or_default_zero}
use Rattle.std.proofs.lemmas.List.{length-replicate}
use Rattle.flow_graph.specs.Calls.{CallsAmong, ChainAt, IsAgain, IsDeep, IsLeast, IsLevel, called_upto, caller_of, is_call_of}
use Rattle.flow_graph.specs.Own.{lesser}
use Rattle.flow_graph.specs.Places.{IsMet, IsNet, IsPath, IsSpread, exits_at, listed}
use Rattle.flow_graph.specs.declared.parts.EdgeKind.TheVariants.{Call}
use Rattle.flow_graph.specs.declared.site.Exits.{Exits}
use Rattle.flow_graph.proofs.Members.{in_head, in_one, none_in_nil}
use Rattle.flow_graph.proofs.Searches.{in_option, of_option}

-- what is met from some starts is met from one of them
pub record IsMetFrom (net : List Exits) (enters : Bool) (starts : List ℕ) (u : ℕ) : Type 0 where
  pub start : ℕ
  pub among : Contains starts start
  pub met : IsMet net enters (start ∷ []) u

pub met_from : (net : List Exits) (enters : Bool) (starts : List ℕ) (u : ℕ) (us : List ℕ) → IsPath net enters starts (u ∷ us) → IsMetFrom net enters starts u
unfolding IsPath
met_from net enters starts u [] h = record { start = u; among = h; met = record { us = []; path = in_head u [] } }
met_from net enters starts v (u ∷ us) h =
    let m = met_from net enters starts u us h.1 in
    record { start = m.start; among = m.among; met = record { us = u ∷ m.met.us; path = (h.0, m.met.path) } }

pub met_among : (net : List Exits) (enters : Bool) (starts : List ℕ) (start u : ℕ) (us : List ℕ) → Contains starts start → IsPath net enters (start ∷ []) (u ∷ us) → IsPath net enters starts (u ∷ us)
unfolding IsPath
met_among net enters starts start u [] among h = subst (λ (n : ℕ). Contains starts n) (in_one u start h) among
met_among net enters starts start v (u ∷ us) among h = (h.0, met_among net enters starts start u us among h.1)

-- the functions that units call
pub in_called : (net : List Exits) (places : List ℕ) (n f : ℕ) → n ≤ length places → Contains (called_upto net places n) f → (u : ℕ) × Contains places u × ((exits_at net u).call ≡ Some f)
unfolding called_upto
in_called net places zero f few h = absurd (none_in_nil f h)
in_called net places (suc n) f few h = elim (Contains-append_cases (called_upto net places n) (listed (exits_at net (get_or places n 0)).call) f h) [
  | inl before ↦ in_called net places n f (omega (arith, few)) before
  | inr here ↦ (get_or places n 0, Contains-get_or places n 0 (omega (arith, few)), in_option (exits_at net (get_or places n 0)).call f here)
]

pub called_in : (net : List Exits) (places : List ℕ) (n f k : ℕ) → k < n → (exits_at net (get_or places k 0)).call ≡ Some f → Contains (called_upto net places n) f
unfolding called_upto
called_in net places zero f k below call = absurd (omega (arith, below))
called_in net places (suc n) f k below call = elim (cases_eq k n) [
  | inl e ↦ Contains-append_right (called_upto net places n) (listed (exits_at net (get_or places n 0)).call) f (of_option (exits_at net (get_or places n 0)).call f (subst (λ (m : ℕ). (exits_at net (get_or places m 0)).call ≡ Some f) e call))
  | inr other ↦ Contains-append_left (called_upto net places n) (listed (exits_at net (get_or places n 0)).call) f (called_in net places n f k (omega (arith, below, other)) call)
]

pub called_of : (net : List Exits) (places : List ℕ) (f u : ℕ) → Contains places u → (exits_at net u).call ≡ Some f → Contains (called_upto net places (length places)) f
called_of net places f u (k, below, is) call =
    called_in net places (length places) f k below (subst (λ (m : ℕ). (exits_at net m).call ≡ Some f) (sym (sym (get_or_default_zero places k u below) ∙ is)) call)

-- the first level, and the next
pub first_level : (net : List Exits) (entry : ℕ) (stamps starts : List ℕ) → entry < length net → length stamps ≡ length net → All (λ s. s ≤ 0) stamps → starts ≡ entry ∷ [] → IsLevel net entry 0 stamps starts
unfolding ChainAt
first_level net entry stamps starts within beside low e = record {
  beside = beside;
  within = rw e (All-from_get_or (λ s. s < length net) (entry ∷ []) 0 one);
  low = low;
  chain = λ f h. sym (in_one f entry (subst (λ (l : List ℕ). Contains l f) e h));
  whole = λ f h. subst (λ (l : List ℕ). Contains l f) (sym e) (subst (λ (n : ℕ). Contains (entry ∷ []) n) (sym h) (in_head entry []));
}
  where
    one : (i : ℕ) → i < 1 → get_or (entry ∷ []) i 0 < length net
    one zero below = within
    one (suc i) below = absurd (omega (arith, below))

pub next_level : (net : List Exits) (entry level : ℕ) (stamps after starts found next : List ℕ) → IsNet net → IsLevel net entry level stamps starts → length after ≡ length net → All (λ s. s ≤ level + 1) after → IsSpread net false starts found → next ≡ called_upto net found (length found) → IsLevel net entry (level + 1) after next
unfolding ChainAt
next_level net entry level stamps after starts found next is_net l beside low s e = record {
  beside = beside;
  within = λ k d below. within (get_or next k d) (Contains-get_or next k d below);
  low = low;
  chain = λ f h. subst (λ (m : ℕ). ChainAt net entry m f) suc_is (chain f (called f h));
  whole = λ f h. subst (λ (ns : List ℕ). Contains ns f) (sym e) (whole f (subst (λ (m : ℕ). ChainAt net entry m f) (sym suc_is) h));
}
  where
    suc_is : suc level ≡ level + 1
    suc_is = omega arith

    called : (f : ℕ) → Contains next f → (u : ℕ) × Contains found u × ((exits_at net u).call ≡ Some f)
    called f h = in_called net found (length found) f (omega arith) (subst (λ (ns : List ℕ). Contains ns f) e h)

    within : (f : ℕ) → Contains next f → f < length net
    within f h = let c = called f h in is_net.inside c.0 f Call c.2

    chain : (f : ℕ) → (u : ℕ) × Contains found u × ((exits_at net u).call ≡ Some f) → ChainAt net entry (suc level) f
    chain f (u, among, call) =
        let m = s.met u among in
        let from = met_from net false starts u m.us m.path in
        (from.start, l.chain from.start from.among, record { unit = u; met = from.met; call = call })

    whole : (f : ℕ) → ChainAt net entry (suc level) f → Contains (called_upto net found (length found)) f
    whole f (g, chained, calls) =
        called_of net found f calls.unit (s.whole calls.unit (record { us = calls.met.us; path = met_among net false starts g calls.unit calls.met.us (l.whole g chained) calls.met.path })) calls.call

pub is_deep_of : (net : List Exits) (entry : ℕ) (stamps starts : List ℕ) (b : Bool) → IsLevel net entry 64 stamps starts → length starts ≡ 0 → IsDeep net entry false
is_deep_of net entry stamps starts b l none f h = let (k, below, is) = l.whole f h in omega (arith, below, none)

pub deep_of : (net : List Exits) (entry : ℕ) (stamps starts : List ℕ) → IsLevel net entry 64 stamps starts → 0 < length starts → IsDeep net entry true
deep_of net entry stamps starts l some = (get_or starts 0 0, l.chain (get_or starts 0 0) (Contains-get_or starts 0 0 some))

-- the lesser of two least numbers
pub lesser_least : (P Q : ℕ → Type 0) (a b : Option ℕ) → IsLeast P a → IsLeast Q b → IsLeast (λ n. P n ⊎ Q n) (lesser a b)
lesser_least P Q None None p q = λ n h. elim h [ inl x ↦ p n x | inr y ↦ q n y ]
lesser_least P Q None (Some b) p q = (inr q.0, λ n h. elim h [ inl x ↦ absurd (p n x) | inr y ↦ q.1 n y ])
lesser_least P Q (Some a) None p q = (inl p.0, λ n h. elim h [ inl x ↦ p.1 n x | inr y ↦ absurd (q n y) ])
lesser_least P Q (Some a) (Some b) p q = elim (cases_lt a b) [
  | inl less ↦ let e : min a b ≡ a = omega (arith, less) in rw e (inl p.0, λ n h. elim h [ inl x ↦ p.1 n x | inr y ↦ omega (arith, less, q.1 n y) ])
  | inr more ↦ let e : min a b ≡ b = omega (arith, more) in rw e (inr q.0, λ n h. elim h [ inl x ↦ omega (arith, more, p.1 n x) | inr y ↦ q.1 n y ])
]

pub least_same : (P Q : ℕ → Type 0) (a : Option ℕ) → ((n : ℕ) → P n → Q n) → ((n : ℕ) → Q n → P n) → IsLeast P a → IsLeast Q a
least_same P Q None to from p = λ n h. p n (from n h)
least_same P Q (Some a) to from p = (to a p.0, λ n h. p.1 n (from n h))

some_same : (x y : ℕ) → Some x ≡ Some y → x ≡ y
some_same x y e = cc

-- the callers among the first of some units
pub caller_least : (net : List Exits) (function place : ℕ) → IsLeast (λ u. (place ≡ u) × ((exits_at net u).call ≡ Some function)) (caller_of net function place)
caller_least net function place = by_call (exits_at net place).call refl
  where
    differ : (f n : ℕ) → nat_eq f function ≡ false → (exits_at net place).call ≡ Some f → (place ≡ n) × ((exits_at net n).call ≡ Some function) → ⊥
    differ f n e call h = let same : Some f ≡ Some function = sym call ∙ ap (λ (m : ℕ). (exits_at net m).call) h.0 ∙ h.1 in let s : f ≡ function = some_same f function same in let t = eq-eqb f function s in cc

    none_is_some : None ≡ Some function → ⊥
    none_is_some e = cc

    by_bool : (f : ℕ) (b : Bool) → nat_eq f function ≡ b → (exits_at net place).call ≡ Some f → IsLeast (λ u. (place ≡ u) × ((exits_at net u).call ≡ Some function)) (if b then Some place else None)
    by_bool f true e call = ((refl, call ∙ ap Some (eqb-true f function e)), λ n h. omega (arith, h.0))
    by_bool f false e call = λ n h. differ f n e call h

    by_call : (o : Option ℕ) → (exits_at net place).call ≡ o → IsLeast (λ u. (place ≡ u) × ((exits_at net u).call ≡ Some function)) (if is_call_of function (exits_at net place).call then Some place else None)
    by_call None call = rw call (λ n h. none_is_some (sym call ∙ ap (λ (m : ℕ). (exits_at net m).call) h.0 ∙ h.1))
    by_call (Some f) call = rw call (by_bool f (nat_eq f function) refl call)

pub no_callers : (net : List Exits) (function : ℕ) (found : List ℕ) → IsLeast (CallsAmong net function found 0) None
no_callers net function found = λ n h. omega (arith, h.1)

pub one_more_caller : (net : List Exits) (function : ℕ) (found : List ℕ) (i d : ℕ) (best new other : Option ℕ) → i < length found → new ≡ lesser best other → other ≡ caller_of net function (get_or found i d) → IsLeast (CallsAmong net function found i) best → IsLeast (CallsAmong net function found (i + 1)) new
one_more_caller net function found i d best new other below n o p =
    subst (λ (x : Option ℕ). IsLeast (CallsAmong net function found (i + 1)) x) (sym (n ∙ ap (lesser best) o))
    (least_same _ _ (lesser best (caller_of net function (get_or found i d))) to from (lesser_least _ _ best (caller_of net function (get_or found i d)) p (caller_least net function (get_or found i d))))
  where
    here : get_or found i d ≡ get_or found i 0
    here = get_or_default_zero found i d below

    to : (u : ℕ) → CallsAmong net function found i u ⊎ ((get_or found i d ≡ u) × ((exits_at net u).call ≡ Some function)) → CallsAmong net function found (i + 1) u
    to u (inl (k, lt, is, call)) = (k, omega (arith, lt), is, call)
    to u (inr (is, call)) = (i, omega arith, sym here ∙ is, call)

    from : (u : ℕ) → CallsAmong net function found (i + 1) u → CallsAmong net function found i u ⊎ ((get_or found i d ≡ u) × ((exits_at net u).call ≡ Some function))
    from u (k, lt, is, call) = elim (cases_eq k i) [
      | inl e ↦ inr (here ∙ subst (λ (m : ℕ). get_or found m 0 ≡ u) e is, call)
      | inr other ↦ inl (k, omega (arith, lt, other), is, call)
    ]

pub no_again : (net : List Exits) (functions : List ℕ) → IsLeast (IsAgain net functions 0) None
no_again net functions = λ n h. omega (arith, h.1)

pub one_more_again : (net : List Exits) (functions found : List ℕ) (i d : ℕ) (best other : Option ℕ) → i < length functions → IsSpread net true (get_or functions i d ∷ []) found → IsLeast (IsAgain net functions i) best → IsLeast (CallsAmong net (get_or functions i d) found (length found)) other → IsLeast (IsAgain net functions (i + 1)) (lesser best other)
one_more_again net functions found i d best other below s p q =
    least_same _ _ (lesser best other) to from (lesser_least _ _ best other p q)
  where
    here : get_or functions i d ≡ get_or functions i 0
    here = get_or_default_zero functions i d below

    to : (u : ℕ) → IsAgain net functions i u ⊎ CallsAmong net (get_or functions i d) found (length found) u → IsAgain net functions (i + 1) u
    to u (inl (k, lt, met, call)) = (k, omega (arith, lt), met, call)
    to u (inr (k, lt, is, call)) = (i, omega arith, subst (λ (m : ℕ). IsMet net true (m ∷ []) u) here (s.met u (subst (λ (m : ℕ). Contains found m) is (Contains-get_or found k 0 lt))), subst (λ (m : ℕ). (exits_at net u).call ≡ Some m) here call)

    among : (u : ℕ) → Contains found u → (exits_at net u).call ≡ Some (get_or functions i d) → CallsAmong net (get_or functions i d) found (length found) u
    among u (k, lt, is) call = (k, lt, sym (get_or_default_zero found k u lt) ∙ is, call)

    from : (u : ℕ) → IsAgain net functions (i + 1) u → IsAgain net functions i u ⊎ CallsAmong net (get_or functions i d) found (length found) u
    from u (k, lt, met, call) = elim (cases_eq k i) [
      | inl e ↦ inr (among u (s.whole u (subst (λ (m : ℕ). IsMet net true (m ∷ []) u) (sym here) (subst (λ (m : ℕ). IsMet net true (get_or functions m 0 ∷ []) u) e met))) (subst (λ (m : ℕ). (exits_at net u).call ≡ Some m) (sym here) (subst (λ (m : ℕ). (exits_at net u).call ≡ Some (get_or functions m 0)) e call)))
      | inr before ↦ inl (k, omega (arith, lt, before), met, call)
    ]

-- what the search over functions has found
pub record IsSearchedOf (net : List Exits) (functions : List ℕ) (k : ℕ) (stamps : List ℕ) (best : Option ℕ) : Type 0 where
  pub beside : length stamps ≡ length net
  pub low : All (λ s. s ≤ k) stamps
  pub least : IsLeast (IsAgain net functions k) best

pub unsearched : (net : List Exits) (functions stamps : List ℕ) (n : ℕ) → n ≡ length net → stamps ≡ replicate n 0 → IsSearchedOf net functions 0 stamps None
unsearched net functions stamps n e s = record {
  beside = ap length s ∙ length-replicate n 0 ∙ e;
  low = rw s (All-replicate (λ s. s ≤ 0) n 0 (omega arith));
  least = no_again net functions;
}

pub fresh_level : (net : List Exits) (entry n : ℕ) (stamps starts : List ℕ) → entry < length net → n ≡ length net → stamps ≡ replicate n 0 → starts ≡ entry ∷ [] → IsLevel net entry 0 stamps starts
fresh_level net entry n stamps starts below e s one = first_level net entry stamps starts below (ap length s ∙ length-replicate n 0 ∙ e) (rw s (All-replicate (λ s. s ≤ 0) n 0 (omega arith))) one

pub below_next : (stamps : List ℕ) (k : ℕ) → All (λ s. s ≤ k) stamps → All (λ s. s < k + 1) stamps
below_next stamps k low = All-weaker (λ s. s ≤ k) (λ s. s < k + 1) (λ s h. omega (arith, h)) stamps low

pub callers_all : (net : List Exits) (function : ℕ) (found : List ℕ) (i : ℕ) (best : Option ℕ) → length found ≤ i → i ≤ length found → IsLeast (CallsAmong net function found i) best → IsLeast (CallsAmong net function found (length found)) best
callers_all net function found i best over under p = let e : i ≡ length found = omega (arith, over, under) in subst (λ (n : ℕ). IsLeast (CallsAmong net function found n) best) e p

pub one_more_searched : (net : List Exits) (functions stamps after found : List ℕ) (k d : ℕ) (best new other : Option ℕ) → k < length functions → length after ≡ length net → All (λ s. s ≤ k + 1) after → IsSpread net true (get_or functions k d ∷ []) found → new ≡ lesser best other → IsLeast (CallsAmong net (get_or functions k d) found (length found)) other → IsSearchedOf net functions k stamps best → IsSearchedOf net functions (k + 1) after new
one_more_searched net functions stamps after found k d best new other below beside low spread n o s = record {
  beside = beside;
  low = low;
  least = subst (λ (x : Option ℕ). IsLeast (IsAgain net functions (k + 1)) x) (sym n) (one_more_again net functions found k d best other below spread s.least o);
}

pub searched_all : (net : List Exits) (functions stamps : List ℕ) (k : ℕ) (best : Option ℕ) → length functions ≤ k → k ≤ length functions → IsSearchedOf net functions k stamps best → IsLeast (IsAgain net functions (length functions)) best
searched_all net functions stamps k best over under s = let e : k ≡ length functions = omega (arith, over, under) in subst (λ (n : ℕ). IsLeast (IsAgain net functions n) best) e s.least

pub deep_answer : (net : List Exits) (entry level n : ℕ) (stamps starts : List ℕ) (b : Bool) → 64 ≤ level → level ≤ 64 → IsLevel net entry level stamps starts → b ≡ nat_eq n 0 → n ≡ length starts → IsDeep net entry (not b)
deep_answer net entry level n stamps starts b over under l e long =
    let at : IsLevel net entry 64 stamps starts = let same : level ≡ 64 = omega (arith, over, under) in subst (λ (m : ℕ). IsLevel net entry m stamps starts) same l in
    by_test b e at
  where
    positive : (n ≡ 0) ⊎ (n ≡ 0 → ⊥) → false ≡ nat_eq n 0 → 0 < length starts
    positive (inl z) e = let t = eq-eqb n 0 z in absurd (cc)
    positive (inr some) e = omega (arith, some, long)

    by_test : (b : Bool) → b ≡ nat_eq n 0 → IsLevel net entry 64 stamps starts → IsDeep net entry (not b)
    by_test true e at = is_deep_of net entry stamps starts true at (sym long ∙ eqb-true n 0 (sym e))
    by_test false e at = deep_of net entry stamps starts at (positive (cases_eq n 0) e)

pub all_one : (n f : ℕ) → f < n → All (λ s. s < n) (f ∷ [])
all_one n f below = All-from_get_or (λ s. s < n) (f ∷ []) 0 one
  where
    one : (i : ℕ) → i < 1 → get_or (f ∷ []) i 0 < n
    one zero h = below
    one (suc i) h = absurd (omega (arith, h))
