-- A search with a list of work: how it begins, what a step keeps, and what it has found at its end.
use Rattle.std.proofs.Common.{ℕ, zero, suc, ◌+◌, ◌<◌, ◌≤◌, ◌≡◌, ◌≢◌, ◌⊎◌, inl, inr, refl, sym, ap, subst, ◌∙◌, lit<, lit≤, sum_by, length-append, Bool, true, false, if◌then◌else◌, nat_eq, Option, Some, None, List, [], ◌∷◌, ◌++◌, Contains, All, length, get_or, arith}
use Rattle.std.proofs.Math.ListN.{set, length-set}
use Rattle.std.specs.List.{IsDistinct}
use Rattle.std.specs.Cmp.{nat_eq_equiv}
use Rattle.std.proofs.lemmas.Bool.Decides.{nat_tests}
use Rattle.std.proofs.lemmas.List.Elements.{Contains-append_left, Contains-append_right, Contains-get_or, Contains-append_cases, Contains-push, Contains-push_cases, All-set, All-contains}
use Rattle.std.proofs.lemmas.Bool.{cases_eq}
use Rattle.std.proofs.lemmas.List.{get_or-set_other, get_or-set_same}
use Rattle.std.proofs.lemmas.List.Folds.{list_any_none}
use Rattle.std.proofs.lemmas.List.Sums.{sum_by-set}
use Rattle.std.proofs.lemmas.Map.Keys.{IsDistinct-push}
use Rattle.flow_graph.specs.Places.{Goes, IsMet, IsNet, IsPath, IsSearch, IsSpread, asked_by, exit_of, exits_asked, exits_at, listed}
use Rattle.flow_graph.proofs.Members.{in_first, in_fourth, in_one_of, in_second, in_third, none_in_nil, not_equal}
use Rattle.flow_graph.specs.declared.site.Exits.{Exits}
use Rattle.flow_graph.specs.declared.parts.EdgeKind.{EdgeKind}
use Rattle.flow_graph.specs.declared.parts.EdgeKind.TheVariants.{Next, Taken, Call, Return, Over}

pub in_option : (o : Option ℕ) (v : ℕ) → Contains (listed o) v → o ≡ Some v
in_option None v h = absurd (none_in_nil v h)
in_option (Some x) v (zero, below, is) = ap Some is
in_option (Some x) v (suc k, below, is) = absurd (omega (arith, below))

pub of_option : (o : Option ℕ) (v : ℕ) → o ≡ Some v → Contains (listed o) v
of_option o v e = rw e (0, lit< tt, refl)

-- an exit that is asked for, as a kind
pub record IsAsked (x : Exits) (enters : Bool) (v : ℕ) : Type 0 where
  pub kind : EdgeKind
  pub is_asked : asked_by enters kind ≡ true
  pub leads : exit_of x kind ≡ Some v

last_of : Exits → Bool → List ℕ
last_of x enters = if enters then listed x.call else []

asked_listed : (x : Exits) (enters : Bool) (v : ℕ) (kind : EdgeKind) → asked_by enters kind ≡ true → exit_of x kind ≡ Some v → Contains (exits_asked x enters) v
unfolding last_of
asked_listed x enters v Next a e = in_first (listed x.next) (listed x.taken) (listed x.over) (last_of x enters) v (of_option x.next v e)
asked_listed x enters v Taken a e = in_second (listed x.next) (listed x.taken) (listed x.over) (last_of x enters) v (of_option x.taken v e)
asked_listed x enters v Over a e = in_third (listed x.next) (listed x.taken) (listed x.over) (last_of x enters) v (of_option x.over v e)
asked_listed x true v Call a e = in_fourth (listed x.next) (listed x.taken) (listed x.over) (last_of x true) v (of_option x.call v e)
asked_listed x false v Call a e = absurd (cc)
asked_listed x enters v Return a e = absurd (cc)

call_listed : (x : Exits) (enters : Bool) (v : ℕ) → Contains (if enters then listed x.call else []) v → IsAsked x enters v
call_listed x true v h = record { kind = Call; is_asked = refl; leads = in_option x.call v h }
call_listed x false v h = absurd (none_in_nil v h)

listed_asked : (x : Exits) (enters : Bool) (v : ℕ) → Contains (exits_asked x enters) v → IsAsked x enters v
unfolding last_of
listed_asked x enters v h =
    elim (in_one_of (listed x.next) (listed x.taken) (listed x.over) (last_of x enters) v h) [
      | inl ab ↦ elim ab [
        | inl a ↦ record { kind = Next; is_asked = inner enters Next refl; leads = in_option x.next v a }
        | inr b ↦ record { kind = Taken; is_asked = inner enters Taken refl; leads = in_option x.taken v b }
      ]
      | inr cd ↦ elim cd [
        | inl c ↦ record { kind = Over; is_asked = inner enters Over refl; leads = in_option x.over v c }
        | inr d ↦ call_listed x enters v d
      ]
    ]
  where
    inner : (enters : Bool) (kind : EdgeKind) → asked_by false kind ≡ true → asked_by enters kind ≡ true
    inner true kind h = refl
    inner false kind h = h

-- the way of one place, and of one more
met_start : (net : List Exits) (enters : Bool) (starts : List ℕ) (u : ℕ) → Contains starts u → IsMet net enters starts u
unfolding IsPath
met_start net enters starts u h = record { us = []; path = h }

met_next : (net : List Exits) (enters : Bool) (starts : List ℕ) (u v : ℕ) → IsMet net enters starts u → Goes net enters u v → IsMet net enters starts v
unfolding IsPath
met_next net enters starts u v m g = record { us = u ∷ m.us; path = (g, m.path) }

pub opens : (net : List Exits) (enters : Bool) (starts stamps : List ℕ) (stamp : ℕ) → All (λ s. s < length net) starts → length stamps ≡ length net → All (λ s. s < stamp) stamps → IsSearch net enters starts stamps stamp [] starts
unfolding IsDistinct
opens net enters starts stamps stamp within beside fresh = record {
  beside = beside;
  stamped = λ u h below. absurd (omega (arith, fresh u 0 (omega arith)));
  marked = λ u h. absurd (none_in_nil u h);
  met = λ u h. absurd (none_in_nil u h);
  valid = λ u h. (All-contains (λ s. s < length net) starts u within h, met_start net enters starts u h);
  begun = λ u h. inr h;
  owed = λ u v h g. absurd (none_in_nil u h);
  distinct = distinct_none;
  low = λ k d below. omega (arith, fresh k d below);
}
  where
    distinct_none : IsDistinct nat_eq []
    distinct_none = tt

-- the place that is taken from the list of work
pub popped : (net : List Exits) (enters : Bool) (starts stamps : List ℕ) (stamp : ℕ) (found work rest : List ℕ) (place : ℕ) → IsSearch net enters starts stamps stamp found work → work ≡ rest ++ place ∷ [] → (place < length stamps) × (place < length net)
popped net enters starts stamps stamp found work rest place s e =
    let below : place < length net = (s.valid place (rw e (Contains-push rest place))).0 in
    (omega (arith, s.beside, below), below)

-- a place of the list of work was found before
pub skips : (net : List Exits) (enters : Bool) (starts stamps : List ℕ) (stamp : ℕ) (found rest : List ℕ) (place : ℕ) → get_or stamps place 0 ≡ stamp → IsSearch net enters starts stamps stamp found (rest ++ place ∷ []) → IsSearch net enters starts stamps stamp found rest
skips net enters starts stamps stamp found rest place is s = record {
  beside = s.beside;
  stamped = s.stamped;
  marked = s.marked;
  met = s.met;
  valid = λ u h. s.valid u (Contains-append_left _ _ u h);
  begun = λ u h. again u (s.begun u h);
  owed = λ u v h g. again v (s.owed u v h g);
  distinct = s.distinct;
  low = s.low;
}
  where
    here : Contains found place
    here = s.stamped place is (s.valid place (Contains-push rest place)).0

    again : (u : ℕ) → Contains found u ⊎ Contains (rest ++ place ∷ []) u → Contains found u ⊎ Contains rest u
    again u (inl h) = inl h
    again u (inr h) = elim (Contains-push_cases rest place u h) [ inl r ↦ inr r | inr e ↦ inl (subst (λ (n : ℕ). Contains found n) e here) ]

pub closes : (net : List Exits) (enters : Bool) (starts stamps : List ℕ) (stamp : ℕ) (found : List ℕ) → IsSearch net enters starts stamps stamp found [] → IsSpread net enters starts found
unfolding IsPath
closes net enters starts stamps stamp found s = record {
  met = s.met;
  whole = λ u m. whole u m.us m.path;
  within = λ k d below. (s.marked (get_or found k d) (Contains-get_or found k d below)).1;
  distinct = s.distinct;
}
  where
    done : (u : ℕ) → Contains found u ⊎ Contains [] u → Contains found u
    done u (inl h) = h
    done u (inr h) = absurd (none_in_nil u h)

    whole : (u : ℕ) (us : List ℕ) → IsPath net enters starts (u ∷ us) → Contains found u
    whole u [] h = done u (s.begun u h)
    whole v (u ∷ us) h = done v (s.owed u v (whole u us h.1) h.0)

-- a place of the list of work is new
pub marks : (net : List Exits) (enters : Bool) (starts stamps : List ℕ) (stamp : ℕ) (found rest : List ℕ) (place : ℕ) → IsNet net → (get_or stamps place 0 ≡ stamp → ⊥) → IsSearch net enters starts stamps stamp found (rest ++ place ∷ []) → IsSearch net enters starts (set stamps place stamp) stamp (found ++ place ∷ []) (rest ++ exits_asked (exits_at net place) enters)
marks net enters starts stamps stamp found rest place is_net new s = record {
  beside = length-set stamps place stamp ∙ s.beside;
  stamped = λ u is below. elim (cases_eq u place) [
    | inl e ↦ subst (λ (n : ℕ). Contains (found ++ place ∷ []) n) (sym e) (Contains-push found place)
    | inr other ↦ Contains-append_left _ _ u (s.stamped u (sym (get_or-set_other stamps place u stamp 0 other) ∙ is) below)
  ];
  marked = λ u h. elim (Contains-push_cases found place u h) [
    | inl f ↦ (get_or-set_other stamps place u stamp 0 (λ e. new (subst (λ (n : ℕ). get_or stamps n 0 ≡ stamp) e (s.marked u f).0)) ∙ (s.marked u f).0, (s.marked u f).1)
    | inr e ↦ subst (λ (n : ℕ). (get_or (set stamps place stamp) n 0 ≡ stamp) × (n < length net)) e (get_or-set_same stamps place stamp 0 (omega (arith, here.0, s.beside)), here.0)
  ];
  met = λ u h. elim (Contains-push_cases found place u h) [ inl f ↦ s.met u f | inr e ↦ subst (λ (n : ℕ). IsMet net enters starts n) e here.1 ];
  valid = λ u h. elim (Contains-append_cases rest _ u h) [ inl r ↦ s.valid u (Contains-append_left _ _ u r) | inr x ↦ further u (listed_asked (exits_at net place) enters u x) ];
  begun = λ u h. again u (s.begun u h);
  owed = λ u v h g. elim (Contains-push_cases found place u h) [
    | inl f ↦ again v (s.owed u v f g)
    | inr e ↦ inr (Contains-append_right rest _ v (asked_listed (exits_at net place) enters v g.kind g.is_asked (subst (λ (n : ℕ). exit_of (exits_at net n) g.kind ≡ Some v) (sym e) g.leads)))
  ];
  distinct = IsDistinct-push nat_eq_equiv found place s.distinct (list_any_none (nat_eq place) found (λ k d below. differs k d below));
  low = All-set (λ s. s ≤ stamp) stamps place stamp (omega arith) s.low;
}
  where
    differs : (k d : ℕ) → k < length found → nat_eq place (get_or found k d) ≡ false
    differs k d below = not_equal place _ (λ e. new (subst (λ (n : ℕ). get_or stamps n 0 ≡ stamp) (sym e) (s.marked (get_or found k d) (Contains-get_or found k d below)).0))

    here : (place < length net) × IsMet net enters starts place
    here = s.valid place (Contains-push rest place)

    further : (u : ℕ) → IsAsked (exits_at net place) enters u → (u < length net) × IsMet net enters starts u
    further u a = (is_net.inside place u a.kind a.leads, met_next net enters starts place u here.1 (record { kind = a.kind; is_asked = a.is_asked; leads = a.leads }))

    again : (u : ℕ) → Contains found u ⊎ Contains (rest ++ place ∷ []) u → Contains (found ++ place ∷ []) u ⊎ Contains (rest ++ exits_asked (exits_at net place) enters) u
    again u (inl h) = inl (Contains-append_left _ _ u h)
    again u (inr h) = elim (Contains-push_cases rest place u h) [ inl r ↦ inr (Contains-append_left _ _ u r) | inr e ↦ inl (subst (λ (n : ℕ). Contains (found ++ place ∷ []) n) e (Contains-push found place)) ]

-- a step of the loop, in the words of what it calls
pub skipped : (net : List Exits) (enters : Bool) (starts stamps after : List ℕ) (stamp : ℕ) (found work rest : List ℕ) (place : ℕ) → work ≡ rest ++ place ∷ [] → (get_or stamps place 0 ≡ stamp) × (after ≡ stamps) → IsSearch net enters starts stamps stamp found work → IsSearch net enters starts after stamp found rest
skipped net enters starts stamps after stamp found work rest place e old s =
    subst (λ (l : List ℕ). IsSearch net enters starts l stamp found rest) (sym old.1)
    (skips net enters starts stamps stamp found rest place old.0 (subst (λ (l : List ℕ). IsSearch net enters starts stamps stamp found l) e s))

pub stepped : (net : List Exits) (enters : Bool) (starts stamps after : List ℕ) (stamp : ℕ) (found more work rest owed : List ℕ) (place : ℕ) → IsNet net → work ≡ rest ++ place ∷ [] → (get_or stamps place 0 ≢ stamp) × (after ≡ set stamps place stamp) → more ≡ found ++ place ∷ [] → owed ≡ rest ++ exits_asked (exits_at net place) enters → IsSearch net enters starts stamps stamp found work → IsSearch net enters starts after stamp more owed
stepped net enters starts stamps after stamp found more work rest owed place is_net e new m o s =
    rw (new.1, m, o) (marks net enters starts stamps stamp found rest place is_net new.0 (subst (λ (l : List ℕ). IsSearch net enters starts stamps stamp found l) e s))

pub finished : (net : List Exits) (enters : Bool) (starts stamps : List ℕ) (stamp : ℕ) (found work : List ℕ) → length work ≡ 0 → IsSearch net enters starts stamps stamp found work → IsSpread net enters starts found
finished net enters starts stamps stamp found (x ∷ work) e s = absurd (omega (arith, e))
finished net enters starts stamps stamp found [] e s = closes net enters starts stamps stamp found s

length-listed : (o : Option ℕ) → length (listed o) ≤ 1
length-listed None = lit≤ tt
length-listed (Some v) = lit≤ tt

length-last_of : (x : Exits) (enters : Bool) → length (last_of x enters) ≤ 1
unfolding last_of
length-last_of x true = length-listed x.call
length-last_of x false = lit≤ tt

few_exits : (x : Exits) (enters : Bool) → length (exits_asked x enters) ≤ 4
unfolding last_of
few_exits x enters =
    omega (arith, length-append (listed x.next ++ listed x.taken ++ listed x.over) (last_of x enters), length-append (listed x.next ++ listed x.taken) (listed x.over), length-append (listed x.next) (listed x.taken), length-listed x.next, length-listed x.taken, length-listed x.over, length-last_of x enters)

-- a place that gets the stamp pays for its exits
weight : ℕ → ℕ → ℕ
weight stamp s = if nat_eq s stamp then 0 else 5

weight-own : (stamp : ℕ) → weight stamp stamp ≡ 0
unfolding weight
weight-own stamp = grind (arith, nat_tests)

weight-other : (stamp s : ℕ) → s ≢ stamp → weight stamp s ≡ 5
unfolding weight
weight-other stamp s other = grind (arith, nat_tests)

pub pays : (net : List Exits) (enters : Bool) (stamps after : List ℕ) (stamp place : ℕ) (work rest owed : List ℕ) → place < length stamps → work ≡ rest ++ place ∷ [] → (get_or stamps place 0 ≢ stamp) × (after ≡ set stamps place stamp) → owed ≡ rest ++ exits_asked (exits_at net place) enters → sum_by (λ s. if nat_eq s stamp then 0 else 5) after + length owed < sum_by (λ s. if nat_eq s stamp then 0 else 5) stamps + length work
unfolding weight
pays net enters stamps after stamp place work rest owed below e new o =
    rw (new.1, o, e) (omega (
      arith,
      sum_by-set (weight stamp) stamps place stamp 0 below,
      weight-own stamp,
      weight-other stamp (get_or stamps place 0) new.0,
      length-append rest (exits_asked (exits_at net place) enters),
      length-append rest (place ∷ []),
      few_exits (exits_at net place) enters,
    ))
