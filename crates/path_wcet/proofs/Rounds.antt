-- Rounds over all regions, and rounds until nothing changes.
use Rattle.std.proofs.Common.{◌≡◌, refl, sym, ap, subst, ◌∙◌, ℕ, zero, suc, ◌+◌, ◌-◌, ◌<◌, ◌≤◌, Bool, true, false, List, [], ◌∷◌, ◌++◌, length, get_or, set, replicate, take, drop, arith, ◌⊎◌, inl, inr, Option, Some, None, get_or-set_same, get_or-set_other}
use Rattle.std.specs.Prelude.{◌||◌, slice_index}
use Rattle.std.specs.List.{All, Contains, filter}
use Rattle.std.specs.List.Sorted.{IsPermutation}
use Rattle.std.proofs.lemmas.List.Sorted.{Contains-permutation, IsPermutation-sym}
use Rattle.std.proofs.lemmas.Bool.{cases_eq, cases_order}
use Rattle.std.proofs.lemmas.List.{get_or_default, take-append-drop}
use Rattle.std.proofs.lemmas.List.Elements.{All-append, All-contains, Contains-append_cases, Contains-append_left, Contains-append_right, Contains-get_or}
use Rattle.visa_io.specs.declared.records.Region.{Region}
use Rattle.loop_regions.specs.Cycles.{AreIn, IsIn}
use Rattle.loop_regions.specs.Nested.{Numbered}
use Rattle.loop_regions.specs.Walks.{holds}
use Rattle.loop_regions.proofs.FreeWays.{filtered, filters}
use Rattle.loop_regions.specs.declared.ways.Way.{Way}
use Rattle.path_wcet.specs.declared.ahead.Aim.TheVariants as aim
use Rattle.path_wcet.specs.Known.{AreStill, IsFar, IsSatisfied, Table, entry, entry_at, room, rooms}
use Rattle.path_wcet.specs.Paths.{AreCounts, AreReached, AreTurns, IsFitting, IsReached, IsTurn, Path}
use Rattle.path_wcet.specs.Paths.Goal.{To}
use Rattle.path_wcet.specs.Paths.Path.{Returns, Stops}
use Rattle.path_wcet.specs.Settled.{AreCircuits, AreKnown, AreRounds, AreStops, AreTurnsRaised, Circuit, HasCircuit, IsCircuit, IsFound, IsRound, IsSettled, IsTurnOf, IsTurnRaised, IsTurned, or_zero}
use Rattle.path_wcet.specs.Tables.{AreApart, ArePut, IsCountPut}
use Rattle.path_wcet.proofs.Orders.{all_before}
use Rattle.path_wcet.proofs.Reach.{no_bool, read_reached}

-- counts

pub puts_none : (addresses : List ℕ) (counts : List ℕ) → ArePut addresses [] counts
puts_none addresses counts r c u inside at = absurd (omega (arith, c.1))

pub puts_more : (addresses : List ℕ) (all rs more : List Region) (r : Region) (counts next : List ℕ) → AreApart all → ((x : Region) → Contains more x → Contains all x) → more ≡ rs ++ r ∷ [] → ArePut addresses rs counts → IsCountPut addresses r counts next → ArePut addresses more next
puts_more addresses all rs more r counts next apart some is are put x c u inside at = by_place (Contains-append_cases rs (r ∷ []) x (subst (λ (l : List Region). Contains l x) is c))
  where
    here : Contains more r
    here = subst (λ (l : List Region). Contains l r) (sym is) (Rattle.std.proofs.lemmas.List.Elements.Contains-append_right rs (r ∷ []) r (0, omega arith, refl))

    by_place : Contains rs x ⊎ Contains (r ∷ []) x → slice_index next u ≡ x.count
    by_place (inr (zero, below, same)) = put.here u inside (at ∙ ap (λ (q : Region). q.header) (sym same)) ∙ ap (λ (q : Region). q.count) same
    by_place (inr (suc k, below, same)) = absurd (omega (arith, below))
    by_place (inl old) = elim (cases_eq (slice_index addresses u) r.header) [
      | inl same ↦ put.here u inside same ∙ ap (λ (q : Region). q.count) (apart r x (some r here) (some x c) (sym same ∙ at))
      | inr differ ↦ put.others u inside differ ∙ are x old u inside at
    ]

pub count_put : (addresses : List ℕ) (r : Region) (counts more : List ℕ) (k : ℕ) → ((i j : ℕ) → i < length addresses → j < length addresses → slice_index addresses i ≡ slice_index addresses j → i ≡ j) → length counts ≡ length addresses → k < length addresses → slice_index addresses k ≡ r.header
    → more ≡ set counts k r.count → length more ≡ length counts → IsCountPut addresses r counts more
count_put addresses r counts more k one beside inside at made same = record {
  beside = same;
  here = λ u within is. ap (slice_index more) (one u k within inside (is ∙ sym at)) ∙ ap (λ (l : List ℕ). slice_index l k) made ∙ get_or-set_same counts k r.count 0 (omega arith);
  others = λ u within differ. ap (λ (l : List ℕ). slice_index l u) made ∙ get_or-set_other counts k u r.count 0 (λ e. differ (ap (slice_index addresses) e ∙ at));
}

-- what a lap of one region costs

none_at : (n i : ℕ) (x : ℕ) → entry_at (replicate n None) i ≡ Some x → {X : Type 0} → X
none_at zero i x is = Rattle.path_wcet.proofs.Reach.no_some x is
none_at (suc n) zero x is = Rattle.path_wcet.proofs.Reach.no_some x is
none_at (suc n) (suc i) x is = none_at n i x is

turn_zero : (o : Option ℕ) (x : ℕ) → o ≡ Some x → x ≤ or_zero o
turn_zero o x is = let e = ap or_zero is in omega (arith, e)

pub turn_is : (t : Table) (turns : List ℕ) (rets : List (Option ℕ)) (c : Circuit) (first inner : List (Option ℕ)) (changed : Bool) (o : Option ℕ) (turn : ℕ) → first ≡ replicate c.len None → IsSettled t (aim.Lap c.region) turns rets c.ways c.base first inner changed
    → o ≡ entry c.base inner c.header → turn ≡ or_zero o → IsTurnOf t turns rets c turn
turn_is t turns rets c first inner changed o turn none settled read is = record {
  most = record { inner = inner; satisfied = settled.satisfied; least = λ x at. let h = turn_zero o x (read ∙ at) in omega (arith, h, is) };
  reached = λ n circuit known. by_entry n circuit known o read is;
}
  where
    by_entry : (n : Numbered) → IsCircuit n c → AreKnown t n turns rets → (p : Option ℕ) → p ≡ entry c.base inner c.header → turn ≡ or_zero p → (turn ≡ 0) ⊎ IsTurn t n c.header turn
    by_entry n circuit known None read is = inl is
    by_entry n circuit known (Some x) read is =
        let reached : AreReached t n (aim.Lap c.region) c.base inner = settled.reached n circuit.fitting known (λ i y at. none_at c.len i y (ap (λ (l : List (Option ℕ)). entry_at l i) (sym none) ∙ at)) in
        let r = read_reached t n (aim.Lap c.region) c.base inner reached c.header x (sym read) in
        inr (record { region = c.region; among = circuit.among; inside = circuit.inside; at = circuit.at; reached = record { cost = r.cost; path = r.path; most = let h = r.most in omega (arith, h, is) } })

set_turn : (t : Table) (n : Numbered) (turns : List ℕ) (k v : ℕ) → k < length turns → AreTurns t n turns → (v ≡ 0) ⊎ IsTurn t n k v → (more : List ℕ) → more ≡ set turns k v → AreTurns t n more
set_turn t n turns k v inside are new more made u = elim (cases_eq u k) [
  | inl same ↦
      let e : slice_index more u ≡ v = ap (slice_index more) same ∙ ap (λ (l : List ℕ). slice_index l k) made ∙ get_or-set_same turns k v 0 inside in
      elim new [ inl z ↦ inl (e ∙ z) | inr turn ↦ inr (subst (λ (m : ℕ). IsTurn t n u m) (sym e) (subst (λ (i : ℕ). IsTurn t n i v) (sym same) turn)) ]
  | inr differ ↦
      let e : slice_index more u ≡ slice_index turns u = ap (λ (l : List ℕ). slice_index l u) made ∙ get_or-set_other turns k u v 0 differ in
      elim (are u) [ inl z ↦ inl (e ∙ z) | inr turn ↦ inr (subst (λ (m : ℕ). IsTurn t n u m) (sym e) turn) ]
]

pub turn_raised : (t : Table) (turns more : List ℕ) (rets : List (Option ℕ)) (c : Circuit) (turn : ℕ) (changed : Bool) → c.header < length turns → IsTurnOf t turns rets c turn → length more ≡ length turns → (changed ≡ false → more ≡ turns) → (changed ≡ false → turn ≤ slice_index turns c.header)
    → (changed ≡ true → more ≡ set turns c.header turn) → (changed ≡ true → room more < room turns) → IsTurnRaised t turns more rets c changed
turn_raised t turns more rets c turn changed inside is beside kept enough made less = record {
  beside = beside;
  kept = λ e. (kept e, record { inner = is.most.inner; satisfied = is.most.satisfied; least = λ x at. let h = is.most.least x at in let k = enough e in omega (arith, h, k) });
  less = less;
  reached = λ n circuit known. by_changed n circuit known changed refl;
}
  where
    by_changed : (n : Numbered) → IsCircuit n c → AreKnown t n turns rets → (b : Bool) → changed ≡ b → AreTurns t n more
    by_changed n circuit known false e = subst (AreTurns t n) (sym (kept e)) known.turns_are
    by_changed n circuit known true e = set_turn t n turns c.header turn inside known.turns_are (is.reached n circuit known) more (made e)

-- all regions, as far as they have come
pub record AreRaising (t : Table) (turns now : List ℕ) (rets : List (Option ℕ)) (cs : List Circuit) (changed : Bool) (k : ℕ) : Type 0 where
  pub beside : length now ≡ length turns
  pub kept : changed ≡ false → (now ≡ turns) × ((j : ℕ) (d : Circuit) → j < k → IsTurned t turns rets (get_or cs j d))
  pub less : changed ≡ true → room now < room turns
  pub reached : (n : Numbered) → All (IsCircuit n) cs → AreKnown t n turns rets → AreTurns t n now

known_with : (t : Table) (n : Numbered) (turns now : List ℕ) (rets : List (Option ℕ)) → AreKnown t n turns rets → AreTurns t n now → AreKnown t n now rets
known_with t n turns now rets known are = record { counts = known.counts; turns_are = are; rets_are = known.rets_are }

pub raising_none : (t : Table) (turns : List ℕ) (rets : List (Option ℕ)) (cs : List Circuit) → AreRaising t turns turns rets cs false 0
raising_none t turns rets cs = record { beside = refl; kept = λ e. (refl, λ j d less. absurd (omega arith)); less = λ e. no_bool (sym e); reached = λ n circuits known. known.turns_are }

pub raising_changed : (t : Table) (turns now more : List ℕ) (rets : List (Option ℕ)) (cs : List Circuit) (changed : Bool) (k : ℕ) (d : Circuit) (b : Bool) → k < length cs → AreRaising t turns now rets cs changed k → b ≡ true → IsTurnRaised t now more rets (get_or cs k d) b → AreRaising t turns more rets cs true (k + 1)
raising_changed t turns now more rets cs changed k d b inside s is raised = record {
  beside = raised.beside ∙ s.beside;
  kept = λ e. no_bool e;
  less = λ e. by_changed changed refl;
  reached = λ n circuits known. raised.reached n (circuits k d inside) (known_with t n turns now rets known (s.reached n circuits known));
}
  where
    by_changed : (b : Bool) → changed ≡ b → room more < room turns
    by_changed true old = let l = s.less old in let h = raised.less is in omega (arith, l, h)
    by_changed false old = let a = ap room (s.kept old).0 in let h = raised.less is in omega (arith, a, h)

pub raising_kept : (t : Table) (turns now more : List ℕ) (rets : List (Option ℕ)) (cs : List Circuit) (changed : Bool) (k : ℕ) (d : Circuit) (b : Bool) → k < length cs → AreRaising t turns now rets cs changed k → b ≡ false → IsTurnRaised t now more rets (get_or cs k d) b → AreRaising t turns more rets cs changed (k + 1)
raising_kept t turns now more rets cs changed k d b inside s off raised =
    let same = raised.kept off in
    record {
      beside = raised.beside ∙ s.beside;
      kept = λ e. let m = s.kept e in (
        same.0 ∙ m.0,
        λ j x less. elim (cases_order j k) [
          | inl is ↦ subst (λ i. IsTurned t turns rets (get_or cs i x)) (sym is) (subst (IsTurned t turns rets) (get_or_default cs k d x inside) (subst (λ (l : List ℕ). IsTurned t l rets (get_or cs k d)) m.0 same.1))
          | inr (inl below) ↦ m.1 j x below
          | inr (inr above) ↦ absurd (omega arith)
        ],
      );
      less = λ e. let l = s.less e in let a = ap room same.0 in omega (arith, l, a);
      reached = λ n circuits known. raised.reached n (circuits k d inside) (known_with t n turns now rets known (s.reached n circuits known));
    }

pub raising_all : (t : Table) (turns now : List ℕ) (rets : List (Option ℕ)) (cs : List Circuit) (changed : Bool) (k : ℕ) → length cs ≤ k → AreRaising t turns now rets cs changed k → AreTurnsRaised t turns now rets cs changed
raising_all t turns now rets cs changed k over s = record { beside = s.beside; kept = λ e. let m = s.kept e in (m.0, λ j d inside. m.1 j d (omega arith)); less = s.less; reached = s.reached }

-- one round
pub round_is : (t : Table) (ways : List Way) (cs : List Circuit) (turns more : List ℕ) (rets known others : List (Option ℕ)) (a b c : Bool) → c ≡ (a || b) → known ≡ rets → IsSettled t aim.Return turns known ways 0 rets others a → AreTurnsRaised t turns more others cs b
    → IsRound t ways cs turns more rets others c
round_is t ways cs turns more rets known others a b c is copy settled raised = subst (IsRound t ways cs turns more rets others) (sym is) (record {
  beside = raised.beside;
  beside_rets = settled.beside;
  kept = λ e. by_kept a b settled raised e;
  less = λ e. by_less a b settled raised e;
  still = settled.still;
  reached = λ n fits circuits was.
      let before : AreReached t n aim.Return 0 others = settled.reached n fits (subst (AreKnown t n turns) (sym copy) was) was.rets_are in
      let now : AreKnown t n turns others = record { counts = was.counts; turns_are = was.turns_are; rets_are = before } in
      record { counts = was.counts; turns_are = raised.reached n circuits now; rets_are = before };
})
  where
    by_kept : (p q : Bool) → IsSettled t aim.Return turns known ways 0 rets others p → AreTurnsRaised t turns more others cs q → (p || q) ≡ false
        → (more ≡ turns) × (others ≡ rets) × All (IsSatisfied t aim.Return turns rets 0 rets) ways × All (IsTurned t turns rets) cs
    by_kept true q s r e = no_bool e
    by_kept false true s r e = no_bool e
    by_kept false false s r e =
        let same = s.kept refl in
        let k = r.kept refl in (
          k.0,
          same,
          subst (λ (l : List (Option ℕ)). All (IsSatisfied t aim.Return turns rets 0 l) ways) same (subst (λ (l : List (Option ℕ)). All (IsSatisfied t aim.Return turns l 0 others) ways) copy s.satisfied),
          subst (λ (l : List (Option ℕ)). All (IsTurned t turns l) cs) same k.1,
        )

    by_less : (p q : Bool) → IsSettled t aim.Return turns known ways 0 rets others p → AreTurnsRaised t turns more others cs q → (p || q) ≡ true → room more + rooms others < room turns + rooms rets
    by_less true true s r e = let a = s.less refl in let b = r.less refl in omega (arith, a, b)
    by_less true false s r e = let a = s.less refl in let b = ap room (r.kept refl).0 in omega (arith, a, b)
    by_less false true s r e = let a = ap rooms (s.kept refl) in let b = r.less refl in omega (arith, a, b)
    by_less false false s r e = no_bool (sym e)

-- rounds as far as they have come
pub record AreRounding (t : Table) (ways : List Way) (cs : List Circuit) (turns now : List ℕ) (rets rows : List (Option ℕ)) : Type 0 where
  pub beside : length now ≡ length turns
  pub beside_rets : length rows ≡ length rets
  pub still : AreStill rets rows
  pub reached : (n : Numbered) → All (IsFitting n aim.Return) ways → All (IsCircuit n) cs → AreKnown t n turns rets → AreKnown t n now rows

pub rounding_none : (t : Table) (ways : List Way) (cs : List Circuit) (turns : List ℕ) (rets : List (Option ℕ)) → AreRounding t ways cs turns turns rets rets
rounding_none t ways cs turns rets = record { beside = refl; beside_rets = refl; still = λ u m h. h; reached = λ n fits circuits known. known }

pub rounding_more : (t : Table) (ways : List Way) (cs : List Circuit) (turns now more : List ℕ) (rets rows others : List (Option ℕ)) (changed : Bool) → AreRounding t ways cs turns now rets rows → IsRound t ways cs now more rows others changed → AreRounding t ways cs turns more rets others
rounding_more t ways cs turns now more rets rows others changed s round = record {
  beside = round.beside ∙ s.beside;
  beside_rets = round.beside_rets ∙ s.beside_rets;
  still = λ u m h. round.still u m (s.still u m h);
  reached = λ n fits circuits known. round.reached n fits circuits (s.reached n fits circuits known);
}

pub rounding_done : (t : Table) (ways : List Way) (cs : List Circuit) (turns now more : List ℕ) (rets rows others : List (Option ℕ)) → AreRounding t ways cs turns now rets rows → IsRound t ways cs now more rows others false → AreRounds t ways cs turns more rets others
rounding_done t ways cs turns now more rets rows others s round =
    let k = round.kept refl in
    let r = rounding_more t ways cs turns now more rets rows others false s round in
    record {
      satisfied = subst (λ (l : List (Option ℕ)). All (IsSatisfied t aim.Return more l 0 l) ways) (sym k.1) (subst (λ (l : List ℕ). All (IsSatisfied t aim.Return l rows 0 rows) ways) (sym k.0) k.2);
      turned = subst (λ (l : List (Option ℕ)). All (IsTurned t more l) cs) (sym k.1) (subst (λ (l : List ℕ). All (IsTurned t l rows) cs) (sym k.0) k.3);
      still = r.still;
      reached = r.reached;
    }

pub taken_all : (k : ℕ) (rs : List Region) (x : Region) → Contains (take k rs) x → Contains rs x
taken_all k rs x c = subst (λ (l : List Region). Contains l x) (take-append-drop k rs) (Contains-append_left (take k rs) (drop k rs) x c)

-- circuits

pub own_in : (count : ℕ) (ways own : List Way) (r : Region) → AreIn count ways → own ≡ filter (λ w. holds r w.edge.from) ways → AreIn count own
own_in count ways own r are is k d inside =
    All-contains (IsIn count) ways (get_or own k d) are (filtered (λ w. holds r w.edge.from) ways (get_or own k d) (subst (λ (l : List Way). Contains l (get_or own k d)) is (Contains-get_or own k d inside))).0

pub circuit_is : (n : Numbered) (ways own : List Way) (r : Region) (header base end len : ℕ) → Contains n.regions r → header < length n.addresses → slice_index n.addresses header ≡ r.header → IsPermutation n.ways ways → own ≡ filter (λ w. holds r w.edge.from) ways
    → All (λ w. (base ≤ w.from) × (w.from < end)) own → len ≡ end - base → IsCircuit n (record { region = r; header = header; base = base; len = len; ways = own })
circuit_is n ways own r header base end len among inside at moved is span long = record {
  among = among;
  inside = inside;
  at = at;
  fitting = λ k d within.
      let f = filtered (λ w. holds r w.edge.from) ways (get_or own k d) (subst (λ (l : List Way). Contains l (get_or own k d)) is (Contains-get_or own k d within)) in
      record { among = Contains-permutation ways n.ways (get_or own k d) (IsPermutation-sym n.ways ways moved) f.0; begins = f.1 };
  within = λ k d within. let s = span k d within in let a = s.0 in let b = s.1 in record { above = a; below = omega (arith, a, b, long) };
  every = λ w c held. subst (λ (l : List Way). Contains l w) (sym is) (filters (λ v. holds r v.edge.from) ways w (Contains-permutation n.ways ways w moved c) held);
}

-- circuits as far as they have come
pub record AreMaking (n : Numbered) (regions : List Region) (cs : List Circuit) (k : ℕ) : Type 0 where
  pub each : All (IsCircuit n) cs
  pub every : (j : ℕ) (d : Region) → j < k → HasCircuit cs (get_or regions j d)

pub making_none : (n : Numbered) (regions : List Region) (cs : List Circuit) → cs ≡ [] → AreMaking n regions cs 0
making_none n regions cs is = subst (λ (l : List Circuit). AreMaking n regions l 0) (sym is) (record { each = λ k d inside. absurd (omega arith); every = λ j d less. absurd (omega arith) })

pub making_more : (n : Numbered) (regions : List Region) (cs more : List Circuit) (k : ℕ) (r : Region) (c : Circuit) → k < length regions → AreMaking n regions cs k → IsCircuit n c → c.region ≡ get_or regions k r → more ≡ cs ++ c ∷ [] → AreMaking n regions more (k + 1)
making_more n regions cs more k r c inside s circuit is made = record {
  each = subst (All (IsCircuit n)) (sym made) (All-append (IsCircuit n) cs (c ∷ []) s.each (one circuit));
  every = λ j d less. elim (cases_order j k) [
    | inl same ↦ record { circuit = c; among = subst (λ (l : List Circuit). Contains l c) (sym made) (Contains-append_right cs (c ∷ []) c (0, omega arith, refl)); is = is ∙ get_or_default regions k r d inside ∙ ap (λ i. get_or regions i d) (sym same) }
    | inr (inl below) ↦ let h = s.every j d below in record { circuit = h.circuit; among = subst (λ (l : List Circuit). Contains l h.circuit) (sym made) (Contains-append_left cs (c ∷ []) h.circuit h.among); is = h.is }
    | inr (inr above) ↦ absurd (omega arith)
  ];
}
  where
    one : IsCircuit n c → All (IsCircuit n) (c ∷ [])
    one x zero d within = x
    one x (suc j) d within = absurd (omega arith)

pub made_all : (n : Numbered) (regions : List Region) (cs : List Circuit) (k : ℕ) → length regions ≤ k → AreMaking n regions cs k → AreCircuits n regions cs
made_all n regions cs k over s = record { each = s.each; every = λ j d inside. s.every j d (omega arith) }

-- what is found
pub found_is : (t : Table) (n : Numbered) (ways : List Way) (cs : List Circuit) (zeros turns : List ℕ) (rets : List (Option ℕ)) → (k : ℕ) → zeros ≡ replicate k 0 → AreCounts n t.counts → IsPermutation n.ways ways → AreCircuits n n.regions cs → AreRounds t ways cs zeros turns t.ends rets → IsFound t n turns rets
found_is t n ways cs zeros turns rets k none counts moved circuits r = record {
  known = r.reached n (λ i d inside. record { among = Contains-permutation ways n.ways (get_or ways i d) (IsPermutation-sym n.ways ways moved) (Contains-get_or ways i d inside); begins = tt }) circuits.each (record {
    counts = counts;
    turns_are = λ u. inl (ap (λ (l : List ℕ). slice_index l u) none ∙ zero_at k u);
    rets_are = λ i x is. record { cost = x; path = subst (λ u. Path t n (To aim.Return) u x) (let e : i ≡ 0 + i = omega arith in e) (Returns i x is); most = omega arith };
  });
  still = r.still;
  satisfied = all_before (IsSatisfied t aim.Return turns rets 0 rets) n.ways ways moved r.satisfied;
  turned = λ q c. let h = All-contains (HasCircuit cs) n.regions q circuits.every c in (h.circuit, All-contains (IsCircuit n) cs h.circuit circuits.each h.among, h.is, All-contains (IsTurned t turns rets) cs h.circuit r.turned h.among);
}
  where
    zero_at : (m u : ℕ) → slice_index (replicate m 0) u ≡ 0
    zero_at zero u = refl
    zero_at (suc m) zero = refl
    zero_at (suc m) (suc u) = zero_at m u

-- what is ahead where paths stop anywhere
pub stops_are : (t : Table) (n : Numbered) (turns : List ℕ) (rets : List (Option ℕ)) (ways : List Way) (first stops : List (Option ℕ)) (changed : Bool) → IsPermutation n.ways ways → first ≡ replicate (length n.addresses) (Some 0) → IsSettled t aim.Stop turns rets ways 0 first stops changed → AreStops t n turns rets stops
stops_are t n turns rets ways first stops changed moved is settled = record {
  satisfied = all_before (IsSatisfied t aim.Stop turns rets 0 stops) n.ways ways moved settled.satisfied;
  there = λ u inside. settled.still u 0 (subst (λ (l : List (Option ℕ)). IsFar (entry_at l u) 0) (sym is) (some_at (length n.addresses) u inside));
  reached = λ known. settled.reached n (λ i d inside. record { among = Contains-permutation ways n.ways (get_or ways i d) (IsPermutation-sym n.ways ways moved) (Contains-get_or ways i d inside); begins = tt }) known
      (λ i x at. first_reached i x (subst (λ (l : List (Option ℕ)). entry_at l i ≡ Some x) is at));
}
  where
    some_at : (m u : ℕ) → u < m → IsFar (entry_at (replicate m (Some 0)) u) 0
    some_at zero u inside = absurd (omega arith)
    some_at (suc m) zero inside = omega arith
    some_at (suc m) (suc u) inside = some_at m u (omega arith)

    all_at : (m u x : ℕ) → entry_at (replicate m (Some 0)) u ≡ Some x → (u < m) × (x ≡ 0)
    all_at zero u x at = Rattle.path_wcet.proofs.Reach.no_some x at
    all_at (suc m) zero x at = (omega arith, sym (Rattle.path_wcet.proofs.Reach.some_is 0 x at))
    all_at (suc m) (suc u) x at = let h = all_at m u x at in (let k = h.0 in omega arith, h.1)

    first_reached : (i x : ℕ) → entry_at (replicate (length n.addresses) (Some 0)) i ≡ Some x → IsReached t n (To aim.Stop) (0 + i) x
    first_reached i x at = let h = all_at (length n.addresses) i x at in record { cost = 0; path = Stops (0 + i) (let k = h.0 in omega arith); most = let z = h.1 in omega arith }

pub some_regions : (rs own : List Region) → IsPermutation rs own → All (λ r. Contains rs r) own
some_regions rs own moved k d inside = Contains-permutation own rs (get_or own k d) (IsPermutation-sym rs own moved) (Contains-get_or own k d inside)

pub circuits_are : (n : Numbered) (own : List Region) (cs : List Circuit) → IsPermutation n.regions own → AreCircuits n own cs → AreCircuits n n.regions cs
circuits_are n own cs moved are = record { each = are.each; every = all_before (HasCircuit cs) n.regions own moved are.every }
