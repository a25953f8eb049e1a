-- What a suffix of a run costs, sub-task by sub-task.
use Rattle.std.proofs.Common.{◌≡◌, refl, sym, ap, subst, ◌∙◌, ◌⊎◌, inl, inr, ℕ, suc, ◌+◌, ◌*◌, ◌≤◌, Bool, true, List, [], ◌∷◌, ◌++◌, length, append-nil, arith, mul-le-mul_left}
use Rattle.std.specs.Prelude.{if◌then◌else◌, Option, Some, None}
use Rattle.flow_graph.specs.declared.parts.Edge.{Edge}
use Rattle.loop_regions.specs.Walks.{LoopGraph}
use Rattle.loop_regions.specs.Places.{Place, places, oldest, ats, IsFull}
use Rattle.loop_regions.specs.Costs.{Prices, spent, young, walk_cost, late}
use Rattle.remaining_wcet.specs.Executed.{Executed, Clock, Spells}
use Rattle.remaining_wcet.specs.SubTasks.{SubTasks, Closed, IsPiece, IsCutUp, IsPaid, IsInside, pcs_to, AreKnown, cut_places, first_of_sub}
use Rattle.loop_regions.proofs.Sums.{spent_append, places_spent, young_older, young_more, places_young}
use Rattle.remaining_wcet.proofs.Spelt.{spread, begun, IsSpread}
use Rattle.remaining_wcet.proofs.Splits.{split, IsLater}
use Rattle.remaining_wcet.proofs.Inside.{inside_piece, cut_starts, IsStart, oldest_append, oldest_older, places_oldest}

late_if : (covered : ℕ → Bool) (a u : ℕ) → a ≡ u → covered u ≡ true → ◌≡◌ {A = ℕ} (if covered a then 0 else 1) 0
late_if covered a u e h = ap (λ (b : Bool). let n : ℕ = (if b then 0 else 1) in n) (ap covered e ∙ h)

-- a part that begins where the walk begins is covered from the start
late_whole : (covered : ℕ → Bool) (g : LoopGraph) (by : Option Edge) (u : ℕ) (es : List Edge) (later part : List Place)
    → places g by u es ≡ later ++ part → covered u ≡ true → late covered part ≡ 0
late_whole covered g by u es later [] e h = refl
late_whole covered g by u es later (x ∷ part) e h =
    let same : oldest x.at part ≡ u = sym (oldest_append 0 later (x ∷ part)) ∙ ap (oldest 0) (sym e) ∙ places_oldest g
    by u es 0 in
    late_if covered (oldest x.at part) u same h

-- the piece where the suffix begins
in_piece : (t : SubTasks) (p : Prices) (c : Clock) (k more : ℕ) (by : Option Edge) (es : List Edge) → AreKnown t p c
    → IsPiece t k es
    → more + walk_cost p (t.charged k) t.flow (first_of_sub t k) es + p.miss * t.lines k ≤ p.bound k
    → (later rest skipped : List Place) → places t.flow by (first_of_sub t k) es ≡ later ++ (rest ++ skipped)
    → (os : List Executed) → Spells c p os rest → (before : List Place) → IsInside t k (pcs_to rest before)
    → IsPaid t p c k more os rest before
in_piece t p c k more by es known piece fits later rest skipped e os s before inside =
    let u = first_of_sub t k in
    let m = known.fetched k es piece by later rest skipped e [] in
    let b = begun c p (t.charged k) rest os s in
    let y = ap (young p (t.charged k)) e in
    let w = places_young p (t.charged k) t.flow by u es in
    let o = young_older p (t.charged k) later (rest ++ skipped) in
    let l = young_more p (t.charged k) rest skipped in
    let mm = mul-le-mul_left p.miss m in
    let here : k + 0 ≡ k = omega arith in
    let at = ap p.bound here in
    record
    { sub = k; subs = 1; some = omega arith; last = omega arith; inside = inside; cost = omega (arith, mm, b, y, w, o, l, fits, at) }

-- a piece that is over, and the ones before it
whole_piece : (t : SubTasks) (p : Prices) (c : Clock) (k more : ℕ) (exit : Edge) (es : List Edge) → AreKnown t p c
    → IsPiece t (suc k) es
    → more + walk_cost p (t.charged (suc k)) t.flow (first_of_sub t (suc k)) es + p.miss * t.lines (suc k) ≤ p.bound (suc k)
    → (later part rest : List Place) → places t.flow (Some exit) (first_of_sub t (suc k)) es ≡ later ++ part
    → (os : List Executed) → (i : IsSpread c p (t.charged (suc k)) part rest os) → (before : List Place)
    → IsPaid t p c k (p.edge exit) i.older rest before
    → (whole : List Place) → late (t.covered (suc k)) part ≡ 0
    → ((j : ℕ) → late (t.covered j) whole ≡ late (t.covered j) rest) → oldest 0 rest ≡ oldest 0 whole
    → IsPaid t p c (suc k) more os whole before
whole_piece t p c k more exit es known piece fits later part rest e os i before paid whole begins same begin =
    let u = first_of_sub t (suc k) in
    let m = known.fetched (suc k) es piece (Some exit) later part [] (e ∙ ap (λ q. later ++ q) (sym (append-nil part)))
    (ats rest) in
    let y = ap (spent p (t.charged (suc k))) e in
    let w = places_spent p (t.charged (suc k)) t.flow (Some exit) u es in
    let o = spent_append p (t.charged (suc k)) later part in
    let mm = mul-le-mul_left p.miss m in
    let z = ap (λ n. p.miss * n) begins in
    let sm = ap (λ n. p.miss * n) (same paid.sub) in
    let at = ap p.bound paid.last in
    record
    { sub = paid.sub; subs = suc paid.subs; some = omega arith; last = omega (arith, paid.last); inside = subst (λ a. IsInside t paid.sub (a ∷ ats before)) begin paid.inside; cost = omega (arith, mm, i.cost, y, w, o, z, sm, at, paid.cost, fits) }

full_or : (xs : List Place) → (xs ≡ []) ⊎ IsFull xs
full_or [] = inl refl
full_or (x ∷ xs) = inr tt

late_older : (covered : ℕ → Bool) (xs ys : List Place) → IsFull ys → late covered (xs ++ ys) ≡ late covered ys
late_older covered [] ys full = refl
late_older covered (x ∷ xs) [] full = absurd full
late_older covered (x ∷ xs) (y ∷ ys) full =
    ap (λ (a : ℕ). let n : ℕ = (if covered a then 0 else 1) in n) (oldest_append x.at xs (y ∷ ys))

-- more sub-tasks cost more
more_subs : (t : SubTasks) (p : Prices) (c : Clock) (k more further : ℕ) (os : List Executed) (rest before : List Place)
    → more ≤ p.bound (suc k) → IsPaid t p c k further os rest before → IsPaid t p c (suc k) more os rest before
more_subs t p c k more further os rest before fits paid =
    let at = ap p.bound paid.last in
    record
    { sub = paid.sub; subs = suc paid.subs; some = omega arith; last = omega (arith, paid.last); inside = paid.inside; cost = omega (arith, paid.cost, at, fits) }

drop_left : (more cost lines bound : ℕ) → more + cost + lines ≤ bound → more ≤ bound
drop_left more cost lines bound h = omega arith

-- the newest piece of a cut walk
pub cut_piece : (t : SubTasks) (cs : List Closed) (es : List Edge) → IsCutUp t es cs → IsPiece t (length cs) es
cut_piece t [] es cut = cut
cut_piece t (w ∷ cs) es cut = cut.0

-- what is known of the pieces before the newest one
abbrev OlderPay : (t : SubTasks) (p : Prices) (c : Clock) (k more : ℕ) (whole : List Place) → Type 0
OlderPay t p c k more whole =
    (later rest before : List Place) → whole ≡ later ++ (rest ++ before) → IsFull rest → (os : List Executed)
    → Spells c p os rest → IsPaid t p c k more os rest before

-- the suffix begins in the newest piece, or before it
record IsStep (t : SubTasks) (p : Prices) (c : Clock) (k more : ℕ) (exit : Edge) (es : List Edge) (whole : List Place) : Type 0 where
  start : IsStart t (suc k) whole
  known : AreKnown t p c
  piece : IsPiece t (suc k) es
  fits : more + walk_cost p (t.charged (suc k)) t.flow (first_of_sub t (suc k)) es + p.miss * t.lines (suc k) ≤ p.bound (suc k)

over_border : (t : SubTasks) (p : Prices) (c : Clock) (k more : ℕ) (exit : Edge) (es : List Edge) → (whole : List Place)
    → IsStep t p c k more exit es whole → OlderPay t p c k (p.edge exit) whole
    → (later part rest older before : List Place)
    → places t.flow (Some exit) (first_of_sub t (suc k)) es ≡ later ++ part → rest ≡ part ++ older
    → whole ≡ older ++ before → IsFull older
    → (os : List Executed) → Spells c p os rest → IsPaid t p c (suc k) more os rest before
over_border t p c k more exit es whole st pay later part rest older before e r b full os s =
    let i = spread c p (t.charged (suc k)) part older os (subst (Spells c p os) r s) in
    let paid = pay [] older before b full i.older i.spells in
    whole_piece t p c k more exit es st.known st.piece st.fits later part older e os i before paid rest
    (late_whole (t.covered (suc k)) t.flow (Some exit) (first_of_sub t (suc k)) es later part e (st.known.begins (suc k) st.piece.is_sub))
    (λ j. ap (late (t.covered j)) r ∙ late_older (t.covered j) part older full)
    (sym (ap (oldest 0) r ∙ oldest_older part older full))

by_rest : (t : SubTasks) (p : Prices) (c : Clock) (k more : ℕ) (exit : Edge) (es : List Edge) → (whole : List Place)
    → IsStep t p c k more exit es whole → OlderPay t p c k (p.edge exit) whole
    → (later part rest before : List Place) → places t.flow (Some exit) (first_of_sub t (suc k)) es ≡ later ++ part
    → IsFull rest → IsLater rest before part whole ⊎ IsLater part whole rest before
    → (os : List Executed) → Spells c p os rest → IsPaid t p c (suc k) more os rest before
by_rest t p c k more exit es whole st pay later part rest before e full_rest cases os s = elim cases [
  | inl a ↦ elim (full_or a.middle) [
    | inl none ↦
        let same : part ≡ rest ++ [] = sym (append-nil part) ∙ ap (λ q. part ++ q) (sym none) ∙ sym a.first ∙ sym
        (append-nil rest) in
        let is = e ∙ ap (λ q. later ++ q) same in
        in_piece t p c (suc k) more (Some exit) es st.known st.piece st.fits later rest [] is os s before
        (inside_piece t p c st.known (suc k) (Some exit) es st.piece whole st.start later rest [] before full_rest is (sym (a.second ∙ ap (λ q. q ++ before) none)))
    | inr full ↦ over_border t p c k more exit es whole st pay later part rest a.middle before e a.first a.second full os s
  ]
  | inr a ↦
      let is = e ∙ ap (λ q. later ++ q) a.first in
      in_piece t p c (suc k) more (Some exit) es st.known st.piece st.fits later rest a.middle is os s before
      (inside_piece t p c st.known (suc k) (Some exit) es st.piece whole st.start later rest a.middle before full_rest is a.second)
]

by_later : (t : SubTasks) (p : Prices) (c : Clock) (k more : ℕ) (exit : Edge) (es : List Edge) → (whole : List Place)
    → IsStep t p c k more exit es whole → OlderPay t p c k (p.edge exit) whole
    → (later rest before : List Place) → IsFull rest
    → IsLater (places t.flow (Some exit) (first_of_sub t (suc k)) es) whole later (rest ++ before) ⊎ IsLater later (rest ++ before) (places t.flow (Some exit) (first_of_sub t (suc k)) es) whole
    → (os : List Executed) → Spells c p os rest → IsPaid t p c (suc k) more os rest before
by_later t p c k more exit es whole st pay later rest before full cases os s = elim cases [
  | inl a ↦ by_rest t p c k more exit es whole st pay later a.middle rest before a.first full (split rest before a.middle whole a.second) os s
  | inr a ↦ more_subs t p c k more (p.edge exit) os rest before (drop_left more _ _ _ st.fits) (pay a.middle rest before a.second full os s)
]

-- any part of a run, with an edge after it, cut up by the walk of the whole run
pub pays : (t : SubTasks) (p : Prices) (c : Clock) → AreKnown t p c → (cs : List Closed) (es : List Edge)
    → IsCutUp t es cs → (more : ℕ)
    → more + walk_cost p (t.charged (length cs)) t.flow (first_of_sub t (length cs)) es + p.miss * t.lines (length cs) ≤ p.bound (length cs)
    → (later rest before : List Place) → cut_places t es cs ≡ later ++ (rest ++ before) → IsFull rest
    → (os : List Executed) → Spells c p os rest → IsPaid t p c (length cs) more os rest before
pays t p c known [] es cut more fits later rest before e full os s =
    in_piece t p c 0 more None es known cut fits later rest before e os s before
    (inside_piece t p c known 0 None es cut [] (record { met = λ j u a l f. absurd (omega (arith, l)); unmet = λ j u l f h. h }) later rest before before full e (sym (append-nil before)))
pays t p c known (w ∷ cs) es cut more fits later rest before e full os s =
    by_later t p c (length cs) more w.exit es (cut_places t w.edges cs)
    (record { start = cut_starts t p c known cs w.edges cut.2; known = known; piece = cut.0; fits = fits })
    (pays t p c known cs w.edges cut.2 (p.edge w.exit) ((known.bounded (length cs)).into w (cut_piece t cs w.edges cut.2) cut.1))
    later rest before full
    (split (places t.flow (Some w.exit) (first_of_sub t (suc (length cs))) es) (cut_places t w.edges cs) later (rest ++ before) e)
    os s
