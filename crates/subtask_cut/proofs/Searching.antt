-- What a search marks is what is reached.
use Rattle.std.proofs.Common.{◌≡◌, refl, sym, ap, subst, ◌∙◌, ◌≢◌, ℕ, ◌+◌, ◌*◌, ◌-◌, ◌<◌, ◌≤◌, Bool, true, false, List, [], ◌∷◌, ◌++◌, length, get_or, set, replicate, take, drop, arith, ◌⊎◌, inl, inr, Option, Some, None, eq-eqb, get_or-set_other, get_or-set_same}
use Rattle.std.specs.List.{Contains}
use Rattle.std.proofs.lemmas.Bool.{cases_eq, cases_lt, eqb-true}
use Rattle.std.proofs.lemmas.List.{get_or-drop, get_or-replicate, get_or-take, length-append, length-drop, length-replicate, length-set, length-take, take_more}
use Rattle.std.proofs.lemmas.List.Elements.{Contains-append_left, Contains-push, Contains-push_cases}
use Rattle.flow_graph.specs.declared.parts.Edge.{Edge}
use Rattle.flow_graph.specs.declared.parts.EdgeKind.{EdgeKind}
use Rattle.flow_graph.specs.declared.parts.EdgeKind.TheVariants.{Next, Taken, Call, Return, Over}
use Rattle.flow_graph.specs.Reached.{is_inner}
use Rattle.loop_regions.specs.Cycles.{mark, unmarked}
use Rattle.loop_regions.proofs.Marks.{unmarked_set}
use Rattle.subtask_cut.specs.Search.{AreCharted, AreFrom, AreMarked, HasCome, HasFollowed, IsLedTo, IsOn, IsSearching, asked_by, is_this}
use Rattle.subtask_cut.specs.Ways.{IsReached, IsWay, Joins}
use Rattle.subtask_cut.specs.declared.search.Along.{Along}
use Rattle.subtask_cut.specs.declared.search.Along.TheVariants.{Inside, Onward}

no : {P : Type 0} → true ≡ false → P
no e = absurd (let b : ⊥ = cc in b)

none_in : {X : Type 0} (x : X) → Contains [] x → ⊥
none_in x (k, below, is) = omega (arith, below)

-- one mark more

on_still : (addresses : List ℕ) (marks : List Bool) (u b : ℕ) → u < length marks → IsOn addresses marks b
    → IsOn addresses (set marks u true) b
on_still addresses marks u b inside o = record {
  number = o.number;
  below = o.below;
  at = o.at;
  on = elim (cases_eq o.number u) [
    | inl same ↦ ap (λ k. get_or (set marks u true) k false) same ∙ get_or-set_same marks u true false inside
    | inr other ↦ get_or-set_other marks u o.number true false other ∙ o.on
  ];
}

on_before : (addresses : List ℕ) (marks : List Bool) (u a b : ℕ) → get_or addresses u 0 ≡ a
    → IsOn addresses (set marks u true) b
    → IsOn addresses marks b ⊎ (b ≡ a)
on_before addresses marks u a b at o = elim (cases_eq o.number u) [
  | inl same ↦ inr (sym o.at ∙ ap (λ k. get_or addresses k 0) same ∙ at)
  | inr other ↦ inl (record {
    number = o.number;
    below = o.below;
    at = o.at;
    on =
        sym (get_or-set_other marks u o.number true false other) ∙ o.on;
  })
]

-- what a search comes to

is_that : (avoid : Option ℕ) (a : ℕ) → is_this avoid a ≡ true → avoid ≡ Some a
is_that None a is = no (sym is)
is_that (Some b) a is = ap (λ (n : ℕ). let o : Option ℕ = Some n in o) (eqb-true b a is)

other_than : (avoid : Option ℕ) (a : ℕ) → is_this avoid a ≡ false → avoid ≢ Some a
other_than None a is e = cc
other_than (Some b) a is e = let same : b ≡ a = cc in no (sym (eq-eqb b a same) ∙ is)

pub come_new : (addresses : List ℕ) (avoid : Option ℕ) (a u : ℕ) (old new : List Bool) (work more : List ℕ)
    → length old ≡ length addresses → u < length addresses → get_or addresses u 0 ≡ a → is_this avoid a ≡ false
    → mark old u ≡ false → new ≡ set old u true → more ≡ work ++ a ∷ [] → HasCome addresses avoid a old new work more
come_new addresses avoid a u old new work more beside inside at other off is pushed =
    rw (is, pushed) (record {
      beside = length-set old u true;
      kept = λ b o. on_still addresses old u b within o;
      only = λ b o. elim (on_before addresses old u a b at o) [
        | inl before ↦ inl before
        | inr same ↦
            inr (same, other_than avoid a other)
      ];
      here = λ open_to. here;
      still = λ b h. Contains-append_left work (a ∷ []) b h;
      owed = λ b h. elim (Contains-push_cases work a b h) [
        | inl before ↦ inl before
        | inr same ↦ inr (subst (IsOn addresses (set old u true)) same here)
      ];
      fresh = λ b o. elim (on_before addresses old u a b at o) [
        | inl before ↦ inl before
        | inr same ↦ inr (subst (Contains (work ++ a ∷ [])) (sym same) (Contains-push work a))
      ];
      less = (let l = unmarked_set old u within off in let m = length-append work (a ∷ []) in omega (arith, l, m));
    })
  where
    within : u < length old
    within = omega (arith, beside, inside)

    here : IsOn addresses (set old u true) a
    here = record { number = u; below = inside; at = at; on = get_or-set_same old u true false within }

-- the edges that a search follows

led_more : (asked : EdgeKind → Bool) (avoid : Option ℕ) (es : List Edge) (e : Edge) (b : ℕ) → IsLedTo asked avoid es b
    → IsLedTo asked avoid (es ++ e ∷ []) b
led_more asked avoid es e b l = record {
  edge = l.edge;
  among = Contains-append_left es (e ∷ []) l.edge l.among;
  is_asked = l.is_asked;
  to_is = l.to_is;
  open_to = l.open_to;
}

followed_skipped : (addresses : List ℕ) (asked : EdgeKind → Bool) (avoid : Option ℕ) (es : List Edge) (e : Edge)
    (old new : List Bool) (work more : List ℕ) → asked e.kind ≡ false
    → HasFollowed addresses asked avoid es old new work more
    → HasFollowed addresses asked avoid (es ++ e ∷ []) old new work more
followed_skipped addresses asked avoid es e old new work more off f = record {
  beside = f.beside;
  kept = f.kept;
  only = λ b o. elim (f.only b o) [ inl before ↦ inl before | inr led ↦ inr (led_more asked avoid es e b led) ];
  here = λ d among is open_to. elim (Contains-push_cases es e d among) [
    | inl before ↦ f.here d before is open_to
    | inr same ↦ no (sym is ∙ ap (λ (x : Edge). asked x.kind) (sym same) ∙ off)
  ];
  still = f.still;
  owed = f.owed;
  fresh = f.fresh;
  less = f.less;
}

followed_come : (addresses : List ℕ) (asked : EdgeKind → Bool) (avoid : Option ℕ) (es : List Edge) (e : Edge)
    (old now new : List Bool) (work then more : List ℕ) → asked e.kind ≡ true
    → HasFollowed addresses asked avoid es old now work then → HasCome addresses avoid e.to now new then more
    → HasFollowed addresses asked avoid (es ++ e ∷ []) old new work more
followed_come addresses asked avoid es e old now new work then more on f c = record {
  beside = c.beside ∙ f.beside;
  kept = λ b o. c.kept b (f.kept b o);
  only = λ b o. elim (c.only b o) [
    | inl before ↦ elim (f.only b before) [ inl first ↦ inl first | inr led ↦ inr (led_more asked avoid es e b led) ]
    | inr here ↦ inr (record {
      edge = e;
      among = Contains-push es e;
      is_asked = on;
      to_is = sym here.0;
      open_to = λ is. here.1 (is ∙ ap (λ (n : ℕ). let o : Option ℕ = Some n in o) here.0);
    })
  ];
  here = λ d among is open_to. elim (Contains-push_cases es e d among) [
    | inl before ↦ c.kept d.to (f.here d before is open_to)
    | inr same ↦ subst (λ (x : Edge). avoid ≢ Some x.to → IsOn addresses new x.to) same c.here open_to
  ];
  still = λ b h. c.still b (f.still b h);
  owed = λ b h. elim (c.owed b h) [
    | inl before ↦ elim (f.owed b before) [ inl first ↦ inl first | inr o ↦ inr (c.kept b o) ]
    | inr o ↦ inr o
  ];
  fresh = λ b o. elim (c.fresh b o) [
    | inl before ↦ elim (f.fresh b before) [ inl first ↦ inl first | inr h ↦ inr (c.still b h) ]
    | inr h ↦ inr h
  ];
  less = (let l = f.less in let m = c.less in omega (arith, l, m));
}

pub follow_skipped : (addresses : List ℕ) (asked : EdgeKind → Bool) (avoid : Option ℕ) (es : List Edge) (i : ℕ)
    (d : Edge)
    (old new : List Bool) (work more : List ℕ) → i < length es → asked (get_or es i d).kind ≡ false
    → HasFollowed addresses asked avoid (take i es) old new work more
    → HasFollowed addresses asked avoid (take (i + 1) es) old new work more
follow_skipped addresses asked avoid es i d old new work more inside off f =
    subst (λ l. HasFollowed addresses asked avoid l old new work more) (sym (take_more es i d inside))
    (followed_skipped addresses asked avoid (take i es) (get_or es i d) old new work more off f)

pub follow_come : (addresses : List ℕ) (asked : EdgeKind → Bool) (avoid : Option ℕ) (es : List Edge) (i : ℕ) (d : Edge)
    (old now new : List Bool) (work then more : List ℕ) → i < length es → asked (get_or es i d).kind ≡ true
    → HasFollowed addresses asked avoid (take i es) old now work then
    → HasCome addresses avoid (get_or es i d).to now new then more
    → HasFollowed addresses asked avoid (take (i + 1) es) old new work more
follow_come addresses asked avoid es i d old now new work then more inside on f c =
    subst (λ l. HasFollowed addresses asked avoid l old new work more) (sym (take_more es i d inside))
    (followed_come addresses asked avoid (take i es) (get_or es i d) old now new work then more on f c)

-- a search as far as it has come

none_on : (addresses : List ℕ) (n b : ℕ) → n ≡ length addresses → IsOn addresses (replicate n false) b → ⊥
none_on addresses n b is o =
    let below : o.number < n = (let h = o.below in omega (arith, h, is)) in
    no (sym o.on ∙ get_or-replicate n o.number false false below)

pub search_begun : (addresses : List ℕ) (edges : List Edge) (asked : EdgeKind → Bool) (avoid : Option ℕ) (start : ℕ)
    (old new : List Bool) (none work : List ℕ) → old ≡ replicate (length addresses) false → none ≡ []
    → HasCome addresses avoid start old new none work → IsSearching addresses edges asked avoid start new work
search_begun addresses edges asked avoid start old new none work is empty come =
    begun (subst (λ l. HasCome addresses avoid start l new [] work) is
    (subst (λ l. HasCome addresses avoid start old new l work) empty come))
  where
    begun : HasCome addresses avoid start (replicate (length addresses) false) new [] work
        → IsSearching addresses edges asked avoid start new work
    begun c = record {
      beside = c.beside ∙ length-replicate (length addresses) false;
      met = λ a o. elim (c.only a o) [
        | inl before ↦ absurd (none_on addresses (length addresses) a refl before)
        | inr here ↦ record {
          us = [];
          way = (
            here.0,
            λ e. here.1
                (e ∙ ap (λ (n : ℕ). let q : Option ℕ = Some n in q) here.0),
          );
        }
      ];
      begun = c.here;
      owed = λ e among is o open_to. elim (c.fresh e.from o) [
        | inl before ↦ absurd (none_on addresses (length addresses) e.from refl before)
        | inr h ↦ inr h
      ];
      valid = λ a h. elim (c.owed a h) [ inl before ↦ absurd (none_in a before) | inr o ↦ o ];
    }

reached_more : (edges : List Edge) (asked : EdgeKind → Bool) (avoid : Option ℕ) (start u : ℕ) (es : List Edge) (b : ℕ)
    → AreFrom edges u es → IsReached edges asked avoid start u → IsLedTo asked avoid es b
    → IsReached edges asked avoid start b
reached_more edges asked avoid start u es b from r l =
    let e = (from l.edge).0 l.among in
    record {
      us = u ∷ r.us;
      way = (
        record {
          edge = l.edge;
          among = e.0;
          is_asked = l.is_asked;
          from_is = e.1;
          to_is =
              l.to_is;
        },
        l.open_to,
        r.way,
      );
    }

pub search_goes : (addresses : List ℕ) (edges : List Edge) (asked : EdgeKind → Bool) (avoid : Option ℕ) (start u : ℕ)
    (old new : List Bool) (work rest more : List ℕ) (es : List Edge) → work ≡ rest ++ u ∷ [] → AreFrom edges u es
    → IsSearching addresses edges asked avoid start old work → HasFollowed addresses asked avoid es old new rest more
    → IsSearching addresses edges asked avoid start new more
search_goes addresses edges asked avoid start u old new work rest more es is from searching f =
    goes (subst (IsSearching addresses edges asked avoid start old) is searching)
  where
    goes : IsSearching addresses edges asked avoid start old (rest ++ u ∷ [])
        → IsSearching addresses edges asked avoid start new more
    goes s = record {
      beside = f.beside ∙ s.beside;
      met = λ a o. elim (f.only a o) [
        | inl before ↦ s.met a before
        | inr led ↦ reached_more edges asked avoid start u es a from (s.met u (s.valid u (Contains-push rest u))) led
      ];
      begun = λ open_to. f.kept start (s.begun open_to);
      owed = λ e among asks o open_to. elim (f.fresh e.from o) [
        | inr h ↦ inr h
        | inl before ↦ elim (s.owed e among asks before open_to) [
          | inl there ↦ inl (f.kept e.to there)
          | inr h ↦ elim (Contains-push_cases rest u e.from h) [
            | inl later ↦ inr (f.still e.from later)
            | inr same ↦ inl (f.here e ((from e).1 (among, sym same)) asks open_to)
          ]
        ]
      ];
      valid = λ a h. elim (f.owed a h) [
        | inl before ↦ f.kept a (s.valid a (Contains-append_left rest (u ∷ []) a before))
        | inr o ↦ o
      ];
    }

pub search_pays : (addresses : List ℕ) (asked : EdgeKind → Bool) (avoid : Option ℕ) (u : ℕ) (old new : List Bool)
    (work rest more : List ℕ) (es : List Edge) → work ≡ rest ++ u ∷ []
    → HasFollowed addresses asked avoid es old new rest more
    → 2 * unmarked new + length more < 2 * unmarked old + length work
search_pays addresses asked avoid u old new work rest more es is f =
    let l = ap (λ (l : List ℕ). length l) is in
    let m = length-append rest (u ∷ []) in
    let h = f.less in
    omega (arith, l, m, h)

pub search_ended : (addresses : List ℕ) (edges : List Edge) (asked : EdgeKind → Bool) (avoid : Option ℕ) (start : ℕ)
    (marks : List Bool) (work : List ℕ) → length work ≡ 0 → IsSearching addresses edges asked avoid start marks work
    → AreMarked addresses edges asked avoid start marks
search_ended addresses edges asked avoid start marks (w ∷ work) none s = absurd (omega (arith, none))
search_ended addresses edges asked avoid start marks [] none s =
    record { beside = s.beside; are = λ a. (s.met a, λ r. all_on a r.us r.way) }
  where
    all_on : (a : ℕ) (us : List ℕ) → IsWay edges asked avoid start (a ∷ us) → IsOn addresses marks a
    all_on a [] way = subst (IsOn addresses marks) (sym way.0)
        (s.begun (λ e. way.1 (e ∙ ap (λ (n : ℕ). let q : Option ℕ = Some n in q) (sym way.0))))
    all_on a (u ∷ us) way =
        let before = all_on u us way.2 in
        let joins : Joins edges asked u a = way.0 in
        elim (s.owed joins.edge joins.among joins.is_asked (subst (IsOn addresses marks) (sym joins.from_is) before)
        (λ e. way.1 (e ∙ ap (λ (n : ℕ). let q : Option ℕ = Some n in q) joins.to_is))) [
          | inl there ↦ subst (IsOn addresses marks) joins.to_is there
          | inr owed ↦ absurd (none_in joins.edge.from owed)
        ]

-- the edges that leave a unit lie side by side

pub edges_between : (edges : List Edge) (u first last : ℕ) → first ≤ length edges → last ≤ length edges
    → ((k : ℕ) (d : Edge) → k < first → (get_or edges k d).from < u)
    → ((k : ℕ) (d : Edge) → first ≤ k → k < length edges → u ≤ (get_or edges k d).from)
    → ((k : ℕ) (d : Edge) → k < last → (get_or edges k d).from ≤ u)
    → ((k : ℕ) (d : Edge) → last ≤ k → k < length edges → u < (get_or edges k d).from)
    → AreFrom edges u (take (last - first) (drop first edges))
edges_between edges u first last low high before from up_to past e = (into, out_of)
  where
    count : length (take (last - first) (drop first edges)) ≤ last - first
    count = let h = length-take (last - first) (drop first edges) in omega (arith, h)

    into : Contains (take (last - first) (drop first edges)) e → Contains edges e × (e.from ≡ u)
    into (k, below, is) =
        let short : k < last - first = omega (arith, below, count) in
        let there : get_or edges (first + k) e ≡ e = sym (get_or-drop first edges k e)
        ∙ sym (get_or-take (last - first) (drop first edges) k e short) ∙ is in
        let inside : first + k < length edges = omega (arith, short, high) in
        let f = ap (λ (d : Edge). d.from) there in
        let above = from (first + k) e (omega arith) inside in
        let below = up_to (first + k) e (omega (arith, short)) in
        ((first + k, inside, there), omega (arith, f, above, below))

    out_of : Contains edges e × (e.from ≡ u) → Contains (take (last - first) (drop first edges)) e
    out_of (among, at) =
        let f = ap (λ (d : Edge). d.from) among.2 in
        let inside = among.1 in
        let above : first ≤ among.0 = elim (cases_lt among.0 first) [
          | inl less ↦ absurd (let h = before among.0 e less in omega (arith, h, f, at))
          | inr more ↦ more
        ] in
        let below : among.0 < last = elim (cases_lt among.0 last) [
          | inl less ↦ less
          | inr more ↦ absurd (let h = past among.0 e more inside in omega (arith, h, f, at))
        ] in
        let short : among.0 - first < last - first = omega (arith, above, below) in
        let place : first + (among.0 - first) ≡ among.0 = omega (arith, above) in
        let l = length-take (last - first) (drop first edges) in
        let m = length-drop first edges in (
          among.0 - first,
          omega (arith, l, m, short, inside),
          get_or-take (last - first) (drop first edges)
              (among.0 - first) e short ∙ get_or-drop first edges (among.0 - first) e ∙ ap (λ k. get_or edges k e) place
              ∙ among.2,
        )

pub between_order : (edges : List Edge) (u first last : ℕ) → first ≤ length edges
    → ((k : ℕ) (d : Edge) → k < first → (get_or edges k d).from < u)
    → ((k : ℕ) (d : Edge) → last ≤ k → k < length edges → u < (get_or edges k d).from) → first ≤ last
between_order edges u first last low before past = elim (cases_lt last first) [
  | inl less ↦ absurd (let below = before last none less in let above =
      past last none (omega arith) (omega (arith, less, low)) in omega (arith, below, above))
  | inr more ↦ more
]
  where
    none : Edge
    none = record { from = 0; to = 0; kind = Next }

-- the edges that a search follows lead to units
pub joined_to : (addresses : List ℕ) (edges : List Edge) (u : ℕ) (es : List Edge) (along : Along)
    → AreCharted addresses edges
    → AreFrom edges u es → (e : Edge) → Contains es e → asked_by along e.kind ≡ true → Contains addresses e.to
joined_to addresses edges u es along charted from e among asks =
    (charted.joined e ((from e).0 among).0 (by_kind along e.kind asks)).enters
  where
    by_kind : (a : Along) (k : EdgeKind) → asked_by a k ≡ true → (is_inner k ≡ true) ⊎ (k ≡ Call)
    by_kind Inside k is = inl is
    by_kind Onward Next is = inl refl
    by_kind Onward Taken is = inl refl
    by_kind Onward Call is = inr refl
    by_kind Onward Over is = inl refl
    by_kind Onward Return is = no (sym is)
