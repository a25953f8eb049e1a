-- The walk of a run, cut up.
use Rattle.std.proofs.Common.{◌≡◌, refl, sym, ap, subst, ◌∙◌, ◌⊎◌, inl, inr, ℕ, zero, suc, ◌+◌, ◌<◌, List, [], ◌∷◌, ◌++◌, length, get_or, append_assoc, arith}
use Rattle.std.proofs.lemmas.Bool.{cases_lt, cases_eq}
use Rattle.std.specs.Prelude.{Some, None}
use Rattle.std.specs.List.{Contains}
use Rattle.flow_graph.specs.declared.parts.EdgeKind.{EdgeKind}
use Rattle.flow_graph.specs.declared.parts.EdgeKind.TheVariants.{Next, Taken, Call, Return, Over}
use Rattle.flow_graph.specs.declared.parts.Edge.{Edge}
use Rattle.loop_regions.specs.Walks.{IsWalk, IsFirst, Comes, alone, follow, open_from}
use Rattle.loop_regions.specs.Places.{places, unit_places}
use Rattle.remaining_wcet.specs.SubTasks.{SubTasks, Closed, IsPiece, IsEarly, IsCutUp, cut_places, first_of_sub}
use Rattle.remaining_wcet.specs.Known.{AreCuts, IsCutting}
use Rattle.subtask_cut.specs.Functions.{IsPlain, AreFunctions}
use Rattle.subtask_cut.proofs.Home.{IsCalling, AreHome, home_goes, cut_alone, newest_after}
use Rattle.loop_regions.proofs.Stack.{IsAlso, also_begins, also_goes}

-- the scope of a sub-task holds what its walk meets
pub record IsHeldCall (t : SubTasks) (k : ℕ) (vs : List ℕ) : Type 0 where
  pub calls : IsCalling t.flow.edges vs
  pub held : Contains (t.scope k) calls.call.from

abbrev pub AreHeld : SubTasks → ℕ → List (List ℕ) → Type 0
AreHeld t k [] = Unit {0}
AreHeld t k (vs ∷ s) = IsHeldCall t k vs × AreHeld t k s

abbrev pub IsScoped : SubTasks → ℕ → List (List ℕ) → Type 0
IsScoped t k [] = ⊥
IsScoped t k ([] ∷ s) = ⊥
IsScoped t k ((u ∷ us) ∷ s) = Contains (t.scope k) u × AreHeld t k s

scoped_goes : (t : SubTasks) (units : ℕ → List ℕ) → AreCuts t units → (k : ℕ) (e : Edge) (kind : EdgeKind)
    → e.kind ≡ kind → Contains t.flow.edges e → (s : List (List ℕ)) → Comes kind e.from e.to s → IsScoped t k s
    → (IsFirst t.firsts (suc k) e.to → ⊥) → Contains (t.scope k) e.to × IsScoped t k (follow kind e.to s)
scoped_goes t units cs k e kind is edge [] comes h far = absurd h
scoped_goes t units cs k e kind is edge ([] ∷ s) comes h far = absurd h
scoped_goes t units cs k e Next is edge ((u ∷ us) ∷ s) comes h far =
    let in_it = cs.steps k e edge (inl (subst IsPlain (sym is) tt)) (subst (Contains (t.scope k)) comes h.0) far in
    (in_it, (in_it, h.1))
scoped_goes t units cs k e Taken is edge ((u ∷ us) ∷ s) comes h far =
    let in_it = cs.steps k e edge (inl (subst IsPlain (sym is) tt)) (subst (Contains (t.scope k)) comes h.0) far in
    (in_it, (in_it, h.1))
scoped_goes t units cs k e Call is edge ((u ∷ us) ∷ s) comes h far =
    let from_in = subst (Contains (t.scope k)) comes h.0 in
    let in_it = cs.steps k e edge (inr is) from_in far in
    (in_it, (in_it, (record { calls = record { call = e; edge = edge; is = is; newest = comes }; held = from_in }, h.1)))
scoped_goes t units cs k e Over is edge ((u ∷ us) ∷ s) comes h far = absurd comes
scoped_goes t units cs k e Return is edge ((u ∷ us) ∷ []) comes h far = absurd comes
scoped_goes t units cs k e Return is edge ((u ∷ us) ∷ [] ∷ s) comes h far = absurd comes.1
scoped_goes t units cs k e Return is edge ((u ∷ us) ∷ (v ∷ vs) ∷ s) comes h far =
    let c = h.1.0 in
    let same : c.calls.call.from + 8 ≡ e.to = omega (arith, c.calls.newest, comes.1) in
    let in_it = subst (Contains (t.scope k)) same
    (cs.over k c.calls.call c.calls.edge c.calls.is c.held (λ f. far (subst (IsFirst t.firsts (suc k)) same f))) in
    (in_it, (in_it, h.1.1))

-- the walk so far, cut up, with what the next edge needs
pub record IsSoFar (t : SubTasks) (units : ℕ → List ℕ) (es : List Edge) : Type 0 where
  pub piece : List Edge
  pub past : List Closed
  pub cut : IsCutUp t piece past
  pub same : places t.flow None (first_of_sub t 0) es ≡ cut_places t piece past
  pub tail : List ℕ
  pub also : IsAlso t.flow (first_of_sub t (length past)) piece (open_from (alone (first_of_sub t 0)) es) tail
  pub home : AreHome t.flow.edges units (first_of_sub t 0) (open_from (alone (first_of_sub t 0)) es)
  pub scoped : IsScoped t (length past) (open_from (alone (first_of_sub t (length past))) piece)
  pub early : IsEarly t (length past) es

begins : (t : SubTasks) (units : ℕ → List ℕ) → AreFunctions t.flow.edges units (first_of_sub t 0) → AreCuts t units → IsSoFar t units []
begins t units fs cs =
    let u = first_of_sub t 0 in
    record {
      piece = [];
      past = [];
      cut = record { is_sub = cs.some; walk = tt; early = λ j l v f m. m; within = tt; begins = cs.begins 0 cs.some };
      same = refl;
      tail = [];
      also = also_begins t.flow u [];
      home = fs.first;
      scoped = (cs.begins 0 cs.some, tt);
      early = λ j l v f m. m;
    }

is_first : (firsts : List ℕ) (k u : ℕ) → IsFirst firsts k u ⊎ (IsFirst firsts k u → ⊥)
is_first firsts k u = elim (cases_lt k (length firsts)) [
  | inl l ↦ elim (cases_eq (get_or firsts k 0) u) [
    | inl e ↦ inl (l, e)
    | inr n ↦ inr (λ f. n f.1)
  ]
  | inr g ↦ inr (λ f. let h = f.0 in absurd (omega (arith, g, h)))
]

cut_with : (t : SubTasks) (cs : List Closed) (es more : List Edge) → IsCutUp t es cs → IsPiece t (length cs) more
    → IsCutUp t more cs
cut_with t [] es more cut piece = piece
cut_with t (c ∷ cs) es more cut piece = (piece, cut.1, cut.2)

piece_of : (t : SubTasks) (cs : List Closed) (es : List Edge) → IsCutUp t es cs → IsPiece t (length cs) es
piece_of t [] es cut = cut
piece_of t (c ∷ cs) es cut = cut.0

longer_places : (t : SubTasks) (cs : List Closed) (e : Edge) (es : List Edge)
    → unit_places (t.flow.is_long e.to) e.to (Some e) ++ cut_places t es cs ≡ cut_places t (e ∷ es) cs
longer_places t [] e es = refl
longer_places t (c ∷ cs) e es =
    sym
    (append_assoc (unit_places (t.flow.is_long e.to) e.to (Some e)) (places t.flow (Some c.exit) (first_of_sub t (suc (length cs))) es) (cut_places t c.edges cs))

-- no later cut is met by an edge that isn't into the next one
early_edge : (t : SubTasks) (units : ℕ → List ℕ) → AreCuts t units → (k : ℕ) (e : Edge) (es : List Edge)
    → IsWalk t.flow (alone (first_of_sub t 0)) (e ∷ es) → IsEarly t k es → (IsFirst t.firsts (suc k) e.to → ⊥)
    → (j : ℕ) → k < j → (u : ℕ) → IsFirst t.firsts j u → e.to ≡ u → ⊥
early_edge t units cs k e es w early far zero below u f m = absurd (omega (arith, below))
early_edge t units cs k e es w early far (suc zero) below u f m =
    let same : 1 ≡ suc k = omega (arith, below) in
    far (subst (λ n. IsFirst t.firsts n e.to) same (subst (IsFirst t.firsts 1) (sym m) f))
early_edge t units cs k e es w early far (suc (suc j)) below u f m = elim (cases_eq k (suc j)) [
  | inl same ↦ far (subst (λ n. IsFirst t.firsts (suc n) e.to) (sym same) (subst (IsFirst t.firsts (suc (suc j))) (sym m) f))
  | inr other ↦
      let lower : k < suc j = omega (arith, below, other) in
      let is : IsFirst t.firsts (suc j) (get_or t.firsts (suc j) 0) = (let h = f.0 in omega (arith, h), refl) in
      early (suc j) lower (get_or t.firsts (suc j) 0) is (cs.order e es w j u (get_or t.firsts (suc j) 0) f m is)
]

goes_on : (t : SubTasks) (units : ℕ → List ℕ) → AreFunctions t.flow.edges units (first_of_sub t 0) → AreCuts t units → (e : Edge) (es : List Edge)
    → IsWalk t.flow (alone (first_of_sub t 0)) (e ∷ es) → (i : IsSoFar t units es)
    → (IsFirst t.firsts (suc (length i.past)) e.to → ⊥) → IsSoFar t units (e ∷ es)
goes_on t units fs cs e es w i far =
    let k : ℕ = length i.past in
    let also = also_goes t.flow (first_of_sub t k) e i.piece (open_from (alone (first_of_sub t 0)) es) i.tail i.also w.1
    w.2 w.3 in
    let scoped = scoped_goes t units cs k e e.kind refl w.1 (open_from (alone (first_of_sub t k)) i.piece) (also.walk.2)
    i.scoped far in
    let old = piece_of t i.past i.piece i.cut in
    let edge = early_edge t units cs k e es w i.early far in
    record {
      piece = e ∷ i.piece;
      past = i.past;
      cut = cut_with t i.past i.piece (e ∷ i.piece) i.cut (record {
        is_sub = old.is_sub;
        walk = also.walk;
        early = λ j l u f m. elim m [ inl h ↦ edge j l u f h | inr h ↦ old.early j l u f h ];
        within = (scoped.0, old.within);
        begins = old.begins;
      });
      same = ap (λ q. unit_places (t.flow.is_long e.to) e.to (Some e) ++ q) i.same ∙ longer_places t i.past e i.piece;
      tail = i.tail;
      also = also;
      home = home_goes t.flow.edges units (first_of_sub t 0) fs e e.kind refl w.1 (open_from (alone (first_of_sub t 0)) es) w.2 i.home;
      scoped = scoped.1;
      early = λ j l u f m. elim m [ inl h ↦ edge j l u f h | inr h ↦ i.early j l u f h ];
    }

goes_in : (t : SubTasks) (units : ℕ → List ℕ) → AreFunctions t.flow.edges units (first_of_sub t 0) → AreCuts t units → (e : Edge) (es : List Edge)
    → IsWalk t.flow (alone (first_of_sub t 0)) (e ∷ es) → (i : IsSoFar t units es)
    → IsFirst t.firsts (suc (length i.past)) e.to → IsSoFar t units (e ∷ es)
goes_in t units fs cs e es w i is =
    let k : ℕ = length i.past in
    let also = also_goes t.flow (first_of_sub t k) e i.piece (open_from (alone (first_of_sub t 0)) es) i.tail i.also w.1
    w.2 w.3 in
    let home = home_goes t.flow.edges units (first_of_sub t 0) fs e e.kind refl w.1 (open_from (alone (first_of_sub t 0)) es) w.2 i.home in
    let lone = cut_alone t.flow.edges units (first_of_sub t 0) e.to (cs.own k e.to is) (open_from (alone (first_of_sub t 0)) (e ∷ es))
    (newest_after e.kind e.from e.to (open_from (alone (first_of_sub t 0)) es) w.2) home in
    record {
      piece = [];
      past = record { edges = i.piece; exit = e } ∷ i.past;
      cut =
          (record { is_sub = is.0; walk = tt; early = λ j l v f m. m; within = tt; begins = cs.begins (suc k) is.0 }, record { walk = also.walk; into = is }, i.cut);
      same =
          ap (λ q. unit_places (t.flow.is_long e.to) e.to (Some e) ++ q) i.same ∙ ap
          (λ u. unit_places (t.flow.is_long u) u (Some e) ++ cut_places t i.piece i.past) (sym is.1);
      tail = lone.older;
      also = record { walk = tt; active = tt; state = lone.is ∙ ap (λ a. (a ∷ lone.older) ∷ []) (sym is.1) };
      home = home;
      scoped = (cs.begins (suc k) is.0, tt);
      early = λ j l u f m. elim m [
        | inl h ↦ let clash = cs.different (suc k) j e.to is (subst (IsFirst t.firsts j) (sym h) f) in absurd (omega (arith, clash, l))
        | inr h ↦ i.early j (omega (arith, l)) u f h
      ];
    }

so_far : (t : SubTasks) (units : ℕ → List ℕ) → AreFunctions t.flow.edges units (first_of_sub t 0) → AreCuts t units → (es : List Edge)
    → IsWalk t.flow (alone (first_of_sub t 0)) es → IsSoFar t units es
so_far t units fs cs [] w = begins t units fs cs
so_far t units fs cs (e ∷ es) w =
    let i = so_far t units fs cs es w.0 in
    elim (is_first t.firsts (suc (length i.past)) e.to) [
      | inl is ↦ goes_in t units fs cs e es w i is
      | inr far ↦ goes_on t units fs cs e es w i far
    ]

-- each walk from the entry is cut up into walks of the sub-tasks
pub cut_up : (t : SubTasks) (units : ℕ → List ℕ) → AreFunctions t.flow.edges units (first_of_sub t 0) → AreCuts t units → (es : List Edge)
    → IsWalk t.flow (alone (first_of_sub t 0)) es → IsCutting t es
cut_up t units fs cs es w =
    let i = so_far t units fs cs es w in record { piece = i.piece; past = i.past; cut = i.cut; same = i.same }
