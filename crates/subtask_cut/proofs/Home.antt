-- Each open activation is one of a function, the bottom one the entry's.
use Rattle.std.proofs.Common.{◌≡◌, refl, sym, ap, subst, ◌≢◌, ℕ, ◌+◌, List, [], ◌∷◌, arith}
use Rattle.std.specs.List.{Contains}
use Rattle.flow_graph.specs.declared.parts.Edge.{Edge}
use Rattle.flow_graph.specs.declared.parts.EdgeKind.{EdgeKind}
use Rattle.flow_graph.specs.declared.parts.EdgeKind.TheVariants.{Next, Taken, Call, Return, Over}
use Rattle.loop_regions.specs.Walks.{IsNewest, IsReturnPoint, Comes, follow}
use Rattle.subtask_cut.specs.Functions.{IsPlain, AreFunctions}

-- an activation waits for the return of a call
pub record IsCalling (edges : List Edge) (vs : List ℕ) : Type 0 where
  pub call : Edge
  pub edge : Contains edges call
  pub is : call.kind ≡ Call
  pub newest : IsNewest call.from vs

-- each activation is one of a function: the bottom one of the entry's, the others of other functions
abbrev pub AreHome : List Edge → (ℕ → List ℕ) → ℕ → List (List ℕ) → Type 0
AreHome edges units main [] = ⊥
AreHome edges units main ([] ∷ s) = ⊥
AreHome edges units main ((u ∷ us) ∷ []) = Contains (units main) u
AreHome edges units main ((u ∷ us) ∷ vs ∷ s) =
    ((f : ℕ) × (f ≢ main) × Contains (units f) u) × IsCalling edges vs × AreHome edges units main (vs ∷ s)

newest_home : (edges : List Edge) (units : ℕ → List ℕ) (main : ℕ) (from u : ℕ) → u ≡ from → (f : ℕ) → Contains (units f) u
    → Contains (units f) from
newest_home edges units main from u e f h = subst (Contains (units f)) e h

return_unit : (edges : List Edge) (units : ℕ → List ℕ) (main : ℕ) → AreFunctions edges units main → (to v : ℕ) (vs : List ℕ) → to ≡ v + 8
    → IsCalling edges (v ∷ vs) → (f : ℕ) → Contains (units f) v → Contains (units f) to
return_unit edges units main fs to v vs e c f h =
    let back = fs.over c.call c.edge c.is f (subst (Contains (units f)) c.newest h) in
    let same : c.call.from + 8 ≡ to = omega (arith, c.newest, e) in
    subst (Contains (units f)) same back

home_plain : (edges : List Edge) (units : ℕ → List ℕ) (main : ℕ) → AreFunctions edges units main → (e : Edge) → Contains edges e
    → IsPlain e.kind → (us : List ℕ) (s : List (List ℕ)) → IsNewest e.from us → AreHome edges units main (us ∷ s)
    → AreHome edges units main ((e.to ∷ us) ∷ s)
home_plain edges units main fs e edge plain [] s new h = absurd new
home_plain edges units main fs e edge plain (u ∷ us) [] new h =
    fs.step e edge plain main (newest_home edges units main e.from u new main h)
home_plain edges units main fs e edge plain (u ∷ us) (vs ∷ s) new h =
    ((h.0.0, h.0.1, fs.step e edge plain h.0.0 (newest_home edges units main e.from u new h.0.0 h.0.2)), h.1, h.2)

home_call : (edges : List Edge) (units : ℕ → List ℕ) (main : ℕ) → AreFunctions edges units main → (e : Edge) → Contains edges e
    → e.kind ≡ Call → (us : List ℕ) (s : List (List ℕ)) → IsNewest e.from us → AreHome edges units main (us ∷ s)
    → AreHome edges units main ((e.to ∷ []) ∷ us ∷ s)
home_call edges units main fs e edge is us s new h =
    let c = fs.call e edge is in
    ((e.to, c.1, c.0), record { call = e; edge = edge; is = is; newest = new }, h)

home_return : (edges : List Edge) (units : ℕ → List ℕ) (main : ℕ) → AreFunctions edges units main → (to : ℕ) (us vs : List ℕ) (s : List (List ℕ))
    → IsReturnPoint to vs → AreHome edges units main (us ∷ vs ∷ s) → AreHome edges units main ((to ∷ vs) ∷ s)
home_return edges units main fs to [] vs s back h = absurd h
home_return edges units main fs to (u ∷ us) [] s back h = absurd back
home_return edges units main fs to (u ∷ us) (v ∷ vs) [] back h = return_unit edges units main fs to v vs back h.1 main h.2
home_return edges units main fs to (u ∷ us) (v ∷ vs) (ws ∷ s) back h =
    ((h.2.0.0, h.2.0.1, return_unit edges units main fs to v vs back h.1 h.2.0.0 h.2.0.2), h.2.1, h.2.2)

pub home_goes : (edges : List Edge) (units : ℕ → List ℕ) (main : ℕ) → AreFunctions edges units main → (e : Edge) (kind : EdgeKind)
    → e.kind ≡ kind → Contains edges e → (s : List (List ℕ)) → Comes kind e.from e.to s → AreHome edges units main s
    → AreHome edges units main (follow kind e.to s)
home_goes edges units main fs e kind is edge [] comes h = absurd h
home_goes edges units main fs e Next is edge (us ∷ s) comes h =
    home_plain edges units main fs e edge (subst IsPlain (sym is) tt) us s comes h
home_goes edges units main fs e Taken is edge (us ∷ s) comes h =
    home_plain edges units main fs e edge (subst IsPlain (sym is) tt) us s comes h
home_goes edges units main fs e Call is edge (us ∷ s) comes h = home_call edges units main fs e edge is us s comes h
home_goes edges units main fs e Over is edge (us ∷ s) comes h = absurd comes
home_goes edges units main fs e Return is edge (us ∷ []) comes h = absurd comes
home_goes edges units main fs e Return is edge (us ∷ vs ∷ s) comes h = home_return edges units main fs e.to us vs s comes.1 h

-- at a cut one activation is open
pub record IsAlone (u : ℕ) (s : List (List ℕ)) : Type 0 where
  pub older : List ℕ
  pub is : s ≡ (u ∷ older) ∷ []

unfoldable pub newest_of : List (List ℕ) → ℕ
newest_of [] = 0
newest_of ([] ∷ s) = 0
newest_of ((u ∷ us) ∷ s) = u

pub cut_alone : (edges : List Edge) (units : ℕ → List ℕ) (main c : ℕ) → ((f : ℕ) → Contains (units f) c → f ≡ main)
    → (s : List (List ℕ)) → newest_of s ≡ c → AreHome edges units main s → IsAlone c s
unfolding newest_of
cut_alone edges units main c own [] new h = absurd h
cut_alone edges units main c own ([] ∷ s) new h = absurd h
cut_alone edges units main c own ((v ∷ us) ∷ []) new h = record { older = us; is = ap (λ a. (a ∷ us) ∷ []) new }
cut_alone edges units main c own ((v ∷ us) ∷ vs ∷ s) new h =
    absurd (h.0.1 (own h.0.0 (subst (Contains (units h.0.0)) new h.0.2)))

pub newest_after : (kind : EdgeKind) (from to : ℕ) (s : List (List ℕ)) → Comes kind from to s
    → newest_of (follow kind to s) ≡ to
unfolding newest_of
newest_after Over from to s comes = absurd comes
newest_after Next from to [] comes = absurd comes
newest_after Taken from to [] comes = absurd comes
newest_after Call from to [] comes = absurd comes
newest_after Return from to [] comes = absurd comes
newest_after Next from to (us ∷ s) comes = refl
newest_after Taken from to (us ∷ s) comes = refl
newest_after Call from to (us ∷ s) comes = refl
newest_after Return from to (us ∷ []) comes = absurd comes
newest_after Return from to (us ∷ vs ∷ s) comes = refl
