-- Chains of calls between places are chains of calls, and recursive calls are found.
use Rattle.std.proofs.Common.{ℕ, zero, suc, ◌+◌, ◌<◌, ◌≤◌, ◌≡◌, ◌⊎◌, inl, inr, refl, sym, ap, subst, ◌∙◌, lit<, lit≤, Bool, true, false, not, ◌&&◌, ◌||◌, if◌then◌else◌, Option, Some, None, List, [], ◌∷◌, Contains, length, get_or, arith}
use Rattle.std.proofs.lemmas.Bool.{cases_eq, cases_lt}
use Rattle.std.proofs.lemmas.Grind.{get_or_default_zero}
use Rattle.std.proofs.lemmas.List.Kept.{AllPairs-from_increasing}
use Rattle.std.proofs.lemmas.List.Elements.{Contains-get_or}
use Rattle.visa_io.specs.declared.records.Code.{Code}
use Rattle.flow_graph.specs.Build.{AreFunctions, CalledBy}
use Rattle.flow_graph.specs.Calls.{ChainAt, IsAgain, IsLeast}
use Rattle.std.specs.List.{list_any}
use Rattle.flow_graph.specs.Code.{is_code, is_control_at}
use Rattle.flow_graph.specs.Faults.{is_faulty, leads_from, leaves_code, own_edges}
use Rattle.flow_graph.specs.declared.parts.Edge.{Edge}
use Rattle.flow_graph.proofs.Members.{in_cons, none_in_nil}
use Rattle.flow_graph.specs.Edges.{edge_of}
use Rattle.flow_graph.specs.Flow.{Has, IsFirst, IsNoLater, IsRecursive}
use Rattle.flow_graph.specs.Making.{IsDeepAnswer, deep_of}
use Rattle.flow_graph.specs.Places.{IsMet, exits_at}
use Rattle.flow_graph.specs.Reached.{CallsAt, Chain, IsReached, IsUnitOf, Leads, Reached, is_any}
use Rattle.flow_graph.specs.Reached.Chain.{Begins, Calls}
use Rattle.flow_graph.specs.declared.fault.FlowFault.{FlowFault}
use Rattle.flow_graph.specs.declared.fault.FlowFault.TheVariants as fault
use Rattle.flow_graph.specs.declared.parts.EdgeKind.{EdgeKind}
use Rattle.flow_graph.specs.declared.parts.EdgeKind.TheVariants.{Call}
use Rattle.flow_graph.specs.declared.places.Places.{Places}
use Rattle.flow_graph.proofs.Bridge.{addr, code_at, led_at, met_reached, reached_met, same_place}
use Rattle.flow_graph.proofs.Firsts.{NoneUpto}
use Rattle.flow_graph.proofs.Reaching.{call_joins, chain_along, endless, reached_here, reached_joined, reached_on, shorter}
use Rattle.flow_graph.proofs.Verdict.{IsScene, place_reached, reached_place}

true_false : true ≡ false → ⊥
true_false e = cc

first_false : (a b : Bool) → a || b ≡ false → a ≡ false
first_false true b e = e
first_false false b e = refl

last_false : (a b : Bool) → a || b ≡ false → b ≡ false
last_false true b e = absurd (true_false e)
last_false false b e = e

true_not : (a : Bool) → not a ≡ false → a ≡ true
true_not true e = refl
true_not false e = absurd (true_false e)

-- what a unit leads to is code
none_any : (test : Edge → Bool) (es : List Edge) → list_any test es ≡ false → (e : Edge) → Contains es e → test e ≡ false
none_any test [] none e h = absurd (none_in_nil e h)
none_any test (d ∷ es) none e h = elim (in_cons e d es h) [
  | inl same ↦ ap test (sym same) ∙ first_false (test d) (list_any test es) none
  | inr t ↦ none_any test es (last_false (test d) (list_any test es) none) e t
]

pub leads_code : (code : Code) (v w : ℕ) (kind : EdgeKind) → Leads code (edge_of v w kind) → is_code code w ≡ true
unfolding leads_from
leads_code code v w kind h = by_fault (is_faulty code v) refl h
  where
    by_fault : (b : Bool) → is_faulty code v ≡ b → Contains (if b then [] else own_edges code v) (edge_of v w kind) → is_code code w ≡ true
    by_fault true e h = absurd (none_in_nil (edge_of v w kind) h)
    by_fault false e h =
        true_not (is_code code w)
        (none_any (λ d. not (is_code code d.to)) (own_edges code v)
        (last_false (is_control_at code v && not (is_code code (v + 4))) (list_any (λ d. not (is_code code d.to)) (own_edges code v))
        (last_false _ (leaves_code code v) e)) (edge_of v w kind) h)

-- what a unit calls is at a place
call_code : (code : Code) (p : Places) (start : ℕ) (reached at : List ℕ) → IsScene code p start reached at → (v w : ℕ) (kind : EdgeKind) → Leads code (edge_of v w kind) → is_code code w ≡ true
call_code code p start reached at s v w kind leads = leads_code code v w kind leads

-- a call of a place, by addresses
pub calls_at : (code : Code) (p : Places) (start : ℕ) (reached at : List ℕ) → IsScene code p start reached at → (u f : ℕ) → u < length p.addresses.items → (exits_at p.net.items u).call ≡ Some f → (f < length p.addresses.items) × CallsAt code (addr p u) (addr p f)
calls_at code p start reached at s u f below call = (led_at code p s.places u below).sound Call f call

pub at_calls : (code : Code) (p : Places) (start : ℕ) (reached at : List ℕ) → IsScene code p start reached at → (u n : ℕ) → u < length p.addresses.items → CallsAt code (addr p u) n → (f : ℕ) × ((exits_at p.net.items u).call ≡ Some f) × (f < length p.addresses.items) × (addr p f ≡ n)
at_calls code p start reached at s u n below calls = (led_at code p s.places u below).whole Call n calls

pub chain_at : (code : Code) (p : Places) (start : ℕ) (reached at : List ℕ) → IsScene code p start reached at → (n f : ℕ) → ChainAt p.net.items start n f → (f < length p.addresses.items) × Chain code (addr p start) n (addr p f)
unfolding ChainAt
chain_at code p start reached at s zero f e = (omega (arith, e, s.below), subst (λ (m : ℕ). Chain code (addr p start) 0 m) (ap (addr p) (sym e)) Begins)
chain_at code p start reached at s (suc n) f (g, chain, calls) =
    let before = chain_at code p start reached at s n g chain in
    let member = met_reached code p s.places false g calls.unit before.0 calls.met in
    let call = calls_at code p start reached at s calls.unit f member.0 calls.call in
    (call.0, Calls n (addr p g) (addr p calls.unit) (addr p f) before.1 member.1 call.1)

pub at_chain : (code : Code) (p : Places) (start : ℕ) (reached at : List ℕ) → IsScene code p start reached at → (n f : ℕ) → Chain code (addr p start) n f → (k : ℕ) × (k < length p.addresses.items) × (addr p k ≡ f) × ChainAt p.net.items start n k
unfolding ChainAt
at_chain code p start reached at s _ _ Begins = (start, s.below, refl, refl)
at_chain code p start reached at s _ _ (Calls n g u f chain member calls) =
    let (k, below, is, before) = at_chain code p start reached at s n g chain in
    let m = reached_met code p s.places false k u below (subst (λ (x : ℕ). IsUnitOf code x u) (sym is) member) in
    let c = at_calls code p start reached at s m.place f m.below (subst (λ (x : ℕ). CallsAt code x f) (sym m.is) calls) in
    (c.0, c.2, c.3, (k, before, record { unit = m.place; met = m.met; call = c.1 }))

-- without a chain of 64 calls no chain is longer than 63
pub few_calls : (code : Code) (p : Places) (start : ℕ) (reached at : List ℕ) → IsScene code p start reached at → ((f : ℕ) → ChainAt p.net.items start 64 f → ⊥) → (n f : ℕ) → Chain code (addr p start) n f → n ≤ 63
few_calls code p start reached at s shallow n f chain = elim (cases_lt n 64) [
  | inl less ↦ omega (arith, less)
  | inr more ↦ absurd (let (g, at64) = shorter code (addr p start) n f 64 chain more in let k = at_chain code p start reached at s 64 g at64 in shallow k.0 k.3)
]

pub no_recursion : (code : Code) (p : Places) (start : ℕ) (reached at : List ℕ) → IsScene code p start reached at → ((n f : ℕ) → Chain code (addr p start) n f → n ≤ 63) → (u : ℕ) → IsRecursive code (addr p start) u → ⊥
no_recursion code p start reached at s few u r =
    let to = call_code code p start reached at s in
    let c = chain_along code (addr p start) 0 (addr p start) u r.reached.us to Begins r.reached.way in
    let (m, long, chain) = endless code (addr p start) u r.function (suc c.calls) 64 to r.calls r.again (Calls c.calls c.function u r.function c.chain c.member r.calls) in
    omega (arith, long, few m r.function chain)

pub clean : (code : Code) (p : Places) (start : ℕ) (reached at : List ℕ) → IsScene code p start reached at → NoneUpto code (addr p start) 6 → ((f : ℕ) → ChainAt p.net.items start 64 f → ⊥) → (other : FlowFault) → Has code (addr p start) other → ⊥
unfolding NoneUpto Has
clean code p start reached at s none shallow (fault.Reserved a) h = none (fault.Reserved a) (lit≤ tt) h
clean code p start reached at s none shallow (fault.Indirect a) h = none (fault.Indirect a) (lit≤ tt) h
clean code p start reached at s none shallow (fault.LinkBranch a) h = none (fault.LinkBranch a) (lit≤ tt) h
clean code p start reached at s none shallow (fault.SlotControl a) h = none (fault.SlotControl a) (lit≤ tt) h
clean code p start reached at s none shallow (fault.SlotTarget a) h = none (fault.SlotTarget a) (lit≤ tt) h
clean code p start reached at s none shallow (fault.OffCode a) h = none (fault.OffCode a) (lit≤ tt) h
clean code p start reached at s none shallow (fault.Recursion a) h = no_recursion code p start reached at s (few_calls code p start reached at s shallow) a h
clean code p start reached at s none shallow fault.Deep (n, f, chain, deep) = omega (arith, deep, few_calls code p start reached at s shallow n f chain)
clean code p start reached at s none shallow fault.Memory h = h

-- a recursive call is one that is reached again from its place
pub reached_function : (code : Code) (p : Places) (start : ℕ) (reached at functions : List ℕ) → IsScene code p start reached at → AreFunctions p.net.items start reached functions → (f : ℕ) → Contains functions f → (f < length p.addresses.items) × Reached code (addr p start) (addr p f)
reached_function code p start reached at functions s a f among = by_case (a.are f among)
  where
    by_case : (f ≡ start) ⊎ CalledBy p.net.items reached f → (f < length p.addresses.items) × Reached code (addr p start) (addr p f)
    by_case (inl e) = (omega (arith, e, s.below), subst (λ (n : ℕ). Reached code (addr p start) (addr p n)) (sym e) (reached_here code is_any (addr p start) (code_at code p s.places start s.below)))
    by_case (inr (u, in_u, call)) =
        let r = place_reached code p start reached at s u in_u in
        let c = calls_at code p start reached at s u f r.0 call in
        (c.0, reached_on code is_any (addr p start) (addr p u) (addr p f) r.1 (call_joins code (addr p u) (addr p f) c.1))

pub again_recursive : (code : Code) (p : Places) (start : ℕ) (reached at functions : List ℕ) → IsScene code p start reached at → AreFunctions p.net.items start reached functions → (u : ℕ) → IsAgain p.net.items functions (length functions) u → IsRecursive code (addr p start) (addr p u)
again_recursive code p start reached at functions s a u (k, below, met, call) =
    let f = reached_function code p start reached at functions s a (get_or functions k 0) (Contains-get_or functions k 0 below) in
    let m = met_reached code p s.places true (get_or functions k 0) u f.0 met in
    record {
      reached = reached_joined code is_any (addr p start) (addr p (get_or functions k 0)) (addr p u) f.1 m.1;
      function = addr p (get_or functions k 0);
      calls = (calls_at code p start reached at s u (get_or functions k 0) m.0 call).1;
      again = m.1;
    }

pub recursive_again : (code : Code) (p : Places) (start : ℕ) (reached at functions : List ℕ) → IsScene code p start reached at → AreFunctions p.net.items start reached functions → (n : ℕ) → IsRecursive code (addr p start) n → (u : ℕ) × IsAgain p.net.items functions (length functions) u × (u < length p.addresses.items) × (addr p u ≡ n)
recursive_again code p start reached at functions s a n r =
    let (u, among, is) = reached_place code p start reached at s n r.reached in
    let below = (place_reached code p start reached at s u among).0 in
    let (f, call, in_f, is_f) = at_calls code p start reached at s u r.function below (subst (λ (x : ℕ). CallsAt code x r.function) (sym is) r.calls) in
    let (k, in_k, is_k) = a.whole f (u, among, call) in
    let here : get_or functions k 0 ≡ f = sym (get_or_default_zero functions k f in_k) ∙ is_k in
    let m = reached_met code p s.places true f n in_f (subst (λ (x : ℕ). IsReached code is_any x n) (sym is_f) r.again) in
    let same : m.place ≡ u = same_place code p s.places m.place u m.below below (m.is ∙ sym is) in
    (u, (k, in_k, subst (λ (g : ℕ). IsMet p.net.items true (g ∷ []) u) (sym here) (subst (λ (v : ℕ). IsMet p.net.items true (f ∷ []) v) same m.met), call ∙ ap Some (sym here)), below, is)

-- addresses rise with places
pub addr_le : (code : Code) (p : Places) (start : ℕ) (reached at : List ℕ) → IsScene code p start reached at → (u v : ℕ) → u ≤ v → v < length p.addresses.items → addr p u ≤ addr p v
addr_le code p start reached at s u v le below = elim (cases_eq u v) [
  | inl e ↦ subst (λ (w : ℕ). addr p u ≤ addr p w) e (omega arith)
  | inr other ↦ omega (arith, AllPairs-from_increasing p.addresses.items s.places.rise u v 0 (omega (arith, le, other)) below)
]

recursion_told : (code : Code) (p : Places) (start : ℕ) (reached at functions : List ℕ) (u : ℕ) → IsScene code p start reached at → NoneUpto code (addr p start) 6 → AreFunctions p.net.items start reached functions → IsLeast (IsAgain p.net.items functions (length functions)) (Some u) → IsFirst code (addr p start) (fault.Recursion (addr p u))
unfolding NoneUpto Has
recursion_told code p start reached at functions u s none a least = record {
  has = again_recursive code p start reached at functions s a u least.0;
  first = first;
}
  where
    recursion : (n : ℕ) → IsRecursive code (addr p start) n → addr p u ≤ n
    recursion n r = let (v, again, below, is) = recursive_again code p start reached at functions s a n r in omega (arith, addr_le code p start reached at s u v (least.1 v again) below, is)

    first : (other : FlowFault) → Has code (addr p start) other → IsNoLater (fault.Recursion (addr p u)) other
    first (fault.Reserved b) h = absurd (none (fault.Reserved b) (lit≤ tt) h)
    first (fault.Indirect b) h = absurd (none (fault.Indirect b) (lit≤ tt) h)
    first (fault.LinkBranch b) h = absurd (none (fault.LinkBranch b) (lit≤ tt) h)
    first (fault.SlotControl b) h = absurd (none (fault.SlotControl b) (lit≤ tt) h)
    first (fault.SlotTarget b) h = absurd (none (fault.SlotTarget b) (lit≤ tt) h)
    first (fault.OffCode b) h = absurd (none (fault.OffCode b) (lit≤ tt) h)
    first (fault.Recursion b) h = inr (refl, recursion b h)
    first fault.Deep h = inl (lit< tt)
    first fault.Memory h = inl (lit< tt)

deep_told : (code : Code) (p : Places) (start : ℕ) (reached at functions : List ℕ) → IsScene code p start reached at → NoneUpto code (addr p start) 6 → AreFunctions p.net.items start reached functions → (g : ℕ) × Chain code (addr p start) 64 g → IsLeast (IsAgain p.net.items functions (length functions)) None → IsFirst code (addr p start) fault.Deep
unfolding NoneUpto Has
deep_told code p start reached at functions s none a deep least = record {
  has = (64, deep.0, deep.1, lit< tt);
  first = first;
}
  where
    first : (other : FlowFault) → Has code (addr p start) other → IsNoLater fault.Deep other
    first (fault.Reserved b) h = absurd (none (fault.Reserved b) (lit≤ tt) h)
    first (fault.Indirect b) h = absurd (none (fault.Indirect b) (lit≤ tt) h)
    first (fault.LinkBranch b) h = absurd (none (fault.LinkBranch b) (lit≤ tt) h)
    first (fault.SlotControl b) h = absurd (none (fault.SlotControl b) (lit≤ tt) h)
    first (fault.SlotTarget b) h = absurd (none (fault.SlotTarget b) (lit≤ tt) h)
    first (fault.OffCode b) h = absurd (none (fault.OffCode b) (lit≤ tt) h)
    first (fault.Recursion b) h = absurd (let (v, again, below, is) = recursive_again code p start reached at functions s a b h in least v again)
    first fault.Deep h = inr (refl, lit≤ tt)
    first fault.Memory h = absurd h

pub deep_first : (code : Code) (p : Places) (start : ℕ) (reached at functions : List ℕ) (f : FlowFault) → IsScene code p start reached at → NoneUpto code (addr p start) 6 → IsDeepAnswer p start reached functions f → IsFirst code (addr p start) f
deep_first code p start reached at functions f s none d = by_call d.fault.0 d.fault.1 d.fault.2
  where
    chain64 : (g : ℕ) × Chain code (addr p start) 64 g
    chain64 = (addr p d.deep.0, (chain_at code p start reached at s 64 d.deep.0 d.deep.1).1)

    by_call : (o : Option ℕ) → IsLeast (IsAgain p.net.items functions (length functions)) o → f ≡ deep_of p o → IsFirst code (addr p start) f
    by_call None least e = subst (λ (x : FlowFault). IsFirst code (addr p start) x) (sym e) (deep_told code p start reached at functions s none d.are chain64 least)
    by_call (Some u) least e = subst (λ (x : FlowFault). IsFirst code (addr p start) x) (sym e) (recursion_told code p start reached at functions u s none d.are least)
