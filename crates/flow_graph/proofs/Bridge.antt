-- Ways between places are ways between addresses.
use Rattle.std.proofs.Common.{ℕ, ◌<◌, ◌≤◌, ◌≡◌, ◌⊎◌, inl, inr, sym, ap, subst, ◌∙◌, Bool, true, Some, List, [], ◌∷◌, length, get_or, arith}
use Rattle.std.proofs.lemmas.Bool.{cases_eq, cases_lt}
use Rattle.std.proofs.lemmas.Grind.{get_or_default_zero}
use Rattle.std.proofs.lemmas.List.Kept.{AllPairs-from_increasing}
use Rattle.std.proofs.lemmas.List.{length-map}
use Rattle.std.proofs.Math.ListN.{get_or-eq_default, get_or-map}
use Rattle.visa_io.specs.declared.records.Code.{Code}
use Rattle.flow_graph.specs.Code.{is_code}
use Rattle.flow_graph.specs.Net.{ArePlaces}
use Rattle.flow_graph.specs.Places.{IsMet, IsNet, IsPath, asked_by, exit_of, exits_at, no_exits}
use Rattle.flow_graph.specs.Reached.{IsReached, IsWay, Joins}
use Rattle.flow_graph.specs.Sites.{IsLed, no_site, site_of}
use Rattle.flow_graph.specs.declared.parts.EdgeKind.{EdgeKind}
use Rattle.flow_graph.specs.declared.parts.EdgeKind.TheVariants.{Next, Taken, Call, Return, Over}
use Rattle.flow_graph.proofs.Members.{in_head, in_one}
use Rattle.flow_graph.specs.declared.places.Places.{Places}
use Rattle.flow_graph.specs.declared.site.Exits.{Exits}
use Rattle.flow_graph.specs.declared.site.Site.{Site}

-- the address of a place
abbrev pub addr : Places → ℕ → ℕ
addr p k = get_or p.addresses.items k 0

pub net-site : (code : Code) (p : Places) → ArePlaces code p → (u : ℕ) → exits_at p.net.items u ≡ (site_of p.sites.items u).exits
net-site code p a u = ap (λ (n : List Exits). get_or n u no_exits) a.net ∙ get_or-map (λ (s : Site). s.exits) p.sites.items u no_site

pub length-net : (code : Code) (p : Places) → ArePlaces code p → length p.net.items ≡ length p.addresses.items
length-net code p a = ap length a.net ∙ length-map p.sites.items (λ (s : Site). s.exits) ∙ a.sites.beside

-- the exits of a place are the edges along which its unit leads on
pub led_at : (code : Code) (p : Places) → ArePlaces code p → (u : ℕ) → u < length p.addresses.items → IsLed code p.addresses.items (addr p u) (exits_at p.net.items u)
led_at code p a u below =
    subst (λ (x : Exits). IsLed code p.addresses.items (addr p u) x) (sym (net-site code p a u))
    (subst (λ (n : ℕ). IsLed code p.addresses.items n (site_of p.sites.items u).exits) (a.sites.at u below) (a.sites.each u below).led)

no_exit : (kind : EdgeKind) (v : ℕ) → exit_of no_exits kind ≡ Some v → ⊥
no_exit Next v e = cc
no_exit Taken v e = cc
no_exit Call v e = cc
no_exit Return v e = cc
no_exit Over v e = cc

pub is_net : (code : Code) (p : Places) → ArePlaces code p → IsNet p.net.items
is_net code p a = record {
  inside = λ u v kind e. inside u v kind e (cases_lt u (length p.addresses.items));
}
  where
    inside : (u v : ℕ) (kind : EdgeKind) → exit_of (exits_at p.net.items u) kind ≡ Some v → (u < length p.addresses.items) ⊎ (length p.addresses.items ≤ u) → v < length p.net.items
    inside u v kind e (inl below) = omega (arith, ((led_at code p a u below).sound kind v e).0, length-net code p a)
    inside u v kind e (inr over) = absurd (no_exit kind v (subst (λ (x : Exits). exit_of x kind ≡ Some v) (get_or-eq_default p.net.items no_exits (omega (arith, over, length-net code p a))) e))

-- the place of an address of code
pub place_of : (code : Code) (p : Places) → ArePlaces code p → (n : ℕ) → is_code code n ≡ true → (k : ℕ) × (k < length p.addresses.items) × (addr p k ≡ n)
place_of code p a n is = let (k, below, e) = a.all n is in (k, below, sym (get_or_default_zero p.addresses.items k n below) ∙ e)

-- a place is that of one address
pub same_place : (code : Code) (p : Places) → ArePlaces code p → (u v : ℕ) → u < length p.addresses.items → v < length p.addresses.items → addr p u ≡ addr p v → u ≡ v
same_place code p a u v in_u in_v e = elim (cases_eq u v) [
  | inl same ↦ same
  | inr other ↦ elim (cases_lt u v) [
    | inl less ↦ absurd (omega (arith, AllPairs-from_increasing p.addresses.items a.rise u v 0 less in_v, e))
    | inr more ↦ absurd (omega (arith, AllPairs-from_increasing p.addresses.items a.rise v u 0 (omega (arith, more, other)) in_u, e))
  ]
]

-- what is at a place is code
pub code_at : (code : Code) (p : Places) → ArePlaces code p → (u : ℕ) → u < length p.addresses.items → is_code code (addr p u) ≡ true
code_at code p a u below = subst (λ (n : ℕ). is_code code n ≡ true) (a.sites.at u below) (a.sites.each u below).is

-- a path between places is a way
pub record IsWayTo (code : Code) (p : Places) (enters : Bool) (start u : ℕ) (us : List ℕ) : Type 0 where
  pub below : u < length p.addresses.items
  pub ns : List ℕ
  pub way : IsWay code (asked_by enters) (addr p start) (addr p u ∷ ns)

pub path_way : (code : Code) (p : Places) → ArePlaces code p → (enters : Bool) (start : ℕ) → start < length p.addresses.items → (u : ℕ) (us : List ℕ) → IsPath p.net.items enters (start ∷ []) (u ∷ us) → IsWayTo code p enters start u us
unfolding IsPath IsWay
path_way code p a enters start below u [] h =
    let same : start ≡ u = in_one u start h in
    record { below = subst (λ (n : ℕ). n < length p.addresses.items) same below; ns = []; way = (ap (addr p) (sym same), subst (λ (n : ℕ). is_code code (addr p n) ≡ true) same (code_at code p a start below)) }
path_way code p a enters start below v (u ∷ us) h =
    let w = path_way code p a enters start below u us h.1 in
    let to = (led_at code p a u w.below).sound h.0.kind v h.0.leads in
    record { below = to.0; ns = addr p u ∷ w.ns; way = (record { kind = h.0.kind; is_asked = h.0.is_asked; leads = to.1 }, w.way) }

pub met_reached : (code : Code) (p : Places) → ArePlaces code p → (enters : Bool) (start u : ℕ) → start < length p.addresses.items → IsMet p.net.items enters (start ∷ []) u → (u < length p.addresses.items) × IsReached code (asked_by enters) (addr p start) (addr p u)
met_reached code p a enters start u below m =
    let w = path_way code p a enters start below u m.us m.path in (w.below, record { us = w.ns; way = w.way })

-- a way is a path
pub record IsMetAt (code : Code) (p : Places) (enters : Bool) (start n : ℕ) : Type 0 where
  pub place : ℕ
  pub below : place < length p.addresses.items
  pub is : addr p place ≡ n
  pub met : IsMet p.net.items enters (start ∷ []) place

pub way_path : (code : Code) (p : Places) → ArePlaces code p → (enters : Bool) (start : ℕ) → start < length p.addresses.items → (n : ℕ) (ns : List ℕ) → IsWay code (asked_by enters) (addr p start) (n ∷ ns) → IsMetAt code p enters start n
unfolding IsPath IsWay
way_path code p a enters start below n [] h = record { place = start; below = below; is = sym h.0; met = record { us = []; path = in_head start [] } }
way_path code p a enters start below n (m ∷ ns) h =
    let w = way_path code p a enters start below m ns h.1 in
    let joins : Joins code (asked_by enters) (addr p w.place) n = subst (λ (x : ℕ). Joins code (asked_by enters) x n) (sym w.is) h.0 in
    let (v, leads, in_v, is) = (led_at code p a w.place w.below).whole joins.kind n joins.leads in
    record { place = v; below = in_v; is = is; met = record { us = w.place ∷ w.met.us; path = (record { kind = joins.kind; is_asked = joins.is_asked; leads = leads }, w.met.path) } }

pub reached_met : (code : Code) (p : Places) → ArePlaces code p → (enters : Bool) (start n : ℕ) → start < length p.addresses.items → IsReached code (asked_by enters) (addr p start) n → IsMetAt code p enters start n
reached_met code p a enters start n below r = way_path code p a enters start below n r.us r.way
