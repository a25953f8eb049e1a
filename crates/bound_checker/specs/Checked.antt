-- Where facts aren't kept, and the first place of these. This project's own.
use Rattle.std.specs.Prelude.{◌≡◌, ◌<◌, ◌⊎◌, ◌&&◌, ◌||◌, ◌==◌, nat_lt, if◌then◌else◌, ℕ, Bool, true, Contains, List, Option, Some, None}
use Rattle.flow_graph.specs.Reached.{Leads, Reached}
use Rattle.flow_graph.specs.declared.parts.Edge.{Edge}
use Rattle.range_facts.specs.Ranges.{IsWithin}
use Rattle.range_facts.specs.Transfer.{fact_of}
use Rattle.range_facts.specs.declared.facts.Facts.{Facts}
use Rattle.run_law.specs.Certificate.{Blocks, Certificate, IsKept}
use Rattle.run_law.specs.Program.{Program}
use Rattle.bound_checker.specs.declared.place.Lost.{Lost}

-- an edge into a block's start, of a unit of the task
pub record IsBlockEdge (p : Program) (b : Blocks) (e : Edge) : Type 0 where
  pub reached : Reached p.code p.entry e.from
  pub leads : Leads p.code e
  pub start : b.starts e.to ≡ true

-- the least register whose fact an edge doesn't keep, if any
pub record IsLeastFailing (p : Program) (b : Blocks) (e : Edge) (q : ℕ) : Type 0 where
  pub register : q < 32
  pub fails : IsKept p b e q → ⊥
  pub earlier : (r : ℕ) → r < q → IsKept p b e r

abbrev pub IsLost : Program → Blocks → Edge → Option ℕ → Type 0
IsLost p b e None = (r : ℕ) → r < 32 → IsKept p b e r
IsLost p b e (Some q) = IsLeastFailing p b e q

-- the address from which a job is entered, behind all units
abbrev pub outside : ℕ
outside = 4294967280

-- the opening facts of a register lie in those of the entry
abbrev pub IsOpened : Program → Blocks → Facts → ℕ → Type 0
IsOpened p b opening r = IsWithin (fact_of opening r) (fact_of (b.facts p.entry) r)

-- an edge that doesn't keep the fact of a register, named by its units; the opening edge leads from outside to the entry
pub record EdgeFails (p : Program) (b : Blocks) (from to r : ℕ) : Type 0 where
  pub edge : Edge
  pub is_edge : IsBlockEdge p b edge
  pub from_is : edge.from ≡ from
  pub to_is : edge.to ≡ to
  pub fails : IsKept p b edge r → ⊥

pub record OpeningFails (p : Program) (b : Blocks) (opening : Facts) (from to r : ℕ) : Type 0 where
  pub from_is : from ≡ outside
  pub to_is : to ≡ p.entry
  pub fails : IsOpened p b opening r → ⊥

pub record Fails (p : Program) (b : Blocks) (opening : Facts) (from to r : ℕ) : Type 0 where
  pub register : r < 32
  pub where_is : EdgeFails p b from to r ⊎ OpeningFails p b opening from to r

-- the order of places: by from, then to, then the register
abbrev pub IsEarlier : ℕ → ℕ → ℕ → ℕ → ℕ → ℕ → Type 0
IsEarlier from to r other_from other_to other_r =
    (from < other_from) ⊎ ((from ≡ other_from) × ((to < other_to) ⊎ ((to ≡ other_to) × (r < other_r))))

pub record IsFirst (p : Program) (b : Blocks) (opening : Facts) (from to r : ℕ) : Type 0 where
  pub here : Fails p b opening from to r
  pub first : (f t q : ℕ) → Fails p b opening f t q → IsEarlier f t q from to r → ⊥

-- the first place among some edges where a fact isn't kept
pub record IsLeastIn (p : Program) (b : Blocks) (es : List Edge) (t : Lost) : Type 0 where
  pub edge : Edge
  pub among : Contains es edge
  pub is_edge : IsBlockEdge p b edge
  pub from_is : edge.from ≡ t.from
  pub to_is : edge.to ≡ t.to
  pub register : t.register < 32
  pub fails : IsKept p b edge t.register → ⊥
  pub first : (e : Edge) (r : ℕ) → Contains es e → IsBlockEdge p b e → r < 32 → (IsKept p b e r → ⊥)
      → IsEarlier e.from e.to r t.from t.to t.register → ⊥

abbrev pub IsBest : Program → Blocks → List Edge → Option Lost → Type 0
IsBest p b es None = (e : Edge) → Contains es e → IsBlockEdge p b e → (r : ℕ) → r < 32 → IsKept p b e r
IsBest p b es (Some t) = IsLeastIn p b es t

-- the earlier of two places
abbrev pub is_earlier : Lost → Lost → Bool
is_earlier s t =
    nat_lt s.from t.from || ((s.from == t.from) && (nat_lt s.to t.to || ((s.to == t.to) && nat_lt s.register t.register)))

abbrev pub earlier_of : Option Lost → Lost → Lost
earlier_of None t = t
earlier_of (Some s) t = if is_earlier t s then t else s

abbrev pub better : Option Lost → Edge → Option ℕ → Option Lost
better best e None = best
better best e (Some q) = Some (earlier_of best (record { from = e.from; to = e.to; register = q }))

-- all facts are kept
pub record AllKept (p : Program) (b : Blocks) (opening : Facts) : Type 0 where
  pub certificate : Certificate p b
  pub opened : (r : ℕ) → r < 32 → IsOpened p b opening r
