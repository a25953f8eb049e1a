-- What a run executes, newest first, and what it costs. This project's own.
use Rattle.std.specs.Prelude.{◌≡◌, ◌≤◌, ℕ, ◌+◌, Bool, List, [], ◌∷◌, ◌++◌, if◌then◌else◌}
use Rattle.loop_regions.specs.Places.{Place}
use Rattle.loop_regions.specs.Costs.{Prices, entering}

-- an executed instruction, as the machine knows it: no cache is in it
pub record Executed : Type 0 where
  pub at : ℕ
  pub redirects : Bool

-- what caches and clock say of the newest of a list of executed instructions: whether its fetch hits, by the addresses
-- fetched so far;
-- what it costs but for its fetch
pub record Clock : Type 0 where
  pub hits : List ℕ → Bool
  pub rest : List Executed → ℕ

abbrev pub executed_ats : List Executed → List ℕ
executed_ats [] = []
executed_ats (o ∷ os) = o.at ∷ executed_ats os

abbrev pub wait_after : List Executed → ℕ
wait_after [] = 0
wait_after (o ∷ []) = 0
wait_after (o ∷ r ∷ older) = if r.redirects then 2 else 0

abbrev pub missed : Clock → Prices → List ℕ → ℕ
missed c p fetched = if c.hits fetched then 0 else p.miss

abbrev pub total_cost : Clock → Prices → List Executed → ℕ
total_cost c p [] = 0
total_cost c p (o ∷ os) = c.rest (o ∷ os) + missed c p (o.at ∷ executed_ats os) + wait_after os + total_cost c p os

-- how many of these fetches miss, after older ones
abbrev pub misses : (List ℕ → Bool) → List ℕ → List ℕ → ℕ
misses hits [] older = 0
misses hits (a ∷ older_ones) older = (if hits (a ∷ (older_ones ++ older)) then 0 else 1) + misses hits older_ones older

-- whatever came before it, an executed instruction costs at most its static cost, its fetch aside
abbrev pub IsCheap : Clock → Prices → Executed → Type 0
IsCheap c p o = (older : List Executed) → c.rest (o ∷ older) ≤ p.base o.at

-- executed instructions are those at these places, and wait no longer than the edges cost
abbrev pub Spells : Clock → Prices → List Executed → List Place → Type 0
Spells c p [] [] = Unit {0}
Spells c p [] (x ∷ xs) = ⊥
Spells c p (o ∷ os) [] = ⊥
Spells c p (o ∷ os) (x ∷ xs) = (o.at ≡ x.at) × IsCheap c p o × (wait_after os ≤ entering p x.by) × Spells c p os xs
