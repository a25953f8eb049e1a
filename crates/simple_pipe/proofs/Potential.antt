-- The times of a list are bounded by its total cost.
use Rattle.std.proofs.Common.{ℕ, ◌+◌, ◌≤◌, Bool, true, false, List, [], ◌∷◌, arith}
use Rattle.std.specs.Prelude.{◌&&◌, if◌then◌else◌}
use Rattle.simple_pipe.specs.declared.executed.Executed.{Executed}
use Rattle.simple_pipe.specs.Times.{Times, times_of, redirect_of, loaded_at}
use Rattle.simple_pipe.specs.Cost.{cost_of, total_cost}
use Rattle.simple_pipe.proofs.Steps.{IsNext, times_of-cons}

-- what the newest instruction has paid for, and the one after it may use up
abbrev pub unused : List Executed → ℕ
unused [] = 0
unused (e ∷ older) = if e.is_load then 1 else 0

-- stage by stage the times are at most the cost so far, without what is unused
pub record IsBounded (t : Times) (unused total : ℕ) : Type 0 where
  pub decode : t.decode + unused ≤ total
  pub read : t.read + unused ≤ total + 1
  pub execute : t.execute + unused ≤ total + 2
  pub memory : t.memory + unused ≤ total + 3
  pub write : t.write + unused ≤ total + 4
  pub left : t.left + unused ≤ total + 5

loaded_case : (is_load uses : Bool) (write total : ℕ) → write + (if is_load then 1 else 0) ≤ total + 4 → (if is_load && uses then write else 0) ≤ total + 3
loaded_case false uses write total h = omega arith
loaded_case true false write total h = omega arith
loaded_case true true write total h = omega arith

loaded-bound : (e : Executed) (older : List Executed) (total : ℕ) → (times_of older).write + unused older ≤ total + 4 → loaded_at e older (times_of older).write ≤ total + 3
loaded-bound e [] total h = omega arith
loaded-bound e (p ∷ older) total h = loaded_case p.is_load _ (times_of (p ∷ older)).write total h

redirect_case : (redirects : Bool) (memory unused total : ℕ) → memory + unused ≤ total + 3 → (if redirects then memory else 0) ≤ total + 1 + (if redirects then 2 else 0)
redirect_case false memory unused total h = omega arith
redirect_case true memory unused total h = omega arith

-- one instruction more
bounded_step : (e : Executed) (before t : Times) (redirected loaded unused wait total : ℕ) → IsNext e before t redirected loaded → IsBounded before unused total → redirected ≤ total + wait → loaded ≤ total + 3 → IsBounded t (if e.is_load then 1 else 0) (cost_of e + wait + total)
bounded_step e before t redirected loaded unused wait total n b r l = record {
  decode = omega (arith, n.fetch, n.decode, b.decode, b.read);
  read = omega arith;
  execute = omega arith;
  memory = omega arith;
  write = omega arith;
  left = omega arith;
}

pub bounded : (es : List Executed) → IsBounded (times_of es) (unused es) (total_cost es)
unfolding times_of
bounded [] = record { decode = omega arith; read = omega arith; execute = omega arith; memory = omega arith; write = omega arith; left = omega arith }
bounded (e ∷ []) = bounded_step e (times_of []) (times_of (e ∷ [])) 0 (loaded_at e [] (times_of []).write) 0 0 0 (times_of-cons e []) (bounded []) (omega arith) (omega arith)
bounded (e ∷ p ∷ []) =
    let b = bounded (p ∷ []) in
    bounded_step e (times_of (p ∷ [])) (times_of (e ∷ p ∷ [])) 0 (loaded_at e (p ∷ []) (times_of (p ∷ [])).write) (unused (p ∷ [])) 0 (total_cost (p ∷ [])) (times_of-cons e (p ∷ [])) b (omega arith) (loaded-bound e (p ∷ []) _ b.write)
bounded (e ∷ p ∷ r ∷ older) =
    let b = bounded (p ∷ r ∷ older) in
    let s = redirect_case r.redirects (times_of (r ∷ older)).memory (unused (r ∷ older)) (total_cost (r ∷ older)) (bounded (r ∷ older)).memory in
    bounded_step e (times_of (p ∷ r ∷ older)) (times_of (e ∷ p ∷ r ∷ older)) (redirect_of (p ∷ r ∷ older)) (loaded_at e (p ∷ r ∷ older) (times_of (p ∷ r ∷ older)).write) (unused (p ∷ r ∷ older)) (if r.redirects then 2 else 0) (total_cost (p ∷ r ∷ older)) (times_of-cons e (p ∷ r ∷ older)) b (omega (arith, s)) (loaded-bound e (p ∷ r ∷ older) _ b.write)

-- the end is at most five cycles above the sum of the costs
pub left-bound : (es : List Executed) → (times_of es).left ≤ 5 + total_cost es
left-bound es = let b = bounded es in omega (arith, b.left)

pub ruleset laws = (left-bound)
