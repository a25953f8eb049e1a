-- What is known of the units by their numbers, and what is ahead of them. This project's own.
use Rattle.std.specs.Prelude.{ℕ, ◌+◌, ◌-◌, ◌*◌, ◌^◌, ◌≤◌, ◌<◌, ◌≡◌, min, Bool, false, ◌==◌, nat_lt, if◌then◌else◌, Option, Some, None, List, [], ◌∷◌, slice_index, slice_get, slice_set}
use Rattle.flow_graph.specs.declared.parts.EdgeKind.{EdgeKind}
use Rattle.flow_graph.specs.declared.parts.EdgeKind.TheVariants.{Next, Taken, Call, Return, Over}
use Rattle.loop_regions.specs.Walks.{holds}
use Rattle.loop_regions.specs.declared.ways.Way.{Way}
use Rattle.path_wcet.specs.declared.ahead.Aim.{Aim}
use Rattle.path_wcet.specs.declared.ahead.Aim.TheVariants as aim
use Rattle.path_wcet.specs.Paid.{cap}

-- up to this all sums are kept: three times the cap, so that what is cut is beyond the cap even without its last way
abbrev pub limit : ℕ
limit = 3000000000000000000

-- a number of a list, up to the cap
abbrev pub read : List ℕ → ℕ → ℕ
read xs u = min cap (slice_index xs u)

abbrev pub capped : Option ℕ → Option ℕ
capped None = None
capped (Some n) = Some (min limit n)

abbrev pub joined : Option (Option ℕ) → Option ℕ
joined None = None
joined (Some o) = o

-- an entry of a list
abbrev pub entry_at : List (Option ℕ) → ℕ → Option ℕ
entry_at xs u = joined (slice_get xs u)

-- the entry of a unit, up to the limit, in a list that begins at the unit of a number
abbrev pub entry : ℕ → List (Option ℕ) → ℕ → Option ℕ
entry base xs u = if nat_lt u base then None else capped (entry_at xs (u - base))

-- how far the numbers of a list are from the greatest of 64 bits
abbrev pub room : List ℕ → ℕ
room [] = 0
room (x ∷ xs) = (2 ^ 64 - 1 - x) + room xs

abbrev pub entry_room : Option ℕ → ℕ
entry_room None = 2 ^ 64
entry_room (Some x) = 2 ^ 64 - 1 - x

abbrev pub rooms : List (Option ℕ) → ℕ
rooms [] = 0
rooms (o ∷ os) = entry_room o + rooms os

-- an entry is there and at least this
abbrev pub IsFar : Option ℕ → ℕ → Type 0
IsFar None n = ⊥
IsFar (Some m) n = n ≤ m

-- no entry is lowered
abbrev pub AreStill : List (Option ℕ) → List (Option ℕ) → Type 0
AreStill rets others = (u n : ℕ) → IsFar (entry_at rets u) n → IsFar (entry_at others u) n

-- what is known of the units, each list by their numbers: what a unit costs, what an edge to the next unit and one to a target
-- cost, how often the region that begins there is gone round at most, and what is ahead of a return. From `last` no way leads on
pub record Table : Type 0 where
  pub units : List ℕ
  pub next : List ℕ
  pub taken : List ℕ
  pub counts : List ℕ
  pub ends : List (Option ℕ)
  pub last : Option ℕ

-- a number is this one
abbrev pub is_this : Option ℕ → ℕ → Bool
is_this None u = false
is_this (Some v) u = u == v

-- what all laps but the first cost of the region that begins at a unit; `turns`: what a lap costs
abbrev pub lap : Table → List ℕ → ℕ → ℕ
lap t turns u = min limit ((slice_index t.counts u - 1) * slice_index turns u)

-- what a call of the unit where a function begins costs, with so much to its return and the return to a unit
abbrev pub call_amount : Table → List ℕ → ℕ → ℕ → ℕ → ℕ
call_amount t turns callee m to = read t.units callee + lap t turns callee + m + 2 + read t.units to

abbrev pub called_amount : Table → List ℕ → Option ℕ → ℕ → ℕ → Option ℕ
called_amount t turns None callee to = None
called_amount t turns (Some m) callee to = Some (call_amount t turns callee m to)

abbrev pub over_amount : Table → List ℕ → List (Option ℕ) → Option ℕ → ℕ → Option ℕ
over_amount t turns rets None to = None
over_amount t turns rets (Some callee) to = called_amount t turns (entry 0 rets callee) callee to

-- what a way costs with the unit that it enters, if it can be gone
abbrev pub kind_amount : Table → List ℕ → List (Option ℕ) → Way → EdgeKind → Option ℕ
kind_amount t turns rets w Next = Some (read t.next w.from + read t.units w.to)
kind_amount t turns rets w Taken = Some (read t.taken w.from + read t.units w.to)
kind_amount t turns rets w Over = over_amount t turns rets w.callee w.to
kind_amount t turns rets w Call = None
kind_amount t turns rets w Return = None

abbrev pub amount : Table → List ℕ → List (Option ℕ) → Way → Option ℕ
amount t turns rets w = if is_this t.last w.from then None else kind_amount t turns rets w w.edge.kind

-- the function that a way calls
abbrev pub called_by : Table → Way → EdgeKind → Option ℕ
called_by t w Over = if is_this t.last w.from then None else w.callee
called_by t w Next = None
called_by t w Taken = None
called_by t w Call = None
called_by t w Return = None

-- a way, the laps where it leads, and what is ahead there
abbrev pub sum : Option ℕ → ℕ → Option ℕ → Option ℕ
sum None l x = None
sum (Some k) l None = None
sum (Some k) l (Some x) = Some (min limit (k + l + x))

-- along a way that doesn't lead back
abbrev pub onward : Table → List ℕ → List (Option ℕ) → Way → Option ℕ → Option ℕ
onward t turns rets w x = if w.back then None else sum (amount t turns rets w) (lap t turns w.to) x

-- what is ahead of a way's first unit along it, by what is ahead of its second
abbrev pub offered : Table → Aim → List ℕ → List (Option ℕ) → Way → Option ℕ → Option ℕ
offered t aim.Stop turns rets w x = onward t turns rets w x
offered t aim.Return turns rets w x = onward t turns rets w x
offered t (aim.Lap r) turns rets w x =
    if w.edge.to == r.header then capped (amount t turns rets w) else (if holds r w.edge.to then onward t turns rets w x else None)

-- what is ahead of a call in the function that is called
abbrev pub call_stop : Table → List ℕ → ℕ → List (Option ℕ) → Option ℕ → Option ℕ
call_stop t turns base xs None = None
call_stop t turns base xs (Some callee) = sum (Some (read t.units callee)) (lap t turns callee) (entry base xs callee)

abbrev pub offered_below : Table → Aim → List ℕ → ℕ → List (Option ℕ) → Way → Option ℕ
offered_below t aim.Stop turns base xs w = call_stop t turns base xs (called_by t w w.edge.kind)
offered_below t aim.Return turns base xs w = None
offered_below t (aim.Lap r) turns base xs w = None

abbrev pub IsPaid : Option ℕ → Option ℕ → Type 0
IsPaid o None = Unit {0}
IsPaid o (Some v) = IsFar o v

-- an entry is set to an offer
abbrev pub IsRaised : List (Option ℕ) → ℕ → Option ℕ → List (Option ℕ) → Type 0
IsRaised xs u None more = ⊥
IsRaised xs u (Some v) more = more ≡ slice_set xs u (Some v)

-- a way's first unit has enough ahead, by what is ahead of its second and of what it calls
pub record IsSatisfied (t : Table) (to : Aim) (turns : List ℕ) (rets : List (Option ℕ)) (base : ℕ) (xs : List (Option ℕ)) (w : Way) : Type 0 where
  pub along : IsPaid (entry_at xs (w.from - base)) (offered t to turns rets w (entry base xs w.to))
  pub below : IsPaid (entry_at xs (w.from - base)) (offered_below t to turns base xs w)

abbrev pub IsUpTo : ℕ → Option ℕ → Type 0
IsUpTo most None = Unit {0}
IsUpTo most (Some n) = n ≤ most

-- a way leaves one of so many units, from the one of a number on
pub record IsWithin (base count : ℕ) (w : Way) : Type 0 where
  pub above : base ≤ w.from
  pub below : w.from - base < count
