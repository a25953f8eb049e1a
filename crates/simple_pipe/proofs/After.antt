-- The stages after one instruction more; and how late they are.
use Rattle.std.proofs.Common.{◌≡◌, ℕ, ◌+◌, ◌<◌, ◌≤◌, ◌^◌, max, Bool, true, false, List, [], ◌∷◌, Option, None, refl, ap, subst, ◌∙◌, arith}
use Rattle.std.specs.Prelude.{◌&&◌, if◌then◌else◌}
use Rattle.simple_pipe.specs.declared.executed.Executed.{Executed}
use Rattle.simple_pipe.specs.declared.pace.Pace.{Pace}
use Rattle.simple_pipe.specs.declared.stages.Stages.{Stages}
use Rattle.mips_ref.specs.declared.records.Ran.{Ran}
use Rattle.simple_pipe.specs.Parts.{IsAfter, IsEarly, last_load, load_name, no_stages, redirect_after}
use Rattle.simple_pipe.specs.Simple.{Caches, as_instr, executed_of}
use Rattle.simple_pipe.specs.Times.{Times, times_of, redirect_of, loaded_at, is_read}
use Rattle.simple_pipe.proofs.Steps.{IsNext, times_of-cons}

-- an instruction enters a stage after the one before it
pub record IsOrdered (t : Times) : Type 0 where
  pub read : t.decode ≤ t.read
  pub execute : t.read ≤ t.execute
  pub memory : t.execute ≤ t.memory
  pub write : t.memory ≤ t.write
  pub left : t.write ≤ t.left

ordered_next : (e : Executed) (before t : Times) (redirected loaded : ℕ) → IsNext e before t redirected loaded → IsOrdered t
ordered_next e before t redirected loaded n =
    record { read = omega arith; execute = omega arith; memory = omega arith; write = omega arith; left = omega arith }

pub ordered : (es : List Executed) → IsOrdered (times_of es)
unfolding times_of
ordered [] = record { read = omega arith; execute = omega arith; memory = omega arith; write = omega arith; left = omega arith }
ordered (e ∷ older) = ordered_next e (times_of older) (times_of (e ∷ older)) _ _ (times_of-cons e older)

redirect_case : (redirects : Bool) (memory left : ℕ) → memory ≤ left → (if redirects then memory else 0) ≤ left
redirect_case true memory left h = h
redirect_case false memory left h = omega arith

redirect_early : (es : List Executed) → redirect_of es ≤ (times_of es).left
unfolding redirect_of
redirect_early [] = omega arith
redirect_early (e ∷ []) = omega arith
redirect_early (e ∷ r ∷ older) =
    let n = times_of-cons e (r ∷ older) in
    let o = ordered (e ∷ r ∷ older) in
    redirect_case r.redirects (times_of (r ∷ older)).memory (times_of (e ∷ r ∷ older)).left (omega (arith, n.execute, o.memory, o.write, o.left))

-- stages that stand for a list whose end is early are early
pub early : (s : Stages) (es : List Executed) → IsAfter s es → (times_of es).left < 2 ^ 62 → IsEarly s
early s es a h =
    let o = ordered es in
    let r = redirect_early es in
    record {
      decode = omega (arith, a.decode, o.read, o.execute, o.memory, o.write, o.left);
      read = omega (arith, a.read, o.execute, o.memory, o.write, o.left);
      execute = omega (arith, a.execute, o.memory, o.write, o.left);
      memory = omega (arith, a.memory, o.write, o.left);
      write = omega (arith, a.write, o.left);
      left = omega (arith, a.left);
      redirected = omega (arith, a.redirected, r);
    }

-- the stages' word for a load and its use is that of the times
uses_case : (is_load : Bool) (writes : Option ℕ) (e : Executed) (write : ℕ)
    → (if is_read (if is_load then writes else None) e.reads then write else 0) ≡ (if is_load && is_read writes e.reads then write else 0)
uses_case true writes e write = refl
uses_case false writes e write = refl

pub loaded_same : (e : Executed) (es : List Executed) (write : ℕ) → (if is_read (last_load es) e.reads then write else 0) ≡ loaded_at e es write
loaded_same e [] write = refl
loaded_same e (before ∷ older) write = uses_case before.is_load before.writes e write

pub redirect_same : (e : Executed) (es : List Executed) → redirect_after es ≡ redirect_of (e ∷ es)
unfolding redirect_of
redirect_same e [] = refl
redirect_same e (r ∷ older) = refl

-- what the code computes for an instruction more
pub record IsEntered (s t : Stages) (e : Executed) (loaded : ℕ) : Type 0 where
  pub decode : t.decode ≡ max (max s.decode s.redirected + 1 + e.fetch_excess) s.read
  pub read : t.read ≡ max (t.decode + 1) s.execute
  pub execute : t.execute ≡ max (max (t.read + 1) s.memory) loaded
  pub memory : t.memory ≡ max (t.execute + 1 + e.execute_excess) s.write
  pub write : t.write ≡ max (t.memory + 1 + e.memory_excess) s.left
  pub left : t.left ≡ t.write + 1
  pub redirected : t.redirected ≡ s.redirected_next
  pub redirected_next : t.redirected_next ≡ (if e.redirects then t.memory else 0)
  pub loaded_is : t.loaded ≡ load_name e

same_if : (b : Bool) (m n : ℕ) → m ≡ n → (if b then m else 0) ≡ (if b then n else 0)
same_if b m n e = ap (λ k. if b then k else 0) e

pub entered : (s t : Stages) (e : Executed) (es : List Executed) (loaded : ℕ) → IsAfter s es → loaded ≡ loaded_at e es (times_of es).write
    → IsEntered s t e loaded → IsAfter t (e ∷ es)
entered s t e es loaded a l n =
    let m = times_of-cons e es in
    let decode : t.decode ≡ (times_of (e ∷ es)).decode = omega (arith, n.decode, m.fetch, m.decode, a.decode, a.redirected, a.read) in
    let read : t.read ≡ (times_of (e ∷ es)).read = omega (arith, n.read, m.read, decode, a.execute) in
    let execute : t.execute ≡ (times_of (e ∷ es)).execute = omega (arith, n.execute, m.execute, read, a.memory, l) in
    let memory : t.memory ≡ (times_of (e ∷ es)).memory = omega (arith, n.memory, m.memory, execute, a.write) in
    let write : t.write ≡ (times_of (e ∷ es)).write = omega (arith, n.write, m.write, memory, a.left) in
    record {
      decode = decode;
      read = read;
      execute = execute;
      memory = memory;
      write = write;
      left = omega (arith, n.left, m.left, write);
      redirected = n.redirected ∙ a.redirected_next ∙ redirect_same e es;
      redirected_next = n.redirected_next ∙ same_if e.redirects t.memory (times_of (e ∷ es)).memory memory;
      loaded = n.loaded_is;
    }

-- before the first instruction
pub none_after : (p : Pace) (c : Caches) (s : Stages) → s ≡ no_stages → IsAfter s (executed_of p c [])
unfolding executed_of times_of redirect_of
none_after p c s e =
    record {
      decode = ap (λ (t : Stages). t.decode) e;
      read = ap (λ (t : Stages). t.read) e;
      execute = ap (λ (t : Stages). t.execute) e;
      memory = ap (λ (t : Stages). t.memory) e;
      write = ap (λ (t : Stages). t.write) e;
      left = ap (λ (t : Stages). t.left) e;
      redirected = ap (λ (t : Stages). t.redirected) e;
      redirected_next = ap (λ (t : Stages). t.redirected_next) e;
      loaded = ap (λ (t : Stages). t.loaded) e;
    }

-- what executed, as the pipeline sees it, is the newest of the list
pub as_listed : (p : Pace) (c : Caches) (r : Ran) (rs : List Ran) (e : Executed) (s : Stages) → e ≡ as_instr p c r rs r.instr
    → IsAfter s (e ∷ executed_of p c rs) → IsAfter s (executed_of p c (r ∷ rs))
unfolding executed_of
as_listed p c r rs e s is a = subst (λ f. IsAfter s (f ∷ executed_of p c rs)) is a
