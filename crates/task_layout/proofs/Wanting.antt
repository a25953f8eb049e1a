-- Addresses that a task needs, and the first of them that is wanting.
use Rattle.std.proofs.Common.{◌≡◌, ℕ, suc, ◌+◌, ◌-◌, ◌<◌, Bool, true, false, List, [], ◌∷◌, length, get_or, drop, drop-cons, add-one, Some, ap, subst, ◌∙◌, arith}
use Rattle.std.proofs.lemmas.Bool.Decides.{leb_tells}
use Rattle.std.proofs.lemmas.List.Elements.{All-head, All-tail}
use Rattle.std.specs.Prelude.{All}
use mathlib.Core.Logic.{inl, inr}
use Rattle.visa_io.specs.declared.records.Span.{Span}
use Rattle.task_text.specs.declared.task.Task.{Task}
use Rattle.mips_ref.specs.Layout.{Covers, covered_at}
use Rattle.mips_ref.specs.Memory.{AllStorable, Flat, at_place, declared_at, place_from, storable_at, takes_stores}
use Rattle.task_layout.specs.Layout.{FirstUncovered, FirstUndeclared, IsDeclared}

-- an address is wanting only where not all are covered
pub wanting-not : (write : Bool) (m : Flat) (at len a : ℕ) → Covers write m at (at + len) (Some a) → ((k : ℕ) → k < len → covered_at write m (at + k) ≡ true) → ⊥
wanting-not write m at len a wanting all =
    let same : at + (a - at) ≡ a = omega (arith, wanting.0) in
    let is : covered_at write m a ≡ true = subst (λ b. covered_at write m b ≡ true) same (all (a - at) (omega (arith, wanting.0, wanting.1))) in
    let no : covered_at write m a ≡ false = wanting.2 in
    cc

not-less : (write : Bool) (m : Flat) (from to a b : ℕ) → Covers write m from to (Some a) → Covers write m from to (Some b) → a < b → ⊥
not-less write m from to a b first second less =
    let is : covered_at write m a ≡ true = second.3 a first.0 less in
    let no : covered_at write m a ≡ false = first.2 in
    cc

-- one address is the least that is wanting
pub one-wanting : (write : Bool) (m : Flat) (from to a b : ℕ) → Covers write m from to (Some a) → Covers write m from to (Some b) → a ≡ b
one-wanting write m from to a b first second =
    elim (leb_tells (suc a) b) [
      | inl t ↦ absurd (not-less write m from to a b first second t.1)
      | inr t ↦ elim (leb_tells (suc b) a) [
        | inl u ↦ absurd (not-less write m from to b a second first u.1)
        | inr u ↦ omega (arith, t.1, u.1)
      ]
    ]

pub undeclared-not : (m : Flat) (ranges : List Span) (a : ℕ) → FirstUndeclared m ranges a → All (IsDeclared m) ranges → ⊥
unfolding FirstUndeclared
undeclared-not m [] a first all = first
undeclared-not m (s ∷ rest) a (inl here) all = wanting-not false m s.start s.len a here (All-head (IsDeclared m) s rest all)
undeclared-not m (s ∷ rest) a (inr later) all = undeclared-not m rest a later.1 (All-tail (IsDeclared m) s rest all)

pub one-undeclared : (m : Flat) (ranges : List Span) (a b : ℕ) → FirstUndeclared m ranges a → FirstUndeclared m ranges b → a ≡ b
unfolding FirstUndeclared
one-undeclared m [] a b first second = absurd first
one-undeclared m (s ∷ rest) a b (inl first) (inl second) = one-wanting false m s.start (s.start + s.len) a b first second
one-undeclared m (s ∷ rest) a b (inl first) (inr second) = absurd (wanting-not false m s.start s.len a first second.0)
one-undeclared m (s ∷ rest) a b (inr first) (inl second) = absurd (wanting-not false m s.start s.len b second first.0)
one-undeclared m (s ∷ rest) a b (inr first) (inr second) = one-undeclared m rest a b first.1 second.1

pub one-uncovered : (t : Task) (m : Flat) (a b : ℕ) → FirstUncovered t m a → FirstUncovered t m b → a ≡ b
one-uncovered t m a b (inl first) (inl second) = one-wanting true m t.input_at (t.input_at + t.input_len) a b first second
one-uncovered t m a b (inl first) (inr second) = absurd (wanting-not true m t.input_at t.input_len a first second.0)
one-uncovered t m a b (inr first) (inl second) = absurd (wanting-not true m t.input_at t.input_len b second first.0)
one-uncovered t m a b (inr first) (inr second) = one-undeclared m t.show a b first.1 second.1

pub uncovered-not : (t : Task) (m : Flat) (a : ℕ) → FirstUncovered t m a → AllStorable m t.input_at t.input_len → All (IsDeclared m) t.show → ⊥
uncovered-not t m a (inl here) input shows = wanting-not true m t.input_at t.input_len a here input
uncovered-not t m a (inr later) input shows = undeclared-not m t.show a later.1 shows

-- a turn of the loop over the ranges
pub undeclared-here : (m : Flat) (ranges : List Span) (i : ℕ) (d : Span) (a : ℕ) → i < length ranges
    → Covers false m (get_or ranges i d).start ((get_or ranges i d).start + (get_or ranges i d).len) (Some a) → FirstUndeclared m (drop i ranges) a
unfolding FirstUndeclared
undeclared-here m ranges i d a below here = rw (drop-cons ranges i d below) (inl here)

pub undeclared-next : (m : Flat) (ranges : List Span) (i : ℕ) (d : Span) (a : ℕ) → i < length ranges → IsDeclared m (get_or ranges i d)
    → FirstUndeclared m (drop (i + 1) ranges) a → FirstUndeclared m (drop i ranges) a
unfolding FirstUndeclared
undeclared-next m ranges i d a below declared later =
    rw (drop-cons ranges i d below) (inr (declared, rw add-one at later))

-- what is covered depends on the ranges alone
storable-same : (m n : Flat) (a : ℕ) → m.spans ≡ n.spans → storable_at m a ≡ storable_at n a
storable-same m n a same = ap (λ ss. at_place (place_from 0 ss a) (λ p. takes_stores p.span)) same

pub all-storable-same : (m n : Flat) (at len : ℕ) → m.spans ≡ n.spans → AllStorable n at len → AllStorable m at len
all-storable-same m n at len same all k below = storable-same m n (at + k) same ∙ all k below

declared-same : (m n : Flat) (a : ℕ) → m.spans ≡ n.spans → declared_at m a ≡ declared_at n a
declared-same m n a same = ap (λ ss. at_place (place_from 0 ss a) (λ p. true)) same

pub all-declared-same : (m n : Flat) (ranges : List Span) → m.spans ≡ n.spans → All (IsDeclared n) ranges → All (IsDeclared m) ranges
all-declared-same m n ranges same all k d below j within =
    declared-same m n ((get_or ranges k d).start + j) same ∙ all k d below j within
