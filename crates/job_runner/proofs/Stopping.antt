-- A course ends, or misses a checkpoint, no later than its last watchdog.
use Rattle.std.proofs.Common.{◌≡◌, refl, ◌⊎◌, inl, inr, ℕ, zero, suc, ◌-◌, ◌≤◌, ◌<◌, Bool, true, false, List, [], ◌∷◌, length, Option, Some, None, arith, length-append}
use Rattle.std.proofs.lemmas.Bool.{cases_lt}
use Rattle.std.specs.Prelude.{if◌then◌else◌, slice_get, slice_index}
use Rattle.mips_ref.specs.declared.records.Step.{Step}
use Rattle.mode_states.specs.Course.{Course, IsMissed, ending_at, pcs_at, progress_at, sub_at}
use Rattle.mode_states.specs.Ends.{last_watchdog}
use Rattle.mode_states.specs.Loop.{AreWatchdogs}
use Rattle.mode_states.specs.Progress.{Progress, all_passed, ended_in, is_cut, passed}
use Rattle.mode_states.proofs.Runs.{grown_counts, one_more}

-- no more sub-tasks end than there are cuts
within_one : (cuts : List ℕ) (n : ℕ) (p : Progress) (pc : ℕ) → length p.counts ≤ length cuts
    → length (passed cuts n p pc).counts ≤ length cuts
within_one cuts n p pc within = by (is_cut (slice_get cuts (length p.counts)) pc) (there cuts (length p.counts))
  where
    there : (l : List ℕ) (j : ℕ) → is_cut (slice_get l j) pc ≡ true → j < length l
    there [] j e = cc
    there (c ∷ cs) zero e = omega arith
    there (c ∷ cs) (suc j) e = let low = there cs j e in omega (arith, low)

    by : (b : Bool) → (b ≡ true → length p.counts < length cuts)
        → (let q : Progress = if b then ended_in n p else p in length q.counts) ≤ length cuts
    by true low = omega (arith, low refl, length-append p.counts ((n - p.last) ∷ []))
    by false low = within

within_all : (cuts : List ℕ) (n : ℕ) (p : Progress) (pcs : List ℕ) → length p.counts ≤ length cuts
    → length (all_passed cuts n p pcs).counts ≤ length cuts
unfolding all_passed
within_all cuts n p [] within = within
within_all cuts n p (pc ∷ pcs) within = within_all cuts n (passed cuts n p pc) pcs (within_one cuts n p pc within)

pub few_subs : (c : Course) (n : ℕ) → sub_at c n ≤ length c.cuts
unfolding progress_at
few_subs c zero = omega arith
few_subs c (suc n) = within_all c.cuts (suc n) (progress_at c n) (pcs_at c n) (few_subs c n)

-- and one that has ended stays ended
sub_grows : (c : Course) (n : ℕ) → sub_at c n ≤ sub_at c (suc n)
unfolding progress_at
sub_grows c n = grown_counts c.cuts (suc n) (progress_at c n) (pcs_at c n)

-- it ends after so many cycles, and misses nothing before
pub record EndsFirst (c : Course) (n : ℕ) (a : Step) : Type 0 where
  pub ended : ending_at c n ≡ Some a
  pub least : (m : ℕ) → m < n → ending_at c m ≡ None
  pub never : (m : ℕ) → m < n → ¬ (IsMissed c m)

-- it misses a checkpoint after so many cycles, and none before
pub record MissesFirst (c : Course) (n : ℕ) : Type 0 where
  pub missed : IsMissed c n
  pub least : (m : ℕ) → m < n → ¬ (IsMissed c m)
  pub goes_on : (m : ℕ) → m < n → ending_at c m ≡ None

abbrev pub Stops : Course → ℕ → Type 0
Stops c n = ((a : Step) × EndsFirst c n a) ⊎ MissesFirst c n

-- it does neither before so many cycles
record GoesOn (c : Course) (n : ℕ) : Type 0 where
  goes_on : (m : ℕ) → m < n → ending_at c m ≡ None
  never : (m : ℕ) → m < n → ¬ (IsMissed c m)

abbrev Stopped : Course → ℕ → Type 0
Stopped c n = (m : ℕ) × (m < n) × Stops c m

next_cycle : (c : Course) (n : ℕ) → GoesOn c n → GoesOn c (suc n) ⊎ Stopped c (suc n)
next_cycle c n g = by (ending_at c n) refl
  where
    by : (o : Option Step) → ending_at c n ≡ o → GoesOn c (suc n) ⊎ Stopped c (suc n)
    by (Some a) e = inr (n, omega arith, inl (a, record { ended = e; least = g.goes_on; never = g.never }))
    by None e = elim (cases_lt n (slice_index c.watchdogs (sub_at c n))) [
      | inl early ↦
          let not_now : ¬ (IsMissed c n) = λ missed. omega (arith, early, missed.late) in
          inl (record {
            goes_on = one_more (λ m. ending_at c m ≡ None) n (suc n) refl g.goes_on e;
            never = one_more (λ m. ¬ (IsMissed c m)) n (suc n) refl g.never not_now;
          })
      | inr late ↦
          let now : IsMissed c n = record { goes_on = e; late = late } in
          inr (n, omega arith, inr (record { missed = now; least = g.never; goes_on = g.goes_on }))
    ]

so_far : (c : Course) (n : ℕ) → GoesOn c n ⊎ Stopped c n
so_far c zero = inl (record { goes_on = λ m l. absurd (omega (arith, l)); never = λ m l. absurd (omega (arith, l)) })
so_far c (suc n) = elim (so_far c n) [
  | inl goes ↦ next_cycle c n goes
  | inr s ↦ inr (s.0, omega (arith, s.1), s.2)
]

pub stops : (c : Course) → AreWatchdogs (length c.cuts) c.watchdogs → (n : ℕ) × (n ≤ last_watchdog c) × Stops c n
stops c dogs =
    let last : ℕ = last_watchdog c in
    elim (so_far c (suc last)) [
      | inl goes ↦
          let missed : IsMissed c last = record {
            goes_on = goes.goes_on last (omega arith);
            late = dogs.rise (sub_at c last) (length c.cuts) (few_subs c last) (omega arith);
          } in
          absurd (goes.never last (omega arith) missed)
      | inr s ↦ (s.0, omega (arith, s.1), s.2)
    ]

-- where a checkpoint is missed first, its watchdog has just run out
pub runs_out : (c : Course) (n : ℕ) → AreWatchdogs (length c.cuts) c.watchdogs → MissesFirst c n
    → n ≤ slice_index c.watchdogs (sub_at c n)
runs_out c zero dogs h = omega arith
runs_out c (suc n) dogs h = elim (cases_lt n (slice_index c.watchdogs (sub_at c n))) [
  | inl early ↦
      let rise = dogs.rise (sub_at c n) (sub_at c (suc n)) (sub_grows c n) (few_subs c (suc n)) in
      omega (arith, early, rise)
  | inr late ↦ absurd (h.least n (omega arith) (record { goes_on = h.goes_on n (omega arith); late = late }))
]
