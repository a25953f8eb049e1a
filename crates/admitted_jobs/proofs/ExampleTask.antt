-- The example's task, within its limits.
use Rattle.std.proofs.Common.{◌≡◌, refl, ℕ, zero, suc, ◌<◌, ◌^◌, [], ◌∷◌, true, arith, lit<, lit≤}
use Rattle.std.specs.Prelude.{All, None}
use Rattle.std.proofs.lemmas.List.Elements.{All-nil}
use Rattle.visa_io.specs.declared.records.FactLine.{FactLine}
use Rattle.visa_io.specs.declared.records.Machine.{Machine}
use Rattle.visa_io.specs.declared.records.Region.{Region}
use Rattle.task_text.specs.Limits.{AreRanges, IsMachine, IsRange, KeepsLimits, Within}
use Rattle.task_text.specs.Table.{in_limits, is_name}
use Rattle.task_text.specs.declared.row.Row.TheVariants as row
use Rattle.task_text.specs.declared.task.Source.TheVariants.{Name}
use Rattle.task_text.specs.declared.task.Task.{Task}

abbrev pub machine : Machine
machine = record {
  width = 1;
  rob = 8;
  mul = 1;
  div = 1;
  mem_ps = 1000;
  store_ps = 1000;
  settle_ps = 0;
  start_ps = 0;
  icache = None;
  dcache = None;
}

-- a job takes at most eleven cycles; a switch would take more time than there is
abbrev pub task : Task
task = record {
  machine = machine;
  big = true;
  points = 1000 ∷ [];
  period_ps = 20000;
  deadline_ps = 20000;
  image = Name (97 ∷ []);
  entry = None;
  stack = 0;
  ram = [];
  input_at = 0;
  input_len = 0;
  out_max = 1;
  show = [];
  cuts = 4 ∷ [];
  regions = [];
  facts = [];
}

all_one : {X : Type 0} (P : X → Type 0) (x : X) → P x → All P (x ∷ [])
all_one P x is zero d below = is
all_one P x is (suc k) d below = absurd (omega (arith, below))

machine_limits : IsMachine machine
machine_limits = record {
  width = refl;
  rob = (lit≤ tt, lit≤ tt);
  mul = (lit≤ tt, lit≤ tt);
  div = (lit≤ tt, lit≤ tt);
  mem_ps = (lit≤ tt, lit≤ tt);
  store_ps = (lit≤ tt, lit≤ tt);
  settle_ps = lit≤ tt;
  start_ps = lit≤ tt;
  icache = refl;
  dcache = refl;
}

no_ranges : (number least most : ℕ) → AreRanges number least most []
no_ranges number least most = record { few = omega arith; each = All-nil (IsRange least most) }

pub limits : KeepsLimits task
unfolding is_name
limits = record {
  machine = machine_limits;
  points = record {
    some = lit< tt;
    few = lit≤ tt;
    each = all_one (Within 100 (10 ^ 6)) 1000 (lit≤ tt, lit≤ tt);
    falling = (All-nil (λ q. q < 1000), tt);
  };
  period = (lit≤ tt, lit≤ tt);
  deadline = (lit≤ tt, lit≤ tt);
  image = record { form = refl; short = lit≤ tt };
  entry = refl;
  stack = lit< tt;
  ram = no_ranges 32 1 (2 ^ 32);
  input_len = lit≤ tt;
  input_ends = lit≤ tt;
  out_max = (lit≤ tt, lit≤ tt);
  show = no_ranges 16 1 256;
  few_cuts = lit≤ tt;
  cuts = all_one (λ a. a < 2 ^ 32) 4 (lit< tt);
  few_regions = lit≤ tt;
  regions = All-nil (λ (r : Region). in_limits (row.Loop r) ≡ true);
  few_facts = lit≤ tt;
  facts = All-nil (λ (f : FactLine). in_limits (row.Fact f) ≡ true);
}
