-- The past counts of a jobs text are of sub-tasks of the task, and told one after the other.
use Rattle.std.proofs.Common.{◌≡◌, ◌∙◌, sym, ap, subst, ℕ, ◌+◌, ◌^◌, ◌<◌, ◌≤◌, true, nat_le, nat_lt, List, [], ◌∷◌, length, take, get_or, arith}
use Rattle.std.specs.Prelude.{map, reverse, ◌&&◌}
use Rattle.std.specs.Int.{is_in_range}
use Rattle.std.proofs.lemmas.Grind.{common_steps}
use Rattle.std.proofs.lemmas.List.{map_more, reverse-append}
use Rattle.std.proofs.lemmas.List.Elements.{All-nil, All-push}
use Rattle.text_fields.proofs.Digits.{and_parts}
use Rattle.frequency_pick.specs.Counts.{Count, StandsFor, count}
use Rattle.task_text.specs.declared.jobs.Jobs.{Jobs}
use Rattle.task_text.specs.declared.jobs.Past.{Past}
use Rattle.task_text.specs.declared.task.Task.{Task}
use Rattle.task_text.specs.JobsTexts.{IsJobs, IsStart, JobsRow, in_limits, job, jobs_of, past, version}
use Rattle.visa_cli.specs.Run.{told_counts}
use Rattle.visa_cli.specs.Running.{ArePast}

in_range : (n most : ℕ) → is_in_range 1 most n ≡ true → (1 ≤ n) × (n ≤ most)
in_range n most is = (grind (arith, common_steps, is), grind (arith, common_steps, is))

sub_within : (t : Task) (p : Past) → in_limits t (past p) ≡ true → (1 ≤ p.sub) × (p.sub ≤ length t.cuts + 1)
unfolding in_limits
sub_within t p is =
    let inner = and_parts (nat_lt p.sub (2 ^ 32)) (is_in_range 1 (length t.cuts + 1) p.sub && nat_le p.cycles (10 ^ 18)) is in
    in_range p.sub (length t.cuts + 1) (and_parts (is_in_range 1 (length t.cuts + 1) p.sub) (nat_le p.cycles (10 ^ 18)) inner.1).0

past_kept : (t : Task) (xs : List JobsRow) → IsStart t xs → ArePast (length t.cuts + 1) (jobs_of xs).past
past_kept t [] s = All-nil (λ (p : Past). (1 ≤ p.sub) × (p.sub ≤ length t.cuts + 1))
past_kept t (version ∷ xs) s = past_kept t xs s.2
past_kept t (past p ∷ xs) s =
    All-push (λ (q : Past). (1 ≤ q.sub) × (q.sub ≤ length t.cuts + 1)) (jobs_of xs).past p (past_kept t xs s.2) (sub_within t p s.1)
past_kept t (job bs ∷ xs) s = past_kept t xs s.2

pub are_past : (bytes : List ℕ) (t : Task) (j : Jobs) → IsJobs bytes t j → ArePast (length t.cuts + 1) j.past
are_past bytes t j is =
    let Of : Jobs → Type 0 = λ js. ArePast (length t.cuts + 1) js.past in subst Of (sym is.jobs) (past_kept t is.rows is.whole.0)

-- a past count is of a sub-task that a runner knows
pub sub_known : (ps : List Past) (i subs n : ℕ) (d : Past) → ArePast subs ps → i < length ps → subs ≡ n → (get_or ps i d).sub ≤ n
sub_known ps i subs n d are below same = omega (arith, (are i d below).1, same)

-- no past counts are those of any sub-tasks
pub none_past : (subs : ℕ) (j : Jobs) → j.past ≡ [] → ArePast subs j.past
none_past subs j is = let Of : List Past → Type 0 = λ ps. ArePast subs ps in subst Of (sym is) (All-nil (λ (p : Past). (1 ≤ p.sub) × (p.sub ≤ subs)))

-- one count more is told
told_more : (ps : List Past) (i : ℕ) (d : Past) → i < length ps
    → told_counts (take (i + 1) ps) ≡ count (get_or ps i d).sub (get_or ps i d).cycles ∷ told_counts (take i ps)
told_more ps i d below =
    let f : Past → Count = λ (p : Past). count p.sub p.cycles in
    ap reverse (map_more f ps i d below) ∙ reverse-append (map f (take i ps)) (f (get_or ps i d) ∷ [])

pub told_next : (history : List (List ℕ)) (ps : List Past) (i : ℕ) (d : Past) → i < length ps
    → StandsFor history (count (get_or ps i d).sub (get_or ps i d).cycles ∷ told_counts (take i ps)) → StandsFor history (told_counts (take (i + 1) ps))
told_next history ps i d below stands =
    let For : List Count → Type 0 = λ cs. StandsFor history cs in subst For (sym (told_more ps i d below)) stands
