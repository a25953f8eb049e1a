use Rattle.std.proofs.Common.{subst, ℕ, ◌<◌, ◌≤◌, List, length}
use Rattle.subtask_cut.proofs.Members.{another_at, no_other}
use Rattle.subtask_cut.proofs.rules.is_of_another.Goals as goal

pub returns-then-is_of_other : goal.returns-then-is_of_other
returns-then-is_of_other c =
    another_at c.args.g.now c.loop-f.f c.args.c c.requires.functions c.requires.rise
    (subst (λ (l : List ℕ). c.loop-f.f < length l) c.functions-f-end.ensures c.loop-f-test.true)
    c.if-is_of_other.ensures

pub returns : goal.returns
returns c =
    no_other c.args.g.now c.loop-f.f c.args.c (subst (λ (l : List ℕ). length l ≤ c.loop-f.f) c.functions-f-end.ensures
    c.loop-f-test.false) c.loop-f.invariant
