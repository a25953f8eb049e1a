use Rattle.std.proofs.Common.{◌≡◌, ℕ, List, [], ◌∷◌, ◌++◌, append_assoc}
use Rattle.std.specs.Prelude.{codes}
use Rattle.std.specs.Fmt.{decimal}
use Rattle.log_text.specs.Lines.{ending_text, job_line, mode_text}
use Rattle.log_text.proofs.write.write_job.Goals as goal

-- a line that is written in eight parts
eight_parts : (a b c d e f g h t0 t1 t2 t3 t4 t5 t6 t7 t8 : List ℕ) → t0 ≡ [] → t1 ≡ t0 ++ a → t2 ≡ t1 ++ b → t3 ≡ t2 ++ c → t4 ≡ t3 ++ d
    → t5 ≡ t4 ++ e → t6 ≡ t5 ++ f → t7 ≡ t6 ++ g → t8 ≡ t7 ++ h → t8 ≡ a ++ (b ++ (c ++ (d ++ (e ++ (f ++ (g ++ h))))))
eight_parts a b c d e f g h t0 t1 t2 t3 t4 t5 t6 t7 t8 e0 e1 e2 e3 e4 e5 e6 e7 e8 =
    rw (e8, e7, e6, e5, e4, e3, e2, e1, e0) (simp append_assoc)

pub returns-clause-line : goal.returns-clause-line
unfolding job_line
returns-clause-line c =
    eight_parts (codes "job ") (decimal c.args.job.now.number) (mode_text c.args.job.now.mode) (codes " end ")
    (decimal c.args.job.now.end_ps) (codes " ") (ending_text c.args.job.now.step) (10 ∷ []) _ _ _ _ _ _ _ _ _
    c.clear.ensures.line c.add.ensures.line c.add_decimal.ensures.line c.add_mode.ensures.line c.add-2.ensures.line
    c.add_decimal-2.ensures.line c.add-3.ensures.line c.add_ending.ensures.line c.add-4.ensures.line
