use Rattle.std.proofs.Common.{ℕ, zero, suc, ◌+◌, ◌≤◌, ◌^◌, List, [], ◌∷◌, arith}
use Rattle.std.specs.List.{All}
use Rattle.visa_io.specs.declared.records.Span.{Span}
use Rattle.visa_tests.proofs.logs.recorded.Goals as goal

each_of_two : {X : Type 0} (P : X → Type 0) (a b : X) → P a → P b → All P (a ∷ b ∷ [])
each_of_two P a b pa pb zero d below = pa
each_of_two P a b pa pb (suc zero) d below = pb
each_of_two P a b pa pb (suc (suc k)) d below = absurd (omega arith)

pub put_record-put-requires-clause-lengths : goal.put_record-put-requires-clause-lengths
put_record-put-requires-clause-lengths g c =
    each_of_two (λ (s : Span). s.len ≤ 256) c.span.result c.span-2.result (omega (arith, c.span.ensures.len)) (omega (arith, c.span-2.ensures.len))

pub put_record-put-requires-clause-ends : goal.put_record-put-requires-clause-ends
put_record-put-requires-clause-ends g c =
    each_of_two (λ (s : Span). s.start + s.len ≤ 2 ^ 32) c.span.result c.span-2.result
    (omega (arith, c.span.ensures.start, c.span.ensures.len)) (omega (arith, c.span-2.ensures.start, c.span-2.ensures.len))
