use Rattle.std.proofs.Common.{arith, eq-eqb, sym, length}
use Rattle.std.proofs.lemmas.List.Sums.{position_or_len_is}
use Rattle.text_fields.specs.Lines.{is_feed}
use Rattle.text_fields.proofs.lines.line_end.Goals as goal

pub returns-then-b-eq-FEED-clause-place : goal.returns-then-b-eq-FEED-clause-place
returns-then-b-eq-FEED-clause-place c = sym (position_or_len_is is_feed c.args.text.now c.loop-i.i 0 (omega arith) c.loop-i.invariant (λ _. eq-eqb _ _ c.if-b-eq-FEED.true))

pub returns-clause-place : goal.returns-clause-place
returns-clause-place c = sym (position_or_len_is is_feed c.args.text.now (length c.args.text.now) 0 (omega arith) (λ k h. c.loop-i.invariant k (omega arith)) (λ h. absurd (omega arith)))
