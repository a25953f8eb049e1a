use Rattle.std.proofs.Common.{rules, ◌≡◌, replicate, Some, None, arith}
use Rattle.mips_ref.specs.Held.{firsts_from}
use Rattle.mips_ref.specs.Layout.{ByAddress, first_refused}
use Rattle.mips_ref.specs.Memory.{total_len}
use Rattle.mips_ref.proofs.Placed.{found-none, found-refused, sorted-kept, sorted-len, sorted-made, sorted-short}
use Rattle.mips_ref.proofs.memory.Memory.new.Goals as goal

pub returns-in-Some : goal.returns-in-Some
returns-in-Some c =
    let sorted : ByAddress c.args.spans.now c.in_ok-held.held.items = search rules in
    let found : first_refused 0 c.in_ok-held.held.items ≡ Some c.in-Some.at = search rules in
    found-refused _ _ _ sorted found

pub total_len-total-requires : goal.total_len-total-requires
total_len-total-requires c =
    let sorted : ByAddress c.args.spans.now c.in_ok-held.held.items = search rules in
    let none : first_refused 0 c.in_ok-held.held.items ≡ None = search rules in
    let short = sorted-short c.args.spans.now c.in_ok-held.held.items sorted none in
    rw c.deref-2.ensures.value (omega (arith, short))

pub returns-then-total-gt-GREATEST : goal.returns-then-total-gt-GREATEST
returns-then-total-gt-GREATEST c =
    let sorted : ByAddress c.args.spans.now c.in_ok-held.held.items = search rules in
    let none : first_refused 0 c.in_ok-held.held.items ≡ None = search rules in
    let total : c.total_len-total.result ≡ total_len c.in_ok-held.held.items = search rules in
    let len = sorted-len c.args.spans.now c.in_ok-held.held.items sorted in
    ((found-none _ _ sorted none).1, omega (arith, total, len, c.if-total-gt-GREATEST.true))

pub invariant_of-result : goal.invariant_of-result
invariant_of-result c =
    let sorted : ByAddress c.args.spans.now c.in_ok-held.held.items = search rules in
    let none : first_refused 0 c.in_ok-held.held.items ≡ None = search rules in
    let total : c.total_len-total.result ≡ total_len c.in_ok-held.held.items = search rules in
    let zeros : c.in_ok-bytes.bytes.items ≡ replicate c.total_len-total.result 0 = search rules in
    let firsts : c.in_ok-firsts.firsts.items ≡ firsts_from 0 c.in_ok-held.held.items = search rules in
    sorted-kept _ _ c.args.big _ _ sorted none (omega (arith, total, c.if-total-gt-GREATEST.false)) (rw total at zeros) firsts

pub returns : goal.returns
returns c =
    let sorted : ByAddress c.args.spans.now c.in_ok-held.held.items = search rules in
    let none : first_refused 0 c.in_ok-held.held.items ≡ None = search rules in
    let total : c.total_len-total.result ≡ total_len c.in_ok-held.held.items = search rules in
    let zeros : c.in_ok-bytes.bytes.items ≡ replicate c.total_len-total.result 0 = search rules in
    sorted-made _ _ c.args.big _ sorted none (omega (arith, total, c.if-total-gt-GREATEST.false)) (rw total at zeros)
