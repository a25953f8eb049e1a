use Rattle.std.proofs.Common.{◌+◌, ◌*◌, ◌∙◌, sym, ap, arith}
use Rattle.mips_text.specs.Targets.{IsTargetRead, IsTargetEnd, OpensTargetEnd}
use Rattle.mips_text.specs.Faults.{IsFault}
use Rattle.mips_text.proofs.Arcs.{room_next, small_next}
use Rattle.mips_text.proofs.TargetsRead.{ok_map, err_map, not_hex, not_reached, read_behind, fault_behind}
use Rattle.mips_text.proofs.target.+target_end.Goals as goal

pub returns-then-not-is_hex_digit-clause-fault : goal.returns-then-not-is_hex_digit-clause-fault
returns-then-not-is_hex_digit-clause-fault t c =
    not_hex c.args.first c.args.size c.args.left c.args.value c.if-left-eq0.false c.args.text.now c.in-len1-up.len_at_least c.requires.reached (sym c.is_hex_digit.ensures ∙ c.if-not-is_hex_digit.true)

pub overflow_mul-next : goal.overflow_mul-next
overflow_mul-next t c = record { fits = omega (arith, small_next c.args.value 0 c.args.left c.if-left-eq0.false (omega arith) c.requires.room) }

pub overflow_add-next : goal.overflow_add-next
overflow_add-next t c = record { fits = omega (arith, small_next c.args.value 0 c.args.left c.if-left-eq0.false (omega arith) c.requires.room) }

pub reaches-requires-clause-room : goal.reaches-requires-clause-room
reaches-requires-clause-room t c = room_next c.args.value c.hex_digit_value.result c.args.left c.if-left-eq0.false c.hex_digit_value.ensures.low c.requires.room

pub returns-then-not-reaches-clause-fault : goal.returns-then-not-reaches-clause-fault
returns-then-not-reaches-clause-fault t c =
    not_reached c.args.first c.args.size c.args.left c.args.value c.if-left-eq0.false c.args.text.now (c.args.value * 16 + c.hex_digit_value.result) c.in-len1-up.len_at_least c.requires.reached (ap (λ d. c.args.value * 16 + d) c.hex_digit_value.ensures.value) (c.reaches.ensures.missed c.if-not-reaches.true)

pub target_end-requires : goal.target_end-requires
target_end-requires t c =
    (omega arith, (c.requires.aligned, (c.requires.some, (room_next c.args.value c.hex_digit_value.result c.args.left c.if-left-eq0.false c.hex_digit_value.ensures.low c.requires.room, c.reaches.ensures.reached c.if-not-reaches.false))))

pub returns-clause-found : goal.returns-clause-found
returns-clause-found t c =
    ok_map c.target_end.result _ (λ p. IsTargetRead c.args.first c.args.size c.args.left c.args.value c.args.text.now p.0 p.1.now)
    (λ p r. read_behind c.args.first c.args.size c.args.left c.args.value c.if-left-eq0.false c.args.text.now (c.args.value * 16 + c.hex_digit_value.result) p.0 p.1.now c.in-len1-up.len_at_least (sym c.is_hex_digit.ensures ∙ c.if-not-is_hex_digit.false) (ap (λ d. c.args.value * 16 + d) c.hex_digit_value.ensures.value) r)
    c.target_end.ensures.found

pub returns-clause-fault : goal.returns-clause-fault
returns-clause-fault t c =
    err_map c.target_end.result _ (λ rest. IsFault (IsTargetEnd c.args.first c.args.size c.args.left c.args.value) (OpensTargetEnd c.args.first c.args.size c.args.left c.args.value) c.args.text.now rest.now)
    (λ rest f. fault_behind c.args.first c.args.size c.args.left c.args.value c.if-left-eq0.false c.args.text.now (c.args.value * 16 + c.hex_digit_value.result) rest.now c.in-len1-up.len_at_least (sym c.is_hex_digit.ensures ∙ c.if-not-is_hex_digit.false) (ap (λ d. c.args.value * 16 + d) c.hex_digit_value.ensures.value) f)
    c.target_end.ensures.fault
