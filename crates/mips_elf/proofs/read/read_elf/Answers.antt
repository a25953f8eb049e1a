use Rattle.std.proofs.Common.{◌≡◌, List, sym, subst, length, ◌∙◌}
use Rattle.std.proofs.lemmas.Result.{err_from_is_err_and}
use Rattle.std.specs.List.{AllByRecursion}
use Rattle.mips_elf.specs.declared.segment.Segment.{Segment}
use Rattle.mips_elf.specs.Segments.{segments_in}
use Rattle.mips_elf.specs.Images.{IsSound, NoneRefused, MayLoad, MayNotLoad, image_from}
use Rattle.mips_elf.proofs.Loads.{all_sound, header_answer, segments_answer, load_answer, image_answer, want_answer}
use Rattle.mips_elf.proofs.read.read_elf.Goals as goal

pub returns-in_err-header-clause-answer : goal.returns-in_err-header-clause-answer
returns-in_err-header-clause-answer c =
    let p = err_from_is_err_and c.from_residual.result c.from_residual.ensures.1 in
    rw (p.1, p.2) (header_answer c.args.bytes.now c.in_err-header.field-0.0 c.in_err-header.ensures.err)

pub returns-in_err-loads-clause-answer : goal.returns-in_err-loads-clause-answer
returns-in_err-loads-clause-answer c =
    let p = err_from_is_err_and c.from_residual-in_err-loads.result c.from_residual-in_err-loads.ensures.1 in
    rw (p.1, p.2) (segments_answer c.args.bytes.now c.in_ok-header.header c.in_err-loads.field-0.0 c.in_ok-header.ensures.ok.0 c.in_ok-header.ensures.ok.1 c.in_err-loads.ensures.fault)

pub returns-in_err-check_memory-clause-answer : goal.returns-in_err-check_memory-clause-answer
returns-in_err-check_memory-clause-answer c =
    let p = err_from_is_err_and c.from_residual-in_err-check_memory.result c.from_residual-in_err-check_memory.ensures.1 in
    let P : List Segment → Type 0 = λ xs. MayNotLoad xs c.in_err-check_memory.field-0.0 in
    rw (p.1, p.2) (load_answer c.args.bytes.now c.in_ok-header.header c.in_ok-loads.loads.items c.in_err-check_memory.field-0.0
    c.in_ok-header.ensures.ok.0 c.in_ok-header.ensures.ok.1 c.in_ok-loads.ensures.no_fault c.in_ok-loads.ensures.loads
    (subst P c.deref.ensures.value c.in_err-check_memory.ensures))

pub build-requires-clause-sound : goal.build-requires-clause-sound
build-requires-clause-sound c =
    let P : List Segment → Type 0 = λ xs. AllByRecursion (IsSound (length c.args.bytes.now)) xs in
    subst P (sym c.deref-2.ensures.value) (all_sound (length c.args.bytes.now) (segments_in c.in_ok-header.header c.args.bytes.now) c.in_ok-loads.loads.items c.in_ok-loads.ensures.no_fault c.in_ok-loads.ensures.loads)

pub build-requires-clause-apart : goal.build-requires-clause-apart
build-requires-clause-apart c =
    let P : List Segment → Type 0 = λ xs. NoneRefused xs in
    subst P (c.deref.ensures.value ∙ sym c.deref-2.ensures.value) c.in_ok-check_memory.ensures.apart

pub returns-in_err-build-clause-answer : goal.returns-in_err-build-clause-answer
returns-in_err-build-clause-answer c =
    let p = err_from_is_err_and c.from_residual-in_err-build.result c.from_residual-in_err-build.ensures.1 in
    rw (p.1, p.2) (want_answer c.args.bytes.now)

pub returns-clause-answer : goal.returns-clause-answer
returns-clause-answer c =
    let P : List Segment → Type 0 = λ xs. MayLoad xs in
    let Q : List Segment → Type 0 = λ xs. c.in_ok-build.field-0 ≡ image_from c.in_ok-header.header c.args.bytes.now xs in
    image_answer c.args.bytes.now c.in_ok-header.header c.in_ok-loads.loads.items c.in_ok-build.field-0
    c.in_ok-header.ensures.ok.0 c.in_ok-header.ensures.ok.1 c.in_ok-loads.ensures.no_fault c.in_ok-loads.ensures.loads
    (subst P c.deref.ensures.value c.in_ok-check_memory.ensures) (subst Q c.deref-2.ensures.value c.in_ok-build.ensures.image)
