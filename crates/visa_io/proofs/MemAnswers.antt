-- What files in memory answer, once it is known whether the read is made to fail.
use Rattle.std.proofs.Common.{◌≡◌, ℕ, ◌==◌, Bool, List, sym, ap, ◌∙◌, subst}
use Rattle.std.specs.Prelude.{Result, Err, if◌then◌else◌}
use Rattle.std.specs.List.{list_any}
use Rattle.visa_io.specs.declared.files.FileFault.{FileFault}
use Rattle.visa_io.specs.declared.files.FileFault.TheVariants.{Failed, Memory}
use Rattle.visa_io.specs.declared.mem_files.MemFile.{MemFile}
use Rattle.visa_io.specs.declared.mem_files.MemFiles.{MemFiles}
use Rattle.visa_io.specs.Answers.{OrMemory}
use Rattle.visa_io.specs.Faults.{risen}
use Rattle.visa_io.specs.MemoryFiles.{held, mem_answer, within}

pub answered : (m : MemFiles) (files : List MemFile) (numbers bytes name : List ℕ) (max number : ℕ) (fails : Bool) (answer noted : Result (List ℕ) FileFault)
    → files ≡ m.files → bytes ≡ name → numbers ≡ m.fails → number ≡ risen m.log.reads → fails ≡ list_any (λ n. n == number) numbers
    → OrMemory (Err Memory) (λ wanted. wanted ≡ (if fails then Err Failed else within max (held files bytes))) answer → noted ≡ answer
    → OrMemory (Err Memory) (λ wanted. wanted ≡ mem_answer m name max) noted
answered m files numbers bytes name max number fails answer noted is_files is_name is_numbers is_number is_made is_answer is_noted =
    let made : fails ≡ list_any (λ n. n == risen m.log.reads) m.fails
    = is_made ∙ ap (λ xs. list_any (λ n. n == number) xs) is_numbers ∙ ap (λ at. list_any (λ n. n == at) m.fails) is_number in
    let By : Bool → List MemFile → List ℕ → Type 0
    = λ b fs bs. OrMemory {A = Result (List ℕ) FileFault} (Err Memory) (λ wanted. wanted ≡ (if b then Err Failed else within max (held fs bs))) answer in
    let Is : Result (List ℕ) FileFault → Type 0 = λ r. OrMemory {A = Result (List ℕ) FileFault} (Err Memory) (λ wanted. wanted ≡ mem_answer m name max) r in
    let Made : Bool → Type 0 = λ b. By b m.files name in
    let Of : List MemFile → Type 0 = λ fs. By fails fs name in
    let Under : List ℕ → Type 0 = λ bs. By fails files bs in
    subst Is (sym is_noted) (subst Made made (subst Of is_files (subst Under is_name is_answer)))
