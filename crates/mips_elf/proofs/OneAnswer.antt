-- A file has one answer, but for want of memory.
use Rattle.std.proofs.Common.{◌≡◌, ℕ, ◌⊎◌, inl, inr, List, Option, Some, None, refl, sym, ap, ◌∙◌, arith}
use Rattle.std.specs.Prelude.{◌≢◌, Result, Ok, Err, MatchOption, IsErrAnd}
use Rattle.visa_io.specs.declared.records.Image.{Image}
use Rattle.mips_elf.specs.declared.error.ElfError.{ElfError}
use Rattle.mips_elf.specs.declared.error.ElfError.TheVariants.{NotElf, Truncated, WrongClass, WrongMachine, WrongType, WrongArch, EntrySize, TooMany, Dynamic, SegmentSize, Overlap, TooBig, Memory}
use Rattle.mips_elf.specs.declared.segment.Segment.{Segment}
use Rattle.mips_elf.specs.Segments.{IsLeastRefused, loads_of, segments_of}
use Rattle.mips_elf.specs.Images.{IsAnswer, IsLateAnswer, MayLoad, MayNotLoad, NoneRefused, early_fault}

-- what is answered of a file whose headers have this fault, or none
abbrev By : List ℕ → Option ElfError → Result Image ElfError → Type 0
By bytes o result =
    MatchOption o (IsLateAnswer bytes (loads_of (segments_of bytes)) result) (λ fault. IsErrAnd result (λ e. (e ≡ fault) ⊎ (e ≡ Memory)))

one-by : (bytes : List ℕ) (o : Option ElfError) (i j : Image) → By bytes o (Ok i) → By bytes o (Ok j) → i ≡ j
one-by bytes None i j first second = first.1 ∙ sym second.1
one-by bytes (Some fault) i j first second = absurd first

-- a file has one image
pub one_image : (bytes : List ℕ) (i j : Image) → IsAnswer bytes (Ok i) → IsAnswer bytes (Ok j) → i ≡ j
unfolding IsAnswer
one_image bytes i j first second = one-by bytes (early_fault bytes) i j first second

load-excludes : (loads : List Segment) (e : ElfError) → MayLoad loads → MayNotLoad loads e → e ≡ Memory
load-excludes loads (Overlap at) may why = absurd (may.apart at why.refused)
load-excludes loads TooBig may why = absurd (omega (arith, may.small, why.1))
load-excludes loads Memory may why = refl
load-excludes loads NotElf may why = absurd why
load-excludes loads (Truncated offset) may why = absurd why
load-excludes loads WrongClass may why = absurd why
load-excludes loads WrongMachine may why = absurd why
load-excludes loads WrongType may why = absurd why
load-excludes loads WrongArch may why = absurd why
load-excludes loads EntrySize may why = absurd why
load-excludes loads TooMany may why = absurd why
load-excludes loads Dynamic may why = absurd why
load-excludes loads (SegmentSize number) may why = absurd why

by-excludes : (bytes : List ℕ) (o : Option ElfError) (i : Image) (e : ElfError) → By bytes o (Ok i) → By bytes o (Err e) → e ≡ Memory
by-excludes bytes None i e first second = load-excludes (loads_of (segments_of bytes)) e first.0 second
by-excludes bytes (Some fault) i e first second = absurd first

-- a file with an image is refused for want of memory alone
pub image_excludes : (bytes : List ℕ) (i : Image) (e : ElfError) → IsAnswer bytes (Ok i) → IsAnswer bytes (Err e) → e ≡ Memory
unfolding IsAnswer
image_excludes bytes i e first second = by-excludes bytes (early_fault bytes) i e first second

-- why the segments may not be loaded, but for want of memory
abbrev Why : List Segment → ElfError → Type 0
Why loads e = ((at : ℕ) × (e ≡ Overlap at) × IsLeastRefused loads at) ⊎ ((e ≡ TooBig) × NoneRefused loads)

why-not : (loads : List Segment) (e : ElfError) → MayNotLoad loads e → e ≢ Memory → Why loads e
why-not loads (Overlap at) why some = inl (at, refl, why)
why-not loads TooBig why some = inr (refl, why.0)
why-not loads Memory why some = absurd (some refl)
why-not loads NotElf why some = absurd why
why-not loads (Truncated offset) why some = absurd why
why-not loads WrongClass why some = absurd why
why-not loads WrongMachine why some = absurd why
why-not loads WrongType why some = absurd why
why-not loads WrongArch why some = absurd why
why-not loads EntrySize why some = absurd why
why-not loads TooMany why some = absurd why
why-not loads Dynamic why some = absurd why
why-not loads (SegmentSize number) why some = absurd why

one-least : (loads : List Segment) (a b : ℕ) → IsLeastRefused loads a → IsLeastRefused loads b → a ≡ b
one-least loads a b first second = omega (arith, first.least b second.refused, second.least a first.refused)

one-why : (loads : List Segment) (e f : ElfError) → Why loads e → Why loads f → e ≡ f
one-why loads e f (inl x) (inl y) = x.1 ∙ ap (λ at. Overlap at) (one-least loads x.0 y.0 x.2 y.2) ∙ sym y.1
one-why loads e f (inl x) (inr y) = absurd (y.1 x.0 x.2.refused)
one-why loads e f (inr x) (inl y) = absurd (x.1 y.0 y.2.refused)
one-why loads e f (inr x) (inr y) = x.0 ∙ sym y.0

is-fault : (fault e : ElfError) → (e ≡ fault) ⊎ (e ≡ Memory) → e ≢ Memory → e ≡ fault
is-fault fault e (inl same) some = same
is-fault fault e (inr memory) some = absurd (some memory)

by-fault : (bytes : List ℕ) (o : Option ElfError) (e f : ElfError) → By bytes o (Err e) → By bytes o (Err f) → e ≢ Memory → f ≢ Memory → e ≡ f
by-fault bytes None e f first second some more =
    one-why (loads_of (segments_of bytes)) e f (why-not (loads_of (segments_of bytes)) e first some) (why-not (loads_of (segments_of bytes)) f second more)
by-fault bytes (Some fault) e f first second some more = is-fault fault e first some ∙ sym (is-fault fault f second more)

-- a file without an image has one refusal
pub one_refusal : (bytes : List ℕ) (e f : ElfError) → IsAnswer bytes (Err e) → IsAnswer bytes (Err f) → e ≢ Memory → f ≢ Memory → e ≡ f
unfolding IsAnswer
one_refusal bytes e f first second some more = by-fault bytes (early_fault bytes) e f first second some more
