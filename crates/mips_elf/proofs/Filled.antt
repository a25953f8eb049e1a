-- An image has as many bytes as its spans hold.
use Rattle.std.proofs.Common.{◌≡◌, ℕ, zero, suc, ◌+◌, ◌-◌, ◌<◌, ◌≤◌, ◌^◌, true, min, List, [], ◌∷◌, map, length, get_or, refl, sym, ap, ◌∙◌, subst, arith, length-append, length-drop}
use Rattle.std.proofs.lemmas.Bool.Decides.{nat_tests}
use Rattle.std.proofs.lemmas.List.{length-take}
use Rattle.std.proofs.Math.ListN.{length-replicate}
use Rattle.std.specs.Prelude.{All}
use Rattle.std.specs.List.{AllByRecursion}
use Rattle.visa_io.specs.declared.records.Image.{Image}
use Rattle.visa_io.specs.declared.records.Span.{Span}
use Rattle.visa_io.specs.ImageCode.{total_len, IsFilled}
use Rattle.mips_elf.specs.declared.segment.Segment.{Segment}
use Rattle.mips_elf.specs.Header.{lies_in}
use Rattle.mips_elf.specs.Images.{IsSound, NoneRefused, span_of, content_of, contents_of}
use Rattle.mips_elf.proofs.Overlaps.{ends_below}
use Rattle.mips_elf.proofs.Loads.{sound_at}

in_file : (len at count : ℕ) → lies_in len at count ≡ true → min count (len - at) ≡ count
in_file len at count h = grind (arith, nat_tests)

content_len : (bytes : List ℕ) (s : Segment) → IsSound (length bytes) s → length (content_of bytes s) ≡ s.memory_len
content_len bytes s sound =
    let whole : min s.file_len (length bytes - s.offset) ≡ s.file_len = in_file (length bytes) s.offset s.file_len sound.lies in
    let room : s.file_len ≤ s.memory_len = sound.room in
    simp (length-append, length-take, length-drop, length-replicate) (omega arith)

contents_len : (bytes : List ℕ) (loads : List Segment) → AllByRecursion (IsSound (length bytes)) loads → length (contents_of bytes loads) ≡ total_len (map span_of loads)
contents_len bytes [] all = refl
contents_len bytes (s ∷ rest) all =
    length-append (content_of bytes s) (contents_of bytes rest) ∙ omega (arith, content_len bytes s all.0, contents_len bytes rest all.1)

each : (P : Segment → Type 0) (loads : List Segment) → ((k : ℕ) (d : Segment) → k < length loads → P (get_or loads k d)) → AllByRecursion P loads
each P [] h = tt
each P (s ∷ rest) h = (h 0 s (omega arith), each P rest (λ k d lt. h (suc k) d (omega arith)))

spans_end : (loads : List Segment) → AllByRecursion (λ s. s.address + s.memory_len ≤ 2 ^ 32) loads
    → (k : ℕ) (d : Span) → k < length (map span_of loads) → (get_or (map span_of loads) k d).start + (get_or (map span_of loads) k d).len ≤ 2 ^ 32
spans_end [] all k d lt = absurd (omega arith)
spans_end (s ∷ rest) all zero d lt = all.0
spans_end (s ∷ rest) all (suc k) d lt = spans_end rest all.1 k d (omega arith)

pub filled : (image : Image) (bytes : List ℕ) (loads : List Segment) → image.spans ≡ map span_of loads → image.bytes ≡ contents_of bytes loads
    → AllByRecursion (IsSound (length bytes)) loads → NoneRefused loads → IsFilled image
filled image bytes loads spans contents sound apart = record {
  bytes = ap length contents ∙ contents_len bytes loads sound ∙ ap total_len (sym spans);
  ends =
      let P : List Span → Type 0 = λ xs. All (λ span. span.start + span.len ≤ 2 ^ 32) xs in
      subst P (sym spans) (spans_end loads (each (λ s. s.address + s.memory_len ≤ 2 ^ 32) loads
      (λ k d lt. omega (arith, ends_below loads k d lt (sound_at (IsSound (length bytes)) loads sound k d lt).some apart))));
}
