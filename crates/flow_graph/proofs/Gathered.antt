-- The lines of the first spans, in the loop over spans.
use Rattle.std.proofs.Common.{ℕ, ◌+◌, ◌*◌, ◌/◌, ◌^◌, ◌<◌, ◌≤◌, ◌≡◌, refl, sym, subst, ◌∙◌, List, [], ◌∷◌, ◌++◌, drop, length, get_or, arith, append_assoc, add-one, drop-cons, length-drop}
use Rattle.std.proofs.lemmas.List.{append-nil}
use Rattle.std.proofs.Math.ListN.{drop_of_length-le}
use Rattle.visa_io.specs.declared.records.Span.{Span}
use Rattle.flow_graph.specs.Table.{HaveWords, lines_of, lines_upto}
use Rattle.flow_graph.specs.declared.table.Line.{Line}

-- what is left is that of the spans to come
pub record IsGathered (spans : List Span) (words : List ℕ) (i : ℕ) (lines : List Line) (rest : List ℕ) : Type 0 where
  pub have : HaveWords (drop i spans) (length rest)
  pub same : lines ++ lines_of (drop i spans) rest ≡ lines_of spans words

pub gathered_none : (spans : List Span) (words : List ℕ) (lines : List Line) → lines ≡ [] → HaveWords spans (length words) → IsGathered spans words 0 lines words
gathered_none spans words lines e have = record { have = have; same = rw e refl }

head_of : (spans : List Span) (i : ℕ) (d : Span) → i < length spans → drop i spans ≡ get_or spans i d ∷ drop (i + 1) spans
head_of spans i d below = rw add-one (drop-cons spans i d below)

-- the next span has its words, and ends by 2^32
pub next_span : (spans : List Span) (words : List ℕ) (i : ℕ) (lines : List Line) (rest : List ℕ) (d : Span) → i < length spans → IsGathered spans words i lines rest → ((get_or spans i d).len / 4 ≤ length rest) × ((get_or spans i d).start + 4 * ((get_or spans i d).len / 4) ≤ 2 ^ 32)
unfolding HaveWords
next_span spans words i lines rest d below g =
    let have : HaveWords (get_or spans i d ∷ drop (i + 1) spans) (length rest) = subst (λ (l : List Span). HaveWords l (length rest)) (head_of spans i d below) g.have in
    (have.3, omega (arith, have.1, have.2))

pub gathered_next : (spans : List Span) (words : List ℕ) (i : ℕ) (lines more : List Line) (rest left : List ℕ) (d : Span) → i < length spans → more ≡ lines ++ lines_upto (get_or spans i d).start rest ((get_or spans i d).len / 4) → left ≡ drop ((get_or spans i d).len / 4) rest → IsGathered spans words i lines rest → IsGathered spans words (i + 1) more left
unfolding HaveWords lines_of
gathered_next spans words i lines more rest left d below m l g = next (get_or spans i d) m l
    (subst (λ (s : List Span). HaveWords s (length rest)) (head_of spans i d below) g.have)
    (subst (λ (s : List Span). lines ++ lines_of s rest ≡ lines_of spans words) (head_of spans i d below) g.same)
  where
    next : (span : Span) → more ≡ lines ++ lines_upto span.start rest (span.len / 4) → left ≡ drop (span.len / 4) rest → HaveWords (span ∷ drop (i + 1) spans) (length rest) → lines ++ lines_of (span ∷ drop (i + 1) spans) rest ≡ lines_of spans words → IsGathered spans words (i + 1) more left
    next span m l have same = record {
      have = rw l (subst (λ (n : ℕ). HaveWords (drop (i + 1) spans) n) (sym (length-drop (span.len / 4) rest)) have.4);
      same = rw (m, l) (append_assoc lines (lines_upto span.start rest (span.len / 4)) (lines_of (drop (i + 1) spans) (drop (span.len / 4) rest)) ∙ same);
    }

pub gathered_all : (spans : List Span) (words : List ℕ) (i : ℕ) (lines : List Line) (rest : List ℕ) → length spans ≤ i → IsGathered spans words i lines rest → lines ≡ lines_of spans words
unfolding lines_of
gathered_all spans words i lines rest over g =
    sym (append-nil lines) ∙ subst (λ (s : List Span). lines ++ lines_of s rest ≡ lines_of spans words) (drop_of_length-le spans over) g.same
