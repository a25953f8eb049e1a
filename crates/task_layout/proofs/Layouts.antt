-- What comes of a task and its image is one thing.
use Rattle.std.proofs.Common.{◌≡◌, ℕ, suc, ◌<◌, ◌≤◌, Bool, true, false, not, List, Ok, Err, refl, sym, ap, subst, ◌∙◌, arith}
use Rattle.std.proofs.lemmas.Bool.Decides.{leb_tells}
use Rattle.std.specs.Bool.{beq}
use Rattle.std.specs.Prelude.{◌≢◌, All}
use mathlib.Core.Logic.{◌⊎◌, inl, inr}
use Rattle.visa_io.specs.declared.records.Image.{Image}
use Rattle.visa_io.specs.declared.records.Span.{Span}
use Rattle.task_text.specs.declared.task.Task.{Task}
use Rattle.mips_ref.specs.Layout.{LeastRefused, Made}
use Rattle.mips_ref.specs.Memory.{AllStorable, Flat, LaidOut}
use Rattle.mips_ref.specs.declared.layout.MemoryError.{MemoryError}
use Rattle.mips_ref.specs.declared.layout.MemoryError.TheVariants as error
use Rattle.task_layout.specs.Layout.{FirstUncovered, IsDeclared, IsEmpty, IsLaidOut, IsLayout, code_len, fault_of, filled, greatest_code, ranges_of}
use Rattle.task_layout.specs.declared.fault.LayoutFault.{LayoutFault}
use Rattle.task_layout.specs.declared.fault.LayoutFault.TheVariants.{OrderDiffers, Overlap, TooBig, CodeBig, Uncovered, Memory}
use Rattle.task_layout.proofs.Wanting.{all-declared-same, all-storable-same, one-uncovered, uncovered-not}
use Rattle.task_layout.proofs.Filling.{filled-spans}
use Rattle.task_layout.proofs.Ranges.{one_made}

one-empty : (t : Task) (i : Image) (m n : Flat) → IsEmpty t i m → IsEmpty t i n → m ≡ n
one-empty t i m n a b = one_made (ranges_of t i) i.big m n a.made b.made

-- its memory
pub one_layout : (t : Task) (i : Image) (m n : Flat) → IsLayout t i (Ok m) → IsLayout t i (Ok n) → m ≡ n
unfolding IsLayout
one_layout t i m n a b =
    a.bytes ∙ ap (filled i.spans i.bytes) (one-empty t i a.empty b.empty a.is_empty b.is_empty) ∙ sym b.bytes

-- has the ranges of the empty one
pub laid-spans : (t : Task) (i : Image) (m : Flat) (laid : IsLaidOut t i m) → m.spans ≡ laid.empty.spans
laid-spans t i m laid = ap (λ (f : Flat). f.spans) laid.bytes ∙ filled-spans i.spans i.bytes laid.empty

pub laid_out_ranges : (t : Task) (i : Image) (m : Flat) → IsLaidOut t i m → LaidOut 0 m.spans
laid_out_ranges t i m laid = subst (LaidOut 0) (sym (laid-spans t i m laid)) laid.is_empty.made.laid_out

-- a memory or a refusal, and not both
uncovered-excludes : (t : Task) (i : Image) (m n : Flat) (a : ℕ) → IsLaidOut t i m → IsEmpty t i n → FirstUncovered t n a → ⊥
uncovered-excludes t i m n a laid empty first =
    let same : n.spans ≡ m.spans =
    ap (λ (f : Flat). f.spans) (one-empty t i n laid.empty empty laid.is_empty) ∙ sym (laid-spans t i m laid) in
    uncovered-not t n a first (all-storable-same n m t.input_at t.input_len same laid.input) (all-declared-same n m t.show same laid.shows)

pub layout_excludes : (t : Task) (i : Image) (m : Flat) (e : LayoutFault) → IsLayout t i (Ok m) → IsLayout t i (Err e) → e ≡ Memory
unfolding IsLayout
layout_excludes t i m OrderDiffers laid fails = absurd (fails laid.is_empty.order)
layout_excludes t i m (Overlap a) laid fails = absurd (laid.is_empty.made.none_refused a fails.1.refused)
layout_excludes t i m TooBig laid fails = absurd (omega (arith, fails.2, laid.is_empty.made.fits))
layout_excludes t i m CodeBig laid fails = absurd (omega (arith, fails.2, laid.code_small))
layout_excludes t i m (Uncovered a) laid fails = absurd (uncovered-excludes t i m fails.0 a laid fails.1 fails.3)
layout_excludes t i m Memory laid fails = refl

-- one refusal
one-refused : (spans : List Span) (a b : ℕ) → LeastRefused spans a → LeastRefused spans b → a ≡ b
one-refused spans a b first second =
    elim (leb_tells (suc a) b) [
      | inl t ↦ absurd (second.least a t.1 first.refused)
      | inr t ↦ elim (leb_tells (suc b) a) [
        | inl u ↦ absurd (first.least b u.1 second.refused)
        | inr u ↦ omega (arith, t.1, u.1)
      ]
    ]

one-early : (t : Task) (i : Image) (m n : Flat) (a b : ℕ) → IsEmpty t i m → IsEmpty t i n → FirstUncovered t m a → FirstUncovered t n b → a ≡ b
one-early t i m n a b first second x y =
    one-uncovered t n a b (subst (λ (f : Flat). FirstUncovered t f a) (one-empty t i m n first second) x) y

one_fault : (t : Task) (i : Image) (d e : LayoutFault) → IsLayout t i (Err d) → IsLayout t i (Err e) → (d ≡ e) ⊎ (d ≡ Memory) ⊎ (e ≡ Memory)
unfolding IsLayout
one_fault t i Memory e first second = inr (inl refl)
one_fault t i OrderDiffers Memory first second = inr (inr refl)
one_fault t i (Overlap a) Memory first second = inr (inr refl)
one_fault t i TooBig Memory first second = inr (inr refl)
one_fault t i CodeBig Memory first second = inr (inr refl)
one_fault t i (Uncovered a) Memory first second = inr (inr refl)
one_fault t i OrderDiffers OrderDiffers first second = inl refl
one_fault t i OrderDiffers (Overlap b) first second = absurd (first second.0)
one_fault t i OrderDiffers TooBig first second = absurd (first second.0)
one_fault t i OrderDiffers CodeBig first second = absurd (first second.1.order)
one_fault t i OrderDiffers (Uncovered b) first second = absurd (first second.1.order)
one_fault t i (Overlap a) OrderDiffers first second = absurd (second first.0)
one_fault t i (Overlap a) (Overlap b) first second = inl (ap Overlap (one-refused (ranges_of t i) a b first.1 second.1))
one_fault t i (Overlap a) TooBig first second = absurd (second.1 a first.1.refused)
one_fault t i (Overlap a) CodeBig first second = absurd (second.1.made.none_refused a first.1.refused)
one_fault t i (Overlap a) (Uncovered b) first second = absurd (second.1.made.none_refused a first.1.refused)
one_fault t i TooBig OrderDiffers first second = absurd (second first.0)
one_fault t i TooBig (Overlap b) first second = absurd (first.1 b second.1.refused)
one_fault t i TooBig TooBig first second = inl refl
one_fault t i TooBig CodeBig first second = absurd (omega (arith, first.2, second.1.made.fits))
one_fault t i TooBig (Uncovered b) first second = absurd (omega (arith, first.2, second.1.made.fits))
one_fault t i CodeBig OrderDiffers first second = absurd (second first.1.order)
one_fault t i CodeBig (Overlap b) first second = absurd (first.1.made.none_refused b second.1.refused)
one_fault t i CodeBig TooBig first second = absurd (omega (arith, second.2, first.1.made.fits))
one_fault t i CodeBig CodeBig first second = inl refl
one_fault t i CodeBig (Uncovered b) first second = absurd (omega (arith, first.2, second.2))
one_fault t i (Uncovered a) OrderDiffers first second = absurd (second first.1.order)
one_fault t i (Uncovered a) (Overlap b) first second = absurd (first.1.made.none_refused b second.1.refused)
one_fault t i (Uncovered a) TooBig first second = absurd (omega (arith, second.2, first.1.made.fits))
one_fault t i (Uncovered a) CodeBig first second = absurd (omega (arith, first.2, second.2))
one_fault t i (Uncovered a) (Uncovered b) first second =
    inl (ap Uncovered (one-early t i first.0 second.0 a b first.1 second.1 first.3 second.3))

pub one_refusal : (t : Task) (i : Image) (d e : LayoutFault) → IsLayout t i (Err d) → IsLayout t i (Err e) → d ≢ Memory → e ≢ Memory → d ≡ e
one_refusal t i d e first second some more = elim (one_fault t i d e first second) [
  | inl same ↦ same
  | inr wanting ↦ elim wanting [
    | inl memory ↦ absurd (some memory)
    | inr memory ↦ absurd (more memory)
  ]
]

-- what a fault of the ranges says of the layout
pub fault-says : (t : Task) (i : Image) (e : MemoryError) → t.big ≡ i.big → Made (ranges_of t i) i.big (Err e) → IsLayout t i (Err (fault_of e))
unfolding IsLayout
fault-says t i (error.Overlap a) order why = (order, why)
fault-says t i error.TooBig order why = (order, why.0, why.1)
fault-says t i error.Memory order why = tt

-- what the test of the orders says
pub differs : (a b : Bool) → not (beq a b) ≡ true → a ≡ b → ⊥
differs true true is same = cc
differs true false is same = cc
differs false true is same = cc
differs false false is same = cc

pub same-order : (a b : Bool) → not (beq a b) ≡ false → a ≡ b
same-order true true is = refl
same-order true false is = cc
same-order false true is = cc
same-order false false is = refl

pub order-says : (t : Task) (i : Image) → (t.big ≡ i.big → ⊥) → IsLayout t i (Err OrderDiffers)
unfolding IsLayout
order-says t i differs = differs

-- what the tests of an empty memory say of it
pub code-says : (t : Task) (i : Image) (m : Flat) → IsEmpty t i m → greatest_code < code_len i.spans → IsLayout t i (Err CodeBig)
unfolding IsLayout
code-says t i m empty big = (m, empty, big)

pub uncovered-says : (t : Task) (i : Image) (m : Flat) (a : ℕ) → IsEmpty t i m → code_len i.spans ≤ greatest_code → FirstUncovered t m a
    → IsLayout t i (Err (Uncovered a))
unfolding IsLayout
uncovered-says t i m a empty small first = (m, empty, small, first)

pub laid-says : (t : Task) (i : Image) (m n : Flat) → IsEmpty t i m → n ≡ filled i.spans i.bytes m → code_len i.spans ≤ greatest_code
    → AllStorable m t.input_at t.input_len → All (IsDeclared m) t.show → IsLayout t i (Ok n)
unfolding IsLayout
laid-says t i m n empty is small input shows =
    let same : n.spans ≡ m.spans = ap (λ (f : Flat). f.spans) is ∙ filled-spans i.spans i.bytes m in
    record {
      empty = m;
      is_empty = empty;
      bytes = is;
      code_small = small;
      input = all-storable-same n m t.input_at t.input_len same input;
      shows = all-declared-same n m t.show same shows;
    }
