-- What is known past an entry.
use Rattle.std.proofs.Common.{◌≡◌, ℕ, Bool, true, false, cond, eqb, List, length, set, Option, Some, None, refl, sym, ap, ◌∙◌, length-set}
use Rattle.std.specs.Prelude.{not}
use Rattle.mips_isa.specs.Names.{writes_of}
use Rattle.mips_isa.specs.Words.{low_word}
use Rattle.mips_isa.specs.declared.instr.Instr.{Instr}
use Rattle.mips_ref.proofs.CodeKept.{SameSpans, memory-spans, spans-again}
use Rattle.mips_ref.specs.Memory.{Flat}
use Rattle.mips_ref.specs.Mips.{Mips}
use Rattle.mips_ref.specs.Step.{changed, memory_after, registers_after, store_at}
use Rattle.mips_ref.specs.declared.records.Retired.{Retired}
use Rattle.mips_ref.proofs.StepGives.{no-store}
use Rattle.mips_ref.specs.Facts.{Gives}
use Rattle.core_window.proofs.Views.{Below, and-left, and-right, both, learned-below, other-below, unlearned-below, value_of}
use Rattle.core_window.specs.Outcomes.{is_store}
use Rattle.core_window.specs.View.{View, all_known, learned, past_by}
use Rattle.core_window.specs.declared.records.Outcome.{Outcome}
use Rattle.core_window.specs.declared.records.Outcome.TheVariants.{Trapped, Parts}
use Rattle.core_window.specs.declared.records.Status.{Status}
use Rattle.core_window.specs.declared.records.Status.TheVariants.{Waiting, Running, Done}

pub spans-back : (m n : Flat) → SameSpans m n → SameSpans n m
spans-back m n a = record { spans = sym a.spans; big = sym a.big }

room-step : (b : Bool) (regs : List ℕ) (n v : ℕ) → length (cond b regs (set regs n v)) ≡ length regs
room-step true regs n v = refl
room-step false regs n v = length-set regs n v

pub registers-room : (o w : Option ℕ) (regs : List ℕ) → length (registers_after o w regs) ≡ length regs
registers-room None w regs = refl
registers-room (Some n) None regs = refl
registers-room (Some n) (Some v) regs = room-step (eqb n 32) regs n (low_word v)

-- a view below a view stays so past an entry
pub past-below : (i : Instr) (s : Status) (v u : View) → ((r : Retired) → s ≡ Done (Parts r) → Gives (writes_of i) r.write) → Below v u
    → Below (past_by (Some i) s v) (past_by (Some i) s u)
unfolding past_by changed value_of
past-below i (Done (Parts r)) v u g b =
    record {
      names = λ n e. learned-below (writes_of i) r.write v u (g r refl) b n e;
      memory = λ e. let p = b.memory e in (p.0, ap (memory_after (store_at i r.at) r.mask r.word) p.1);
      spans = spans-again _ v.state.memory _ (memory-spans (store_at i r.at) r.mask r.word v.state.memory)
          (spans-again _ u.state.memory _ b.spans (spans-back _ _ (memory-spans (store_at i r.at) r.mask r.word u.state.memory)));
      room = registers-room (writes_of i) r.write v.state.registers ∙ b.room ∙ sym (registers-room (writes_of i) r.write u.state.registers);
    }
past-below i (Done (Trapped k)) v u g b =
    record { names = λ n e. unlearned-below (writes_of i) v u b n e; memory = b.memory; spans = b.spans; room = b.room }
past-below i (Running r) v u g b =
    record {
      names = λ n e. unlearned-below (writes_of i) v u b n e;
      memory = λ e. let p = b.memory (and-right (not (is_store i)) v.memory_known e) in
          (both (not (is_store i)) u.memory_known (and-left (not (is_store i)) v.memory_known e) p.0, p.1);
      spans = b.spans;
      room = b.room;
    }
past-below i Waiting v u g b =
    record {
      names = λ n e. unlearned-below (writes_of i) v u b n e;
      memory = λ e. let p = b.memory (and-right (not (is_store i)) v.memory_known e) in
          (both (not (is_store i)) u.memory_known (and-left (not (is_store i)) v.memory_known e) p.0, p.1);
      spans = b.spans;
      room = b.room;
    }

not-true : (b : Bool) → not b ≡ true → b ≡ false
not-true true e = cc
not-true false e = refl

-- past an entry that is done no less is known than while it wasn't
pub past-learns : (i : Instr) (r : Outcome) (v : View) → Below (past_by (Some i) Waiting v) (past_by (Some i) (Done r) v)
unfolding past_by changed value_of
past-learns i (Parts r) v =
    record {
      names = λ n e. other-below (writes_of i) r.write v n e;
      memory = λ e.
          let none = no-store i r.at (not-true (is_store i) (and-left (not (is_store i)) v.memory_known e)) in
          (and-right (not (is_store i)) v.memory_known e, sym (ap (λ o. memory_after o r.mask r.word v.state.memory) none));
      spans = spans-back _ _ (memory-spans (store_at i r.at) r.mask r.word v.state.memory);
      room = sym (registers-room (writes_of i) r.write v.state.registers);
    }
past-learns i (Trapped k) v =
    record {
      names = λ n e. (e, refl);
      memory = λ e. (and-right (not (is_store i)) v.memory_known e, refl);
      spans = record { spans = refl; big = refl };
      room = refl;
    }

learned-step : (b : Bool) → cond b true true ≡ true
learned-step true = refl
learned-step false = refl

learned-all : (o : Option ℕ) (n : ℕ) → learned o true (λ m. true) n ≡ true
learned-all None n = refl
learned-all (Some m) n = learned-step (eqb m n)

-- past an entry that is done all is known that was, and of the state with its parts applied
pub past-all : (i : Instr) (r : Retired) (x : Mips) → past_by (Some i) (Done (Parts r)) (all_known x) ≡ all_known (changed i r x)
unfolding past_by
past-all i r x = λ j. record { state = changed i r x; known = λ n. learned-all (writes_of i) n j; memory_known = true }
