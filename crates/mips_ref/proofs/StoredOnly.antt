-- A step changes only the bytes that its store writes.
use Rattle.std.proofs.Common.{◌≡◌, ◌≢◌, ℕ, ◌+◌, ◌-◌, ◌<◌, Bool, true, false, cond, eqb, List, [], ◌∷◌, Option, Some, None, refl, sym, ap, ◌∙◌, arith, get_or-set_other}
use Rattle.visa_io.specs.declared.records.Span.{Span}
use Rattle.mips_isa.specs.declared.instr.Instr.{Instr}
use Rattle.mips_ref.proofs.CodeKept.{first_index, has-true, put_byte-spans}
use Rattle.mips_ref.proofs.Steps.{step-went}
use Rattle.mips_ref.specs.Access.{word_start}
use Rattle.mips_ref.specs.Facts.{WentBy, Writes}
use Rattle.mips_ref.specs.Memory.{Flat, byte_at, byte_of, has, lane, masks, place_from, place_of, port, put_at, put_byte, put_lane, put_lanes}
use Rattle.mips_ref.specs.Mips.{Mips}
use Rattle.mips_ref.specs.Step.{Stepped, changed, memory_after, retired_of, step_of, store_at}
use Rattle.mips_ref.specs.declared.place.Place.{Place}

apart_step : (before : ℕ) (s : Span) (rest : List Span) (a c : ℕ) (p q : Place) (d e : Bool) → has s a ≡ d → has s c ≡ e
    → cond d (Some (record { span = s; index = before + (a - s.start) })) (place_from (before + s.len) rest a) ≡ Some p
    → cond e (Some (record { span = s; index = before + (c - s.start) })) (place_from (before + s.len) rest c) ≡ Some q
    → p.index ≡ q.index → (place_from (before + s.len) rest a ≡ Some p → place_from (before + s.len) rest c ≡ Some q → a ≡ c) → a ≡ c
apart_step before s rest a c p q true true h k found other same next =
    let here : ◌≡◌ {A = Place} (record { span = s; index = before + (a - s.start) }) p = cc in
    let there : ◌≡◌ {A = Place} (record { span = s; index = before + (c - s.start) }) q = cc in
    let first = has-true s a h in
    let second = has-true s c k in
    omega (arith, first.0, second.0, same, ap (λ (t : Place). t.index) here, ap (λ (t : Place). t.index) there)
apart_step before s rest a c p q true false h k found other same next =
    let here : ◌≡◌ {A = Place} (record { span = s; index = before + (a - s.start) }) p = cc in
    let within = has-true s a h in
    absurd (omega (arith, within.0, within.1, same, ap (λ (t : Place). t.index) here, first_index (before + s.len) rest c q other))
apart_step before s rest a c p q false true h k found other same next =
    let there : ◌≡◌ {A = Place} (record { span = s; index = before + (c - s.start) }) q = cc in
    let within = has-true s c k in
    absurd (omega (arith, within.0, within.1, same, ap (λ (t : Place). t.index) there, first_index (before + s.len) rest a p found))
apart_step before s rest a c p q false false h k found other same next = next found other

-- two addresses have no byte in common
same_address : (before : ℕ) (spans : List Span) (a c : ℕ) (p q : Place) → place_from before spans a ≡ Some p → place_from before spans c ≡ Some q
    → p.index ≡ q.index → a ≡ c
unfolding place_from
same_address before [] a c p q found other same = cc
same_address before (s ∷ rest) a c p q found other same =
    apart_step before s rest a c p q (has s a) (has s c) refl refl found other same (λ f g. same_address (before + s.len) rest a c p q f g same)

changed_other : (m : Flat) (b v a : ℕ) (p q : Option Place) → a ≢ b → place_of m a ≡ p → place_of m b ≡ q → byte_of (put_at m v q).bytes p ≡ byte_of m.bytes p
changed_other m b v a None q apart pa pb = refl
changed_other m b v a (Some p) None apart pa pb = refl
changed_other m b v a (Some p) (Some q) apart pa pb =
    ap Some (get_or-set_other m.bytes q.index p.index v 0 (λ same. apart (same_address 0 m.spans a b p q pa pb same)))

-- a byte at another address stays
pub other_byte : (m : Flat) (b v a : ℕ) → a ≢ b → byte_at (put_byte m b v) a ≡ byte_at m a
unfolding put_byte
other_byte m b v a apart =
    ap (λ spans. byte_of (put_at m v (place_of m b)).bytes (place_from 0 spans a)) (put_byte-spans m b v).spans
    ∙ changed_other m b v a (place_of m a) (place_of m b) apart refl refl

lane_step : (t : Bool) (m n : Flat) (b v a : ℕ) → (t ≡ true → b ≢ a) → byte_at n a ≡ byte_at m a → byte_at (cond t (put_byte n b v) n) a ≡ byte_at m a
lane_step true m n b v a apart same = other_byte n b v a (λ e. apart refl (sym e)) ∙ same
lane_step false m n b v a apart same = same

-- a byte that a mask doesn't name stays
pub other_lanes : (m : Flat) (w mask word a : ℕ) → ((j : ℕ) → j < 4 → masks mask j ≡ true → w + j ≢ a) → byte_at (put_lanes m w mask word) a ≡ byte_at m a
unfolding put_lanes
other_lanes m w mask word a apart =
    let m0 = put_lane 0 w mask word m in
    let m1 = put_lane 1 w mask word m0 in
    let m2 = put_lane 2 w mask word m1 in
    let s0 = lane_step (masks mask 0) m m (w + 0) (lane 0 word) a (apart 0 (omega arith)) refl in
    let s1 = lane_step (masks mask 1) m m0 (w + 1) (lane 1 word) a (apart 1 (omega arith)) s0 in
    let s2 = lane_step (masks mask 2) m m1 (w + 2) (lane 2 word) a (apart 2 (omega arith)) s1 in
    lane_step (masks mask 3) m m2 (w + 3) (lane 3 word) a (apart 3 (omega arith)) s2

unless_port : (t : Bool) (m n : Flat) (a : ℕ) → byte_at n a ≡ byte_at m a → byte_at (cond t m n) a ≡ byte_at m a
unless_port true m n a same = refl
unless_port false m n a same = same

after_store : (o : Option ℕ) (mask word : ℕ) (m : Flat) (a : ℕ) → ((at : ℕ) → o ≡ Some at → (j : ℕ) → j < 4 → masks mask j ≡ true → word_start at + j ≢ a) → byte_at (memory_after o mask word m) a ≡ byte_at m a
after_store None mask word m a apart = refl
after_store (Some at) mask word m a apart = unless_port (eqb at port) m (put_lanes m (word_start at) mask word) a (other_lanes m (word_start at) mask word a (apart at refl))

-- a byte that the step's store doesn't write stays
pub stored-only : (x : Mips) (word : ℕ) (i : Instr) (a : ℕ) → WentBy x word i → (Writes i (retired_of i x) a → ⊥) → byte_at (step_of x).state.memory a ≡ byte_at x.memory a
unfolding changed
stored-only x word i a w none =
    ap (λ (s : Stepped). byte_at s.state.memory a) (step-went x word i w)
    ∙ after_store (store_at i (retired_of i x).at) (retired_of i x).mask (retired_of i x).word x.memory a
    (λ at is j below masked e. none (record { at = at; stores = is; lane = j; below = below; masked = masked; address = e }))
