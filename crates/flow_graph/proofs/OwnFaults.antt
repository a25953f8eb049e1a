-- The faults that units have by themselves are those that the code finds.
use Rattle.std.proofs.Common.{ℕ, ◌+◌, ◌^◌, ◌<◌, ◌≤◌, ◌≡◌, ◌⊎◌, inl, inr, refl, sym, ap, subst, ◌∙◌, Bool, true, false, ◌&&◌, ◌||◌, if◌then◌else◌, nat_eq, nat_lt, Option, Some, None, is_none, is_some, List, Contains, arith}
use Rattle.std.specs.Option.{option_and_then}
use Rattle.visa_io.specs.declared.records.Code.{Code}
use Rattle.mips_isa.specs.declared.instr.Instr.{Instr}
use Rattle.flow_graph.specs.Code.{IsCode, instr_at, is_code, is_control_at, is_control_instr, passes, word_at}
use Rattle.flow_graph.specs.Faults.{has_indirect, has_link_branch, is_indirect, is_link_branch, is_reserved, is_word_of, leaves_code}
use Rattle.flow_graph.specs.Own.{at_if, has_slot, holds_control, reserved_by, is_among, is_reserved_slot, slot_if, told_of}
use Rattle.flow_graph.specs.Reached.{Reached}
use Rattle.flow_graph.specs.Sites.{IsSite, SlotIs}
use Rattle.flow_graph.specs.declared.faults.Flaw.{Flaw}
use Rattle.flow_graph.specs.declared.faults.Flaw.TheVariants as flaw
use Rattle.flow_graph.specs.declared.site.Site.{Site}
use Rattle.flow_graph.specs.declared.site.Slot.{Slot}
use Rattle.flow_graph.specs.declared.site.Slot.TheVariants as slot
use Rattle.std.proofs.lemmas.Bool.{eqb-true}
use Rattle.std.proofs.lemmas.Bool.Decides.{nat_tests}
use Rattle.std.proofs.lemmas.List.Elements.{All-contains}
use Rattle.mips_isa.specs.Decoding.{decode_of}
use Rattle.flow_graph.proofs.Found.{among_is, is_among_in}
use Rattle.flow_graph.proofs.Members.{equal_to_itself}
use Rattle.flow_graph.proofs.Lines.{bounds_of, held_by, some_word, word-at}

-- exactly this number, or none
abbrev pub Exactly : Option ℕ → (ℕ → Type 0) → Type 0
Exactly None P = (a : ℕ) → P a → ⊥
Exactly (Some b) P = P b × ((a : ℕ) → P a → b ≡ a)

-- a unit has a fault that is told at an address
abbrev pub IsOf : Code → ℕ → Flaw → ℕ → ℕ → Type 0
IsOf code entry flaw.Reserved u a = (is_word_of code u a ≡ true) × (is_reserved code a ≡ true)
IsOf code entry flaw.Indirect u a = (a ≡ u) × (has_indirect code u ≡ true)
IsOf code entry flaw.LinkBranch u a = (a ≡ u) × (has_link_branch code u ≡ true)
IsOf code entry flaw.SlotControl u a = (is_control_at code u ≡ true) × (a ≡ u + 4) × (is_control_at code a ≡ true)
IsOf code entry flaw.SlotTarget u a = (is_control_at code u ≡ true) × (a ≡ u + 4) × Reached code entry a
IsOf code entry flaw.OffCode u a = (a ≡ u) × (leaves_code code u ≡ true)

less : (m n : ℕ) → m < n → nat_lt m n ≡ true
less m n h = grind (arith, nat_tests)

at_exactly : (at : ℕ) (test : Bool) (P : ℕ → Type 0) → (test ≡ true → P at) → ((a : ℕ) → P a → (a ≡ at) × (test ≡ true)) → Exactly (at_if at test) P
at_exactly at true P to from = (to refl, λ a h. sym (from a h).0)
at_exactly at false P to from = λ a h. absurd_false (from a h).1
  where
    absurd_false : false ≡ true → ⊥
    absurd_false e = cc

slot_exactly : (at : ℕ) (test : Bool) (P : ℕ → Type 0) → (test ≡ true → at + 4 < 2 ^ 32) → (test ≡ true → P (at + 4)) → ((a : ℕ) → P a → (a ≡ at + 4) × (test ≡ true)) → Exactly (slot_if at test) P
slot_exactly at false P low to from = λ a h. absurd_false (from a h).1
  where
    absurd_false : false ≡ true → ⊥
    absurd_false e = cc
slot_exactly at true P low to from = by_low (nat_lt (at + 4) (2 ^ 32)) refl
  where
    below : nat_lt (at + 4) (2 ^ 32) ≡ true
    below = less (at + 4) (2 ^ 32) (low refl)

    by_low : (b : Bool) → nat_lt (at + 4) (2 ^ 32) ≡ b → Exactly (if b then Some (at + 4) else None) P
    by_low true e = (to refl, λ a h. sym (from a h).0)
    by_low false e = let t = below in absurd (cc)

-- an address of code is below 2^32
pub code_low : (code : Code) (a : ℕ) → IsCode code → is_code code a ≡ true → a < 2 ^ 32
code_low code a is h =
    let w = some_word (word_at code a) h in
    let at = word-at code a w.0 w.1 in
    let (span, among, held) = held_by code.spans code.words a w.0 at.1 in
    let ends : span.start + span.len ≤ 2 ^ 32 = All-contains (λ s. s.start + s.len ≤ 2 ^ 32) code.spans span is.ends among in
    omega (arith, ends, (bounds_of span a held).1)

-- where there is no code, there is no instruction
no_instr : (code : Code) (a : ℕ) → is_code code a ≡ false → instr_at code a ≡ None
unfolding instr_at
no_instr code a h = by_word (word_at code a) h
  where
    by_word : (o : Option ℕ) → is_some o ≡ false → option_and_then decode_of o ≡ None
    by_word None h = refl
    by_word (Some w) h = absurd (cc)

first : (a b : Bool) → a && b ≡ true → a ≡ true
first true b h = refl
first false b h = h

second : (a b : Bool) → a && b ≡ true → b ≡ true
second true b h = h
second false b h = absurd (cc)

pub both : (a b : Bool) → a ≡ true → b ≡ true → a && b ≡ true
both a b p q = rw (p, q) refl

true_false : true ≡ false → ⊥
true_false e = cc

control_code : (code : Code) (a : ℕ) → is_control_at code a ≡ true → is_code code a ≡ true
control_code code a h = by_code (is_code code a) refl
  where
    by_code : (b : Bool) → is_code code a ≡ b → is_code code a ≡ true
    by_code true e = e
    by_code false e = absurd (true_false (sym h ∙ ap (passes is_control_instr) (no_instr code a e)))

-- what a slot tells of its unit
slot_is : (code : Code) (at : ℕ) (s : Slot) → SlotIs code at s → has_slot s ≡ true → is_control_at code at ≡ true
slot_is code at slot.Absent h t = absurd (true_false (sym t))
slot_is code at slot.OffCode h t = h.0
slot_is code at slot.Reserved h t = h.0
slot_is code at (slot.Holds i) h t = h.0

slot_back : (code : Code) (at : ℕ) (s : Slot) → SlotIs code at s → is_control_at code at ≡ true → has_slot s ≡ true
slot_back code at slot.Absent h c = absurd (true_false (sym c ∙ h))
slot_back code at slot.OffCode h c = refl
slot_back code at slot.Reserved h c = refl
slot_back code at (slot.Holds i) h c = refl

holds_is : (code : Code) (at : ℕ) (s : Slot) → SlotIs code at s → holds_control s ≡ true → (is_control_at code at ≡ true) × (is_control_at code (at + 4) ≡ true)
holds_is code at slot.Absent h t = absurd (true_false (sym t))
holds_is code at slot.OffCode h t = absurd (true_false (sym t))
holds_is code at slot.Reserved h t = absurd (true_false (sym t))
holds_is code at (slot.Holds i) h t = (h.0, ap (passes is_control_instr) h.2 ∙ t)

holds_back : (code : Code) (at : ℕ) (s : Slot) → SlotIs code at s → is_control_at code at ≡ true → is_control_at code (at + 4) ≡ true → holds_control s ≡ true
holds_back code at slot.Absent h c d = absurd (true_false (sym c ∙ h))
holds_back code at slot.OffCode h c d = absurd (true_false (sym (control_code code (at + 4) d) ∙ h.1))
holds_back code at slot.Reserved h c d = absurd (true_false (sym d ∙ ap (passes is_control_instr) h.2))
holds_back code at (slot.Holds i) h c d = sym (ap (passes is_control_instr) h.2) ∙ d

reserved_slot : (code : Code) (at : ℕ) (s : Slot) → SlotIs code at s → is_reserved_slot s ≡ true → (is_control_at code at ≡ true) × (is_reserved code (at + 4) ≡ true)
reserved_slot code at slot.Absent h t = absurd (true_false (sym t))
reserved_slot code at slot.OffCode h t = absurd (true_false (sym t))
reserved_slot code at slot.Reserved h t = (h.0, both (is_code code (at + 4)) (is_none (instr_at code (at + 4))) h.1 (ap (λ (o : Option Instr). is_none o) h.2))
reserved_slot code at (slot.Holds i) h t = absurd (true_false (sym t))

slot_reserved : (code : Code) (at : ℕ) (s : Slot) → SlotIs code at s → is_control_at code at ≡ true → is_reserved code (at + 4) ≡ true → is_reserved_slot s ≡ true
slot_reserved code at slot.Absent h c d = absurd (true_false (sym c ∙ h))
slot_reserved code at slot.OffCode h c d = absurd (true_false (sym (first (is_code code (at + 4)) (is_none (instr_at code (at + 4))) d) ∙ h.1))
slot_reserved code at slot.Reserved h c d = refl
slot_reserved code at (slot.Holds i) h c d = absurd (true_false (sym (second (is_code code (at + 4)) (is_none (instr_at code (at + 4))) d) ∙ ap (λ (o : Option Instr). is_none o) h.2))

-- the words of a unit
pub word_here : (code : Code) (at : ℕ) → is_word_of code at at ≡ true
word_here code at = rw (equal_to_itself at) refl

pub word_slot : (code : Code) (at : ℕ) → is_control_at code at ≡ true → is_word_of code at (at + 4) ≡ true
word_slot code at c = rw (c, equal_to_itself (at + 4)) (or_true (nat_eq (at + 4) at))
  where
    or_true : (a : Bool) → a || true ≡ true
    or_true true = refl
    or_true false = refl

pub word_cases : (code : Code) (at a : ℕ) → is_word_of code at a ≡ true → (a ≡ at) ⊎ ((is_control_at code at ≡ true) × (a ≡ at + 4))
word_cases code at a h = by_own (nat_eq a at) refl h
  where
    by_own : (b : Bool) → nat_eq a at ≡ b → b || (is_control_at code at && nat_eq a (at + 4)) ≡ true → (a ≡ at) ⊎ ((is_control_at code at ≡ true) × (a ≡ at + 4))
    by_own true e h = inl (eqb-true a at e)
    by_own false e h = inr (first (is_control_at code at) (nat_eq a (at + 4)) h, eqb-true a (at + 4) (second (is_control_at code at) (nat_eq a (at + 4)) h))

word_none : (code : Code) (at a : ℕ) → is_control_at code at ≡ false → is_word_of code at a ≡ true → a ≡ at
word_none code at a c h = elim (word_cases code at a h) [ inl e ↦ e | inr s ↦ absurd (true_false (sym s.0 ∙ c)) ]

reserved_exactly : (code : Code) (entry : ℕ) (addresses : List ℕ) (site : Site) → IsCode code → IsSite code addresses site → (o : Option Instr) → instr_at code site.at ≡ o → Exactly (reserved_by o site) (IsOf code entry flaw.Reserved site.at)
reserved_exactly code entry addresses site is s None e = (
  (word_here code site.at, both (is_code code site.at) (is_none (instr_at code site.at)) s.is (ap (λ (o : Option Instr). is_none o) e)),
  λ a h. sym (word_none code site.at a (ap (passes is_control_instr) e) h.0),
)
reserved_exactly code entry addresses site is s (Some i) e =
    slot_exactly site.at (is_reserved_slot site.slot) _
    (λ t. code_low code (site.at + 4) is (first (is_code code (site.at + 4)) (is_none (instr_at code (site.at + 4))) (reserved_slot code site.at site.slot s.slot t).1))
    (λ t. let h = reserved_slot code site.at site.slot s.slot t in (word_slot code site.at h.0, h.1))
    (λ a h. by_word a (word_cases code site.at a h.0) h.1)
  where
    by_word : (a : ℕ) → (a ≡ site.at) ⊎ ((is_control_at code site.at ≡ true) × (a ≡ site.at + 4)) → is_reserved code a ≡ true → (a ≡ site.at + 4) × (is_reserved_slot site.slot ≡ true)
    by_word a (inl own) r = absurd (true_false (sym (second (is_code code a) (is_none (instr_at code a)) r) ∙ ap (λ (n : ℕ). is_none (instr_at code n)) own ∙ ap (λ (o : Option Instr). is_none o) e))
    by_word a (inr w) r = (w.1, slot_reserved code site.at site.slot s.slot w.0 (subst (λ (n : ℕ). is_reserved code n ≡ true) w.1 r))

-- a site's fault of a kind is told exactly
pub told_exactly : (code : Code) (entry : ℕ) (addresses units : List ℕ) (site : Site) → IsCode code → IsSite code addresses site → ((a : ℕ) → Contains units a → Reached code entry a) → ((a : ℕ) → Reached code entry a → Contains units a) → ((a : ℕ) → Reached code entry a → is_code code a ≡ true) → (f : Flaw) → Exactly (told_of units f site) (IsOf code entry f site.at)
told_exactly code entry addresses units site is s to from on_code flaw.Indirect =
    at_exactly site.at (passes is_indirect site.first) _ (λ t. (refl, ap (passes is_indirect) s.first ∙ t)) (λ a h. (h.0, ap (passes is_indirect) (sym s.first) ∙ h.1))
told_exactly code entry addresses units site is s to from on_code flaw.LinkBranch =
    at_exactly site.at (passes is_link_branch site.first) _ (λ t. (refl, ap (passes is_link_branch) s.first ∙ t)) (λ a h. (h.0, ap (passes is_link_branch) (sym s.first) ∙ h.1))
told_exactly code entry addresses units site is s to from on_code flaw.OffCode =
    at_exactly site.at site.leaves _ (λ t. (refl, s.leaves ∙ t)) (λ a h. (h.0, sym s.leaves ∙ h.1))
told_exactly code entry addresses units site is s to from on_code flaw.SlotControl =
    slot_exactly site.at (holds_control site.slot) _
    (λ t. code_low code (site.at + 4) is (control_code code (site.at + 4) (holds_is code site.at site.slot s.slot t).1))
    (λ t. let h = holds_is code site.at site.slot s.slot t in (h.0, refl, h.1))
    (λ a h. (h.1, holds_back code site.at site.slot s.slot h.0 (subst (λ (n : ℕ). is_control_at code n ≡ true) h.1 h.2)))
told_exactly code entry addresses units site is s to from on_code flaw.SlotTarget =
    slot_exactly site.at (has_slot site.slot && is_among units (site.at + 4)) _
    (λ t. code_low code (site.at + 4) is (on_code (site.at + 4) (to (site.at + 4) (is_among_in units (site.at + 4) (second (has_slot site.slot) (is_among units (site.at + 4)) t)))))
    (λ t. (slot_is code site.at site.slot s.slot (first (has_slot site.slot) (is_among units (site.at + 4)) t), refl, to (site.at + 4) (is_among_in units (site.at + 4) (second (has_slot site.slot) (is_among units (site.at + 4)) t))))
    (λ a h. (h.1, both (has_slot site.slot) (is_among units (site.at + 4)) (slot_back code site.at site.slot s.slot h.0) (among_is units (site.at + 4) (from (site.at + 4) (subst (λ (n : ℕ). Reached code entry n) h.1 h.2)))))
told_exactly code entry addresses units site is s to from on_code flaw.Reserved = reserved_exactly code entry addresses site is s site.first s.first
