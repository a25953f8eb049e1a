-- The stores of a window that are done write where stores may.
use Rattle.std.proofs.Common.{◌≡◌, ◌≢◌, ◌<◌, ◌+◌, ℕ, zero, suc, Bool, true, false, cond, List, [], ◌∷◌, take, Option, Some, None, refl, sym, ap, ◌∙◌, subst, arith}
use Rattle.std.proofs.lemmas.Grind.{common_steps}
use Rattle.std.specs.Prelude.{not, ◌&&◌, ◌||◌, slice_get}
use Rattle.mips_isa.specs.declared.instr.Instr.{Instr}
use Rattle.mips_isa.specs.declared.instr.Instr.TheVariants.{Store}
use Rattle.mips_isa.specs.declared.instr.StoreOp.{StoreOp}
use Rattle.mips_isa.specs.declared.instr.StoreOp.TheVariants.{Sb, Sh, Swl, Sw, Swr}
use Rattle.mips_ref.specs.Access.{each_lane, in_word, is_output, lane_passes, refuses_of, store_aligned, store_allowed, store_mask, stored_of, word_start}
use Rattle.mips_ref.specs.Memory.{Flat, at_place, code_word_at, masks, or_zero, place_from, port, storable_at, takes_stores}
use Rattle.mips_ref.specs.Mips.{Mips}
use Rattle.mips_ref.specs.Step.{access_trap, acted, first_trap, parts_of, retired_of, store_at, trap_of}
use Rattle.mips_ref.specs.declared.records.Retired.{Retired}
use Rattle.mips_ref.specs.declared.records.TrapKind.{TrapKind}
use Rattle.mips_ref.specs.declared.records.TrapKind.TheVariants.{AddressStore}
use Rattle.core_window.proofs.At.{at-place}
use Rattle.core_window.proofs.Fit.{parts-are}
use Rattle.core_window.proofs.Operands.{memory-past}
use Rattle.core_window.proofs.Overlaid.{like-itself, overlaid-like}
use Rattle.core_window.proofs.Views.{and-left, and-right, outcome-is}
use Rattle.core_window.specs.Beside.{EntryFits, Stands, StatusFits}
use Rattle.core_window.specs.Core.{Core}
use Rattle.core_window.specs.Outcomes.{placed}
use Rattle.core_window.specs.Overlay.{StoreFits, StoresFit}
use Rattle.core_window.specs.View.{View, all_known, known_outcome, view_past}
use Rattle.core_window.specs.declared.records.Entry.{Entry}
use Rattle.core_window.specs.declared.records.Outcome.TheVariants.{Parts}
use Rattle.core_window.specs.declared.records.Status.TheVariants.{Done}

first-none : (o p : Option TrapKind) → first_trap o p ≡ None → p ≡ None
first-none None p e = e
first-none (Some k) p e = cc

allowed-if : (b : Bool) → ◌≡◌ {A = Option TrapKind} (cond b None (Some AddressStore)) None → b ≡ true
allowed-if true e = refl
allowed-if false e = cc

no-output : (m : StoreOp) (at : ℕ) → at ≢ port → is_output m at ≡ false
no-output Sb at away = refl
no-output Sh at away = refl
no-output Swl at away = refl
no-output Sw at away = grind (arith, common_steps, away)
no-output Swr at away = refl

or-right : (a b : Bool) → a ≡ false → (a || b) ≡ true → b ≡ true
or-right true b e f = cc
or-right false b e f = f

passes : (mask : ℕ) (test : ℕ → Bool) (w j : ℕ) → masks mask j ≡ true → lane_passes mask test w j ≡ true → test (w + j) ≡ true
passes mask test w j e f = by (masks mask j) e f
  where
    by : (b : Bool) → b ≡ true → (not b || test (w + j)) ≡ true → test (w + j) ≡ true
    by true e f = f
    by false e f = cc

lane-cases : (P : ℕ → Type 0) (j : ℕ) → j < 4 → P 0 → P 1 → P 2 → P 3 → P j
lane-cases P zero low a b c d = a
lane-cases P (suc zero) low a b c d = b
lane-cases P (suc (suc zero)) low a b c d = c
lane-cases P (suc (suc (suc zero))) low a b c d = d
lane-cases P (suc (suc (suc (suc j)))) low a b c d = absurd (omega (arith, low))

each-passes : (mask : ℕ) (test : ℕ → Bool) (w j : ℕ) → j < 4 → each_lane mask test w ≡ true → lane_passes mask test w j ≡ true
each-passes mask test w j low e =
    let abc = and-left (lane_passes mask test w 0 && lane_passes mask test w 1 && lane_passes mask test w 2) (lane_passes mask test w 3) e in
    let ab = and-left (lane_passes mask test w 0 && lane_passes mask test w 1) (lane_passes mask test w 2) abc in
    lane-cases (λ k. lane_passes mask test w k ≡ true) j low
    (and-left (lane_passes mask test w 0) (lane_passes mask test w 1) ab)
    (and-right (lane_passes mask test w 0) (lane_passes mask test w 1) ab)
    (and-right (lane_passes mask test w 0 && lane_passes mask test w 1) (lane_passes mask test w 2) abc)
    (and-right (lane_passes mask test w 0 && lane_passes mask test w 1 && lane_passes mask test w 2) (lane_passes mask test w 3) e)

-- a store without a trap, not to the port, writes bytes that can be stored to
allowed-stores : (m : StoreOp) (rs rt off at j : ℕ) (x : Flat) → refuses_of x (Store m rs rt off) at ≡ None → at ≢ port → j < 4
    → masks (store_mask m (in_word at) x.big) j ≡ true → storable_at x (word_start at + j) ≡ true
unfolding refuses_of store_allowed
allowed-stores m rs rt off at j x none away low masked =
    let allowed = allowed-if (store_allowed m x at) none in
    let rest = or-right (is_output m at) _ (no-output m at away) allowed in
    let lanes = and-right (store_aligned m (in_word at)) _ rest in
    passes (store_mask m (in_word at) x.big) (storable_at x) (word_start at) j masked
    (each-passes (store_mask m (in_word at) x.big) (storable_at x) (word_start at) j low lanes)

parts-store : (i : Instr) (y : Mips) (r : Retired) (at j : ℕ) → trap_of i y ≡ None → retired_of i y ≡ r → store_at i r.at ≡ Some at → at ≢ port → j < 4
    → masks r.mask j ≡ true → storable_at y.memory (word_start at + j) ≡ true
unfolding trap_of retired_of parts_of stored_of
parts-store (Store m rs rt off) y r at j none is stores away low masked =
    let i = Store m rs rt off in
    let a = acted i y in
    let here : a.at ≡ Some at = ap (λ (q : Retired). q.at) is ∙ stores in
    let access = first-none a.trap (access_trap y.memory i a.at) none in
    let refuses : refuses_of y.memory i at ≡ None = ap (λ o. access_trap y.memory i o) (sym here) ∙ access in
    let mask : r.mask ≡ store_mask m (in_word at) y.memory.big =
    sym (ap (λ (q : Retired). q.mask) is) ∙ ap (λ o. store_mask m (in_word (or_zero o)) y.memory.big) here in
    allowed-stores m rs rt off at j y.memory refuses away low (subst (λ n. masks n j ≡ true) mask masked)
parts-store i y r at j none is stores away low masked = cc

store-fit : (code : ℕ → Option ℕ) (v : View) (m : Flat) (e : Entry) → EntryFits code v e.pc e.npc e → v.state.memory.spans ≡ m.spans → StoreFits m e
unfolding StatusFits
store-fit code v m e h spans =
    record {
      storable = λ i r at j ei es stores away low masked.
          let status : known_outcome v i e.pc e.npc ≡ Some (Parts r) =
          subst (λ o. StatusFits o v e.pc e.npc (Done (Parts r))) ei (subst (λ s. StatusFits e.instr v e.pc e.npc s) es h.status_is) in
          let q = parts-are i (placed v.state e.pc e.npc) r (outcome-is v i e.pc e.npc (Parts r) status).1 in
          let there = parts-store i (placed v.state e.pc e.npc) r at j q.0 q.1 stores away low masked in
          ap (λ s. at_place (place_from 0 s (word_start at + j)) (λ p. takes_stores p.span)) (sym spans) ∙ there;
    }

take-get : (l : List Entry) (k j : ℕ) (e : Entry) → slice_get (take k l) j ≡ Some e → slice_get l j ≡ Some e
take-get l zero j e is = cc
take-get [] (suc k) j e is = cc
take-get (f ∷ rest) (suc k) zero e is = is
take-get (f ∷ rest) (suc k) (suc j) e is = take-get rest k j e is

pub stores-fit : (c : Core) (x : Mips) (k : ℕ) → Stands c x → StoresFit x.memory (take k c.entries)
stores-fit c x k h = λ j e is.
    let at = at-place (code_word_at x.memory) (all_known x) x.pc x.next_pc c.entries c.fetch_pc c.fetch_next j e h.fit (take-get c.entries k j e is) in
    let v = view_past (take j c.entries) (all_known x) in
    let like = overlaid-like (take j c.entries) x.memory x.memory (like-itself x.memory) in
    store-fit (code_word_at x.memory) v x.memory e at.entry (ap (λ (m : Flat). m.spans) (memory-past (take j c.entries) (all_known x)) ∙ like.spans)
