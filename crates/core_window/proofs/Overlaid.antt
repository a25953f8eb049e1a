-- The bytes of a word past the older stores are those of the memory that these overlay.
use Rattle.std.proofs.Common.{◌≡◌, ◌≢◌, ◌≤◌, ◌<◌, ◌+◌, ◌%◌, ℕ, zero, suc, Bool, true, false, cond, eqb, List, [], ◌∷◌, ◌++◌, length, length-set, get_or, set, take, Option, Some, None, refl, sym, ap, ◌∙◌, subst, arith}
use Rattle.std.proofs.lemmas.Grind.{common_steps}
use Rattle.std.proofs.lemmas.List.{get_or-set_same, take_more}
use Rattle.std.proofs.lemmas.List.Sums.{fold-append}
use Rattle.std.proofs.lemmas.Option.{slice_get_read}
use Rattle.std.specs.Prelude.{slice_get}
use Rattle.mips_isa.specs.declared.instr.Instr.{Instr}
use Rattle.mips_ref.proofs.Places.{place_from-holds}
use Rattle.mips_ref.proofs.StoredOnly.{other_byte, other_lanes}
use Rattle.mips_ref.specs.Access.{word_start}
use Rattle.mips_ref.specs.Memory.{Flat, IsMemory, at_place, byte_at, byte_of, lane, masks, or_zero, place_from, place_of, port, put_at, put_byte, put_lane, put_lanes, storable_at, takes_stores}
use Rattle.mips_ref.specs.Step.{memory_after, store_at}
use Rattle.mips_ref.specs.declared.place.Place.{Place}
use Rattle.mips_ref.proofs.CodeKept.{memory-spans}
use Rattle.core_window.specs.Operands.{overlaid, with_store}
use Rattle.core_window.specs.Overlay.{StoreFits, StoresFit, lane_after, lanes_if, lanes_of, lanes_past, lanes_past_store, stored_lanes}
use Rattle.core_window.specs.declared.overlay.Lanes.{Lanes}
use Rattle.core_window.specs.declared.records.Entry.{Entry}
use Rattle.core_window.specs.declared.records.Outcome.TheVariants.{Trapped, Parts}
use Rattle.core_window.specs.declared.records.Status.{Status}
use Rattle.core_window.specs.declared.records.Status.TheVariants.{Waiting, Running, Done}

-- a memory with the ranges of another, and as many bytes
pub record Like (m n : Flat) : Type 0 where
  pub spans : n.spans ≡ m.spans
  pub big : n.big ≡ m.big
  pub len : length n.bytes ≡ length m.bytes

put-at-len : (m : Flat) (b : ℕ) (o : Option Place) → length (put_at m b o).bytes ≡ length m.bytes
put-at-len m b None = refl
put-at-len m b (Some p) = length-set m.bytes p.index b

lane-len : (t : Bool) (m : Flat) (a b : ℕ) → length (cond t (put_byte m a b) m).bytes ≡ length m.bytes
unfolding put_byte
lane-len true m a b = put-at-len m b (place_of m a)
lane-len false m a b = refl

lanes-len : (m : Flat) (w mask word : ℕ) → length (put_lanes m w mask word).bytes ≡ length m.bytes
unfolding put_lanes
lanes-len m w mask word =
    let a = put_lane 0 w mask word m in
    let b = put_lane 1 w mask word a in
    let c = put_lane 2 w mask word b in
    lane-len (masks mask 3) c (w + 3) (lane 3 word) ∙ lane-len (masks mask 2) b (w + 2) (lane 2 word)
    ∙ lane-len (masks mask 1) a (w + 1) (lane 1 word) ∙ lane-len (masks mask 0) m (w + 0) (lane 0 word)

store-len : (o : Option ℕ) (mask word : ℕ) (m : Flat) → length (memory_after o mask word m).bytes ≡ length m.bytes
store-len None mask word m = refl
store-len (Some at) mask word m = by (eqb at port)
  where
    by : (b : Bool) → length (cond b m (put_lanes m (word_start at) mask word)).bytes ≡ length m.bytes
    by true = refl
    by false = lanes-len m (word_start at) mask word

store-like : (m n : Flat) (o : Option Instr) (s : Status) → Like m n → Like m (with_store o s n)
store-like m n None s h = h
store-like m n (Some i) Waiting h = h
store-like m n (Some i) (Running r) h = h
store-like m n (Some i) (Done (Trapped k)) h = h
store-like m n (Some i) (Done (Parts r)) h =
    let kept = memory-spans (store_at i r.at) r.mask r.word n in
    record { spans = kept.spans ∙ h.spans; big = kept.big ∙ h.big; len = store-len (store_at i r.at) r.mask r.word n ∙ h.len }

pub overlaid-like : (older : List Entry) (m n : Flat) → Like m n → Like m (overlaid older n)
overlaid-like [] m n h = h
overlaid-like (e ∷ rest) m n h = overlaid-like rest m (with_store e.instr e.status n) (store-like m n e.instr e.status h)

pub like-itself : (m : Flat) → Like m m
like-itself m = record { spans = refl; big = refl; len = refl }

-- a byte that can be stored to is the one that was put
same-byte : (m : Flat) (a v : ℕ) (p : Place) → place_of m a ≡ Some p → p.index < length m.bytes → byte_at (put_byte m a v) a ≡ Some v
unfolding put_byte
same-byte m a v p found below =
    let put : put_at m v (place_of m a) ≡ put_at m v (Some p) = ap (put_at m v) found in
    ap (λ (n : Flat). byte_at n a) put ∙ ap (byte_of (set m.bytes p.index v)) found ∙ ap Some (get_or-set_same m.bytes p.index v 0 below)

some-place : (o : Option Place) (test : Place → Bool) → at_place o test ≡ true → (p : Place) × (o ≡ Some p)
some-place None test e = cc
some-place (Some p) test e = (p, refl)

pub record CanPut (m : Flat) (a : ℕ) : Type 0 where
  pub place : Place
  pub found : place_of m a ≡ Some place
  pub below : place.index < length m.bytes

can-put : (m n : Flat) (a : ℕ) → IsMemory m → Like m n → storable_at m a ≡ true → CanPut n a
can-put m n a kept like storable =
    let p = some-place (place_of m a) (λ q. takes_stores q.span) storable in
    let holds = place_from-holds 0 0 m.spans a p.0 kept.laid_out p.1 in
    record {
      place = p.0;
      found = ap (λ s. place_from 0 s a) like.spans ∙ p.1;
      below = omega (arith, holds.high, holds.low, holds.room, kept.full, like.len);
    }

-- one lane
lane-same : (m : Flat) (a v : ℕ) (b : Bool) → (b ≡ true → CanPut m a) → or_zero (byte_at (cond b (put_byte m a v) m) a) ≡ cond b v (or_zero (byte_at m a))
lane-same m a v true can = let p = can refl in ap or_zero (same-byte m a v p.place p.found p.below)
lane-same m a v false can = refl

lane-other : (m : Flat) (a c v : ℕ) (b : Bool) → c ≢ a → byte_at (cond b (put_byte m a v) m) c ≡ byte_at m c
lane-other m a c v true apart = other_byte m a v c apart
lane-other m a c v false apart = refl

-- the four lanes of one word
lane-like : (m n : Flat) (a v : ℕ) (b : Bool) → Like m n → Like m (cond b (put_byte n a v) n)
unfolding put_byte
lane-like m n a v true h = by (place_of n a)
  where
    by : (o : Option Place) → Like m (put_at n v o)
    by None = h
    by (Some p) = record { spans = h.spans; big = h.big; len = length-set n.bytes p.index v ∙ h.len }
lane-like m n a v false h = h

unfoldable pub CanPutMasked : Flat → ℕ → ℕ → Type 0
CanPutMasked m w mask = (j : ℕ) → j < 4 → masks mask j ≡ true → storable_at m (w + j) ≡ true

same-word : (m n : Flat) (w mask word : ℕ) → IsMemory m → Like m n → CanPutMasked m w mask
    → stored_lanes mask word (lanes_of n w) ≡ lanes_of (put_lanes n w mask word) w
unfolding put_lanes lanes_of CanPutMasked
same-word m n w mask word kept like can =
    let n0 = put_lane 0 w mask word n in
    let n1 = put_lane 1 w mask word n0 in
    let n2 = put_lane 2 w mask word n1 in
    let n3 = put_lane 3 w mask word n2 in
    let l0 = lane-like m n (w + 0) (lane 0 word) (masks mask 0) like in
    let l1 = lane-like m n0 (w + 1) (lane 1 word) (masks mask 1) l0 in
    let l2 = lane-like m n1 (w + 2) (lane 2 word) (masks mask 2) l1 in
    let start : w + 0 ≡ w = omega arith in
    let first : or_zero (byte_at n3 (w + 0)) ≡ lane_after 0 mask word (or_zero (byte_at n (w + 0))) =
    ap or_zero (lane-other n2 (w + 3) (w + 0) (lane 3 word) (masks mask 3) (omega arith)
    ∙ lane-other n1 (w + 2) (w + 0) (lane 2 word) (masks mask 2) (omega arith)
    ∙ lane-other n0 (w + 1) (w + 0) (lane 1 word) (masks mask 1) (omega arith))
    ∙ lane-same n (w + 0) (lane 0 word) (masks mask 0) (λ t. can-put m n (w + 0) kept like (can 0 (omega arith) t)) in
    let second : or_zero (byte_at n3 (w + 1)) ≡ lane_after 1 mask word (or_zero (byte_at n (w + 1))) =
    ap or_zero (lane-other n2 (w + 3) (w + 1) (lane 3 word) (masks mask 3) (omega arith)
    ∙ lane-other n1 (w + 2) (w + 1) (lane 2 word) (masks mask 2) (omega arith))
    ∙ lane-same n0 (w + 1) (lane 1 word) (masks mask 1) (λ t. can-put m n0 (w + 1) kept l0 (can 1 (omega arith) t))
    ∙ ap (λ o. lane_after 1 mask word (or_zero o)) (lane-other n (w + 0) (w + 1) (lane 0 word) (masks mask 0) (omega arith)) in
    let third : or_zero (byte_at n3 (w + 2)) ≡ lane_after 2 mask word (or_zero (byte_at n (w + 2))) =
    ap or_zero (lane-other n2 (w + 3) (w + 2) (lane 3 word) (masks mask 3) (omega arith))
    ∙ lane-same n1 (w + 2) (lane 2 word) (masks mask 2) (λ t. can-put m n1 (w + 2) kept l1 (can 2 (omega arith) t))
    ∙ ap (λ o. lane_after 2 mask word (or_zero o)) (lane-other n0 (w + 1) (w + 2) (lane 1 word) (masks mask 1) (omega arith)
    ∙ lane-other n (w + 0) (w + 2) (lane 0 word) (masks mask 0) (omega arith)) in
    let fourth : or_zero (byte_at n3 (w + 3)) ≡ lane_after 3 mask word (or_zero (byte_at n (w + 3))) =
    lane-same n2 (w + 3) (lane 3 word) (masks mask 3) (λ t. can-put m n2 (w + 3) kept l2 (can 3 (omega arith) t))
    ∙ ap (λ o. lane_after 3 mask word (or_zero o)) (lane-other n1 (w + 2) (w + 3) (lane 2 word) (masks mask 2) (omega arith)
    ∙ lane-other n0 (w + 1) (w + 3) (lane 1 word) (masks mask 1) (omega arith)
    ∙ lane-other n (w + 0) (w + 3) (lane 0 word) (masks mask 0) (omega arith)) in
    let at : or_zero (byte_at n3 w) ≡ lane_after 0 mask word (or_zero (byte_at n w)) =
    subst (λ a. or_zero (byte_at n3 a) ≡ lane_after 0 mask word (or_zero (byte_at n a))) start first in
    λ i. record { first = sym at i; second = sym second i; third = sym third i; fourth = sym fourth i }

-- and another word stays
other-word : (n : Flat) (w v mask word : ℕ) → w % 4 ≡ 0 → v % 4 ≡ 0 → v ≢ w → lanes_of n w ≡ lanes_of (put_lanes n v mask word) w
unfolding lanes_of
other-word n w v mask word aligned there apart =
    let far : (j k : ℕ) → j < 4 → k < 4 → v + k ≢ w + j = λ j k low high same. apart (omega (arith, same, low, high, aligned, there)) in
    let stays : (j : ℕ) → j < 4 → or_zero (byte_at (put_lanes n v mask word) (w + j)) ≡ or_zero (byte_at n (w + j)) =
    λ j low. ap or_zero (other_lanes n v mask word (w + j) (λ k high masked. far j k low high)) in
    let start : w + 0 ≡ w = omega arith in
    let first : or_zero (byte_at (put_lanes n v mask word) w) ≡ or_zero (byte_at n w) =
    subst (λ a. or_zero (byte_at (put_lanes n v mask word) a) ≡ or_zero (byte_at n a)) start (stays 0 (omega arith)) in
    let second = stays 1 (omega arith) in
    let third = stays 2 (omega arith) in
    let fourth = stays 3 (omega arith) in
    λ i. record { first = sym first i; second = sym second i; third = sym third i; fourth = sym fourth i }

start-aligned : (at : ℕ) → word_start at % 4 ≡ 0
start-aligned at = omega arith

past-word : (m n : Flat) (w at mask word : ℕ) (b : Bool) → eqb (word_start at) w ≡ b → w % 4 ≡ 0 → IsMemory m → Like m n
    → CanPutMasked m (word_start at) mask → lanes_if b mask word (lanes_of n w) ≡ lanes_of (put_lanes n (word_start at) mask word) w
past-word m n w at mask word true is aligned kept like can =
    let same : word_start at ≡ w = grind (arith, common_steps, is) in
    subst (λ v. stored_lanes mask word (lanes_of n w) ≡ lanes_of (put_lanes n v mask word) w) (sym same)
    (same-word m n w mask word kept like (subst (λ v. CanPutMasked m v mask) same can))
past-word m n w at mask word false is aligned kept like can =
    other-word n w (word_start at) mask word aligned (start-aligned at) (grind (arith, common_steps, is))

past-port : (m n : Flat) (w at mask word : ℕ) (b : Bool) → eqb at port ≡ b → w % 4 ≡ 0 → IsMemory m → Like m n
    → (at ≢ port → CanPutMasked m (word_start at) mask)
    → cond b (lanes_of n w) (lanes_if (eqb (word_start at) w) mask word (lanes_of n w)) ≡ lanes_of (cond b n (put_lanes n (word_start at) mask word)) w
past-port m n w at mask word true is aligned kept like can = refl
past-port m n w at mask word false is aligned kept like can =
    past-word m n w at mask word (eqb (word_start at) w) refl aligned kept like (can (grind (arith, common_steps, is)))

past-store : (m n : Flat) (w mask word : ℕ) (o : Option ℕ) → w % 4 ≡ 0 → IsMemory m → Like m n
    → ((at : ℕ) → o ≡ Some at → at ≢ port → CanPutMasked m (word_start at) mask)
    → lanes_past_store w o mask word (lanes_of n w) ≡ lanes_of (memory_after o mask word n) w
past-store m n w mask word None aligned kept like can = refl
past-store m n w mask word (Some at) aligned kept like can = past-port m n w at mask word (eqb at port) refl aligned kept like (can at refl)

past-entry : (m n : Flat) (w : ℕ) (e : Entry) (o : Option Instr) (s : Status) → e.instr ≡ o → e.status ≡ s → w % 4 ≡ 0 → IsMemory m → Like m n
    → StoreFits m e → lanes_past w o s (lanes_of n w) ≡ lanes_of (with_store o s n) w
unfolding CanPutMasked
past-entry m n w e None s ei es aligned kept like fits = refl
past-entry m n w e (Some i) Waiting ei es aligned kept like fits = refl
past-entry m n w e (Some i) (Running r) ei es aligned kept like fits = refl
past-entry m n w e (Some i) (Done (Trapped k)) ei es aligned kept like fits = refl
past-entry m n w e (Some i) (Done (Parts r)) ei es aligned kept like fits =
    past-store m n w r.mask r.word (store_at i r.at) aligned kept like
    (λ at is away j low masked. fits.storable i r at j ei es is away low masked)

-- one more entry
pub one_more : (m : Flat) (es : List Entry) (k j : ℕ) (e : Entry) (w : ℕ) (lanes next : Lanes) → j < k → k ≤ length es → e ≡ get_or es j e
    → w % 4 ≡ 0 → IsMemory m → StoresFit m (take k es) → lanes ≡ lanes_of (overlaid (take j es) m) w
    → next ≡ lanes_past w e.instr e.status lanes → next ≡ lanes_of (overlaid (take (j + 1) es) m) w
one_more m es k j e w lanes next below within is aligned kept fit was step =
    let older = take j es in
    let n = overlaid older m in
    let more : take (j + 1) es ≡ older ++ e ∷ [] = take_more es j e (omega (arith, below, within)) ∙ ap (λ f. older ++ f ∷ []) (sym is) in
    let at : slice_get (take k es) j ≡ Some e = slice-take es k j e below (slice_get_read es (length es) j e refl (omega (arith, below, within)) is) in
    let entry = past-entry m n w e e.instr e.status refl refl aligned kept (overlaid-like older m m (like-itself m)) (fit j e at) in
    let more-memory : overlaid (older ++ e ∷ []) m ≡ with_store e.instr e.status n =
    fold-append (λ (f : Flat) (g : Entry). with_store g.instr g.status f) m older (e ∷ []) in
    step ∙ ap (lanes_past w e.instr e.status) was ∙ entry ∙ ap (λ f. lanes_of f w) (sym more-memory) ∙ ap (λ l. lanes_of (overlaid l m) w) (sym more)
  where
    slice-take : (l : List Entry) (a b : ℕ) (f : Entry) → b < a → slice_get l b ≡ Some f → slice_get (take a l) b ≡ Some f
    slice-take [] a b f h g = cc
    slice-take (y ∷ rest) zero b f h g = absurd (omega (arith, h))
    slice-take (y ∷ rest) (suc a) zero f h g = g
    slice-take (y ∷ rest) (suc a) (suc b) f h g = slice-take rest a b f (omega (arith, h)) g
