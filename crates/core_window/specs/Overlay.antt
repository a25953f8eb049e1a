-- The four bytes of a word as the older stores leave them.
use Rattle.std.specs.Prelude.{◌≡◌, ◌≢◌, ◌<◌, ◌+◌, ℕ, Bool, true, if◌then◌else◌, List, slice_get, ◌==◌, Option, Some, None}
use Rattle.mips_isa.specs.declared.instr.Instr.{Instr}
use Rattle.mips_ref.specs.Access.{word_start}
use Rattle.mips_ref.specs.Memory.{Flat, byte_at, lane, masks, or_zero, port, storable_at}
use Rattle.mips_ref.specs.Step.{store_at}
use Rattle.mips_ref.specs.declared.records.Retired.{Retired}
use Rattle.core_window.specs.declared.overlay.Lanes.{Lanes}
use Rattle.core_window.specs.declared.records.Entry.{Entry}
use Rattle.core_window.specs.declared.records.Outcome.TheVariants.{Parts}
use Rattle.core_window.specs.declared.records.Status.{Status}
use Rattle.core_window.specs.declared.records.Status.TheVariants.{Done}

-- the bytes from an address on
unfoldable pub lanes_of : Flat → ℕ → Lanes
lanes_of m w =
    record {
      first = or_zero (byte_at m w);
      second = or_zero (byte_at m (w + 1));
      third = or_zero (byte_at m (w + 2));
      fourth = or_zero (byte_at m (w + 3));
    }

-- those of a mask become those of a word
abbrev pub lane_after : ℕ → ℕ → ℕ → ℕ → ℕ
lane_after j mask word old = if masks mask j then lane j word else old

abbrev pub stored_lanes : ℕ → ℕ → Lanes → Lanes
stored_lanes mask word l =
    record {
      first = lane_after 0 mask word l.first;
      second = lane_after 1 mask word l.second;
      third = lane_after 2 mask word l.third;
      fourth = lane_after 3 mask word l.fourth;
    }

abbrev pub lanes_if : Bool → ℕ → ℕ → Lanes → Lanes
lanes_if b mask word l = if b then stored_lanes mask word l else l

-- past a store of this word; one to the port is at no word of memory
abbrev pub lanes_past_store : ℕ → Option ℕ → ℕ → ℕ → Lanes → Lanes
lanes_past_store w None mask word l = l
lanes_past_store w (Some at) mask word l = if at == port then l else lanes_if (word_start at == w) mask word l

abbrev pub lanes_past : ℕ → Option Instr → Status → Lanes → Lanes
lanes_past w (Some i) (Done (Parts r)) l = lanes_past_store w (store_at i r.at) r.mask r.word l
lanes_past w _ _ l = l

-- a store that is done without a trap, if not to the port, writes bytes that can be stored to
pub record StoreFits (m : Flat) (e : Entry) : Type 0 where
  pub storable : (i : Instr) (r : Retired) (at j : ℕ) → e.instr ≡ Some i → e.status ≡ Done (Parts r) → store_at i r.at ≡ Some at → at ≢ port
      → j < 4 → masks r.mask j ≡ true → storable_at m (word_start at + j) ≡ true

abbrev pub StoresFit : Flat → List Entry → Type 0
StoresFit m older = (k : ℕ) (e : Entry) → slice_get older k ≡ Some e → StoreFits m e
