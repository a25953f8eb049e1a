-- What a look-up in a memory finds.
use Rattle.std.proofs.Common.{◌≡◌, ℕ, ◌+◌, ◌*◌, ◌%◌, ◌^◌, ◌<◌, ◌≤◌, Bool, true, false, cond, eqb, List, length, length-set, get_or, Option, Some, None, refl, sym, ap, ◌∙◌, ◌-◌, arith, take, drop}
use Rattle.std.proofs.lemmas.List.{get_or-drop, get_or-take, length-take}
use Rattle.std.proofs.lemmas.Grind.{common_steps}
use Rattle.std.specs.Prelude.{IfSome, ◌&&◌, ◌||◌, not, slice_set}
use Rattle.mips_ref.proofs.Places.{place_from-holds, place_from-next}
use Rattle.mips_ref.specs.Access.{each_lane}
use Rattle.mips_ref.specs.Held.{Stands, set_lane, set_lanes}
use Rattle.mips_ref.specs.Memory.{Flat, IsMemory, LaidOut, at_place, lane, masks, put_at, put_byte, put_lane, put_lanes, readable_at, storable_at, takes_stores, byte_at, byte_of, code_at, code_word_at, in_order, in_port, is_code, lanes_at, or_zero, place_of}
use Rattle.mips_ref.specs.declared.place.Place.{Place}

pub stands-found : (m : Flat) (at : ℕ) (p : Place) → IsMemory m → place_of m at ≡ Some p → Stands m at p
stands-found m at p kept found =
    let h = place_from-holds 0 0 m.spans at p kept.laid_out found in
    record { low = h.low; high = h.high; below_port = h.below_port; room = omega (arith, h.room, kept.full) }

pub each_stands : (m : Flat) (at : ℕ) (r : Option Place) → IsMemory m → r ≡ place_of m at → IfSome r (Stands m at)
each_stands m at None kept found = tt
each_stands m at (Some p) kept found = stands-found m at p kept (sym found)

-- four bytes of a list as a word, the first as bits 0 to 7
abbrev pub four_of : List ℕ → ℕ → ℕ
four_of bytes i = get_or bytes i 0 + 2 ^ 8 * get_or bytes (i + 1) 0 + 2 ^ 16 * get_or bytes (i + 2) 0 + 2 ^ 24 * get_or bytes (i + 3) 0

byte_next : (m : Flat) (at j : ℕ) (p : Place) → IsMemory m → place_of m at ≡ Some p → at + j < p.span.start + p.span.len
    → or_zero (byte_at m (at + j)) ≡ get_or m.bytes (p.index + j) 0
byte_next m at j p kept found below =
    ap (λ o. or_zero (byte_of m.bytes o)) (place_from-next 0 0 m.spans at j p kept.laid_out found below)

-- the bytes of a range stand side by side
pub run_each : (m : Flat) (at j count : ℕ) (p : Place) (bytes : List ℕ) → bytes ≡ m.bytes → IsMemory m → place_of m at ≡ Some p
    → count ≤ p.span.start + p.span.len - at → j < length (take count (drop p.index bytes))
    → byte_at m (at + j) ≡ Some (get_or (take count (drop p.index bytes)) j 0)
run_each m at j count p bytes same kept found within below =
    let low = (stands-found m at p kept found).low in
    let short : j < count = omega (arith, below, length-take count (drop p.index bytes)) in
    ap (byte_of m.bytes) (place_from-next 0 0 m.spans at j p kept.laid_out found (omega (arith, low)))
    ∙ ap Some (sym (get_or-take count (drop p.index bytes) j 0 short ∙ get_or-drop p.index bytes j 0 ∙ ap (λ bs. get_or bs (p.index + j) 0) same))

-- four bytes in one range stand side by side
pub lanes_whole : (m : Flat) (at : ℕ) (p : Place) → IsMemory m → place_of m at ≡ Some p → at + 4 ≤ p.span.start + p.span.len
    → lanes_at m at ≡ four_of m.bytes p.index
lanes_whole m at p kept found below =
    let b0 : or_zero (byte_at m at) ≡ get_or m.bytes p.index 0 = ap (λ o. or_zero (byte_of m.bytes o)) found in
    let b1 = byte_next m at 1 p kept found (omega arith) in
    let b2 = byte_next m at 2 p kept found (omega arith) in
    let b3 = byte_next m at 3 p kept found (omega arith) in
    rw (b0, b1, b2, b3) refl

code-word : (m : Flat) (at : ℕ) (p : Place) → place_of m at ≡ Some p → code_at m at ≡ (eqb (at % 4) 0 && is_code at p)
code-word m at p found = ap (λ o. eqb (at % 4) 0 && at_place o (is_code at)) found

is_code-whole : (at : ℕ) (p : Place) → is_code at p ≡ true → at + 4 ≤ p.span.start + p.span.len
is_code-whole at p runs = grind (arith, common_steps, runs)

pub code_found : (m : Flat) (at : ℕ) (p : Place) → IsMemory m → place_of m at ≡ Some p → at % 4 ≡ 0 → is_code at p ≡ true
    → code_word_at m at ≡ Some (in_order m.big (four_of m.bytes p.index))
unfolding code_word_at
code_found m at p kept found aligned runs =
    let there : code_at m at ≡ true = code-word m at p found ∙ grind (arith, common_steps) in
    rw (there, lanes_whole m at p kept found (is_code-whole at p runs)) refl

pub code_misaligned : (m : Flat) (at : ℕ) → (at % 4 ≡ 0 → ⊥) → code_word_at m at ≡ None
unfolding code_word_at
code_misaligned m at off = let no : eqb (at % 4) 0 ≡ false = grind (arith, common_steps) in rw no refl

pub code_undeclared : (m : Flat) (at : ℕ) → place_of m at ≡ None → code_word_at m at ≡ None
unfolding code_word_at
code_undeclared m at none =
    let no : code_at m at ≡ false = ap (λ o. eqb (at % 4) 0 && at_place o (is_code at)) none ∙ grind (arith, common_steps) in
    rw no refl

pub code_elsewhere : (m : Flat) (at : ℕ) (p : Place) → place_of m at ≡ Some p → is_code at p ≡ false → code_word_at m at ≡ None
unfolding code_word_at
code_elsewhere m at p found not_code =
    let there : code_at m at ≡ false = code-word m at p found ∙ grind (arith, common_steps) in
    rw there refl

-- a byte of a range that stands after another one
put_next : (m : Flat) (at j b : ℕ) (p : Place) → LaidOut 0 m.spans → place_of m at ≡ Some p → at + j < p.span.start + p.span.len
    → put_byte m (at + j) b ≡ record m { bytes = slice_set m.bytes (p.index + j) b }
unfolding put_byte
put_next m at j b p laid found below = ap (put_at m b) (place_from-next 0 0 m.spans at j p laid found below)

put_masked : (m : Flat) (at j mask word : ℕ) (p : Place) (t : Bool) → LaidOut 0 m.spans → place_of m at ≡ Some p → at + j < p.span.start + p.span.len
    → cond t (put_byte m (at + j) (lane j word)) m ≡ record m { bytes = cond t (slice_set m.bytes (p.index + j) (lane j word)) m.bytes }
put_masked m at j mask word p true laid found below = put_next m at j (lane j word) p laid found below
put_masked m at j mask word p false laid found below = refl

put_one : (m : Flat) (at j mask word : ℕ) (p : Place) → LaidOut 0 m.spans → place_of m at ≡ Some p → at + j < p.span.start + p.span.len
    → put_lane j at mask word m ≡ record m { bytes = set_lane j p.index mask word m.bytes }
unfolding set_lane
put_one m at j mask word p laid found below = put_masked m at j mask word p (masks mask j) laid found below

-- four bytes of one range
pub put_whole : (m : Flat) (at mask word : ℕ) (p : Place) → IsMemory m → place_of m at ≡ Some p → at + 4 ≤ p.span.start + p.span.len
    → put_lanes m at mask word ≡ record m { bytes = set_lanes p.index mask word m.bytes }
unfolding put_lanes set_lanes
put_whole m at mask word p kept found whole =
    let b0 = set_lane 0 p.index mask word m.bytes in
    let b1 = set_lane 1 p.index mask word b0 in
    let b2 = set_lane 2 p.index mask word b1 in
    let m0 : Flat = record m { bytes = b0 } in
    let m1 : Flat = record m { bytes = b1 } in
    let m2 : Flat = record m { bytes = b2 } in
    ap (λ x. put_lane 3 at mask word (put_lane 2 at mask word (put_lane 1 at mask word x))) (put_one m at 0 mask word p kept.laid_out found (omega arith))
    ∙ ap (λ x. put_lane 3 at mask word (put_lane 2 at mask word x)) (put_one m0 at 1 mask word p kept.laid_out found (omega arith))
    ∙ ap (λ x. put_lane 3 at mask word x) (put_one m1 at 2 mask word p kept.laid_out found (omega arith))
    ∙ put_one m2 at 3 mask word p kept.laid_out found (omega arith)

set_if : (t : Bool) (bytes : List ℕ) (i v : ℕ) → length (cond t (slice_set bytes i v) bytes) ≡ length bytes
set_if true bytes i v = length-set bytes i v
set_if false bytes i v = refl

length-set_lane : (j index mask word : ℕ) (bytes : List ℕ) → length (set_lane j index mask word bytes) ≡ length bytes
unfolding set_lane
length-set_lane j index mask word bytes = set_if (masks mask j) bytes (index + j) (lane j word)

pub length_kept : (index mask word : ℕ) (bytes : List ℕ) → length (set_lanes index mask word bytes) ≡ length bytes
unfolding set_lanes
length_kept index mask word bytes = simp length-set_lane

-- four bytes of one range can be loaded, or stored to, together
passes_next : (m : Flat) (at j : ℕ) (p : Place) (test : Place → Bool) → IsMemory m → place_of m at ≡ Some p → at + j < p.span.start + p.span.len
    → ((i : ℕ) → test (record { span = p.span; index = i }) ≡ true) → at_place (place_of m (at + j)) test ≡ true
passes_next m at j p test kept found below passes =
    ap (λ o. at_place o test) (place_from-next 0 0 m.spans at j p kept.laid_out found below) ∙ passes (p.index + j)

or_true : (a b : Bool) → b ≡ true → (a || b) ≡ true
or_true true b e = refl
or_true false b e = e

and_true : (a b c d : Bool) → a ≡ true → b ≡ true → c ≡ true → d ≡ true → (a && b && c && d) ≡ true
and_true a b c d e f g h = rw (e, f, g, h) refl

every_lane : (mask : ℕ) (test : ℕ → Bool) (w : ℕ) → ((j : ℕ) → j < 4 → test (w + j) ≡ true) → each_lane mask test w ≡ true
every_lane mask test w passes =
    and_true _ _ _ _ (or_true (not (masks mask 0)) (test (w + 0)) (passes 0 (omega arith))) (or_true (not (masks mask 1)) (test (w + 1)) (passes 1 (omega arith)))
    (or_true (not (masks mask 2)) (test (w + 2)) (passes 2 (omega arith))) (or_true (not (masks mask 3)) (test (w + 3)) (passes 3 (omega arith)))

pub readable_whole : (m : Flat) (at mask : ℕ) (p : Place) → IsMemory m → place_of m at ≡ Some p → at + 4 ≤ p.span.start + p.span.len
    → p.span.r ≡ true → each_lane mask (readable_at m) at ≡ true
readable_whole m at mask p kept found whole r =
    every_lane mask (readable_at m) at (λ j below. or_true (in_port (at + j)) _ (passes_next m at j p (λ q. q.span.r) kept found (omega arith) (λ i. r)))

pub storable_whole : (m : Flat) (at mask : ℕ) (p : Place) → IsMemory m → place_of m at ≡ Some p → at + 4 ≤ p.span.start + p.span.len
    → takes_stores p.span ≡ true → each_lane mask (storable_at m) at ≡ true
storable_whole m at mask p kept found whole w =
    every_lane mask (storable_at m) at (λ j below. passes_next m at j p (λ q. takes_stores q.span) kept found (omega arith) (λ i. w))
