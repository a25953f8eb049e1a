-- Stores never change code.
use Rattle.std.proofs.Common.{◌≡◌, ◌≢◌, ℕ, ◌+◌, ◌-◌, ◌%◌, ◌<◌, ◌≤◌, Bool, true, false, cond, eqb, List, [], ◌∷◌, Option, Some, None, refl, sym, ap, ap₂, ◌∙◌, arith, get_or-set_other}
use Rattle.std.specs.Prelude.{◌&&◌, ◌||◌, not, slice_set}
use Rattle.std.proofs.lemmas.Grind.{common_steps}
use Rattle.visa_io.specs.declared.records.Span.{Span}
use Rattle.mips_ref.proofs.Places.{place_from-next}
use Rattle.mips_ref.specs.Access.{each_lane, lane_passes, word_start}
use Rattle.mips_ref.specs.Memory.{Flat, LaidOut, at_place, byte_at, byte_of, code_at, code_word_at, has, in_order, is_code, lane, lanes_at, masks, place_from, place_of, port, put_at, put_byte, put_lane, put_lanes, storable_at, takes_stores}
use Rattle.mips_ref.specs.SameCode.{SameCode}
use Rattle.mips_ref.specs.Step.{memory_after}
use Rattle.mips_ref.specs.declared.place.Place.{Place}

-- the places in a list of ranges begin with the bytes before it
pub first_index : (before : ℕ) (spans : List Span) (a : ℕ) (p : Place) → place_from before spans a ≡ Some p → before ≤ p.index
unfolding place_from
first_index before [] a p found = cc
first_index before (s ∷ rest) a p found = first_step before s rest a p (has s a) found (first_index (before + s.len) rest a p)
  where
    first_step : (before : ℕ) (s : Span) (rest : List Span) (a : ℕ) (p : Place) (b : Bool)
        → cond b (Some (record { span = s; index = before + (a - s.start) })) (place_from (before + s.len) rest a) ≡ Some p
        → (place_from (before + s.len) rest a ≡ Some p → before + s.len ≤ p.index) → before ≤ p.index
    first_step before s rest a p true found next =
        let here : ◌≡◌ {A = Place} (record { span = s; index = before + (a - s.start) }) p = cc in
        omega (arith, ap (λ (q : Place). q.index) here)
    first_step before s rest a p false found next = omega (arith, next found)

pub has-true : (s : Span) (at : ℕ) → has s at ≡ true → (s.start ≤ at) × (at < s.start + s.len)
has-true s at e = (grind (arith, common_steps, e), grind (arith, common_steps, e))

same_step : (before : ℕ) (s : Span) (rest : List Span) (a c : ℕ) (p q : Place) (d e : Bool) → has s a ≡ d → has s c ≡ e
    → cond d (Some (record { span = s; index = before + (a - s.start) })) (place_from (before + s.len) rest a) ≡ Some p
    → cond e (Some (record { span = s; index = before + (c - s.start) })) (place_from (before + s.len) rest c) ≡ Some q
    → p.index ≡ q.index → (place_from (before + s.len) rest a ≡ Some p → place_from (before + s.len) rest c ≡ Some q → p.span ≡ q.span)
    → p.span ≡ q.span
same_step before s rest a c p q true true h k found other same next =
    let here : ◌≡◌ {A = Place} (record { span = s; index = before + (a - s.start) }) p = cc in
    let there : ◌≡◌ {A = Place} (record { span = s; index = before + (c - s.start) }) q = cc in
    sym (ap (λ (t : Place). t.span) here) ∙ ap (λ (t : Place). t.span) there
same_step before s rest a c p q true false h k found other same next =
    let here : ◌≡◌ {A = Place} (record { span = s; index = before + (a - s.start) }) p = cc in
    let within = has-true s a h in
    absurd (omega (arith, within.0, within.1, ap (λ (t : Place). t.index) here, first_index (before + s.len) rest c q other))
same_step before s rest a c p q false true h k found other same next =
    let there : ◌≡◌ {A = Place} (record { span = s; index = before + (c - s.start) }) q = cc in
    let within = has-true s c k in
    absurd (omega (arith, within.0, within.1, ap (λ (t : Place). t.index) there, first_index (before + s.len) rest a p found))
same_step before s rest a c p q false false h k found other same next = next found other

-- bytes of one number stand in one range
pub same_span : (before : ℕ) (spans : List Span) (a c : ℕ) (p q : Place) → place_from before spans a ≡ Some p → place_from before spans c ≡ Some q
    → p.index ≡ q.index → p.span ≡ q.span
unfolding place_from
same_span before [] a c p q found other same = cc
same_span before (s ∷ rest) a c p q found other same =
    same_step before s rest a c p q (has s a) (has s c) refl refl found other same (λ f g. same_span (before + s.len) rest a c p q f g same)

-- what a change of a byte leaves: the ranges and the byte order
pub record SameSpans (m n : Flat) : Type 0 where
  pub spans : m.spans ≡ n.spans
  pub big : m.big ≡ n.big

pub put_byte-spans : (m : Flat) (a b : ℕ) → SameSpans (put_byte m a b) m
unfolding put_byte
put_byte-spans m a b = put_at-spans m b (place_of m a)
  where
    put_at-spans : (m : Flat) (b : ℕ) (o : Option Place) → SameSpans (put_at m b o) m
    put_at-spans m b None = record { spans = refl; big = refl }
    put_at-spans m b (Some p) = record { spans = refl; big = refl }

pub same_code : (m : Flat) → SameCode m m
same_code m = record { spans_are = refl; big_is = refl; bytes_are = λ c p place runs. refl }

place_same : (m n : Flat) (c : ℕ) → n.spans ≡ m.spans → place_of n c ≡ place_of m c
place_same m n c e = ap (λ spans. place_from 0 spans c) e

pub same_code_again : (m n o : Flat) → SameCode m n → SameCode n o → SameCode m o
same_code_again m n o first second = record {
  spans_are = second.spans_are ∙ first.spans_are;
  big_is = second.big_is ∙ first.big_is;
  bytes_are = λ c p place runs. second.bytes_are c p (place_same m n c first.spans_are ∙ place) runs ∙ first.bytes_are c p place runs;
}

not_both : (s : Span) → takes_stores s ≡ true → s.x ≡ true → ⊥
not_both s takes runs = let e : (s.w && not s.x) ≡ true = takes in absurd (grind (arith, common_steps, e, runs))

other_byte : (m : Flat) (a b c : ℕ) (q : Place) (o : Option Place) → place_of m a ≡ o → place_of m c ≡ Some q → q.span.x ≡ true
    → at_place o (λ p. takes_stores p.span) ≡ true → byte_at (put_at m b o) c ≡ byte_at m c
other_byte m a b c q None at found runs takes = refl
other_byte m a b c q (Some p) at found runs takes =
    let apart : q.index ≢ p.index = λ e. not_both p.span takes (ap (λ (s : Span). s.x) (same_span 0 m.spans a c p q at found (sym e)) ∙ runs) in
    ap (byte_of (slice_set m.bytes p.index b)) found ∙ ap Some (get_or-set_other m.bytes p.index q.index b 0 apart) ∙ sym (ap (byte_of m.bytes) found)

-- a byte that can be stored to isn't one of code
kept_byte : (m : Flat) (a b c : ℕ) (q : Place) → place_of m c ≡ Some q → q.span.x ≡ true → storable_at m a ≡ true → byte_at (put_byte m a b) c ≡ byte_at m c
unfolding put_byte
kept_byte m a b c q found runs takes = other_byte m a b c q (place_of m a) refl found runs takes

-- nor does it change code
pub put_keeps : (m : Flat) (a b : ℕ) → storable_at m a ≡ true → SameCode m (put_byte m a b)
put_keeps m a b takes =
    let put = put_byte-spans m a b in
    record { spans_are = put.spans; big_is = put.big; bytes_are = λ c q found runs. kept_byte m a b c q found runs takes }

-- what can be stored to depends on the ranges alone
pub storable_same : (m n : Flat) (a : ℕ) → SameCode m n → storable_at n a ≡ storable_at m a
storable_same m n a same = ap (λ o. at_place o (λ p. takes_stores p.span)) (place_same m n a same.spans_are)

lane_if : (t : Bool) (m n : Flat) (a b : ℕ) → SameCode m n → (not t || storable_at m a) ≡ true → SameCode m (cond t (put_byte n a b) n)
lane_if true m n a b k passes = same_code_again m n (put_byte n a b) k (put_keeps n a b (storable_same m n a k ∙ passes))
lane_if false m n a b k passes = k

lane_keeps : (j w mask word : ℕ) (m n : Flat) → SameCode m n → lane_passes mask (storable_at m) w j ≡ true → SameCode m (put_lane j w mask word n)
lane_keeps j w mask word m n k passes = lane_if (masks mask j) m n (w + j) (lane j word) k passes

pub and_left : (a b : Bool) → (a && b) ≡ true → a ≡ true
and_left true b e = refl
and_left false b e = e

pub and_right : (a b : Bool) → (a && b) ≡ true → b ≡ true
and_right true b e = e
and_right false b e = cc

-- bytes that can all be stored to
pub lanes_keep : (m : Flat) (w mask word : ℕ) → each_lane mask (storable_at m) w ≡ true → SameCode m (put_lanes m w mask word)
unfolding put_lanes
lanes_keep m w mask word passes =
    let t = lane_passes mask (storable_at m) w in
    let three = and_left (t 0 && t 1 && t 2) (t 3) passes in
    let two = and_left (t 0 && t 1) (t 2) three in
    let k0 = lane_keeps 0 w mask word m m (same_code m) (and_left (t 0) (t 1) two) in
    let k1 = lane_keeps 1 w mask word m _ k0 (and_right (t 0) (t 1) two) in
    let k2 = lane_keeps 2 w mask word m _ k1 (and_right (t 0 && t 1) (t 2) three) in
    lane_keeps 3 w mask word m _ k2 (and_right (t 0 && t 1 && t 2) (t 3) passes)

-- the range of an address of code
code_place : (m : Flat) (a : ℕ) (o : Option Place) → place_of m a ≡ o → at_place o (is_code a) ≡ true → (p : Place) × (place_of m a ≡ Some p) × (is_code a p ≡ true)
code_place m a None at e = cc
code_place m a (Some p) at e = (p, at, e)

word_kept : (m n : Flat) (a : ℕ) (b : Bool) → LaidOut 0 m.spans → SameCode m n → code_at m a ≡ b
    → cond b (Some (in_order n.big (lanes_at n a))) None ≡ cond b (Some (in_order m.big (lanes_at m a))) None
word_kept m n a false laid k e = refl
word_kept m n a true laid k e =
    let there = code_place m a (place_of m a) refl (and_right (eqb (a % 4) 0) (at_place (place_of m a) (is_code a)) e) in
    let runs = and_left there.0.span.x _ there.2 in
    let whole : a + 4 ≤ there.0.span.start + there.0.span.len = grind (arith, common_steps, there.2) in
    let byte : (j : ℕ) → j < 4 → byte_at n (a + j) ≡ byte_at m (a + j) =
    λ j below. k.bytes_are (a + j) _ (place_from-next 0 0 m.spans a j there.0 laid there.1 (omega arith)) runs in
    let first : byte_at n a ≡ byte_at m a = k.bytes_are a there.0 there.1 runs in
    ap Some (ap₂ in_order k.big_is (rw (first, byte 1 (omega arith), byte 2 (omega arith), byte 3 (omega arith)) refl))

-- and so the words of code stay
pub code_word-kept : (m n : Flat) (a : ℕ) → LaidOut 0 m.spans → SameCode m n → code_word_at n a ≡ code_word_at m a
unfolding code_word_at
code_word-kept m n a laid k =
    let same : code_at n a ≡ code_at m a = ap (λ s. eqb (a % 4) 0 && at_place (place_from 0 s a) (is_code a)) k.spans_are in
    ap (λ b. cond b (Some (in_order n.big (lanes_at n a))) None) same ∙ word_kept m n a (code_at m a) laid k refl

pub spans-again : (m n o : Flat) → SameSpans m n → SameSpans n o → SameSpans m o
spans-again m n o a b = record { spans = a.spans ∙ b.spans; big = a.big ∙ b.big }

lane-step : (b : Bool) (m : Flat) (a v : ℕ) → SameSpans (cond b (put_byte m a v) m) m
lane-step true m a v = put_byte-spans m a v
lane-step false m a v = record { spans = refl; big = refl }

lane-spans : (j w mask word : ℕ) (m : Flat) → SameSpans (put_lane j w mask word m) m
lane-spans j w mask word m = lane-step (masks mask j) m _ (lane j word)

lanes-spans : (m : Flat) (w mask word : ℕ) → SameSpans (put_lanes m w mask word) m
unfolding put_lanes
lanes-spans m w mask word =
    let a = put_lane 0 w mask word m in
    let b = put_lane 1 w mask word a in
    let c = put_lane 2 w mask word b in
    spans-again _ c m (lane-spans 3 w mask word c)
    (spans-again _ b m (lane-spans 2 w mask word b) (spans-again _ a m (lane-spans 1 w mask word a) (lane-spans 0 w mask word m)))

port-step : (b : Bool) (m : Flat) (w mask word : ℕ) → SameSpans (cond b m (put_lanes m w mask word)) m
port-step true m w mask word = record { spans = refl; big = refl }
port-step false m w mask word = lanes-spans m w mask word

-- a store leaves the ranges and the byte order
pub memory-spans : (o : Option ℕ) (mask word : ℕ) (m : Flat) → SameSpans (memory_after o mask word m) m
memory-spans None mask word m = record { spans = refl; big = refl }
memory-spans (Some at) mask word m = port-step (eqb at port) m (word_start at) mask word
