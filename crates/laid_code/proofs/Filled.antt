-- The bytes that ranges are filled with stand at their addresses.
use Rattle.std.proofs.Common.{◌≡◌, ◌∙◌, refl, sym, ap, subst, ℕ, zero, suc, ◌+◌, ◌<◌, ◌≤◌, Bool, true, false, cond, List, [], ◌∷◌, ◌++◌, length, get_or, take, drop, arith, ◌⊎◌, inl, inr, Option, Some, None, length-set, get_or-set_same, length-drop, length-take}
use Rattle.std.specs.Prelude.{slice_set}
use Rattle.std.specs.List.{Contains}
use Rattle.std.proofs.lemmas.Bool.{cases_lt}
use Rattle.std.proofs.lemmas.Grind.{common_steps}
use Rattle.std.proofs.lemmas.List.{get_or-drop, get_or-take}
use Rattle.visa_io.specs.declared.records.Span.{Span}
use Rattle.mips_ref.specs.Memory.{Flat, LaidOut, byte_at, byte_of, declared_at, has, place_from, place_of, put_at, put_byte, put_bytes, total_len}
use Rattle.mips_ref.specs.Layout.{NoneRefused}
use Rattle.mips_ref.specs.declared.place.Place.{Place}
use Rattle.mips_ref.proofs.CodeKept.{put_byte-spans}
use Rattle.mips_ref.proofs.Laid.{holders, holders-cons}
use Rattle.mips_ref.proofs.Places.{place_from-holds}
use Rattle.mips_ref.proofs.Runs.{place_declared}
use Rattle.mips_ref.proofs.StoredOnly.{other_byte}
use Rattle.task_layout.specs.Layout.{filled}

-- ranges in order, with as many bytes as they hold
pub record IsFull (m : Flat) : Type 0 where
  pub laid_out : LaidOut 0 m.spans
  pub full : length m.bytes ≡ total_len m.spans

put_length : (m : Flat) (b : ℕ) (o : Option Place) → length (put_at m b o).bytes ≡ length m.bytes
put_length m b None = refl
put_length m b (Some p) = length-set m.bytes p.index b

byte_full : (m : Flat) (a b : ℕ) → IsFull m → IsFull (put_byte m a b)
unfolding put_byte
byte_full m a b is =
    let same = (put_byte-spans m a b).spans in
    let Laid : List Span → Type 0 = λ spans. LaidOut 0 spans in
    record { laid_out = subst Laid (sym same) is.laid_out; full = put_length m b (place_of m a) ∙ is.full ∙ ap total_len (sym same) }

declared_stays : (m : Flat) (a b c : ℕ) → declared_at m c ≡ true → declared_at (put_byte m a b) c ≡ true
declared_stays m a b c is = let same = (put_byte-spans m a b).spans in ap (λ spans. declared_at (record m { spans = spans }) c) same ∙ is

-- a byte that is put stands there
put_here : (m : Flat) (a b : ℕ) (p : Place) (o : Option Place) → o ≡ Some p → place_of m a ≡ Some p
    → p.index < length m.bytes → byte_of (put_at m b o).bytes (place_from 0 (put_at m b o).spans a) ≡ Some b
put_here m a b p o is found low =
    ap (λ q. byte_of (put_at m b q).bytes (place_from 0 (put_at m b q).spans a)) is ∙ ap (byte_of (slice_set m.bytes p.index b)) found ∙ ap Some (get_or-set_same m.bytes p.index b 0 low)

byte_here : (m : Flat) (a b : ℕ) → IsFull m → declared_at m a ≡ true → byte_at (put_byte m a b) a ≡ Some b
unfolding put_byte
byte_here m a b is there =
    let at = place_declared m a there in
    let holds = place_from-holds 0 0 m.spans a at.0 is.laid_out at.1 in
    let low : at.0.index < length m.bytes = omega (arith, holds.room, holds.high, is.full) in
    put_here m a b at.0 (place_of m a) at.1 at.1 low

-- a run of bytes
run_others : (bs : List ℕ) (m : Flat) (a c : ℕ) → (c < a) ⊎ (a + length bs ≤ c)
    → byte_at (put_bytes m a bs) c ≡ byte_at m c
unfolding put_bytes
run_others [] m a c apart = refl
run_others (b ∷ bs) m a c (inl low) =
    run_others bs (put_byte m a b) (a + 1) c (inl (omega (arith, low))) ∙ other_byte m a b c (λ e. omega (arith, e, low))
run_others (b ∷ bs) m a c (inr high) =
    run_others bs (put_byte m a b) (a + 1) c (inr (omega (arith, high))) ∙ other_byte m a b c (λ e. omega (arith, e, high))

pub run_full : (bs : List ℕ) (m : Flat) (a : ℕ) → IsFull m → IsFull (put_bytes m a bs)
unfolding put_bytes
run_full [] m a is = is
run_full (b ∷ bs) m a is = run_full bs (put_byte m a b) (a + 1) (byte_full m a b is)

run_declared : (bs : List ℕ) (m : Flat) (a c : ℕ) → declared_at m c ≡ true → declared_at (put_bytes m a bs) c ≡ true
unfolding put_bytes
run_declared [] m a c is = is
run_declared (b ∷ bs) m a c is = run_declared bs (put_byte m a b) (a + 1) c (declared_stays m a b c is)

run_here : (bs : List ℕ) (m : Flat) (a j : ℕ) → IsFull m → ((k : ℕ) → k < length bs → declared_at m (a + k) ≡ true)
    → j < length bs → byte_at (put_bytes m a bs) (a + j) ≡ Some (get_or bs j 0)
unfolding put_bytes
run_here [] m a j is there below = absurd (omega (arith, below))
run_here (b ∷ bs) m a zero is there below =
    let here : a + 0 ≡ a = omega arith in
    let Declared : ℕ → Type 0 = λ c. declared_at m c ≡ true in
    ap (byte_at (put_bytes (put_byte m a b) (a + 1) bs)) here ∙ run_others bs (put_byte m a b) (a + 1) a (inl (omega arith)) ∙ byte_here m a b is (subst Declared here (there 0 (omega arith)))
run_here (b ∷ bs) m a (suc j) is there below =
    let next : (k : ℕ) → a + suc k ≡ a + 1 + k = λ k. omega arith in
    let Declared : ℕ → Type 0 = λ c. declared_at (put_byte m a b) c ≡ true in
    ap (byte_at (put_bytes (put_byte m a b) (a + 1) bs)) (next j)
    ∙ run_here bs (put_byte m a b) (a + 1) j (byte_full m a b is) (λ k low. subst Declared (next k) (declared_stays m a b (a + suc k) (there (suc k) (omega (arith, low))))) (omega (arith, below))

-- outside a range
outside : (s : Span) (c : ℕ) → has s c ≡ false → (c < s.start) ⊎ (s.start + s.len ≤ c)
outside s c is = elim (cases_lt c s.start) [
  | inl low ↦ inl low
  | inr above ↦ elim (cases_lt c (s.start + s.len)) [
    | inl below ↦ absurd (let inside : has s c ≡ true = grind (arith, common_steps, above, below) in let clash : true ≡ false = sym inside ∙ is in cc)
    | inr past ↦ inr past
  ]
]

take_short : (n : ℕ) (xs : List ℕ) → length (take n xs) ≤ n
take_short n xs = omega (arith, length-take n xs)

pub filled_others : (spans : List Span) (bytes : List ℕ) (m : Flat) (c : ℕ)
    → ((s : Span) → Contains spans s → has s c ≡ false) → byte_at (filled spans bytes m) c ≡ byte_at m c
unfolding filled
filled_others [] bytes m c none = refl
filled_others (s ∷ rest) bytes m c none =
    let head : Contains (s ∷ rest) s = (0, omega arith, refl) in
    let tail : (u : Span) → Contains rest u → Contains (s ∷ rest) u = λ u among. (suc among.0, omega (arith, among.1), among.2) in
    let apart : (c < s.start) ⊎ (s.start + length (take s.len bytes) ≤ c) = elim (outside s c (none s head)) [ inl low ↦ inl low | inr past ↦ inr (omega (arith, past, take_short s.len bytes)) ] in
    filled_others rest (drop s.len bytes) (put_bytes m s.start (take s.len bytes)) c (λ u among. none u (tail u among)) ∙ run_others (take s.len bytes) m s.start c apart

-- the bytes of a range stand from its start on
pub filled_at : (before : List Span) (s : Span) (later : List Span) (bytes : List ℕ) (m : Flat) (j : ℕ) → IsFull m
    → ((k : ℕ) → k < s.len → declared_at m (s.start + k) ≡ true) → total_len before + s.len ≤ length bytes → j < s.len
    → ((u : Span) → Contains later u → has u (s.start + j) ≡ false)
    → byte_at (filled (before ++ s ∷ later) bytes m) (s.start + j) ≡ Some (get_or bytes (total_len before + j) 0)
unfolding filled total_len
filled_at [] s later bytes m j is there long below none =
    let run : length (take s.len bytes) ≡ s.len = omega (arith, length-take s.len bytes, long) in
    let here : 0 + j ≡ j = omega arith in
    filled_others later (drop s.len bytes) (put_bytes m s.start (take s.len bytes)) (s.start + j) none
    ∙ run_here (take s.len bytes) m s.start j is (λ k low. there k (omega (arith, low, run))) (omega (arith, below, run)) ∙ ap Some (get_or-take s.len bytes j 0 below ∙ ap (λ n. get_or bytes n 0) (sym here))
filled_at (t ∷ ts) s later bytes m j is there long below none =
    let rest : total_len ts + s.len ≤ length (drop t.len bytes) = omega (arith, length-drop t.len bytes, long) in
    let place : t.len + (total_len ts + j) ≡ t.len + total_len ts + j = omega arith in
    filled_at ts s later (drop t.len bytes) (put_bytes m t.start (take t.len bytes)) j (run_full (take t.len bytes) m t.start is) (λ k low. run_declared (take t.len bytes) m t.start (s.start + k) (there k low)) rest below none
    ∙ ap Some (get_or-drop t.len bytes (total_len ts + j) 0 ∙ ap (λ n. get_or bytes n 0) place)

-- no address is in two ranges
some_holder : (xs : List Span) (u : Span) (c : ℕ) → Contains xs u → has u c ≡ true → 1 ≤ holders c xs
some_holder [] u c (k, below, is) inside = absurd (omega (arith, below))
some_holder (x ∷ xs) u c (zero, below, is) inside =
    let here : cond (has x c) 1 0 ≡ 1 = ap (λ (b : Bool). let n : ℕ = cond b 1 0 in n) (ap (λ (s : Span). has s c) is ∙ inside) in
    omega (arith, holders-cons c x xs, here)
some_holder (x ∷ xs) u c (suc k, below, is) inside = omega (arith, holders-cons c x xs, some_holder xs u c (k, omega (arith, below), is) inside)

more_holders : (xs ys : List Span) (c : ℕ) → holders c ys ≤ holders c (xs ++ ys)
more_holders [] ys c = omega arith
more_holders (x ∷ xs) ys c = omega (arith, holders-cons c x (xs ++ ys), more_holders xs ys c)

append_again : (xs ys zs : List Span) → (xs ++ ys) ++ zs ≡ xs ++ (ys ++ zs)
append_again [] ys zs = refl
append_again (x ∷ xs) ys zs = ap (λ q. x ∷ q) (append_again xs ys zs)

contains_left : (xs ys : List Span) (u : Span) → Contains xs u → 1 ≤ length xs → Contains (xs ++ ys) u
contains_left [] ys u (k, below, is) some = absurd (omega (arith, below))
contains_left (x ∷ xs) ys u (zero, below, is) some = (0, omega arith, is)
contains_left (x ∷ []) ys u (suc k, below, is) some = absurd (omega (arith, below))
contains_left (x ∷ (y ∷ xs)) ys u (suc k, below, is) some =
    let more = contains_left (y ∷ xs) ys u (k, omega (arith, below), is) (omega arith) in (suc more.0, omega (arith, more.1), more.2)

pub apart : (before : List Span) (s : Span) (later ram : List Span) (u : Span) (c : ℕ)
    → NoneRefused ((before ++ s ∷ later) ++ ram) → Contains later u → has s c ≡ true → has u c ≡ false
apart before s later ram u c none among inside = by_test (has u c) refl
  where
    by_test : (b : Bool) → has u c ≡ b → b ≡ false
    by_test false is = refl
    by_test true is =
        let some : 1 ≤ length later = omega (arith, among.1) in
        let one = some_holder (later ++ ram) u c (contains_left later ram u among some) is in
        let here : ◌≡◌ {A = ℕ} (cond (has s c) 1 0) 1 = ap (λ (b : Bool). let n : ℕ = cond b 1 0 in n) inside in
        let two : 2 ≤ holders c (s ∷ (later ++ ram)) = omega (arith, holders-cons c s (later ++ ram), here, one) in
        let all = more_holders before (s ∷ (later ++ ram)) c in
        let same : holders c ((before ++ s ∷ later) ++ ram) ≡ holders c (before ++ (s ∷ (later ++ ram))) = ap (holders c) (append_again before (s ∷ later) ram) in
        absurd (none c (inl (omega (arith, two, all, same))))
