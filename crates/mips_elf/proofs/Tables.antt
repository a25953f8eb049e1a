-- Program headers, one by one.
use Rattle.std.proofs.Common.{◌≡◌, ℕ, zero, suc, ◌+◌, ◌<◌, ◌≤◌, Bool, true, false, cond, not, nat_le, nat_lt, min, List, [], ◌∷◌, length, take, refl, subst, arith, get_or, drop, sym, ap, ◌∙◌, add-one}
use Rattle.std.proofs.Math.Seq.{drop-cons}
use Rattle.std.proofs.lemmas.Bool.Decides.{nat_tests}
use Rattle.std.proofs.lemmas.List.{length-take}
use Rattle.std.specs.Prelude.{Option, Some, None, find, slice_get, position}
use Rattle.std.specs.List.{prefix_len, position_or_len}
use Rattle.mips_elf.specs.declared.section.Section.{Section}
use Rattle.mips_elf.specs.Symbols.{is_symbol_table, section_lies, some_lies, before_zero}
use Rattle.mips_elf.specs.declared.segment.Segment.{Segment}
use Rattle.mips_elf.specs.declared.error.ElfError.{ElfError}
use Rattle.mips_elf.specs.Segments.{first_of, segment_fault, loads_fault}

pub fault_step : (len : ℕ) (segments : List Segment) (i : ℕ) (d : Segment) → i < length segments
    → loads_fault len i (drop i segments) ≡ first_of (segment_fault len i (get_or segments i d)) (loads_fault len (i + 1) (drop (i + 1) segments))
fault_step len segments i d lt =
    rw (drop-cons segments i d lt)
    (ap (λ n. first_of (segment_fault len i (get_or segments i d)) (loads_fault len (i + 1) (drop n segments))) (sym (add-one i)))

-- the first fault, where none came before it
pub fault_found : (len : ℕ) (segments : List Segment) (i : ℕ) (d : Segment) (fault : ElfError) → i < length segments
    → loads_fault len 0 segments ≡ loads_fault len i (drop i segments) → segment_fault len i (get_or segments i d) ≡ Some fault
    → Some fault ≡ loads_fault len 0 segments
fault_found len segments i d fault lt before here =
    sym (before ∙ fault_step len segments i d lt ∙ ap (λ f. first_of f (loads_fault len (i + 1) (drop (i + 1) segments))) here)

found-at : (p : Section → Bool) (x y : Section) (rest : Option Section) (b : Bool) → p y ≡ b → (rest ≡ Some x → p x ≡ true)
    → cond b (Some y) rest ≡ Some x → p x ≡ true
found-at p x y rest true h more e = let same : y ≡ x = cc in subst (λ s. p s ≡ true) same h
found-at p x y rest false h more e = more e

-- what is found passes
found_passes : (p : Section → Bool) (xs : List Section) (x : Section) → find p xs ≡ Some x → p x ≡ true
found_passes p [] x e = cc
found_passes p (y ∷ ys) x e = found-at p x y (find p ys) (p y) refl (found_passes p ys x) e

table-at : (len : ℕ) (sections : List Section) (table : Section) → is_symbol_table len sections table ≡ true
    → (section_lies len table ≡ true) × (some_lies len (slice_get sections table.link) ≡ true)
table-at len sections table h = (grind (arith, nat_tests), grind (arith, nat_tests))

-- a symbol table that is found lies in the file, and so does its string table
pub tables_lie : (len : ℕ) (sections : List Section) (table strings : Section) → find (is_symbol_table len sections) sections ≡ Some table
    → slice_get sections table.link ≡ Some strings → (section_lies len table ≡ true) × (section_lies len strings ≡ true)
tables_lie len sections table strings found linked =
    let both = table-at len sections table (found_passes (is_symbol_table len sections) sections table found) in
    (both.0, ap (some_lies len) (sym linked) ∙ both.1)

prefix-at : (m n : ℕ) (b : Bool) (k : ℕ) → k ≡ min m n → cond b (1 + k) 0 ≡ min (suc m) (cond b (1 + n) 0)
prefix-at m n true k e = omega arith
prefix-at m n false k e = omega arith

prefix_len-take : (p : ℕ → Bool) (m : ℕ) (xs : List ℕ) → prefix_len p (take m xs) ≡ min m (prefix_len p xs)
prefix_len-take p zero xs = omega arith
prefix_len-take p (suc m) [] = omega arith
prefix_len-take p (suc m) (x ∷ xs) = prefix-at m (prefix_len p xs) (p x) (prefix_len p (take m xs)) (prefix_len-take p m xs)

prefix-le-at : (b : Bool) (k n : ℕ) → k ≤ n → cond b (1 + k) 0 ≤ suc n
prefix-le-at true k n le = omega arith
prefix-le-at false k n le = omega arith

prefix_len-le : (p : ℕ → Bool) (xs : List ℕ) → prefix_len p xs ≤ length xs
prefix_len-le p [] = omega arith
prefix_len-le p (x ∷ xs) = prefix-le-at (p x) (prefix_len p xs) (length xs) (prefix_len-le p xs)

place-at : (text : List ℕ) (len i m j l : ℕ) → i ≤ len → m ≡ min len 1025 → j ≡ min m i → l ≡ min m len
    → (b c : Bool) → nat_lt j l ≡ b → nat_lt i len ≡ c → before_zero text (cond b (Some j) None) ≡ before_zero text (cond c (Some i) None)
place-at text len i m j l le mm jj ll true true below inside =
    let lt : j < l = grind (arith, nat_tests) in
    let same : j ≡ i = omega arith in
    ap (λ n. before_zero text (Some n)) same
place-at text len i m j l le mm jj ll true false below inside =
    let lt : j < l = grind (arith, nat_tests) in
    let ge : len ≤ i = grind (arith, nat_tests) in
    absurd (omega arith)
place-at text len i m j l le mm jj ll false true below inside =
    let ge : l ≤ j = grind (arith, nat_tests) in
    let lt : i < len = grind (arith, nat_tests) in
    let far : 1025 ≤ i = omega arith in
    let no : nat_le i 1024 ≡ false = grind (arith, nat_tests) in
    sym (ap (λ b. cond b (Some (take i text)) None) no)
place-at text len i m j l le mm jj ll false false below inside = refl

-- a name is found in the first bytes that it may have, and the zero byte behind them
pub place_in_part : (p : ℕ → Bool) (text : List ℕ) (m : ℕ) → m ≡ min (length text) 1025 → before_zero text (position p (take m text)) ≡ before_zero text (position p text)
place_in_part p text m is =
    place-at text (length text) (position_or_len p text) m (position_or_len p (take m text)) (length (take m text))
    (prefix_len-le (λ x. not (p x)) text) is (prefix_len-take (λ x. not (p x)) m text) (length-take m text)
    (nat_lt (position_or_len p (take m text)) (length (take m text))) (nat_lt (position_or_len p text) (length text)) refl refl
