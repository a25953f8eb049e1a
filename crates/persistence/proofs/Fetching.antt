-- The law of fetches over lists: a persistent line stays in the cache while only lines of the scope are accessed.
use Rattle.std.proofs.Common.{◌≡◌, refl, sym, ap, subst, ◌∙◌, inl, inr, ℕ, ◌+◌, ◌≤◌, ◌<◌, Bool, true, false, ◌||◌, List, [], ◌∷◌, ◌++◌, length, append_assoc, eq-eqb, lt-ltb, arith}
use Rattle.std.specs.Prelude.{if◌then◌else◌, ◌==◌, ◌&&◌, nat_lt, map, filter, Some}
use Rattle.std.proofs.lemmas.Bool.{and_from, and_parts, cases_Bool, cases_eq, leb-true}
use Rattle.std.proofs.lemmas.List.{map-append}
use Rattle.cache_lru.specs.Recency.{is_among, is_recent, line_of, lines_at, lines_of, set_of, since}
use Rattle.cache_lru.proofs.Lines.{among_other, among_same, among-since, once_lines, since_other, since_same}
use Rattle.cache_lru.proofs.Once.{among-filter, among-lines_of, once-filter, once_short}
use Rattle.persistence.specs.Charges.{each_once, is_persistent}
use Rattle.persistence.specs.Fetches.{Charging, AllFollow, AllInside, Follows, charges_at, covers, has_persistent, late_at, misses, newest_hits, persistent_count}
use Rattle.persistence.proofs.Charged.{among-each_once, once-each_once}

-- since the last access to a line there were only accesses of the part after it
among-since_part : (n k : ℕ) (part older : List ℕ) → is_among k (since n (part ++ n ∷ older)) ≡ true → is_among k part ≡ true
among-since_part n k [] older h = let none = ap (is_among k) (since_same n n older refl) in let clash : true ≡ false = sym h ∙ none in cc
among-since_part n k (m ∷ part) older h = elim (cases_eq m n) [
  | inl same ↦ (let none = ap (is_among k) (since_same n m (part ++ n ∷ older) same) in let clash : true ≡ false = sym h ∙ none in cc)
  | inr other ↦ (
      let more = sym (ap (is_among k) (since_other n m (part ++ n ∷ older) other)) ∙ h in
      elim (cases_eq m k) [
        | inl here ↦ among_same k m part here
        | inr elsewhere ↦ among_other k m part elsewhere ∙ among-since_part n k part older (sym (among_other k m (since n (part ++ n ∷ older)) elsewhere) ∙ more)
      ])
]

among-behind : (n : ℕ) (part older : List ℕ) → is_among n (part ++ n ∷ older) ≡ true
among-behind n [] older = among_same n n older refl
among-behind n (m ∷ part) older = elim (cases_eq m n) [
  | inl same ↦ among_same n m (part ++ n ∷ older) same
  | inr other ↦ among_other n m (part ++ n ∷ older) other ∙ among-behind n part older
]

-- A line whose set has no more lines of the scope than ways is recent while only lines of the scope were accessed since.
stays_recent : (set : ℕ → ℕ) (ways n : ℕ) (scope part older : List ℕ) → length (lines_of set (set n) scope) ≤ ways → is_among n scope ≡ true → ((k : ℕ) → is_among k part ≡ true → is_among k scope ≡ true)
    → is_recent set ways n (part ++ n ∷ older) ≡ true
stays_recent set ways n scope part older few here inside =
    let between = since n (part ++ n ∷ older) in
    let others = lines_of set (set n) between in
    let no_n : is_among n others ≡ false = among-lines_of set (set n) n between ∙ ap (λ q. q && (set n == set n)) (among-since n (part ++ n ∷ older)) in
    let short = once_short (n ∷ others) (lines_of set (set n) scope) (no_n, once_lines set (set n) between)
    (λ k h. among-lines_of set (set n) k scope ∙ (elim (cases_eq n k) [
      | inl same ↦ and_from (is_among k scope) (set k == set n) (subst (λ q. is_among q scope ≡ true) same here) (eq-eqb (set k) (set n) (ap set (sym same)))
      | inr other ↦ (
          let parts = and_parts (is_among k between) (set k == set n) (sym (among-lines_of set (set n) k between) ∙ sym (among_other k n others other) ∙ h) in
          and_from (is_among k scope) (set k == set n) (inside k (among-since_part n k part older parts.0)) parts.1)
    ])) in
    and_from (is_among n (part ++ n ∷ older)) (nat_lt (length others) ways) (among-behind n part older) (lt-ltb (length others) ways (omega (arith, short, few)))

-- an access to the line just accessed hits
again_recent : (set : ℕ → ℕ) (ways n m : ℕ) (older : List ℕ) → 0 < ways → n ≡ m → is_recent set ways n (m ∷ older) ≡ true
again_recent set ways n m older some same =
    let none : lines_of set (set n) (since n (m ∷ older)) ≡ [] = ap (lines_of set (set n)) (since_same n m older (sym same)) in
    and_from (is_among n (m ∷ older)) (nat_lt (length (lines_of set (set n) (since n (m ∷ older)))) ways) (among_same n m older (sym same))
    (lt-ltb (length (lines_of set (set n) (since n (m ∷ older)))) ways (omega (arith, some, ap (λ (q : List ℕ). length q) none)))

among-map : (f : ℕ → ℕ) (k : ℕ) (xs : List ℕ) → is_among k xs ≡ true → is_among (f k) (map f xs) ≡ true
among-map f k [] h = cc
among-map f k (x ∷ xs) h = elim (cases_eq (f x) (f k)) [
  | inl same ↦ among_same (f k) (f x) (map f xs) same
  | inr other ↦ among_other (f k) (f x) (map f xs) other ∙ among-map f k xs (sym (among_other k x xs (λ e. other (ap f e))) ∙ h)
]

-- where a line stands in a list
record IsSplit (n : ℕ) (xs : List ℕ) : Type 0 where
  front : List ℕ
  back : List ℕ
  is : xs ≡ front ++ n ∷ back

split_at : (n : ℕ) (xs : List ℕ) → is_among n xs ≡ true → IsSplit n xs
split_at n [] h = cc
split_at n (x ∷ xs) h = elim (cases_eq x n) [
  | inl same ↦ record { front = []; back = xs; is = ap (λ q. q ∷ xs) same }
  | inr other ↦ (let more = split_at n xs (sym (among_other n x xs other) ∙ h) in record { front = x ∷ more.front; back = more.back; is = ap (λ q. x ∷ q) more.is })
]

among-front : (k : ℕ) (front back : List ℕ) → is_among k front ≡ true → is_among k (front ++ back) ≡ true
among-front k [] back h = cc
among-front k (x ∷ front) back h = elim (cases_eq x k) [
  | inl same ↦ among_same k x (front ++ back) same
  | inr other ↦ among_other k x (front ++ back) other ∙ among-front k front back (sym (among_other k x front other) ∙ h)
]

-- the lines of addresses of the scope are lines of the scope
inside_lines : (c : Charging) (part : List ℕ) → AllInside c part → (k : ℕ) → is_among k (lines_at c.shape part) ≡ true → is_among k (lines_at c.shape c.scope) ≡ true
inside_lines c [] inside k h = cc
inside_lines c (at ∷ part) inside k h = elim (cases_eq (line_of c.shape at) k) [
  | inl same ↦ subst (λ q. is_among q (lines_at c.shape c.scope) ≡ true) same (among-map (line_of c.shape) at c.scope inside.0)
  | inr other ↦ inside_lines c part inside.1 k (sym (among_other k (line_of c.shape at) (lines_at c.shape part) other) ∙ h)
]

-- a fetch of a persistent line that was fetched in the part hits
kept_hits : (c : Charging) (at : ℕ) (part older : List ℕ) → is_among at c.scope ≡ true → AllInside c part → has_persistent c at ≡ true → is_among (line_of c.shape at) (lines_at c.shape part) ≡ true
    → newest_hits (Some c.shape) (at ∷ (part ++ older)) ≡ true
kept_hits c at part older here inside keeps among =
    let n = line_of c.shape at in
    let s = split_at n (lines_at c.shape part) among in
    let all : lines_at c.shape (part ++ older) ≡ s.front ++ n ∷ (s.back ++ lines_at c.shape older) =
    map-append (line_of c.shape) part older ∙ ap (λ q. q ++ lines_at c.shape older) s.is ∙ append_assoc s.front (n ∷ s.back) (lines_at c.shape older) in
    ap (is_recent (set_of c.shape) c.shape.ways n) all
    ∙ stays_recent (set_of c.shape) c.shape.ways n (lines_at c.shape c.scope) s.front (s.back ++ lines_at c.shape older)
    (leb-true (length (lines_of (set_of c.shape) (set_of c.shape n) (lines_at c.shape c.scope))) c.shape.ways keeps)
    (among-map (line_of c.shape) at c.scope here)
    (λ k h. inside_lines c part inside k (subst (λ q. is_among k q ≡ true) (sym s.is) (among-front k s.front (n ∷ s.back) h)))

-- the persistent lines of a list, each once
abbrev pub kept_in : (ℕ → Bool) → List ℕ → List ℕ
kept_in p lines = filter p (each_once lines)

among-kept_in : (p : ℕ → Bool) (k : ℕ) (lines : List ℕ) → is_among k (kept_in p lines) ≡ (is_among k lines && p k)
among-kept_in p k lines = among-filter p k (each_once lines) ∙ ap (λ q. q && p k) (among-each_once k lines)

-- lists with more members have no fewer of them
kept_fewer : (p : ℕ → Bool) (lines others : List ℕ) → ((k : ℕ) → is_among k lines ≡ true → is_among k others ≡ true) → length (kept_in p lines) ≤ length (kept_in p others)
kept_fewer p lines others inside = once_short (kept_in p lines) (kept_in p others) (once-filter p (each_once lines) (once-each_once lines))
    (λ k h. let parts = and_parts (is_among k lines) (p k) (sym (among-kept_in p k lines) ∙ h) in
    among-kept_in p k others ∙ and_from (is_among k others) (p k) (inside k parts.0) parts.1)

among_more : (k n : ℕ) (lines : List ℕ) → is_among k lines ≡ true → is_among k (n ∷ lines) ≡ true
among_more k n lines h = elim (cases_eq n k) [ inl same ↦ among_same k n lines same | inr other ↦ among_other k n lines other ∙ h ]

kept_older : (p : ℕ → Bool) (n : ℕ) (lines : List ℕ) → length (kept_in p lines) ≤ length (kept_in p (n ∷ lines))
kept_older p n lines = kept_fewer p lines (n ∷ lines) (λ k h. among_more k n lines h)

kept_first : (p : ℕ → Bool) (n : ℕ) (lines : List ℕ) → p n ≡ true → is_among n lines ≡ false → length (kept_in p lines) + 1 ≤ length (kept_in p (n ∷ lines))
kept_first p n lines keeps none =
    let new : is_among n (kept_in p lines) ≡ false = among-kept_in p n lines ∙ ap (λ q. q && p n) none in
    let short = once_short (n ∷ kept_in p lines) (kept_in p (n ∷ lines)) (new, once-filter p (each_once lines) (once-each_once lines))
    (λ k h. among-kept_in p k (n ∷ lines) ∙ (elim (cases_eq n k) [
      | inl same ↦ and_from (is_among k (n ∷ lines)) (p k) (among_same k n lines same) (subst (λ q. p q ≡ true) same keeps)
      | inr other ↦ (
          let parts = and_parts (is_among k lines) (p k) (sym (among-kept_in p k lines) ∙ sym (among_other k n (kept_in p lines) other) ∙ h) in
          and_from (is_among k (n ∷ lines)) (p k) (among_more k n lines parts.0) parts.1)
    ])) in
    omega (arith, short)

-- one fetch misses at most once, and not at all where it hits
flag_small : (hit : Bool) → (if hit then 0 else 1) ≤ 1
flag_small true = omega arith
flag_small false = omega arith

flag_none : (hit : Bool) (m : ℕ) → hit ≡ true → (if hit then 0 else 1) ≤ m
flag_none true m e = omega arith
flag_none false m e = cc

flag_charged : (charged : Bool) (m n : ℕ) → m ≤ 1 → charged ≡ true → m ≤ (if charged then 1 else 0) + n
flag_charged true m n h e = omega (arith, h)
flag_charged false m n h e = cc

-- a later fetch of a part
one_fetch : (c : Charging) (at before : ℕ) (part older : List ℕ) → 0 < c.shape.ways → is_among at c.scope ≡ true → AllInside c (before ∷ part) → Follows c at before
    → (if newest_hits (Some c.shape) (at ∷ (before ∷ part ++ older)) then 0 else 1) + length (kept_in (is_persistent c.shape (lines_at c.shape c.scope)) (lines_at c.shape (before ∷ part)))
    ≤ (if c.charged at then 1 else 0) + length (kept_in (is_persistent c.shape (lines_at c.shape c.scope)) (lines_at c.shape (at ∷ before ∷ part)))
one_fetch c at before part older some here inside follows =
    let p = is_persistent c.shape (lines_at c.shape c.scope) in
    let n = line_of c.shape at in
    let lines = lines_at c.shape (before ∷ part) in
    let hit = newest_hits (Some c.shape) (at ∷ (before ∷ part ++ older)) in
    let more = kept_older p n lines in
    elim follows [
      | inl charged ↦ omega (arith, flag_charged (c.charged at) (if hit then 0 else 1) 0 (flag_small hit) charged, more)
      | inr rest ↦ elim rest [
        | inl keeps ↦ elim (cases_Bool (is_among n lines)) [
          | inl among ↦ omega (arith, flag_none hit 0 (kept_hits c at (before ∷ part) older here inside keeps among), more)
          | inr none ↦ omega (arith, flag_small hit, kept_first p n lines keeps none)
        ]
        | inr same ↦ omega (arith, flag_none hit 0 (again_recent (set_of c.shape) c.shape.ways n (line_of c.shape before) (lines_at c.shape (part ++ older)) some same), more)
      ]
    ]

-- the oldest fetch of a part
oldest_fetch : (c : Charging) (at : ℕ) (hit : Bool) → (if hit then 0 else 1) ≤ (if c.charged at then 1 else 0) + length (kept_in (is_persistent c.shape (lines_at c.shape c.scope)) (lines_at c.shape (at ∷ []))) + late_at (covers c) (at ∷ [])
oldest_fetch c at hit =
    elim (cases_Bool (has_persistent c at)) [
      | inl keeps ↦ omega (arith, flag_small hit, kept_first (is_persistent c.shape (lines_at c.shape c.scope)) (line_of c.shape at) [] keeps refl)
      | inr none ↦ omega (arith, uncovered (c.charged at) (has_persistent c at) none hit)
    ]
  where
    uncovered : (charged keeps : Bool) → keeps ≡ false → (hit : Bool) → (if hit then 0 else 1) ≤ (if charged then 1 else 0) + (if charged || keeps then 0 else 1)
    uncovered true keeps e hit = omega (arith, flag_small hit)
    uncovered false true e hit = cc
    uncovered false false e hit = omega (arith, flag_small hit)

few_of : (c : Charging) (part older : List ℕ) → 0 < c.shape.ways → AllFollow c part → AllInside c part
    → misses (newest_hits (Some c.shape)) part older ≤ charges_at c.charged part + length (kept_in (is_persistent c.shape (lines_at c.shape c.scope)) (lines_at c.shape part)) + late_at (covers c) part
few_of c [] older some follow inside = omega arith
few_of c (at ∷ []) older some follow inside = omega (arith, oldest_fetch c at (newest_hits (Some c.shape) (at ∷ older)))
few_of c (at ∷ before ∷ part) older some follow inside =
    omega (arith, one_fetch c at before part older some inside.0 inside.1 follow.0, few_of c (before ∷ part) older some follow.1 inside.1)

-- The law of fetches: whatever was fetched before, the misses of a part are at most its charged fetches, the persistent lines of
-- the scope, and one where it begins with a fetch that isn't covered.
pub few : (c : Charging) (part older : List ℕ) → 0 < c.shape.ways → AllFollow c part → AllInside c part → misses (newest_hits (Some c.shape)) part older ≤ charges_at c.charged part + persistent_count c + late_at (covers c) part
few c part older some follow inside =
    omega (arith, few_of c part older some follow inside, kept_fewer (is_persistent c.shape (lines_at c.shape c.scope)) (lines_at c.shape part) (lines_at c.shape c.scope) (inside_lines c part inside))
