-- An access moves a line to the front of its set.
use Rattle.std.proofs.Common.{◌≡◌, refl, sym, ap, subst, ◌∙◌, ◌⊎◌, inl, inr, ℕ, suc, zero, ◌+◌, ◌≤◌, ◌<◌, ◌^◌, ◌%◌, Bool, true, false, List, [], ◌∷◌, ◌++◌, length, take, drop, set, get_or, append_assoc, length-append, length-take, eq-eqb, ne_eqb, add-one, arith}
use Rattle.std.specs.Prelude.{slice_index_or, slice_set}
use Rattle.std.proofs.lemmas.Bool.{cases_eq}
use Rattle.std.proofs.Math.Pow.{pow_pos}
use Rattle.std.proofs.lemmas.List.{drop_more, drop_all, length-take-le, take_all, take_more_set, set_split, drop-set-lt, take_at, get_or-set_same, get_or-set_other}
use Rattle.cache_lru.specs.Recency.{is_among, lines_of, is_recent, set_of}
use Rattle.visa_io.specs.declared.records.Shape.{Shape}
use Rattle.cache_lru.specs.Contents.{Contents, HoldsRecent, remove_first, renewed}
use Rattle.cache_lru.proofs.Lines.{among_parts, among_same, among_other, among_recent, lines_in, lines_out, once_lines, renewed_take}

-- While a line is pushed down: it and the old lines stand there, with the one that is held put in at the place, and it wasn't met.
pub record IsPushing (line : ℕ) (old : List ℕ) (i held : ℕ) (lines : List ℕ) : Type 0 where
  pub all : take i lines ++ held ∷ drop i lines ≡ line ∷ old
  pub unmet : is_among line (take i old) ≡ false

pub pushing_none : (line : ℕ) (old : List ℕ) → IsPushing line old 0 line old
pushing_none line old = record { all = refl; unmet = refl }

drop_behind : (front back : List ℕ) (held : ℕ) → drop (suc (length front)) (front ++ held ∷ back) ≡ back
drop_behind [] back held = refl
drop_behind (x ∷ front) back held = drop_behind front back held

-- the lines behind the place are the old ones
tail_is : (i held line : ℕ) (lines old : List ℕ) → take i lines ++ held ∷ drop i lines ≡ line ∷ old → i ≤ length lines → drop i lines ≡ drop i old
tail_is i held line lines old e h =
    let behind = drop_behind (take i lines) (drop i lines) held in
    let place : length (take i lines) ≡ i = length-take-le i lines h in
    sym behind ∙ ap (λ q. drop (suc q) (take i lines ++ held ∷ drop i lines)) place ∙ ap (drop (suc i)) e

unmet_more : (line i x : ℕ) (old back : List ℕ) → drop i old ≡ x ∷ back → is_among line (take i old) ≡ false → (x ≡ line → ⊥) → is_among line (take (suc i) old) ≡ false
unmet_more line zero x old back e unmet ne = ap (λ q. is_among line (take 1 q)) e ∙ among_other line x [] ne
unmet_more line (suc i) x [] back e unmet ne = cc
unmet_more line (suc i) x (y ∷ old) back e unmet ne =
    let parts = among_parts line y (take i old) unmet in
    among_other line y (take (suc i) old) parts.0 ∙ unmet_more line i x old back e parts.1 ne

pub pushing_more : (line : ℕ) (old : List ℕ) (i held : ℕ) (lines : List ℕ) → i < length lines → IsPushing line old i held lines → (get_or lines i 0 ≡ line → ⊥)
    → IsPushing line old (i + 1) (get_or lines i 0) (set lines i held)
pushing_more line old i held lines h p ne =
    let front = take_more_set lines i held h in
    let back : drop (i + 1) (set lines i held) ≡ drop (i + 1) lines = drop-set-lt (i + 1) lines i held (omega arith) in
    let here = drop_more lines i 0 h in
    record {
      all = ap (λ q. q ++ get_or lines i 0 ∷ drop (i + 1) (set lines i held)) front
          ∙ append_assoc (take i lines) (held ∷ []) (get_or lines i 0 ∷ drop (i + 1) (set lines i held))
          ∙ ap (λ q. take i lines ++ held ∷ get_or lines i 0 ∷ q) back ∙ ap (λ q. take i lines ++ held ∷ q) (sym here) ∙ p.all;
      unmet = rw add-one (unmet_more line i (get_or lines i 0) old (drop (i + 1) lines) (sym (tail_is i held line lines old p.all (omega arith)) ∙ here) p.unmet ne);
    }

gone : (line : ℕ) (before back : List ℕ) → is_among line before ≡ false → remove_first line (before ++ line ∷ back) ≡ before ++ back
gone line [] back unmet = rw (eq-eqb line line refl) refl
gone line (x ∷ before) back unmet =
    let parts = among_parts line x before unmet in
    let stays : remove_first line (x ∷ (before ++ line ∷ back)) ≡ x ∷ remove_first line (before ++ line ∷ back) = rw (ne_eqb x line parts.0) refl in
    stays ∙ ap (λ q. x ∷ q) (gone line before back parts.1)

here_is : (line : ℕ) (before back : List ℕ) → is_among line before ≡ false → is_among line (before ++ line ∷ back) ≡ true
here_is line [] back unmet = among_same line line back refl
here_is line (x ∷ before) back unmet =
    let parts = among_parts line x before unmet in among_other line x (before ++ line ∷ back) parts.0 ∙ here_is line before back parts.1

-- what the place shows once the line is met there
record IsMet (line : ℕ) (front back : List ℕ) (held : ℕ) (old : List ℕ) : Type 0 where
  met : is_among line old ≡ true
  all : front ++ held ∷ back ≡ line ∷ remove_first line old

met_at : (line held : ℕ) (front back old : List ℕ) → front ++ held ∷ line ∷ back ≡ line ∷ old → is_among line (take (length front) old) ≡ false → IsMet line front back held old
met_at line held [] back old e unmet =
    let is : line ∷ back ≡ old = cc in
    let same : held ≡ line = cc in
    record { met = ap (is_among line) (sym is) ∙ here_is line [] back refl; all = ap (λ q. q ∷ back) same ∙ ap (λ q. line ∷ q) (sym (ap (remove_first line) (sym is) ∙ gone line [] back refl)) }
met_at line held (x ∷ front) back old e unmet =
    let is : front ++ held ∷ line ∷ back ≡ old = cc in
    let same : x ≡ line = cc in
    let split : (front ++ held ∷ []) ++ line ∷ back ≡ old = append_assoc front (held ∷ []) (line ∷ back) ∙ is in
    let before : take (suc (length front)) old ≡ front ++ held ∷ [] = ap (take (suc (length front))) (sym split) ∙ take_at (front ++ held ∷ []) (line ∷ back) (suc (length front)) (omega (arith, length-append front (held ∷ []))) in
    let none : is_among line (front ++ held ∷ []) ≡ false = ap (is_among line) (sym before) ∙ unmet in
    record {
      met = ap (is_among line) (sym split) ∙ here_is line (front ++ held ∷ []) back none;
      all = ap (λ q. q ∷ (front ++ held ∷ back)) same ∙ ap (λ q. line ∷ q) (sym (ap (remove_first line) (sym split) ∙ gone line (front ++ held ∷ []) back none ∙ append_assoc front (held ∷ []) back));
    }

met : (line : ℕ) (old : List ℕ) (i held : ℕ) (lines : List ℕ) → i < length lines → IsPushing line old i held lines → get_or lines i 0 ≡ line → IsMet line (take i lines) (drop (i + 1) lines) held old
met line old i held lines h p e =
    let here : drop i lines ≡ line ∷ drop (i + 1) lines = drop_more lines i 0 h ∙ ap (λ q. q ∷ drop (i + 1) lines) e in
    let place : length (take i lines) ≡ i = length-take-le i lines (omega arith) in
    met_at line held (take i lines) (drop (i + 1) lines) old (ap (λ q. take i lines ++ held ∷ q) (sym here) ∙ p.all) (ap (λ q. is_among line (take q old)) place ∙ p.unmet)

pub pushed_found : (line : ℕ) (old : List ℕ) (i held : ℕ) (lines : List ℕ) → i < length lines → IsPushing line old i held lines → get_or lines i 0 ≡ line → is_among line old ≡ true
pushed_found line old i held lines h p e = (met line old i held lines h p e).met

pub pushed_renewed : (line : ℕ) (old : List ℕ) (i held : ℕ) (lines : List ℕ) → i < length lines → IsPushing line old i held lines → get_or lines i 0 ≡ line → set lines i held ≡ line ∷ remove_first line old
pushed_renewed line old i held lines h p e = set_split lines i held h ∙ ap (λ q. take i lines ++ held ∷ drop q lines) (sym (add-one i)) ∙ (met line old i held lines h p e).all

take_whole : (line i held : ℕ) (lines old : List ℕ) → IsPushing line old i held lines → length lines ≤ i → lines ++ held ∷ [] ≡ line ∷ old
take_whole line i held lines old p h = ap (λ q. q ++ held ∷ []) (sym (take_all i lines h)) ∙ ap (λ q. take i lines ++ held ∷ q) (sym (drop_all i lines h)) ∙ p.all

pub pushed_all : (line : ℕ) (old : List ℕ) (i held : ℕ) (lines : List ℕ) → length lines ≤ i → IsPushing line old i held lines → lines ++ held ∷ [] ≡ line ∷ old
pushed_all line old i held lines h p = take_whole line i held lines old p h

pub pushed_none : (line : ℕ) (old : List ℕ) (i held : ℕ) (lines : List ℕ) → length lines ≤ i → IsPushing line old i held lines → is_among line old ≡ false
pushed_none line old i held lines h p =
    let whole = ap (λ (q : List ℕ). length q) (take_whole line i held lines old p h) in
    ap (is_among line) (sym (take_all i old (omega (arith, whole, length-append lines (held ∷ []))))) ∙ p.unmet

remove_first_none : (n : ℕ) (xs : List ℕ) → is_among n xs ≡ false → remove_first n xs ≡ xs
remove_first_none n [] h = refl
remove_first_none n (x ∷ xs) h =
    let parts = among_parts n x xs h in
    let stays : remove_first n (x ∷ xs) ≡ x ∷ remove_first n xs = rw (ne_eqb x n parts.0) refl in
    stays ∙ ap (λ q. x ∷ q) (remove_first_none n xs parts.1)

-- what an access to a line that wasn't there leaves in a row that has room for the last line, or hasn't
renew_room : (ways line last : ℕ) (row new : List ℕ) → length row < ways → new ++ last ∷ [] ≡ line ∷ row → is_among line row ≡ false → new ++ last ∷ [] ≡ renewed ways line row
renew_room ways line last row new h e unmet = e ∙ sym (take_all ways (line ∷ row) (omega arith)) ∙ ap (λ q. take ways (line ∷ q)) (sym (remove_first_none line row unmet))

renew_full : (ways line last : ℕ) (row new : List ℕ) → ways ≤ length row → length row ≤ ways → new ++ last ∷ [] ≡ line ∷ row → is_among line row ≡ false → new ≡ renewed ways line row
renew_full ways line last row new full fits e unmet =
    let whole = ap (λ (q : List ℕ). length q) e in
    sym (take_at new (last ∷ []) ways (omega (arith, whole, length-append new (last ∷ [])))) ∙ ap (take ways) e ∙ ap (λ q. take ways (line ∷ q)) (sym (remove_first_none line row unmet))

-- the same of an array whose first lines are the row
pub renewed_with_room : (ways line last len : ℕ) (lines row new post : List ℕ) → take len lines ≡ row → len ≤ length lines → 0 < length post → len < ways → new ++ last ∷ [] ≡ line ∷ take len lines → false ≡ is_among line (take len lines)
    → take (len + 1) (set (new ++ post) len last) ≡ renewed ways line row
renewed_with_room ways line last len lines row new post is whole some room e unmet =
    let sizes = ap (λ (q : List ℕ). length q) e in
    let new_len : length new ≡ len = omega (arith, sizes, length-append new (last ∷ []), length-take-le len lines whole) in
    take_more_set (new ++ post) len last (omega (arith, length-append new post)) ∙ ap (λ q. q ++ last ∷ []) (take_at new post len new_len)
    ∙ renew_room ways line last (take len lines) new (omega (arith, length-take-le len lines whole)) e (sym unmet) ∙ ap (renewed ways line) is

pub renewed_when_full : (ways line last len : ℕ) (lines row new post : List ℕ) → take len lines ≡ row → len ≤ length lines → ways ≤ len → length row ≤ ways → new ++ last ∷ [] ≡ line ∷ take len lines → false ≡ is_among line (take len lines)
    → take len (new ++ post) ≡ renewed ways line row
renewed_when_full ways line last len lines row new post is whole full fits e unmet =
    let sizes = ap (λ (q : List ℕ). length q) e in
    let same = ap (λ (q : List ℕ). length q) is in
    let long = length-take-le len lines whole in
    let new_len : length new ≡ len = omega (arith, sizes, length-append new (last ∷ []), long) in
    take_at new post len new_len ∙ renew_full ways line last (take len lines) new (omega (arith, long)) (omega (arith, same)) e (sym unmet) ∙ ap (renewed ways line) is

-- a set whose line was accessed, and the others
holds_case : (shape : Shape) (line : ℕ) (accesses : List ℕ) (rows new : List (List ℕ)) → set_of shape line < length rows
    → slice_index_or rows (set_of shape line) [] ≡ take shape.ways (lines_of (set_of shape) (set_of shape line) accesses)
    → new ≡ slice_set rows (set_of shape line) (renewed shape.ways line (slice_index_or rows (set_of shape line) []))
    → (s : ℕ) → slice_index_or rows s [] ≡ take shape.ways (lines_of (set_of shape) s accesses)
    → (set_of shape line ≡ s) ⊎ (set_of shape line ≡ s → ⊥) → slice_index_or new s [] ≡ take shape.ways (lines_of (set_of shape) s (line ∷ accesses))
holds_case shape line accesses rows new h here is s old (inl same) =
    let at = set_of shape line in
    let made : slice_index_or new at [] ≡ renewed shape.ways line (slice_index_or rows at []) = ap (λ (q : List (List ℕ)). slice_index_or q at []) is ∙ get_or-set_same rows at (renewed shape.ways line (slice_index_or rows at [])) [] h in
    let kept = ap (renewed shape.ways line) here ∙ renewed_take line shape.ways (lines_of (set_of shape) at accesses) (once_lines (set_of shape) at accesses) in
    let all : slice_index_or new at [] ≡ take shape.ways (lines_of (set_of shape) at (line ∷ accesses)) = made ∙ kept ∙ ap (take shape.ways) (sym (lines_in (set_of shape) at line accesses refl)) in
    subst (λ q. slice_index_or new q [] ≡ take shape.ways (lines_of (set_of shape) q (line ∷ accesses))) same all
holds_case shape line accesses rows new h here is s old (inr other) =
    let at = set_of shape line in
    ap (λ (q : List (List ℕ)). slice_index_or q s []) is ∙ get_or-set_other rows at s (renewed shape.ways line (slice_index_or rows at [])) [] (λ e. other (sym e)) ∙ old ∙ ap (take shape.ways) (sym (lines_out (set_of shape) s line accesses other))

-- After an access each set holds its most recent lines.
holds_more : (shape : Shape) (rows new : List (List ℕ)) (line : ℕ) (accesses : List ℕ) → length rows ≡ shape.sets → set_of shape line < shape.sets
    → (length (slice_index_or rows (set_of shape line) []) ≤ shape.ways → new ≡ slice_set rows (set_of shape line) (renewed shape.ways line (slice_index_or rows (set_of shape line) [])))
    → HoldsRecent (record { shape = shape; rows = rows }) accesses → HoldsRecent (record { shape = shape; rows = new }) (line ∷ accesses)
holds_more shape rows new line accesses all within made holds =
    let here = holds (set_of shape line) within in
    let short : length (slice_index_or rows (set_of shape line) []) ≤ shape.ways =
    omega (arith, ap (λ (q : List ℕ). length q) here, length-take shape.ways (lines_of (set_of shape) (set_of shape line) accesses)) in
    λ s small. holds_case shape line accesses rows new (omega arith) here (made short) s (holds s small) (cases_eq (set_of shape line) s)

-- the set of a line, whose number is a power of two
set_is : (shape : Shape) (bits line s : ℕ) → shape.sets ≡ 2 ^ bits → s ≡ line % 2 ^ bits → set_of shape line ≡ s
set_is shape bits line s sets is = ap (λ q. line % q) sets ∙ sym is

within_sets : (shape : Shape) (bits line s : ℕ) → shape.sets ≡ 2 ^ bits → s ≡ line % 2 ^ bits → s < shape.sets
within_sets shape bits line s sets is = let some : 0 < 2 ^ bits = pow_pos bits in omega arith

pub touched_holds : (old : Contents) (shape : Shape) (rows new : List (List ℕ)) (bits line s : ℕ) (accesses : List ℕ) → record { shape = shape; rows = rows } ≡ old
    → shape.sets ≡ 2 ^ bits → length rows ≡ shape.sets → s ≡ line % 2 ^ bits
    → (length (slice_index_or rows s []) ≤ shape.ways → new ≡ slice_set rows s (renewed shape.ways line (slice_index_or rows s [])))
    → HoldsRecent old accesses → HoldsRecent (record { shape = shape; rows = new }) (line ∷ accesses)
touched_holds old shape rows new bits line s accesses view sets all is made holds =
    let same = set_is shape bits line s sets is in
    holds_more shape rows new line accesses all (subst (λ q. q < shape.sets) (sym same) (within_sets shape bits line s sets is))
    (subst (λ q. length (slice_index_or rows q []) ≤ shape.ways → new ≡ slice_set rows q (renewed shape.ways line (slice_index_or rows q []))) (sym same) made)
    (subst (λ q. HoldsRecent q accesses) (sym view) holds)

hit_holds : (shape : Shape) (rows : List (List ℕ)) (line s : ℕ) (accesses : List ℕ) → set_of shape line ≡ s → s < shape.sets → HoldsRecent (record { shape = shape; rows = rows }) accesses
    → is_among line (slice_index_or rows s []) ≡ is_recent (set_of shape) shape.ways line accesses
hit_holds shape rows line s accesses at within holds =
    ap (is_among line) (holds s within) ∙ ap (λ q. is_among line (take shape.ways (lines_of (set_of shape) q accesses))) (sym at) ∙ among_recent (set_of shape) shape.ways line accesses

-- An access hits where its line is among those that the set holds.
pub touched_hits : (old : Contents) (shape : Shape) (rows : List (List ℕ)) (bits line s : ℕ) (accesses : List ℕ) (result : Bool) → record { shape = shape; rows = rows } ≡ old
    → shape.sets ≡ 2 ^ bits → s ≡ line % 2 ^ bits → result ≡ is_among line (slice_index_or rows s [])
    → HoldsRecent old accesses → result ≡ is_recent (set_of old.shape) old.shape.ways line accesses
touched_hits old shape rows bits line s accesses result view sets is hit holds =
    hit ∙ hit_holds shape rows line s accesses (set_is shape bits line s sets is) (within_sets shape bits line s sets is) (subst (λ q. HoldsRecent q accesses) (sym view) holds)
    ∙ ap (λ (q : Contents). is_recent (set_of q.shape) q.shape.ways line accesses) view
