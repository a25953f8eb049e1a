-- Puts one after the other: together they put the pieces one after the other.
use Rattle.std.proofs.Common.{◌≡◌, ℕ, suc, zero, ◌+◌, ◌<◌, List, [], ◌∷◌, ◌++◌, length, take, drop, get_or, refl, sym, ◌∙◌, ap, append_assoc, append-nil, add-zero, add-one, length-append, arith, subst}
use Rattle.std.specs.Prelude.{Option, Some, None, Result, Ok, Err, IsErr, ⊤, OnOk, OnErr, map}
use Rattle.std.specs.List.{concat}
use Rattle.std.proofs.lemmas.List.Folds.{concat-append}
use Rattle.visa_io.specs.Faults.{risen, risen_by}
use Rattle.visa_io.specs.Puts.{appended, AppendsPrefix, Put, PutAll, PutFailed, Puts, PutSome, Taken}

pub appended-nil : (bytes : Option (List ℕ)) → appended bytes [] ≡ bytes
appended-nil None = refl
appended-nil (Some bytes) = ap Some (append-nil bytes)

pub appended-appended : (bytes : Option (List ℕ)) (a b : List ℕ) → appended (appended bytes a) b ≡ appended bytes (a ++ b)
appended-appended None a b = refl
appended-appended (Some bytes) a b = ap Some (append_assoc bytes a b)

pub risen_by-add : (m n count : ℕ) → risen_by (m + n) count ≡ risen_by n (risen_by m count)
risen_by-add m zero count = ap (λ k. risen_by k count) (add-zero m)
risen_by-add m (suc n) count =
    let next : m + suc n ≡ suc (m + n) = omega arith in
    ap (λ k. risen_by k count) next ∙ ap risen (risen_by-add m n count)

-- no put puts no pieces
pub puts_none : (s : Taken) → PutAll s s []
puts_none s = record { appends = sym (appended-nil s.bytes); no_fault = refl; counted = refl }

-- one put
pub puts_one : {s t : Taken} {a : List ℕ} → Put s t a → PutAll s t (a ∷ [])
puts_one {s} {t} {a} put = record {
  appends = put.appends ∙ ap (appended s.bytes) (sym (append-nil a));
  no_fault = put.no_fault;
  counted = put.counted;
}

-- one put that failed
pub fails_one : {s t : Taken} {a : List ℕ} → PutFailed s t a → PutSome s t (a ∷ [])
fails_one {s} {t} {a} put = record {
  before = [];
  kept = put.part.kept;
  lost = put.part.lost;
  behind = [];
  parts = ap (λ x. x ∷ []) put.part.parts;
  appends = put.part.taken;
  fault = put.fault;
  counted = put.counted;
}

-- two lists of pieces, all put
pub puts_both : {s t u : Taken} {a b : List (List ℕ)} → PutAll s t a → PutAll t u b → PutAll s u (a ++ b)
puts_both {s} {t} {u} {a} {b} first second = record {
  appends = second.appends ∙ ap (λ x. appended x (concat b)) first.appends ∙ appended-appended s.bytes (concat a) (concat b)
      ∙ ap (appended s.bytes) (sym (concat-append a b));
  no_fault = second.no_fault ∙ first.no_fault;
  counted = second.counted ∙ ap (risen_by (length b)) first.counted ∙ sym (risen_by-add (length a) (length b) s.puts)
      ∙ ap (λ n. risen_by n s.puts) (sym (length-append a b));
}

-- pieces that were put, and pieces one of which wasn't
pub puts_then_some : {s t u : Taken} {a b : List (List ℕ)} → PutAll s t a → PutSome t u b → PutSome s u (a ++ b)
puts_then_some {s} {t} {u} {a} {b} first second = record {
  before = a ++ second.before;
  kept = second.kept;
  lost = second.lost;
  behind = second.behind;
  parts = ap (λ x. a ++ x) second.parts ∙ sym (append_assoc a second.before ((second.kept ++ second.lost) ∷ second.behind));
  appends = second.appends ∙ ap (λ x. appended x (concat second.before ++ second.kept)) first.appends
      ∙ appended-appended s.bytes (concat a) (concat second.before ++ second.kept)
      ∙ ap (appended s.bytes) (sym (append_assoc (concat a) (concat second.before) second.kept)
      ∙ ap (λ x. x ++ second.kept) (sym (concat-append a second.before)));
  fault = second.fault ∙ ap risen first.no_fault;
  counted = second.counted ∙ ap risen (ap (risen_by (length second.before)) first.counted ∙ sym (risen_by-add (length a) (length second.before) s.puts)
      ∙ ap (λ n. risen_by n s.puts) (sym (length-append a second.before)));
}

-- pieces one of which wasn't put are some of any longer list
pub some_of_longer : {s t : Taken} {a : List (List ℕ)} (b : List (List ℕ)) → PutSome s t a → PutSome s t (a ++ b)
some_of_longer {s} {t} {a} b first = record {
  before = first.before;
  kept = first.kept;
  lost = first.lost;
  behind = first.behind ++ b;
  parts = ap (λ x. x ++ b) first.parts ∙ append_assoc first.before ((first.kept ++ first.lost) ∷ first.behind) b;
  appends = first.appends;
  fault = first.fault;
  counted = first.counted;
}

-- what was appended of them is a prefix of the whole text
pub some_prefix : {s t : Taken} {a : List (List ℕ)} → PutSome s t a → AppendsPrefix s.bytes t.bytes (concat a)
some_prefix {s} {t} {a} some = record {
  kept = concat some.before ++ some.kept;
  lost = some.lost ++ concat some.behind;
  parts = ap concat some.parts ∙ concat-append some.before ((some.kept ++ some.lost) ∷ some.behind)
      ∙ ap (λ x. concat some.before ++ x) (append_assoc some.kept some.lost (concat some.behind))
      ∙ sym (append_assoc (concat some.before) some.kept (some.lost ++ concat some.behind));
  taken = some.appends;
}

-- a piece that was put alone
pub puts_piece : {E : Type 0} (s t : Taken) (a : List ℕ) (r : Result ⊤ E) → OnOk r (Put s t a) → OnErr r (PutFailed s t a) → Puts s t (a ∷ []) r
puts_piece s t a (Ok done) ok failed = puts_one ok
puts_piece s t a (Err error) ok failed = fails_one failed

-- pieces that were put, and the pieces after them
pub puts_after : {E : Type 0} (s t u : Taken) (a b : List (List ℕ)) (r : Result ⊤ E) → PutAll s t a → Puts t u b r → Puts s u (a ++ b) r
puts_after s t u a b (Ok done) first second = puts_both first second
puts_after s t u a b (Err failed) first second = puts_then_some first second

-- pieces one of which wasn't put
pub puts_failed : {E : Type 0} (s t : Taken) (a : List (List ℕ)) (r : Result ⊤ E) → IsErr r → PutSome s t a → Puts s t a r
puts_failed s t a (Ok done) is some = cc
puts_failed s t a (Err failed) is some = some

-- the pieces of a list around those of one of its members
pieces_through : {X : Type 0} (f : X → List ℕ) (xs : List X) (i : ℕ) (d : X) → i < length xs
    → map f (take (suc i) xs) ≡ map f (take i xs) ++ f (get_or xs i d) ∷ []
pieces_through f [] i d within = absurd (omega arith)
pieces_through f (x ∷ xs) zero d within = refl
pieces_through f (x ∷ xs) (suc i) d within = ap (λ rest. f x ∷ rest) (pieces_through f xs i d (omega arith))

pieces_around : {X : Type 0} (f : X → List ℕ) (xs : List X) (i : ℕ) (d : X) → i < length xs
    → map f xs ≡ (map f (take i xs) ++ f (get_or xs i d) ∷ []) ++ map f (drop (suc i) xs)
pieces_around f [] i d within = absurd (omega arith)
pieces_around f (x ∷ xs) zero d within = refl
pieces_around f (x ∷ xs) (suc i) d within = ap (λ rest. f x ∷ rest) (pieces_around f xs i d (omega arith))

-- a piece for each member of a list: those before one were put, and its own is
pub each_more : {X : Type 0} {s t u : Taken} (f : X → List ℕ) (xs : List X) (i : ℕ) (d : X) → i < length xs
    → PutAll s t (map f (take i xs)) → PutAll t u (f (get_or xs i d) ∷ []) → PutAll s u (map f (take (i + 1) xs))
each_more {X} {s} {t} {u} f xs i d within before it =
    let All : List (List ℕ) → Type 0 = λ pieces. PutAll s u pieces in
    subst All (sym (ap (λ n. map f (take n xs)) (add-one i) ∙ pieces_through f xs i d within)) (puts_both before it)

-- and its own isn't put whole
pub each_stops : {X : Type 0} {s t u : Taken} (f : X → List ℕ) (xs : List X) (i : ℕ) (d : X) → i < length xs
    → PutAll s t (map f (take i xs)) → PutSome t u (f (get_or xs i d) ∷ []) → PutSome s u (map f xs)
each_stops {X} {s} {t} {u} f xs i d within before it =
    let Some : List (List ℕ) → Type 0 = λ pieces. PutSome s u pieces in
    subst Some (sym (pieces_around f xs i d within)) (some_of_longer (map f (drop (suc i) xs)) (puts_then_some before it))

-- what holds, holds where there was an error
pub on_err : {T E P : Type 0} (r : Result T E) → P → OnErr r P
on_err (Ok x) p = tt
on_err (Err e) p = p
