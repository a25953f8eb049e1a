-- The least address that two ranges share, or that one has at the port or above, where the ranges rise.
use Rattle.std.proofs.Common.{◌≡◌, ℕ, suc, ◌+◌, ◌<◌, ◌≤◌, Bool, true, false, cond, ltb, leb, List, [], ◌∷◌, length, get_or, drop, drop-cons, add-one, Some, None, refl, sym, ap, subst, ◌∙◌, arith}
use Rattle.std.proofs.lemmas.Bool.{le-leb, le-ltb}
use Rattle.std.proofs.lemmas.Bool.Decides.{leb_tells}
use Rattle.std.proofs.lemmas.Grind.{common_steps}
use Rattle.std.proofs.lemmas.List.{drop_all}
use Rattle.std.proofs.lemmas.List.Sums.{sum_by-cons}
use Rattle.std.specs.Prelude.{count_by}
use mathlib.Core.Logic.{◌⊎◌, inl, inr}
use Rattle.visa_io.specs.declared.records.Span.{Span}
use Rattle.mips_ref.specs.Layout.{LeastRefused, NoneRefused, first_refused}
use Rattle.mips_ref.specs.Memory.{LaidOut, Refused, has, port}
use Rattle.mips_ref.proofs.Places.{has-inside, has-outside}

-- a test of an order, with what it tells
ltb_tells : (a b : ℕ) → ((ltb a b ≡ true) × (a < b)) ⊎ ((ltb a b ≡ false) × (b ≤ a))
ltb_tells a b = elim (leb_tells (suc a) b) [ inl t ↦ inl (t.0, omega (arith, t.1)) | inr t ↦ inr (t.0, omega (arith, t.1)) ]

-- how many ranges have an address
abbrev pub holders : ℕ → List Span → ℕ
holders a spans = count_by (λ s. has s a) spans

pub holders-cons : (a : ℕ) (s : Span) (rest : List Span) → holders a (s ∷ rest) ≡ cond (has s a) 1 0 + holders a rest
holders-cons a s rest = sum_by-cons (λ t. cond (has t a) 1 0) s rest

has-below : (s : Span) (a : ℕ) → a < s.start → has s a ≡ false
has-below s a below = grind (arith, common_steps)

holders-inside : (a : ℕ) (s : Span) (rest : List Span) → s.start ≤ a → a < s.start + s.len → holders a (s ∷ rest) ≡ 1 + holders a rest
holders-inside a s rest low high = holders-cons a s rest ∙ ap (λ b. cond b 1 0 + holders a rest) (has-inside s a low high)

pub holders-below : (a : ℕ) (s : Span) (rest : List Span) → a < s.start → holders a (s ∷ rest) ≡ holders a rest
holders-below a s rest below = holders-cons a s rest ∙ ap (λ b. cond b 1 0 + holders a rest) (has-below s a below) ∙ omega arith

pub holders-past : (a : ℕ) (s : Span) (rest : List Span) → s.start + s.len ≤ a → holders a (s ∷ rest) ≡ holders a rest
holders-past a s rest past = holders-cons a s rest ∙ ap (λ b. cond b 1 0 + holders a rest) (has-outside s a past) ∙ omega arith

one-more : (b : Bool) (n : ℕ) → (n ≤ cond b 1 0 + n) × (cond b 1 0 + n ≤ 1 + n)
one-more true n = (omega arith, omega arith)
one-more false n = (omega arith, omega arith)

holders-more : (a : ℕ) (s : Span) (rest : List Span) → (holders a rest ≤ holders a (s ∷ rest)) × (holders a (s ∷ rest) ≤ 1 + holders a rest)
holders-more a s rest = rw (holders-cons a s rest) (one-more (has s a) (holders a rest))

-- ranges by rising address, none of them empty; they may share addresses
unfoldable pub Rises : ℕ → List Span → Type 0
Rises from [] = Unit {0}
Rises from (s ∷ rest) = (from ≤ s.start) × (0 < s.len) × Rises s.start rest

holders-none : (from : ℕ) (spans : List Span) (a : ℕ) → Rises from spans → a < from → holders a spans ≡ 0
unfolding Rises
holders-none from [] a rises below = refl
holders-none from (s ∷ rest) a rises below =
    holders-below a s rest (omega (arith, rises.0)) ∙ holders-none s.start rest a rises.2 (omega (arith, rises.0))

-- ranges that are laid out share nothing
laid-none : (from : ℕ) (spans : List Span) (a : ℕ) → LaidOut from spans → a < from → holders a spans ≡ 0
unfolding LaidOut
laid-none from [] a laid below = refl
laid-none from (s ∷ rest) a laid below =
    holders-below a s rest (omega (arith, laid.0)) ∙ laid-none (s.start + s.len) rest a laid.3 (omega (arith, laid.0))

laid-few : (from : ℕ) (spans : List Span) (a : ℕ) → LaidOut from spans → (holders a spans ≤ 1) × (port ≤ a → holders a spans ≡ 0)
unfolding LaidOut
laid-few from [] a laid = (omega arith, λ above. refl)
laid-few from (s ∷ rest) a laid =
    let more = holders-more a s rest in
    let few = laid-few (s.start + s.len) rest a laid.3 in
    elim (ltb_tells a (s.start + s.len)) [
      | inl t ↦
          let none = laid-none (s.start + s.len) rest a laid.3 t.1 in
          (omega (arith, more.1, none), λ above. absurd (omega (arith, above, laid.2, t.1)))
      | inr t ↦
          let same = holders-past a s rest t.1 in
          (omega (arith, same, few.0), λ above. same ∙ few.1 above)
    ]

pub laid-none_refused : (from : ℕ) (spans : List Span) → LaidOut from spans → NoneRefused spans
laid-none_refused from spans laid a (inl two) = absurd (omega (arith, two, (laid-few from spans a laid).0))
laid-none_refused from spans laid a (inr one) = absurd (omega (arith, one.1, (laid-few from spans a laid).1 one.0))

-- a walk that finds no address has passed ranges that are laid out
pub none-laid : (end from : ℕ) (spans : List Span) → Rises from spans → first_refused end spans ≡ None → (end ≤ port) × LaidOut end spans
unfolding Rises first_refused LaidOut
none-laid end from [] rises none =
    elim (ltb_tells port end) [
      | inl t ↦ cc (rw t.0 at none)
      | inr t ↦ (t.1, tt)
    ]
none-laid end from (s ∷ rest) rises none =
    elim (leb_tells port s.start) [
      | inl t ↦ cc (rw t.0 at none)
      | inr t ↦ elim (ltb_tells s.start end) [
        | inl u ↦ cc (rw (t.0, u.0) at none)
        | inr u ↦
            let next = none-laid (s.start + s.len) s.start rest rises.2 (rw (t.0, u.0) at none) in
            (omega (arith, t.1, u.1), (u.1, rises.1, next.0, next.1))
      ]
    ]

-- three ways to come to the least address

-- p ends past the port, where the others only begin
least-port : (p : Span) (rest : List Span) → Rises port rest → p.start < port → port < p.start + p.len → LeastRefused (p ∷ rest) port
least-port p rest rises low high = record {
  refused = inr (omega arith, omega (arith, holders-inside port p rest (omega arith) high));
  least = λ b below r. elim r [
    | inl two ↦ absurd (omega (arith, two, (holders-more b p rest).1, holders-none port rest b rises below))
    | inr one ↦ absurd (omega (arith, one.0, below))
  ];
}

-- s begins at the port or above, and p ends below it
least-above : (p s : Span) (rest : List Span) → Rises s.start (s ∷ rest) → port ≤ s.start → p.start + p.len ≤ port → LeastRefused (p ∷ s ∷ rest) s.start
unfolding Rises
least-above p s rest rises above low = record {
  refused = inr (above, omega (arith, holders-inside s.start s rest (omega arith) (omega (arith, rises.1)), holders-more s.start p (s ∷ rest)));
  least = λ b below r.
      let none : holders b (s ∷ rest) ≡ 0 = holders-none s.start (s ∷ rest) b rises below in
      elim r [
        | inl two ↦ absurd (omega (arith, two, (holders-more b p (s ∷ rest)).1, none))
        | inr one ↦ absurd (omega (arith, one.1, one.0, none, holders-past b p (s ∷ rest) (omega (arith, one.0, low))))
      ];
}

-- s begins below the port, in p
least-shared : (p s : Span) (rest : List Span) → Rises p.start (s ∷ rest) → s.start < port → s.start < p.start + p.len → LeastRefused (p ∷ s ∷ rest) s.start
unfolding Rises
least-shared p s rest rises below_port high = record {
  refused = inl (omega (arith, holders-inside s.start p (s ∷ rest) rises.0 high, holders-inside s.start s rest (omega arith) (omega (arith, rises.1))));
  least = λ b below r.
      let none : holders b (s ∷ rest) ≡ 0 = holders-none s.start (s ∷ rest) b (omega arith, rises.1, rises.2) below in
      elim r [
        | inl two ↦ absurd (omega (arith, two, (holders-more b p (s ∷ rest)).1, none))
        | inr one ↦ absurd (omega (arith, one.0, below, below_port))
      ];
}

-- p ends below s, and so is passed
least-passed : (p s : Span) (rest : List Span) (a : ℕ) → Rises s.start (s ∷ rest) → s.start < port → p.start + p.len ≤ s.start
    → LeastRefused (s ∷ rest) a → LeastRefused (p ∷ s ∷ rest) a
least-passed p s rest a rises below_port low found = record {
  refused = elim found.refused [
    | inl two ↦ inl (omega (arith, two, (holders-more a p (s ∷ rest)).0))
    | inr one ↦ inr (one.0, omega (arith, one.1, (holders-more a p (s ∷ rest)).0))
  ];
  least = λ b below r. elim (leb_tells (p.start + p.len) b) [
    | inl t ↦ found.least b below (subst (λ n. (2 ≤ n) ⊎ ((port ≤ b) × (1 ≤ n))) (holders-past b p (s ∷ rest) t.1) r)
    | inr t ↦
        let none : holders b (s ∷ rest) ≡ 0 = holders-none s.start (s ∷ rest) b rises (omega (arith, t.1, low)) in
        elim r [
          | inl two ↦ absurd (omega (arith, two, (holders-more b p (s ∷ rest)).1, none))
          | inr one ↦ absurd (omega (arith, one.0, t.1, low, below_port))
        ]
  ];
}

rises-from : (from : ℕ) (s : Span) (rest : List Span) (to : ℕ) → Rises from (s ∷ rest) → to ≤ s.start → Rises to (s ∷ rest)
unfolding Rises
rises-from from s rest to rises le = (le, rises.1, rises.2)

rises-empty : (from : ℕ) → Rises from []
unfolding Rises
rises-empty from = tt

rises-tail : (from : ℕ) (s : Span) (rest : List Span) → Rises from (s ∷ rest) → Rises s.start rest
unfolding Rises
rises-tail from s rest rises = rises.2

-- a walk that finds an address after p
walk-finds : (p : Span) (rest : List Span) (a : ℕ) → Rises p.start rest → p.start < port → first_refused (p.start + p.len) rest ≡ Some a
    → LeastRefused (p ∷ rest) a
unfolding first_refused
walk-finds p [] a rises low found =
    elim (ltb_tells port (p.start + p.len)) [
      | inl t ↦ let is : port ≡ a = cc (rw t.0 at found) in subst (LeastRefused (p ∷ [])) is (least-port p [] (rises-empty port) low t.1)
      | inr t ↦ cc (rw t.0 at found)
    ]
walk-finds p (s ∷ rest) a rises low found =
    elim (leb_tells port s.start) [
      | inl t ↦ elim (ltb_tells port (p.start + p.len)) [
        | inl u ↦
            let is : port ≡ a = cc (rw (t.0, u.0) at found) in
            subst (LeastRefused (p ∷ s ∷ rest)) is (least-port p (s ∷ rest) (rises-from p.start s rest port rises t.1) low u.1)
        | inr u ↦
            let is : s.start ≡ a = cc (rw (t.0, u.0) at found) in
            subst (LeastRefused (p ∷ s ∷ rest)) is (least-above p s rest (rises-from p.start s rest s.start rises (omega arith)) t.1 u.1)
      ]
      | inr t ↦ elim (ltb_tells s.start (p.start + p.len)) [
        | inl u ↦
            let is : s.start ≡ a = cc (rw (t.0, u.0) at found) in
            subst (LeastRefused (p ∷ s ∷ rest)) is (least-shared p s rest rises t.1 u.1)
        | inr u ↦
            least-passed p s rest a (rises-from p.start s rest s.start rises (omega arith)) t.1 u.1
            (walk-finds s rest a (rises-tail p.start s rest rises) t.1 (rw (t.0, u.0) at found))
      ]
    ]

-- an empty range below all of them
abbrev none_below : Span
none_below = record { start = 0; len = 0; r = false; w = false; x = false }

refused-none_below : (spans : List Span) (a : ℕ) → Refused spans a → Refused (none_below ∷ spans) a
refused-none_below spans a r = subst (λ n. (2 ≤ n) ⊎ ((port ≤ a) × (1 ≤ n))) (sym (holders-past a none_below spans (omega arith))) r

refused-rest : (spans : List Span) (a : ℕ) → Refused (none_below ∷ spans) a → Refused spans a
refused-rest spans a r = subst (λ n. (2 ≤ n) ⊎ ((port ≤ a) × (1 ≤ n))) (holders-past a none_below spans (omega arith)) r

pub walk-first : (spans : List Span) (a : ℕ) → Rises 0 spans → first_refused 0 spans ≡ Some a → LeastRefused spans a
walk-first spans a rises found =
    let least = walk-finds none_below spans a rises (omega arith) found in
    record {
      refused = refused-rest spans a least.refused;
      least = λ b below r. least.least b below (refused-none_below spans b r);
    }

-- the walk at the range with number k
walk-step : (end : ℕ) (spans : List Span) (k : ℕ) (d : Span) → k < length spans → first_refused end (drop k spans)
    ≡ cond (leb port (get_or spans k d).start) (Some (cond (ltb port end) port (get_or spans k d).start))
    (cond (ltb (get_or spans k d).start end) (Some (get_or spans k d).start) (first_refused ((get_or spans k d).start + (get_or spans k d).len) (drop (k + 1) spans)))
unfolding first_refused
walk-step end spans k d below = rw (add-one, drop-cons spans k d) refl

lt-leb : (a b : ℕ) → b < a → leb a b ≡ false
lt-leb a b below = grind (arith, common_steps)

-- the ways that the walk goes there
pub walk-port : (end : ℕ) (spans : List Span) (k : ℕ) (d : Span) → k < length spans → port ≤ (get_or spans k d).start → port < end
    → first_refused end (drop k spans) ≡ Some port
walk-port end spans k d below above past =
    rw (walk-step end spans k d below, le-leb port (get_or spans k d).start above, le-leb (suc port) end (omega arith)) refl

pub walk-above : (end : ℕ) (spans : List Span) (k : ℕ) (d : Span) → k < length spans → port ≤ (get_or spans k d).start → end ≤ port
    → first_refused end (drop k spans) ≡ Some (get_or spans k d).start
walk-above end spans k d below above low =
    rw (walk-step end spans k d below, le-leb port (get_or spans k d).start above, le-ltb port end low) refl

pub walk-shared : (end : ℕ) (spans : List Span) (k : ℕ) (d : Span) → k < length spans → (get_or spans k d).start < port → (get_or spans k d).start < end
    → first_refused end (drop k spans) ≡ Some (get_or spans k d).start
walk-shared end spans k d below low shared =
    rw (walk-step end spans k d below, lt-leb port (get_or spans k d).start low, le-leb (suc (get_or spans k d).start) end (omega arith)) refl

pub walk-on : (end : ℕ) (spans : List Span) (k : ℕ) (d : Span) → k < length spans → (get_or spans k d).start < port → end ≤ (get_or spans k d).start
    → first_refused end (drop k spans) ≡ first_refused ((get_or spans k d).start + (get_or spans k d).len) (drop (k + 1) spans)
walk-on end spans k d below low apart =
    rw (walk-step end spans k d below, lt-leb port (get_or spans k d).start low, le-ltb (get_or spans k d).start end apart) refl

pub walk-end : (end : ℕ) (spans : List Span) (k : ℕ) → length spans ≤ k → first_refused end (drop k spans) ≡ cond (ltb port end) (Some port) None
unfolding first_refused
walk-end end spans k past = rw (drop_all k spans past) refl
