-- Moves one after the other, and the loops that make them.
use Rattle.std.proofs.Common.{◌≡◌, ◌≤◌, ◌+◌, ℕ, zero, suc, Bool, true, false, cond, eqb, List, [], ◌∷◌, ◌++◌, length, length-append, add-one, Option, Some, None, refl, sym, ap, ap₂, ◌∙◌, subst, arith}
use Rattle.std.proofs.lemmas.Grind.{common_steps}
use Rattle.std.specs.Prelude.{IfSome}
use Rattle.mips_ref.specs.Mips.{Mips}
use Rattle.core_window.specs.Core.{Pair, paired}
use Rattle.core_window.specs.Events.{all_happen, attempt, happens, steps_by}
use Rattle.core_window.specs.declared.records.Entry.{Entry}
use Rattle.core_window.specs.declared.records.Event.{Event}
use Rattle.core_window.specs.declared.records.Event.TheVariants.{Commit}
use Rattle.ooo_clock.proofs.Committed.{words-of}
use Rattle.ooo_clock.proofs.Performs.{commit-performs, repeat-performs}
use Rattle.ooo_clock.specs.Clock.{Clock, Predicts, Speeds, pair_of}
use Rattle.ooo_clock.specs.Cycle.{and_made, pc_if, pcs_of, repeat}
use Rattle.ooo_clock.specs.Moves.{Move, commit_due, commit_first, commit_move, finish_move, is_due}
use Rattle.ooo_clock.specs.Shows.{Made, Shows, Stays, speeds_of}
use Rattle.ooo_clock.specs.declared.clock.Parts.{Parts}

-- the speeds stay
pub speeds-stay : (r n : Parts) → Stays r n → speeds_of n ≡ speeds_of r
speeds-stay r n h =
    λ i. record {
      width = (h.pace i).width;
      miss = (h.pace i).miss;
      store = (h.pace i).store;
      mul = (h.pace i).mul;
      div = (h.pace i).div;
      icache = h.icache i;
      dcache = h.dcache i;
    }

pub stays-same : (r : Parts) → Stays r r
stays-same r = record { pace = refl; cycle = refl; icache = refl; dcache = refl }

pub stays-on : (r n t : Parts) → Stays r n → Stays n t → Stays r t
stays-on r n t h k =
    record { pace = k.pace ∙ h.pace; cycle = k.cycle ∙ h.cycle; icache = k.icache ∙ h.icache; dcache = k.dcache ∙ h.dcache }

-- what a call that makes a move, or answers that there is none, says of the move
made-none-is : (o : Option Move) (r : Parts) (x : Mips) (numbers : List ℕ) (q : Clock) → Made o false r x numbers q → o ≡ None
made-none-is None r x numbers q h = refl
made-none-is (Some m) r x numbers q h = let never = h.0 in cc

made-none-shows : (o : Option Move) (r : Parts) (x : Mips) (numbers : List ℕ) (q : Clock) → Made o false r x numbers q → Shows r x numbers q
made-none-shows None r x numbers q h = h.1
made-none-shows (Some m) r x numbers q h = let never = h.0 in cc

made-shows : (o : Option Move) (m : Move) (r : Parts) (x : Mips) (numbers : List ℕ) → Made o true r x numbers m.clock → Shows r x numbers (and_made m o).clock
made-shows None m r x numbers h = let never = h.0 in cc
made-shows (Some n) m r x numbers h = h.1

pub made-is-some : (o : Option Move) (r : Parts) (x : Mips) (numbers : List ℕ) (q : Clock) → Made o true r x numbers q → (m : Move) × (o ≡ Some m)
made-is-some None r x numbers q h = let never = h.0 in cc
made-is-some (Some m) r x numbers q h = (m, refl)

-- so many moves of a kind lead from parts beside a state and data to others
pub record Goes (move : Clock → Option Move) (n : ℕ) (r : Parts) (x : Mips) (numbers : List ℕ) (t : Parts) (y : Mips) (data_then : List ℕ) : Type 0 where
  pub shows : (q : Clock) → Shows r x numbers q → Shows t y data_then (repeat n move q).clock

pub none-goes : (move : Clock → Option Move) (r : Parts) (x : Mips) (numbers : List ℕ) → Goes move 0 r x numbers r x numbers
unfolding repeat
none-goes move r x numbers = record { shows = λ q h. h }

repeat-more : (n : ℕ) (move : Clock → Option Move) (q : Clock) → repeat (n + 1) move q ≡ and_made (repeat n move q) (move (repeat n move q).clock)
unfolding repeat
repeat-more n move q = ap (λ k. repeat k move q) (add-one n)

pub more-goes : (move : Clock → Option Move) (n : ℕ) (r : Parts) (x : Mips) (numbers : List ℕ) (t : Parts) (y : Mips) (before : List ℕ)
    (u : Parts) (z : Mips) (after : List ℕ) → Goes move n r x numbers t y before
    → ((q : Clock) → Shows t y before q → Made (move q) true u z after q) → Goes move (n + 1) r x numbers u z after
more-goes move n r x numbers t y before u z after g made =
    record {
      shows = λ q h.
          let m = repeat n move q in
          subst (λ (k : Move). Shows u z after k.clock) (sym (repeat-more n move q))
          (made-shows (move m.clock) m u z after (made m.clock (g.shows q h)));
    }

-- where there is no further move the rest of them changes nothing
repeat-next : (m : ℕ) (move : Clock → Option Move) (q : Clock) (b : Move) → repeat m move q ≡ b → move b.clock ≡ None → repeat (suc m) move q ≡ b
unfolding repeat
repeat-next m move q b is none =
    ap (λ (a : Move). and_made a (move a.clock)) is ∙ ap (and_made b) none

pub repeat-stays : (n m : ℕ) (move : Clock → Option Move) (q : Clock) → n ≤ m → move (repeat n move q).clock ≡ None → repeat m move q ≡ repeat n move q
repeat-stays n zero move q low none = let same : zero ≡ n = omega (arith, low) in ap (λ k. repeat k move q) same
repeat-stays n (suc m) move q low none =
    elim (eqb n (suc m)) as (λ b. eqb n (suc m) ≡ b → repeat (suc m) move q ≡ repeat n move q) [
      | true ↦ λ e. let same : suc m ≡ n = grind (arith, common_steps, e) in ap (λ k. repeat k move q) same
      | false ↦ λ e.
          let other : n ≡ suc m → ⊥ = grind (arith, common_steps, e) in
          repeat-next m move q (repeat n move q) (repeat-stays n m move q (omega (arith, low, other)) none) none
    ] refl

pub all-goes : (move : Clock → Option Move) (n m : ℕ) (r : Parts) (x : Mips) (numbers : List ℕ) (t : Parts) (y : Mips) (before : List ℕ)
    (u : Parts) (z : Mips) (after : List ℕ) → n ≤ m → Goes move n r x numbers t y before
    → ((q : Clock) → Shows t y before q → Made (move q) false u z after q) → Goes move m r x numbers u z after
all-goes move n m r x numbers t y before u z after low g none =
    record {
      shows = λ q h.
          let c = (repeat n move q).clock in
          let made = none c (g.shows q h) in
          let stays = repeat-stays n m move q low (made-none-is (move c) u z after c made) in
          subst (λ (k : Move). Shows u z after k.clock) (sym stays) (made-none-shows (move c) u z after c made);
    }

pub goes-at : (move : Clock → Option Move) (n m : ℕ) (r : Parts) (x : Mips) (numbers : List ℕ) (t : Parts) (y : Mips) (after : List ℕ) → n ≡ m
    → Goes move n r x numbers t y after → Goes move m r x numbers t y after
goes-at move n m r x numbers t y after e g = subst (λ k. Goes move k r x numbers t y after) e g

-- what a call says of a move at other speeds that are the same
pub made-at : (move : Speeds → Clock → Option Move) (s v : Speeds) (b d : Bool) (t : Parts) (y : Mips) (before : List ℕ) (u : Parts) (z : Mips) (after : List ℕ)
    → s ≡ v → b ≡ d → ((q : Clock) → Shows t y before q → Made (move s q) b u z after q) → (q : Clock) → Shows t y before q → Made (move v q) d u z after q
made-at move s v b d t y before u z after e f made =
    subst (λ w. (q : Clock) → Shows t y before q → Made (move w q) d u z after q) e
    (subst (λ c. (q : Clock) → Shows t y before q → Made (move s q) c u z after q) f made)

pub finish-made : (b d : Bool) (t : Parts) (y : Mips) (before : List ℕ) (u : Parts) (z : Mips) → b ≡ d
    → ((q : Clock) → Shows t y before q → Made (finish_move q) b u z before q) → (q : Clock) → Shows t y before q → Made (finish_move q) d u z before q
finish-made b d t y before u z f made = subst (λ c. (q : Clock) → Shows t y before q → Made (finish_move q) c u z before q) f made

-- the pcs of the commits
pub pcs-append : (p : Pair) (xs ys : List Event) → pcs_of p (xs ++ ys) ≡ pcs_of p xs ++ pcs_of (all_happen p xs) ys
unfolding pcs_of all_happen
pcs-append p [] ys = refl
pcs-append p (e ∷ xs) ys = ap (pc_if (steps_by p e) (happens p e)) (pcs-append (happens p e) xs ys) ∙ if-append (steps_by p e)
  where
    if-append : (n : ℕ) → pc_if n (happens p e) (pcs_of (happens p e) xs ++ pcs_of (all_happen (happens p e) xs) ys)
        ≡ pc_if n (happens p e) (pcs_of (happens p e) xs) ++ pcs_of (all_happen (happens p e) xs) ys
    if-append zero = refl
    if-append (suc n) = refl

if-commits : (b : Bool) (o : Option Move) → IfSome o (λ m. m.events ≡ Commit ∷ []) → IfSome (cond b o None) (λ m. m.events ≡ Commit ∷ [])
if-commits true o h = h
if-commits false o h = tt

first-commits : (s : Speeds) (p : Predicts) (q : Clock) (es : List Entry) (o : Option Pair) → IfSome (commit_first s p q es o) (λ m. m.events ≡ Commit ∷ [])
first-commits s p q [] o = tt
first-commits s p q (e ∷ rest) None = tt
first-commits s p q (e ∷ rest) (Some after) = refl

commit-events : (s : Speeds) (p : Predicts) (q : Clock) → IfSome (commit_move s p q) (λ m. m.events ≡ Commit ∷ [])
unfolding commit_move
commit-events s p q =
    if-commits (is_due (commit_due q) q.cycle) (commit_first s p q q.core.entries (attempt q.core q.state Commit))
    (first-commits s p q q.core.entries (attempt q.core q.state Commit))

-- the commits so far, with their pcs
pub record Commits (s : Speeds) (p : Predicts) (n : ℕ) (r : Parts) (x : Mips) (numbers : List ℕ) (t : Parts) (y : Mips) (after pcs : List ℕ) : Type 0 where
  pub goes : Goes (commit_move s p) n r x numbers t y after
  pub pcs_are : (q : Clock) → Shows r x numbers q → pcs ≡ pcs_of (pair_of q) (repeat n (commit_move s p) q).events

pub none-commits : (s : Speeds) (p : Predicts) (r : Parts) (x : Mips) (numbers : List ℕ) → Commits s p 0 r x numbers r x numbers []
unfolding repeat pcs_of
none-commits s p r x numbers = record { goes = none-goes (commit_move s p) r x numbers; pcs_are = λ q h. refl }

pair-shown : (r : Parts) (x : Mips) (numbers : List ℕ) (q : Clock) → Shows r x numbers q → pair_of q ≡ paired r.window x
pair-shown r x numbers q h = let w = words-of r x numbers q h in ap₂ paired w.core w.state

more-events : (s : Speeds) (p : Predicts) (n : ℕ) (q : Clock) (m : Move) → commit_move s p (repeat n (commit_move s p) q).clock ≡ Some m
    → (repeat (n + 1) (commit_move s p) q).events ≡ (repeat n (commit_move s p) q).events ++ Commit ∷ []
more-events s p n q m is =
    let b = repeat n (commit_move s p) q in
    let events : m.events ≡ Commit ∷ [] = subst (λ o. IfSome o (λ k. k.events ≡ Commit ∷ [])) is (commit-events s p b.clock) in
    ap (λ (k : Move). k.events) (repeat-more n (commit_move s p) q) ∙ ap (λ o. (and_made b o).events) is ∙ ap (λ es. b.events ++ es) events

pub more-commits : (s : Speeds) (p : Predicts) (n : ℕ) (r : Parts) (x : Mips) (numbers : List ℕ) (t : Parts) (y : Mips) (before : List ℕ)
    (u : Parts) (z : Mips) (after pcs pushed : List ℕ) → Commits s p n r x numbers t y before pcs
    → ((q : Clock) → Shows t y before q → Made (commit_move s p q) true u z after q) → pcs_of (paired t.window y) (Commit ∷ []) ≡ pushed
    → Commits s p (n + 1) r x numbers u z after (pcs ++ pushed)
more-commits s p n r x numbers t y before u z after pcs pushed k made is =
    let move = commit_move s p in
    record {
      goes = more-goes move n r x numbers t y before u z after k.goes made;
      pcs_are = λ q h.
          let b = repeat n move q in
          let shown = k.goes.shows q h in
          let m = made-is-some (move b.clock) u z after b.clock (made b.clock shown) in
          let there : all_happen (pair_of q) b.events ≡ paired t.window y =
          (repeat-performs n move q (commit-performs s p)).is ∙ pair-shown t y before b.clock shown in
          ap₂ (λ a c. a ++ c) (k.pcs_are q h) (sym is ∙ ap (λ d. pcs_of d (Commit ∷ [])) (sym there))
          ∙ sym (pcs-append (pair_of q) b.events (Commit ∷ []))
          ∙ ap (pcs_of (pair_of q)) (sym (more-events s p n q m.0 m.1));
    }

pub all-commits : (s : Speeds) (p : Predicts) (n m : ℕ) (r : Parts) (x : Mips) (numbers : List ℕ) (t : Parts) (y : Mips) (before : List ℕ)
    (u : Parts) (z : Mips) (after pcs : List ℕ) → n ≤ m → Commits s p n r x numbers t y before pcs
    → ((q : Clock) → Shows t y before q → Made (commit_move s p q) false u z after q) → Commits s p m r x numbers u z after pcs
all-commits s p n m r x numbers t y before u z after pcs low k none =
    let move = commit_move s p in
    record {
      goes = all-goes move n m r x numbers t y before u z after low k.goes none;
      pcs_are = λ q h.
          let c = (repeat n move q).clock in
          let stays = repeat-stays n m move q low (made-none-is (move c) u z after c (none c (k.goes.shows q h))) in
          k.pcs_are q h ∙ ap (λ (a : Move). pcs_of (pair_of q) a.events) (sym stays);
    }

pub noted-few : (b : Bool) (pcs : List ℕ) (pc : ℕ) → length (pcs ++ cond b [] (pc ∷ [])) ≤ length pcs + 1
noted-few true pcs pc = omega (arith, length-append {A = ℕ} pcs [])
noted-few false pcs pc = omega (arith, length-append {A = ℕ} pcs (pc ∷ []))
