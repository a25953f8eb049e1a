-- Trying a way, all ways, and all ways until nothing changes.
use Rattle.std.proofs.Common.{◌≡◌, refl, sym, ap, subst, ◌∙◌, ℕ, zero, suc, ◌+◌, ◌-◌, ◌<◌, ◌≤◌, Bool, true, false, List, [], ◌∷◌, length, get_or, set, arith, ◌⊎◌, inl, inr, Option, Some, None}
use Rattle.std.specs.Prelude.{◌||◌}
use Rattle.std.specs.List.{All}
use Rattle.std.proofs.lemmas.Bool.{cases_order}
use Rattle.std.proofs.lemmas.List.{get_or_default}
use Rattle.loop_regions.specs.Nested.{Numbered}
use Rattle.loop_regions.specs.declared.ways.Way.{Way}
use Rattle.path_wcet.specs.declared.ahead.Aim.{Aim}
use Rattle.path_wcet.specs.Known.{AreStill, IsPaid, IsRaised, IsSatisfied, IsWithin, Table, entry, entry_at, offered, offered_below, rooms}
use Rattle.path_wcet.specs.Paths.{AreReached, IsFitting, IsReached}
use Rattle.path_wcet.specs.Paths.Goal.{To}
use Rattle.path_wcet.specs.Settled.{AreKnown, IsRaisedBy, IsSettled, IsSwept, IsTried}
use Rattle.path_wcet.proofs.Reach.{below_reached, no_bool, offered_reached, some_is}

-- an entry of a list in which one was set
set_entry : (xs : List (Option ℕ)) (u i v x : ℕ) → u < length xs → entry_at (set xs u (Some v)) i ≡ Some x → ((i ≡ u) × (x ≡ v)) ⊎ (entry_at xs i ≡ Some x)
set_entry [] u i v x inside is = absurd (omega arith)
set_entry (o ∷ os) zero zero v x inside is = inl (refl, sym (some_is v x is))
set_entry (o ∷ os) zero (suc i) v x inside is = inr is
set_entry (o ∷ os) (suc u) zero v x inside is = inr is
set_entry (o ∷ os) (suc u) (suc i) v x inside is = elim (set_entry os u i v x (omega arith) is) [ inl same ↦ inl (let e = same.0 in omega arith, same.1) | inr old ↦ inr old ]

raised_reached : (t : Table) (n : Numbered) (to : Aim) (base u : ℕ) (xs more : List (Option ℕ)) (o : Option ℕ) → u < length xs → IsRaised xs u o more → ((v : ℕ) → o ≡ Some v → IsReached t n (To to) (base + u) v) → AreReached t n to base xs → AreReached t n to base more
raised_reached t n to base u xs more None inside raised here reached = absurd raised
raised_reached t n to base u xs more (Some v) inside raised here reached = λ i x at. elim (set_entry xs u i v x inside (sym (ap (λ (l : List (Option ℕ)). entry_at l i) raised) ∙ at)) [
  | inl same ↦ subst (λ j. IsReached t n (To to) (base + j) x) (sym same.0) (subst (IsReached t n (To to) (base + u)) (sym same.1) (here v refl))
  | inr old ↦ reached i x old
]

by_reached : (t : Table) (n : Numbered) (to : Aim) (base u : ℕ) (xs more : List (Option ℕ)) (o : Option ℕ) (changed : Bool) → u < length xs → IsRaisedBy xs u o more changed → ((v : ℕ) → o ≡ Some v → IsReached t n (To to) (base + u) v) → AreReached t n to base xs → AreReached t n to base more
by_reached t n to base u xs more o true inside r here reached = raised_reached t n to base u xs more o inside (r.set refl) here reached
by_reached t n to base u xs more o false inside r here reached = subst (AreReached t n to base) (sym (r.kept refl).0) reached

pub tried : (t : Table) (to : Aim) (turns : List ℕ) (rets : List (Option ℕ)) (w : Way) (base : ℕ) (xs mid more : List (Option ℕ)) (a b : Bool) → IsWithin base (length xs) w
    → IsRaisedBy xs (w.from - base) (offered t to turns rets w (entry base xs w.to)) mid a → IsRaisedBy mid (w.from - base) (offered_below t to turns base mid w) more b → IsTried t to turns rets w base xs more (a || b)
tried t to turns rets w base xs mid more a b within one two = record {
  beside = two.beside ∙ one.beside;
  kept = λ e. by_kept a b one two e;
  less = λ e. by_less a b one two e;
  still = λ u m h. two.still u m (one.still u m h);
  reached = λ n fits known reached.
      let first = by_reached t n to base (w.from - base) xs mid (offered t to turns rets w (entry base xs w.to)) a within.below one
      (λ v is. subst (λ u. IsReached t n (To to) u v) (sym here) (offered_reached t n to turns rets base xs w known reached fits v is)) reached in
      by_reached t n to base (w.from - base) mid more (offered_below t to turns base mid w) b (let l = one.beside in let h = within.below in omega arith) two
      (λ v is. subst (λ u. IsReached t n (To to) u v) (sym here) (below_reached t n to turns rets base mid w known first fits v is)) first;
}
  where
    here : base + (w.from - base) ≡ w.from
    here = let h = within.above in omega arith

    by_kept : (p q : Bool) → IsRaisedBy xs (w.from - base) (offered t to turns rets w (entry base xs w.to)) mid p → IsRaisedBy mid (w.from - base) (offered_below t to turns base mid w) more q → (p || q) ≡ false → (more ≡ xs) × IsSatisfied t to turns rets base xs w
    by_kept true q r s e = no_bool e
    by_kept false true r s e = no_bool e
    by_kept false false r s e =
        let k = r.kept refl in
        let l = s.kept refl in
        (l.0 ∙ k.0, record { along = k.1; below = subst (λ (m : List (Option ℕ)). IsPaid (entry_at m (w.from - base)) (offered_below t to turns base m w)) k.0 l.1 })

    by_less : (p q : Bool) → IsRaisedBy xs (w.from - base) (offered t to turns rets w (entry base xs w.to)) mid p → IsRaisedBy mid (w.from - base) (offered_below t to turns base mid w) more q → (p || q) ≡ true → rooms more < rooms xs
    by_less true true r s e = let a = r.less refl in let b = s.less refl in omega (arith, a, b)
    by_less true false r s e = let a = r.less refl in let b = ap rooms (s.kept refl).0 in omega (arith, a, b)
    by_less false true r s e = let a = ap rooms (r.kept refl).0 in let b = s.less refl in omega (arith, a, b)
    by_less false false r s e = no_bool (sym e)

-- the sweep as far as it has come
pub record IsSweeping (t : Table) (to : Aim) (turns : List ℕ) (rets : List (Option ℕ)) (ways : List Way) (base : ℕ) (xs now : List (Option ℕ)) (changed : Bool) (k : ℕ) : Type 0 where
  pub beside : length now ≡ length xs
  pub kept : changed ≡ false → (now ≡ xs) × ((j : ℕ) (d : Way) → j < k → IsSatisfied t to turns rets base xs (get_or ways j d))
  pub less : changed ≡ true → rooms now < rooms xs
  pub still : AreStill xs now
  pub reached : (n : Numbered) → All (IsFitting n to) ways → AreKnown t n turns rets → AreReached t n to base xs → AreReached t n to base now

pub sweep_none : (t : Table) (to : Aim) (turns : List ℕ) (rets : List (Option ℕ)) (ways : List Way) (base : ℕ) (xs : List (Option ℕ)) → IsSweeping t to turns rets ways base xs xs false 0
sweep_none t to turns rets ways base xs = record { beside = refl; kept = λ e. (refl, λ j d less. absurd (omega arith)); less = λ e. no_bool (sym e); still = λ u m h. h; reached = λ n fits known reached. reached }

pub sweep_changed : (t : Table) (to : Aim) (turns : List ℕ) (rets : List (Option ℕ)) (ways : List Way) (base : ℕ) (xs now more : List (Option ℕ)) (changed : Bool) (k : ℕ) (d : Way) → k < length ways → IsSweeping t to turns rets ways base xs now changed k
    → IsTried t to turns rets (get_or ways k d) base now more true → IsSweeping t to turns rets ways base xs more true (k + 1)
sweep_changed t to turns rets ways base xs now more changed k d inside s tried = record {
  beside = tried.beside ∙ s.beside;
  kept = λ e. no_bool e;
  less = λ e. by_changed changed refl;
  still = λ u m h. tried.still u m (s.still u m h);
  reached = λ n fits known reached. tried.reached n (fits k d inside) known (s.reached n fits known reached);
}
  where
    by_changed : (b : Bool) → changed ≡ b → rooms more < rooms xs
    by_changed true is = let l = s.less is in let h = tried.less refl in omega (arith, l, h)
    by_changed false is = let a = ap rooms (s.kept is).0 in let h = tried.less refl in omega (arith, a, h)

pub sweep_kept : (t : Table) (to : Aim) (turns : List ℕ) (rets : List (Option ℕ)) (ways : List Way) (base : ℕ) (xs now more : List (Option ℕ)) (changed : Bool) (k : ℕ) (d : Way) → k < length ways → IsSweeping t to turns rets ways base xs now changed k
    → IsTried t to turns rets (get_or ways k d) base now more false → IsSweeping t to turns rets ways base xs more changed (k + 1)
sweep_kept t to turns rets ways base xs now more changed k d inside s tried =
    let same = tried.kept refl in
    record {
      beside = tried.beside ∙ s.beside;
      kept = λ e. let m = s.kept e in (
        same.0 ∙ m.0,
        λ j x less. elim (cases_order j k) [
          | inl is ↦ subst (λ i. IsSatisfied t to turns rets base xs (get_or ways i x)) (sym is) (subst (IsSatisfied t to turns rets base xs) (get_or_default ways k d x inside)
              (subst (λ (l : List (Option ℕ)). IsSatisfied t to turns rets base l (get_or ways k d)) m.0 same.1))
          | inr (inl below) ↦ m.1 j x below
          | inr (inr above) ↦ absurd (omega arith)
        ],
      );
      less = λ e. let l = s.less e in let a = ap rooms same.0 in omega (arith, l, a);
      still = λ u m h. tried.still u m (s.still u m h);
      reached = λ n fits known reached. tried.reached n (fits k d inside) known (s.reached n fits known reached);
    }

pub sweep_all : (t : Table) (to : Aim) (turns : List ℕ) (rets : List (Option ℕ)) (ways : List Way) (base : ℕ) (xs now : List (Option ℕ)) (changed : Bool) (k : ℕ) → length ways ≤ k → IsSweeping t to turns rets ways base xs now changed k → IsSwept t to turns rets ways base xs now changed
sweep_all t to turns rets ways base xs now changed k over s = record {
  beside = s.beside;
  kept = λ e. let m = s.kept e in (m.0, λ j d inside. m.1 j d (omega arith));
  less = s.less;
  still = s.still;
  reached = s.reached;
}

-- sweeps as far as they have come
pub record IsSettling (t : Table) (to : Aim) (turns : List ℕ) (rets : List (Option ℕ)) (ways : List Way) (base : ℕ) (xs now : List (Option ℕ)) (changed : Bool) : Type 0 where
  pub beside : length now ≡ length xs
  pub kept : changed ≡ false → now ≡ xs
  pub less : changed ≡ true → rooms now < rooms xs
  pub still : AreStill xs now
  pub reached : (n : Numbered) → All (IsFitting n to) ways → AreKnown t n turns rets → AreReached t n to base xs → AreReached t n to base now

pub settle_none : (t : Table) (to : Aim) (turns : List ℕ) (rets : List (Option ℕ)) (ways : List Way) (base : ℕ) (xs : List (Option ℕ)) → IsSettling t to turns rets ways base xs xs false
settle_none t to turns rets ways base xs = record { beside = refl; kept = λ e. refl; less = λ e. no_bool (sym e); still = λ u m h. h; reached = λ n fits known reached. reached }

pub settle_more : (t : Table) (to : Aim) (turns : List ℕ) (rets : List (Option ℕ)) (ways : List Way) (base : ℕ) (xs now more : List (Option ℕ)) (changed : Bool) → IsSettling t to turns rets ways base xs now changed
    → IsSwept t to turns rets ways base now more true → IsSettling t to turns rets ways base xs more true
settle_more t to turns rets ways base xs now more changed s swept = record {
  beside = swept.beside ∙ s.beside;
  kept = λ e. no_bool e;
  less = λ e. by_changed changed refl;
  still = λ u m h. swept.still u m (s.still u m h);
  reached = λ n fits known reached. swept.reached n fits known (s.reached n fits known reached);
}
  where
    by_changed : (b : Bool) → changed ≡ b → rooms more < rooms xs
    by_changed true is = let l = s.less is in let h = swept.less refl in omega (arith, l, h)
    by_changed false is = let a = ap rooms (s.kept is) in let h = swept.less refl in omega (arith, a, h)

pub settle_done : (t : Table) (to : Aim) (turns : List ℕ) (rets : List (Option ℕ)) (ways : List Way) (base : ℕ) (xs now more : List (Option ℕ)) (changed : Bool) → IsSettling t to turns rets ways base xs now changed
    → IsSwept t to turns rets ways base now more false → IsSettled t to turns rets ways base xs more changed
settle_done t to turns rets ways base xs now more changed s swept =
    let k = swept.kept refl in
    record {
      beside = swept.beside ∙ s.beside;
      satisfied = subst (λ (l : List (Option ℕ)). All (IsSatisfied t to turns rets base l) ways) (sym k.0) k.1;
      kept = λ e. k.0 ∙ s.kept e;
      less = λ e. let l = s.less e in let a = ap rooms k.0 in omega (arith, l, a);
      still = λ u m h. swept.still u m (s.still u m h);
      reached = λ n fits known reached. swept.reached n fits known (s.reached n fits known reached);
    }

-- what trying a way comes to, where its first offer raised something and where it didn't
pub tried_by : (t : Table) (to : Aim) (turns : List ℕ) (rets : List (Option ℕ)) (w : Way) (base : ℕ) (xs mid more : List (Option ℕ)) (x o p : Option ℕ) (a b c : Bool) → c ≡ (a || b) → IsWithin base (length xs) w → x ≡ entry base xs w.to
    → o ≡ offered t to turns rets w x → p ≡ offered_below t to turns base mid w → IsRaisedBy xs (w.from - base) o mid a → IsRaisedBy mid (w.from - base) p more b → IsTried t to turns rets w base xs more c
tried_by t to turns rets w base xs mid more x o p a b c is within read along below one two =
    subst (IsTried t to turns rets w base xs more) (sym is)
    (tried t to turns rets w base xs mid more a b within (subst (λ (q : Option ℕ). IsRaisedBy xs (w.from - base) q mid a) (along ∙ ap (offered t to turns rets w) read) one) (subst (λ (q : Option ℕ). IsRaisedBy mid (w.from - base) q more b) below two))

pub or_first : (a b : Bool) → a ≡ true → a ≡ (a || b)
or_first a b is = ap (λ q. let r : Bool = q in r) is ∙ ap (λ q. q || b) (sym is)

pub or_second : (a b : Bool) → a ≡ false → b ≡ (a || b)
or_second a b is = ap (λ q. q || b) (sym is)
