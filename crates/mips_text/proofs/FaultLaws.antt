-- How faults pass from a part of a text to the whole, and from some sets to others.
use Rattle.std.proofs.Common.{◌≡◌, refl, sym, ap, ◌∙◌, subst, ℕ, ◌≤◌, ◌⊎◌, List, [], ◌∷◌, ◌++◌, length, length-append, append_assoc, append-nil, arith, inl, inr}
use Rattle.mips_text.specs.Faults.{Begins, IsFault, Stops}

-- a member under an equal name
pub along : (L : List ℕ → Type 0) (a b : List ℕ) → a ≡ b → L a → L b
along L a b e m = subst L e m

pub stops_within : (W V : List ℕ → Type 0) → ((text : List ℕ) → V text → W text) → (before rest : List ℕ) → Stops W before rest → Stops V before rest
stops_within W V within before [] s = λ m. s (within before m)
stops_within W V within before (c ∷ rest) s = λ more m. s more (within (before ++ c ∷ more) m)

-- what begins a text of one set begins one of another
pub begins_widely : (N M : List ℕ → Type 0) → ((text : List ℕ) → N text → Begins M text) → (before : List ℕ) → Begins N before → Begins M before
begins_widely N M wider before b =
    let w = wider (before ++ b.more) b.whole in
    record { more = b.more ++ w.more; whole = along M (before ++ b.more ++ w.more) (before ++ (b.more ++ w.more)) (append_assoc before b.more w.more) w.whole }

pub widened : (N W M V : List ℕ → Type 0) (text rest : List ℕ) → ((t : List ℕ) → N t → Begins M t) → ((t : List ℕ) → V t → W t) → IsFault N W text rest → IsFault M V text rest
widened N W M V text rest wider within f =
    record { before = f.before; parts = f.parts; begins = begins_widely N M wider f.before f.begins; stops = stops_within W V within f.before rest f.stops }

stops_behind : (W V : List ℕ → Type 0) (front : List ℕ) → ((t : List ℕ) → V (front ++ t) → W t) → (before rest : List ℕ) → Stops W before rest → Stops V (front ++ before) rest
stops_behind W V front within before [] s = λ m. s (within before m)
stops_behind W V front within before (c ∷ rest) s = λ more m. s more (within (before ++ c ∷ more) (along V (front ++ before ++ c ∷ more) (front ++ (before ++ c ∷ more)) (append_assoc front before (c ∷ more)) m))

-- a fault behind a front
pub behind : (N W M V : List ℕ → Type 0) (text front after rest : List ℕ) → text ≡ front ++ after → ((t : List ℕ) → N t → Begins M (front ++ t)) → ((t : List ℕ) → V (front ++ t) → W t)
    → IsFault N W after rest → IsFault M V text rest
behind N W M V text front after rest is wider within f =
    let b = wider (f.before ++ f.begins.more) f.begins.whole in
    record {
      before = front ++ f.before;
      parts = is ∙ ap (λ q. front ++ q) f.parts ∙ sym (append_assoc front f.before rest);
      begins = record {
        more = f.begins.more ++ b.more;
        whole = along M (front ++ (f.before ++ f.begins.more) ++ b.more) (front ++ f.before ++ (f.begins.more ++ b.more)) (ap (λ q. q ++ b.more) (sym (append_assoc front f.before f.begins.more)) ∙ append_assoc (front ++ f.before) f.begins.more b.more) b.whole;
      };
      stops = stops_behind W V front within f.before rest f.stops;
    }

-- two beginnings of one text: one begins the other
pub record Longer (short rest1 long rest2 : List ℕ) : Type 0 where
  pub middle : List ℕ
  pub long_is : long ≡ short ++ middle
  pub rest_is : rest1 ≡ middle ++ rest2

pub levi : (a b c d : List ℕ) → a ++ b ≡ c ++ d → Longer a b c d ⊎ Longer c d a b
levi [] b c d e = inl (record { middle = c; long_is = refl; rest_is = e })
levi (x ∷ a) b [] d e = inr (record { middle = x ∷ a; long_is = refl; rest_is = sym e })
levi (x ∷ a) b (y ∷ c) d e =
    let head : x ≡ y = cc in
    let tail : a ++ b ≡ c ++ d = cc in
    elim (levi a b c d tail) [
      | inl w ↦ inl (record { middle = w.middle; long_is = λ i. sym head i ∷ w.long_is i; rest_is = w.rest_is })
      | inr w ↦ inr (record { middle = w.middle; long_is = λ i. head i ∷ w.long_is i; rest_is = w.rest_is })
    ]

-- what stops early stops later too
pub stops_later : (W : List ℕ → Type 0) (before middle rest : List ℕ) → Stops W before (middle ++ rest) → Stops W (before ++ middle) rest
stops_later W before [] rest s = subst (λ q. Stops W q rest) (sym (append-nil before)) s
stops_later W before (c ∷ middle) [] s = λ m. s middle m
stops_later W before (c ∷ middle) (d ∷ rest) s = λ more m. s (middle ++ d ∷ more) (along W (before ++ c ∷ middle ++ d ∷ more) (before ++ c ∷ (middle ++ d ∷ more)) (append_assoc before (c ∷ middle) (d ∷ more)) m)

-- of two faults of one text the later one is a fault by the sets of both
pub both_stop : (W V U : List ℕ → Type 0) → ((t : List ℕ) → U t → W t ⊎ V t) → (before rest : List ℕ) → Stops W before rest → Stops V before rest → Stops U before rest
both_stop W V U either before [] s t = λ m. elim (either before m) [ inl w ↦ s w | inr v ↦ t v ]
both_stop W V U either before (c ∷ rest) s t = λ more m. elim (either (before ++ c ∷ more) m) [ inl w ↦ s more w | inr v ↦ t more v ]

pub later : (N W V U : List ℕ → Type 0) (text rest1 rest2 : List ℕ) → length rest1 ≤ length rest2 → ((t : List ℕ) → U t → W t ⊎ V t) → IsFault N W text rest1 → IsFault N V text rest2 → IsFault N U text rest1
later N W V U text rest1 rest2 shorter either f g =
    record { before = f.before; parts = f.parts; begins = f.begins; stops = both_stop W V U either f.before rest1 f.stops moved }
  where
    same : f.before ++ rest1 ≡ g.before ++ rest2
    same = sym f.parts ∙ g.parts

    from : (middle : List ℕ) → f.before ≡ g.before ++ middle → rest2 ≡ middle ++ rest1 → Stops V f.before rest1
    from middle long is = subst (λ q. Stops V q rest1) (sym long) (stops_later V g.before middle rest1 (subst (λ q. Stops V g.before q) is g.stops))

    none : (middle : List ℕ) → g.before ≡ f.before ++ middle → rest1 ≡ middle ++ rest2 → Stops V f.before rest1
    none [] long is = from [] (sym long') (sym is)
      where
        long' : g.before ++ [] ≡ f.before
        long' = append-nil g.before ∙ long ∙ append-nil f.before
    none (c ∷ middle) long is = absurd (omega (arith, ap (λ (q : List ℕ). length q) is, length-append middle rest2))

    moved : Stops V f.before rest1
    moved = elim (levi f.before rest1 g.before rest2 same) [
      | inl w ↦ none w.middle w.long_is w.rest_is
      | inr w ↦ from w.middle w.long_is w.rest_is
    ]
