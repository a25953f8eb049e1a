-- Facts so far are known by their keys.
use Rattle.std.proofs.Common.{Result, Ok, Err, OnOk, subst, ◌≡◌, ℕ, Bool, true, false, cond, not, ◌&&◌, ◌||◌, nat_eq, nat_le, List, [], ◌∷◌, ◌++◌, ◌+◌, ◌*◌, ◌<◌, refl, sym, ap, ◌∙◌, arith, leb-true}
use Rattle.std.specs.Int.{is_in_range}
use Rattle.std.specs.List.{list_all, list_any, AllByRecursion}
use Rattle.std.specs.Ordering.{nat_cmp, is_eq}
use Rattle.std.specs.BTreeSet as tree
use Rattle.std.specs.Result.{is_err}
use Rattle.std.proofs.lemmas.Bool.Decides.{nat_tests}
use Rattle.std.proofs.lemmas.List.Elements.{All-nil, All-push, recursion_from_All}
use Rattle.std.proofs.lemmas.List.Folds.{list_any-append}
use Rattle.text_fields.proofs.Digits.{and_parts}
use Rattle.text_fields.specs.Numbers.{is_signed_word}
use Rattle.visa_io.specs.declared.records.FactLine.{FactLine}
use Rattle.task_text.specs.declared.fact_keys.FactKeys.{FactKeys}
use Rattle.task_text.specs.declared.row.Row.{Row}
use Rattle.task_text.specs.declared.row.Row.TheVariants as row
use Rattle.task_text.specs.declared.task.Task.{Task}
use Rattle.task_text.specs.Table.{in_limits, is_word, is_strided}
use Rattle.task_text.specs.Texts.{add}
use Rattle.task_text.specs.SeenFacts.{fact_key, AreKeysOf}

pub none_seen : (s : FactKeys) → s.seen.keys ≡ [] → AreKeysOf s []
none_seen s e = record { tells = λ x. ap (list_any (λ k. is_eq (nat_cmp x k))) e; low = All-nil (λ f. f.register < 256) }

-- a fact within its limits
pub register_low : (f : FactLine) → in_limits (row.Fact f) ≡ true → f.register < 256
unfolding in_limits
register_low f e =
    let p = and_parts (is_word f.at) (is_in_range 1 31 f.register && (is_signed_word f.lo && (is_signed_word f.hi && (is_word f.stride && is_strided f.lo f.hi f.stride)))) e in
    let q = and_parts (is_in_range 1 31 f.register) (is_signed_word f.lo && (is_signed_word f.hi && (is_word f.stride && is_strided f.lo f.hi f.stride))) p.1 in
    let r = leb-true f.register 31 (and_parts (nat_le 1 f.register) (nat_le f.register 31) q.0).1 in
    omega (arith, r)

-- equal keys are of equal addresses and registers
key_same : (a r b q : ℕ) → r < 256 → q < 256 → nat_eq (a * 256 + r) (b * 256 + q) ≡ (nat_eq b a && nat_eq q r)
key_same a r b q low high = grind (arith, nat_tests)

all_new : (f : FactLine) (facts : List FactLine) → f.register < 256 → AllByRecursion (λ e. e.register < 256) facts → not (list_any (λ e. nat_eq (fact_key f) (fact_key e)) facts) ≡ list_all (λ e. not (nat_eq e.at f.at && nat_eq e.register f.register)) facts
all_new f [] l a = refl
all_new f (e ∷ facts) l a =
    (λ i. not (key_same f.at f.register e.at e.register l a.0 i || list_any (λ x. nat_eq (fact_key f) (fact_key x)) facts))
    ∙ both (nat_eq e.at f.at && nat_eq e.register f.register) (list_any (λ x. nat_eq (fact_key f) (fact_key x)) facts)
    ∙ ap (λ t. not (nat_eq e.at f.at && nat_eq e.register f.register) && t) (all_new f facts l a.1)
  where
    both : (s t : Bool) → not (s || t) ≡ (not s && not t)
    both true t = refl
    both false t = refl

-- the keys tell whether a fact is the first of its address and register
pub lacks_is : (s : FactKeys) (facts : List FactLine) (f : FactLine) → AreKeysOf s facts → in_limits (row.Fact f) ≡ true → not (tree.contains nat_cmp s.seen (fact_key f)) ≡ list_all (λ e. not (nat_eq e.at f.at && nat_eq e.register f.register)) facts
lacks_is s facts f h e = ap not (h.tells (fact_key f)) ∙ all_new f facts (register_low f e) (recursion_from_All (λ x. x.register < 256) facts h.low)

-- one fact more
eq_is : (k x : ℕ) → is_eq (nat_cmp k x) ≡ nat_eq x k
eq_is k x = grind (arith, nat_tests)

pub one_seen : (s n : FactKeys) (facts : List FactLine) (f : FactLine) → in_limits (row.Fact f) ≡ true → tree.Updates nat_cmp s.seen n.seen (fact_key f) true → AreKeysOf s facts → AreKeysOf n (facts ++ f ∷ [])
one_seen s n facts f e u h = record {
  tells = λ x. u.0 x ∙ (λ i. cond (eq_is (fact_key f) x i) true (h.tells x i)) ∙ more (nat_eq x (fact_key f)) (list_any (λ y. nat_eq x (fact_key y)) facts) ∙ sym (list_any-append (λ y. nat_eq x (fact_key y)) facts (f ∷ []));
  low = All-push (λ y. y.register < 256) facts f h.low (register_low f e);
}
  where
    more : (a b : Bool) → cond a true b ≡ (b || (a || false))
    more true true = refl
    more true false = refl
    more false true = refl
    more false false = refl

-- a row that is a fact
pub note_kept : {E : Type 0} (res : Result (Unit {0}) E) (s n : FactKeys) (r : Row) (f : FactLine) (k : ℕ) (t : Task) → r ≡ row.Fact f → in_limits r ≡ true → k ≡ fact_key f → OnOk res (tree.Updates nat_cmp s.seen n.seen k true) → AreKeysOf s t.facts → OnOk res (AreKeysOf n (add r t).facts)
note_kept (Ok u) s n r f k t e l q up h =
    subst (λ x. AreKeysOf n (add x t).facts) (sym e)
    (one_seen s n t.facts f (subst (λ x. in_limits x ≡ true) e l) (subst (λ m. tree.Updates nat_cmp s.seen n.seen m true) q up) h)
note_kept (Err x) s n r f k t e l q up h = tt

-- a row that was noted and added
pub added_kept : {E F : Type 0} (noted : Result (Unit {0}) E) (added : Result (Unit {0}) F) (u : Unit {0}) (n : FactKeys) (t x : Task) → is_err noted ≡ false → added ≡ Ok u → OnOk noted (AreKeysOf n x.facts) → OnOk added (t ≡ x) → AreKeysOf n t.facts
added_kept (Ok v) (Ok w) u n t x e o h g = subst (λ y. AreKeysOf n y.facts) (sym g) h
added_kept (Ok v) (Err d) u n t x e o h g = cc
added_kept (Err d) added u n t x e o h g = cc
