-- Marks that are only added.
use Rattle.std.proofs.Common.{◌≡◌, ◌∙◌, refl, ap, subst, ℕ, suc, ◌+◌, ◌*◌, ◌<◌, ◌≤◌, Bool, true, false, cond, arith, List, [], ◌∷◌}
use Rattle.std.specs.Prelude.{not, slice_index}
use Rattle.std.proofs.lemmas.List.Sums.{sum_by-cons}
use Rattle.visa_io.specs.declared.records.Code.{Code}
use Rattle.flow_graph.specs.Flow.{Flow}
use Rattle.flow_graph.specs.Reached.{CallsAt, IsUnitOf}
use Rattle.run_law.specs.Masks.{Enters, Itself, MayWrite, Through}
use Rattle.bound_checker.specs.Marks.{AreDue, IsBelow, mark_at, unmarked}

pub below_refl : (a : List Bool) → IsBelow a a
below_refl a = record { long = refl; kept = λ i h. h }

pub below_trans : (a b c : List Bool) → IsBelow a b → IsBelow b c → IsBelow a c
below_trans a b c p q = record { long = p.long ∙ q.long; kept = λ i h. q.kept i (p.kept i h) }

tail_below : (x y : Bool) (a b : List Bool) → IsBelow (x ∷ a) (y ∷ b) → IsBelow a b
tail_below x y a b p = record { long = omega (arith, p.long); kept = λ i h. p.kept (suc i) h }

-- marks that were added are fewer to set; where there are as many, nothing changed
pub record IsFewer (a b : List Bool) : Type 0 where
  pub fewer : unmarked b ≤ unmarked a
  pub same : unmarked a ≤ unmarked b → a ≡ b

unmarked_cons : (x : Bool) (a : List Bool) → unmarked (x ∷ a) ≡ cond (not x) 1 0 + unmarked a
unmarked_cons x a = sum_by-cons (λ b. cond (not b) 1 0) x a

fewer_cons : (x y : Bool) (a b : List Bool) → (x ≡ true → y ≡ true) → IsFewer a b → IsFewer (x ∷ a) (y ∷ b)
fewer_cons true true a b kept f =
    let p = unmarked_cons true a in
    let q = unmarked_cons true b in
    record { fewer = omega (arith, p, q, f.fewer); same = λ le. ap (λ l. true ∷ l) (f.same (omega (arith, p, q, le))) }
fewer_cons true false a b kept f = let never : false ≡ true = kept refl in absurd (cc)
fewer_cons false true a b kept f =
    let p = unmarked_cons false a in
    let q = unmarked_cons true b in
    record { fewer = omega (arith, p, q, f.fewer); same = λ le. absurd (omega (arith, p, q, le, f.fewer)) }
fewer_cons false false a b kept f =
    let p = unmarked_cons false a in
    let q = unmarked_cons false b in
    record { fewer = omega (arith, p, q, f.fewer); same = λ le. ap (λ l. false ∷ l) (f.same (omega (arith, p, q, le))) }

pub fewer_of : (a b : List Bool) → IsBelow a b → IsFewer a b
fewer_of [] [] p = record { fewer = omega arith; same = λ le. refl }
fewer_of [] (y ∷ b) p = absurd (omega (arith, p.long))
fewer_of (x ∷ a) [] p = absurd (omega (arith, p.long))
fewer_of (x ∷ a) (y ∷ b) p = fewer_cons x y a b (p.kept 0) (fewer_of a b (tail_below x y a b p))

-- no more is set where nothing changed at the end
pub antisym : (a b : List Bool) → IsBelow a b → IsBelow b a → a ≡ b
antisym a b p q = let f = fewer_of a b p in let h = fewer_of b a q in f.same h.fewer

-- the reason of a mark in a row
pub due_at : (code : Code) (g : Flow) (marks : List Bool) (row r : ℕ) → AreDue code g marks → r < 32 → mark_at marks row r ≡ true → MayWrite code (slice_index g.functions row) r
due_at code g marks row r are below is =
    let d = are.due (row * 32 + r) is in
    let rows : d.row ≡ row = omega (arith, d.place, d.below, below) in
    let registers : d.register ≡ r = omega (arith, d.place, d.below, below) in
    subst (λ k. MayWrite code (slice_index g.functions k) r) rows (subst (λ q. MayWrite code (slice_index g.functions d.row) q) registers d.writes)

-- what a function that is called may write, the caller may write
through : (code : Code) (f u g h : ℕ) → IsUnitOf code f u → CallsAt code u g → Enters code g h → Enters code f h
through code f u g h member calls Itself = Through f u g Itself member calls
through code f u g h member calls (Through x v y enters unit call) = Through x v h (through code f u g x member calls enters) unit call

pub callee_writes : (code : Code) (f u g r : ℕ) → IsUnitOf code f u → CallsAt code u g → MayWrite code g r → MayWrite code f r
callee_writes code f u g r member calls w =
    record {
      inside = w.inside;
      enters = through code f u g w.inside member calls w.enters;
      unit = w.unit;
      member = w.member;
      at = w.at;
      word = w.word;
      instr = w.instr;
      stands = w.stands;
      writes = w.writes;
    }
