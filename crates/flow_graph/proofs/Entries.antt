-- An entry that is no address of code, and what tables keep whatever the code.
use Rattle.std.proofs.Common.{ℕ, zero, suc, ◌-◌, ◌/◌, ◌%◌, ◌<◌, ◌≡◌, ◌⊎◌, inl, inr, refl, sym, ap, subst, ◌∙◌, Bool, true, false, Option, Some, None, is_some, List, [], ◌∷◌, drop, length, arith, length-drop}
use Rattle.std.specs.List.{list_any}
use Rattle.std.proofs.lemmas.Bool.{eq-eqb}
use Rattle.visa_io.specs.declared.records.Code.{Code}
use Rattle.visa_io.specs.declared.records.Span.{Span}
use Rattle.flow_graph.specs.Code.{IsCode, holds, is_code, word_from}
use Rattle.flow_graph.specs.EdgeLists.{IsInside}
use Rattle.flow_graph.specs.Flow.{Has, IsFirst, IsNoLater}
use Rattle.flow_graph.specs.Making.{AreBeside}
use Rattle.flow_graph.specs.Net.{ArePlaces}
use Rattle.flow_graph.specs.Places.{exit_of, exits_at}
use Rattle.flow_graph.specs.Reached.{Chain, IsReached, IsWay, is_any, is_inner}
use Rattle.flow_graph.specs.Reached.Chain.{Begins, Calls}
use Rattle.flow_graph.specs.Table.{HaveWords}
use Rattle.flow_graph.specs.declared.fault.FlowFault.{FlowFault}
use Rattle.flow_graph.specs.declared.fault.FlowFault.TheVariants as fault
use Rattle.flow_graph.specs.declared.parts.EdgeKind.{EdgeKind}
use Rattle.flow_graph.specs.declared.parts.EdgeKind.TheVariants.{Next, Taken, Call, Over}
use Rattle.flow_graph.specs.declared.places.Places.{Places}
use Rattle.flow_graph.proofs.Bridge.{is_net, length-net}
use Rattle.flow_graph.proofs.Lines.{bounds_of, have_code_words, slice_get_below, word_here, word_there}

true_false : true ≡ false → ⊥
true_false e = cc

-- what is reached is reached from code
way_start : (code : Code) (asked : EdgeKind → Bool) (start u : ℕ) (us : List ℕ) → IsWay code asked start (u ∷ us) → is_code code start ≡ true
unfolding IsWay
way_start code asked start u [] w = subst (λ (n : ℕ). is_code code n ≡ true) w.0 w.1
way_start code asked start v (u ∷ us) w = way_start code asked start u us w.1

start_code : (code : Code) (asked : EdgeKind → Bool) (start u : ℕ) → IsReached code asked start u → is_code code start ≡ true
start_code code asked start u r = way_start code asked start u r.us r.way

first_of : (code : Code) (entry n g : ℕ) → Chain code entry n g → n ≡ 0 → g ≡ entry
first_of code entry _ _ Begins e = refl
first_of code entry _ _ (Calls n g u f chain member calls) e = absurd (omega (arith, e))

no_chain : (code : Code) (entry n f : ℕ) → is_code code entry ≡ false → Chain code entry n f → 0 < n → ⊥
no_chain code entry _ _ off Begins some = omega (arith, some)
no_chain code entry _ _ off (Calls n g u f chain member calls) some = elim (zero_or n) [
  | inl e ↦ true_false (sym (start_code code is_inner entry u (subst (λ (x : ℕ). IsReached code is_inner x u) (first_of code entry n g chain e) member)) ∙ off)
  | inr more ↦ no_chain code entry n g off chain more
]
  where
    zero_or : (n : ℕ) → (n ≡ 0) ⊎ (0 < n)
    zero_or zero = inl refl
    zero_or (suc m) = inr (omega arith)

pub off_entry : (code : Code) (entry : ℕ) → is_code code entry ≡ false → IsFirst code entry (fault.OffCode entry)
unfolding Has
off_entry code entry off = record { has = inr (refl, off); first = first }
  where
    none : (asked : EdgeKind → Bool) (u : ℕ) → IsReached code asked entry u → ⊥
    none asked u r = true_false (sym (start_code code asked entry u r) ∙ off)

    first : (other : FlowFault) → Has code entry other → IsNoLater (fault.OffCode entry) other
    first (fault.Reserved a) h = absurd (none is_any h.0.unit h.0.reached)
    first (fault.Indirect a) h = absurd (none is_any a h.0)
    first (fault.LinkBranch a) h = absurd (none is_any a h.0)
    first (fault.SlotControl a) h = absurd (none is_any h.0.unit h.0.reached)
    first (fault.SlotTarget a) h = absurd (none is_any h.0.unit h.0.reached)
    first (fault.OffCode a) (inl h) = absurd (none is_any a h.0)
    first (fault.OffCode a) (inr h) = inr (refl, omega (arith, h.0))
    first (fault.Recursion a) h = absurd (none is_any a h.reached)
    first fault.Deep (n, f, chain, deep) = absurd (no_chain code entry n f off chain (omega (arith, deep)))
    first fault.Memory h = absurd h

-- what the tables keep
pub beside_of : (code : Code) (p : Places) → ArePlaces code p → AreBeside p
beside_of code p a = record {
  net = is_net code p a;
  sites = a.sites.beside ∙ sym (length-net code p a);
  addresses = sym (length-net code p a);
  rise = a.rise;
  fits = a.fits;
  at = a.sites.at;
  inside = λ u. record {
    next = inside (exits_at p.net.items u).next (λ v e. is_place u v Next e);
    taken = inside (exits_at p.net.items u).taken (λ v e. is_place u v Taken e);
    call = inside (exits_at p.net.items u).call (λ v e. is_place u v Call e);
    over = inside (exits_at p.net.items u).over (λ v e. is_place u v Over e);
  };
}
  where
    is_place : (u v : ℕ) (kind : EdgeKind) → exit_of (exits_at p.net.items u) kind ≡ Some v → v < length p.addresses.items
    is_place u v kind e = omega (arith, (is_net code p a).inside u v kind e, length-net code p a)

    inside : (o : Option ℕ) → ((v : ℕ) → o ≡ Some v → v < length p.addresses.items) → IsInside o (length p.addresses.items)
    inside None h = tt
    inside (Some v) h = h v refl

-- an address has a word where a span holds it
pub words_held : (spans : List Span) (words : List ℕ) → HaveWords spans (length words) → (a : ℕ) → a % 4 ≡ 0 → is_some (word_from spans words a) ≡ list_any (λ s. holds s a) spans
unfolding HaveWords word_from
words_held [] words have a aligned = refl
words_held (span ∷ rest) words have a aligned =
    by_cases (holds span a) refl (words_held rest (drop (span.len / 4) words) (subst (λ (n : ℕ). HaveWords rest n) (sym (length-drop (span.len / 4) words)) have.4) a aligned)
  where
    by_cases : (b : Bool) → holds span a ≡ b → is_some (word_from rest (drop (span.len / 4) words) a) ≡ list_any (λ s. holds s a) rest → is_some (word_from (span ∷ rest) words a) ≡ list_any (λ s. holds s a) (span ∷ rest)
    by_cases true e others =
        let at = bounds_of span a e in
        ap is_some (word_here span rest words a e ∙ slice_get_below words ((a - span.start) / 4) (omega (arith, at.0, at.1, have.0, have.1, have.3, aligned))) ∙ rw e refl
    by_cases false e others = ap is_some (word_there span rest words a e) ∙ others ∙ rw e refl

pub has_word_is : (code : Code) (a : ℕ) → IsCode code → a % 4 ≡ 0 → list_any (λ s. holds s a) code.spans ≡ is_code code a
has_word_is code a is aligned = sym (words_held code.spans code.words (have_code_words code is) a aligned) ∙ rw (eq-eqb (a % 4) 0 aligned) refl
