-- A list that fits by a view fits by each view above it, and takes a further entry at its end.
use Rattle.std.proofs.Common.{◌≡◌, ℕ, false, List, [], ◌∷◌, ◌++◌, Option, Some, None, refl, ◌∙◌, subst}
use Rattle.mips_isa.proofs.Relation.{decode_of_fits}
use Rattle.mips_isa.specs.Decoding.{decode_of}
use Rattle.mips_isa.specs.Names.{writes_of}
use Rattle.mips_isa.specs.Words.{word_sum}
use Rattle.mips_isa.specs.declared.instr.Instr.{Instr}
use Rattle.mips_ref.specs.Step.{retired_of, trap_of}
use Rattle.mips_ref.specs.Mips.{Mips}
use Rattle.mips_ref.specs.declared.records.Retired.{Retired}
use Rattle.mips_ref.specs.declared.records.TrapKind.{TrapKind}
use Rattle.core_window.proofs.Past.{past-below}
use Rattle.mips_ref.proofs.StepGives.{retired-gives}
use Rattle.mips_ref.specs.Facts.{Gives}
use Rattle.core_window.proofs.Views.{Below, outcome-below, outcome-is}
use Rattle.core_window.specs.Beside.{AllFit, EntryFits, StatusFits}
use Rattle.core_window.specs.Events.{entry_at, first_status}
use Rattle.core_window.specs.Outcomes.{controls, placed, outcome_from, outcome_in}
use Rattle.core_window.specs.View.{View, past, past_by}
use Rattle.core_window.specs.declared.records.Entry.{Entry}
use Rattle.core_window.specs.declared.records.Outcome.TheVariants.{Trapped, Parts}
use Rattle.core_window.specs.declared.records.Status.{Status}
use Rattle.core_window.specs.declared.records.Status.TheVariants.{Waiting, Running, Done}

parts-by : (t : Option TrapKind) (i : Instr) (x : Mips) (r : Retired) → trap_of i x ≡ t → outcome_from t i x ≡ Parts r
    → (trap_of i x ≡ None) × (retired_of i x ≡ r)
parts-by None i x r e f = (e, cc)
parts-by (Some k) i x r e f = cc

-- an instruction that comes to parts has no trap
pub parts-are : (i : Instr) (x : Mips) (r : Retired) → outcome_in i x ≡ Parts r → (trap_of i x ≡ None) × (retired_of i x ≡ r)
unfolding outcome_in
parts-are i x r e = parts-by (trap_of i x) i x r refl e

trap-by : (t : Option TrapKind) (i : Instr) (x : Mips) (k : TrapKind) → trap_of i x ≡ t → outcome_from t i x ≡ Trapped k → trap_of i x ≡ Some k
trap-by None i x k e f = cc
trap-by (Some l) i x k e f = e ∙ cc

pub trap-is : (i : Instr) (x : Mips) (k : TrapKind) → outcome_in i x ≡ Trapped k → trap_of i x ≡ Some k
unfolding outcome_in
trap-is i x k e = trap-by (trap_of i x) i x k refl e

-- an entry that is done gives a value of its name
pub status-gives : (i : Instr) (s : Status) (v : View) (pc npc : ℕ) → StatusFits (Some i) v pc npc s
    → (r : Retired) → s ≡ Done (Parts r) → Gives (writes_of i) r.write
unfolding StatusFits
status-gives i Waiting v pc npc fit r e = cc
status-gives i (Running p) v pc npc fit r e = cc
status-gives i (Done p) v pc npc fit r e =
    let same : p ≡ Parts r = cc in
    let h = outcome-is v i pc npc p fit in
    let q = parts-are i (placed v.state pc npc) r (h.1 ∙ same) in
    subst (λ (t : Retired). Gives (writes_of i) t.write) q.1 (retired-gives i (placed v.state pc npc) q.0)

-- past an entry
pub past-fits-below : (o : Option Instr) (s : Status) (v u : View) (pc npc : ℕ) → StatusFits o v pc npc s → Below v u
    → Below (past_by o s v) (past_by o s u)
unfolding past_by
past-fits-below None s v u pc npc fit b = b
past-fits-below (Some i) s v u pc npc fit b = past-below i s v u (status-gives i s v pc npc fit) b

pub status-below : (o : Option Instr) (s : Status) (v u : View) (pc npc word : ℕ) → decode_of word ≡ o → StatusFits o v pc npc s → Below v u
    → StatusFits o u pc npc s
unfolding StatusFits
status-below None s v u pc npc word d fit b = fit
status-below (Some i) Waiting v u pc npc word d fit b = tt
status-below (Some i) (Running r) v u pc npc word d fit b = outcome-below v u i pc npc r (decode_of_fits word i d) b fit
status-below (Some i) (Done r) v u pc npc word d fit b = outcome-below v u i pc npc r (decode_of_fits word i d) b fit

pub entry-below : (code : ℕ → Option ℕ) (v u : View) (pc npc : ℕ) (e : Entry) → Below v u → EntryFits code v pc npc e → EntryFits code u pc npc e
entry-below code v u pc npc e b h =
    record {
      pc_is = h.pc_is;
      npc_is = h.npc_is;
      code_is = h.code_is;
      guess_is = h.guess_is;
      status_is = status-below e.instr e.status v u e.pc e.npc h.code_is.0 h.code_is.2 h.status_is b;
    }

pub all-below : (code : ℕ → Option ℕ) (v u : View) (pc npc : ℕ) (es : List Entry) (p q : ℕ) → Below v u → AllFit code v pc npc es p q
    → AllFit code u pc npc es p q
unfolding AllFit
all-below code v u pc npc [] p q b h = h
all-below code v u pc npc (e ∷ rest) p q b h = (
  entry-below code v u pc npc e b h.0,
  all-below code (past v e) (past u e) npc e.guess rest p q (past-fits-below e.instr e.status v u e.pc e.npc h.0.status_is b) h.1,
)

-- a fetched entry
first-fits : (o : Option Instr) (v : View) (pc npc : ℕ) → StatusFits o v pc npc (first_status o)
unfolding StatusFits
first-fits None v pc npc = refl
first-fits (Some i) v pc npc = tt

pub all-append : (code : ℕ → Option ℕ) (v : View) (pc npc : ℕ) (es : List Entry) (p q guess word : ℕ) (o : Option Instr) → AllFit code v pc npc es p q
    → code p ≡ Some word → decode_of word ≡ o → (controls o ≡ false → guess ≡ word_sum q 4)
    → AllFit code v pc npc (es ++ entry_at p q guess o ∷ []) q guess
unfolding AllFit
all-append code v pc npc [] p q guess word o h found decoded guessed =
    (record { pc_is = h.0; npc_is = h.1; code_is = (word, found, decoded); guess_is = guessed; status_is = first-fits o v p q }, (h.1, refl))
all-append code v pc npc (e ∷ rest) p q guess word o h found decoded guessed =
    (h.0, all-append code (past v e) npc e.guess rest p q guess word o h.1 found decoded guessed)

-- other code with the same words
pub all-code : (code other : ℕ → Option ℕ) (v : View) (pc npc : ℕ) (es : List Entry) (p q : ℕ) → ((a : ℕ) → code a ≡ other a)
    → AllFit code v pc npc es p q → AllFit other v pc npc es p q
all-code code other v pc npc es p q same h =
    let is : code ≡ other = λ j a. same a j in
    subst (λ c. AllFit c v pc npc es p q) is h
