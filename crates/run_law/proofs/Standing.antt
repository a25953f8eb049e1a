-- How a state stands to a walk: what a run keeps, with the counts, and with the activations that wait.
use Rattle.std.proofs.Common.{◌≡◌, ◌∙◌, refl, sym, ap, subst, ℕ, ◌+◌, ◌<◌, true, List, [], ◌∷◌, ◌++◌, length, arith, ◌⊎◌, inl, inr}
use Rattle.std.specs.Prelude.{Some, None, slice_index}
use Rattle.std.specs.List.{Contains}
use Rattle.visa_io.specs.declared.records.Region.{Region}
use Rattle.mips_isa.specs.Kinds.{kind_of}
use Rattle.mips_isa.specs.Names.{writes_of}
use Rattle.mips_isa.specs.declared.instr.Instr.{Instr}
use Rattle.mips_isa.specs.declared.instr.Kind.TheVariants as kind
use Rattle.mips_ref.specs.Facts.{WentBy}
use Rattle.mips_ref.specs.Mips.{Mips, exit_address}
use Rattle.mips_ref.specs.Step.{step_of}
use Rattle.flow_graph.specs.Code.{instr_at, is_control_instr}
use Rattle.flow_graph.specs.Faults.{is_word_of}
use Rattle.flow_graph.specs.Reached.{CallsAt, Chain, Begins, Calls, IsFunction, IsUnitOf, Leads, Reached}
use Rattle.flow_graph.specs.declared.parts.Edge.{Edge}
use Rattle.flow_graph.specs.declared.parts.EdgeKind.{EdgeKind}
use Rattle.flow_graph.specs.declared.parts.EdgeKind.TheVariants.{Next, Taken}
use Rattle.loop_regions.specs.Places.{Place, places}
use Rattle.loop_regions.specs.Walks.{Comes, IsLegal, IsWalk, alone, follow, holds, open_from}
use Rattle.loop_regions.proofs.Visits.{is_held, visits_outside}
use Rattle.run_law.specs.Advance.{AreRegisters}
use Rattle.range_facts.specs.declared.along.Along.{Along}
use Rattle.run_law.specs.Fits.{Fits}
use Rattle.range_facts.specs.Along.{after_instr}
use Rattle.run_law.specs.Program.{refined_along, Masked, Passed, Program}
use Rattle.mips_ref.specs.declared.records.Ran.{Ran}
use Rattle.run_law.specs.Ran.{Goes, WentAlong, WentBy as EnteredBy}
use Rattle.run_law.specs.Runs.{Done as AtExit, First as AtStart, HasCode, InSlot as BeforeSlot, Spot, later_of, newest_edge, points}
use Rattle.run_law.proofs.Acting.{register_kept}
use Rattle.run_law.proofs.Counting.{CountAt, CountDone, writes_or}

-- edges, newest first, are a legal walk to unit u of function f, over these units of its activation and these
-- activations below
pub record Walked (p : Program) (f u : ℕ) (us : List ℕ) (below : List (List ℕ)) (es : List Edge) : Type 0 where
  pub opens : open_from (alone p.entry) es ≡ (u ∷ us) ∷ below
  pub walk : IsWalk p.graph (alone p.entry) es
  pub function : IsFunction p.code p.entry f
  pub member : IsUnitOf p.code f u
  pub reached : Reached p.code p.entry u

-- an activation of function g waits at its unit u for function f; `saved` are the registers behind the call's slot
pub record Frame (p : Program) (q : Passed p) (f g u : ℕ) (us saved registers : List ℕ) : Type 0 where
  pub function : IsFunction p.code p.entry g
  pub member : IsUnitOf p.code g u
  pub reached : Reached p.code p.entry u
  pub calls : CallsAt p.code u f
  pub call : Instr
  pub call_stands : instr_at p.code u ≡ Some call
  pub is_call : kind_of call ≡ kind.Call
  pub slot : Instr
  pub slot_stands : instr_at p.code (u + 4) ≡ Some slot
  pub kept : (r : ℕ) → r < 32 → (p.mask f r ≡ true) ⊎ (slice_index registers r ≡ slice_index saved r)
  pub fit : Fits (after_instr slot (u + 4) (after_instr call u (p.before u))) saved
  pub counts : (r : Region) (k : Contains p.graph.regions r) → holds r u ≡ true
      → CountDone p r (q.counted r k) u us saved

-- the activations below one of function f, whose registers are these
unfoldable pub Below : (p : Program) → Passed p → ℕ → List ℕ → List (List ℕ) → Type 0
Below p q f registers [] = f ≡ p.entry
Below p q f registers ([] ∷ rest) = ⊥
Below p q f registers ((u ∷ us) ∷ rest) = (g : ℕ) × (saved : List ℕ) × Frame p q f g u us saved registers × Below p q g saved rest

abbrev pub Counts : (p : Program) → Passed p → ℕ → List ℕ → List ℕ → Type 0
Counts p q u us registers = (r : Region) (k : Contains p.graph.regions r) → holds r u ≡ true → CountAt p r (q.counted r k) u us registers

-- a state stands at the first instruction of unit u
pub record AtFirst (p : Program) (q : Passed p) (f u : ℕ) (us : List ℕ) (below : List (List ℕ)) (es : List Edge) (x : Mips) (rs : List Ran) : Type 0 where
  pub pc : x.pc ≡ u
  pub next_pc : x.next_pc ≡ u + 4
  pub returns_are : x.returns ≡ points below
  pub fit : Fits (p.before u) x.registers
  pub counts : Counts p q u us x.registers
  pub under : Below p q f x.registers below
  pub entered : EnteredBy p.code (newest_edge es) rs

-- where a unit goes whose control instruction has acted
pub data Coming : Type 0 where
  Inside : Edge → Coming
  Calling : ℕ → Coming
  Returning : Coming

pub record GoesAlong (p : Program) (u : ℕ) (e : Edge) (below : List (List ℕ)) (x : Mips) (rs : List Ran) : Type 0 where
  pub from : e.from ≡ u
  pub leads : Leads p.code e
  pub kind : (e.kind ≡ Next) ⊎ (e.kind ≡ Taken)
  pub next_pc : x.next_pc ≡ e.to
  pub returns_are : x.returns ≡ points below
  pub facts : Along
  pub refined : refined_along p e ≡ Some facts
  pub fit : Fits facts x.registers
  pub went : (s : Ran) → WentAlong p.code e (s ∷ rs)

pub record GoesInto (p : Program) (u g : ℕ) (i : Instr) (below : List (List ℕ)) (x : Mips) : Type 0 where
  pub is : kind_of i ≡ kind.Call
  pub calls : CallsAt p.code u g
  pub next_pc : x.next_pc ≡ g
  pub returns_are : x.returns ≡ (u + 8) ∷ points below

pub record GoesBack (i : Instr) (below : List (List ℕ)) (x : Mips) : Type 0 where
  pub is : kind_of i ≡ kind.Return
  pub back : x.next_pc ∷ x.returns ≡ points below

abbrev pub GoesOn : Program → ℕ → Instr → Coming → List (List ℕ) → Mips → List Ran → Type 0
GoesOn p u i (Inside e) below x rs = GoesAlong p u e below x rs
GoesOn p u i (Calling g) below x rs = GoesInto p u g i below x
GoesOn p u i Returning below x rs = GoesBack i below x

-- a state stands in the slot of unit u, whose control instruction is i
pub record AtSlot (p : Program) (q : Passed p) (f u : ℕ) (us : List ℕ) (below : List (List ℕ)) (i : Instr) (coming : Coming) (x : Mips) (rs : List Ran) : Type 0 where
  pub pc : x.pc ≡ u + 4
  pub stands : instr_at p.code u ≡ Some i
  pub control : is_control_instr i ≡ true
  pub fit : Fits (after_instr i u (p.before u)) x.registers
  pub counts : Counts p q u us x.registers
  pub under : Below p q f x.registers below
  pub goes : GoesOn p u i coming below x rs

pub record AtEnd (x : Mips) : Type 0 where
  pub pc : x.pc ≡ exit_address
  pub returns_are : x.returns ≡ []

pub data Point : Type 0 where
  First : Point
  InSlot : Instr → Coming → Point
  Done : Point

abbrev pub spot_of : Point → Spot
spot_of First = AtStart
spot_of (InSlot i coming) = BeforeSlot
spot_of Done = AtExit

abbrev pub Stands : (p : Program) → Passed p → ℕ → ℕ → List ℕ → List (List ℕ) → List Edge → Point → Mips → List Ran
    → Type 0
Stands p q f u us below es First x rs = AtFirst p q f u us below es x rs
Stands p q f u us below es (InSlot i coming) x rs = AtSlot p q f u us below i coming x rs
Stands p q f u us below es Done x rs = AtEnd x

-- what was executed is the walk, but for what is later
pub record HasGone (p : Program) (spot : Spot) (u : ℕ) (es : List Edge) (rs : List Ran) : Type 0 where
  pub gone : List Place
  pub places_are : places p.graph None p.entry es ≡ later_of p.graph spot u es ++ gone
  pub goes : Goes p.code rs gone

pub record Follows (p : Program) (q : Passed p) (x : Mips) (rs : List Ran) : Type 0 where
  pub edges : List Edge
  pub function : ℕ
  pub unit : ℕ
  pub units : List ℕ
  pub below : List (List ℕ)
  pub point : Point
  pub registers : AreRegisters x.registers
  pub has_code : HasCode p.code x.memory
  pub walked : Walked p function unit units below edges
  pub stands : Stands p q function unit units below edges point x rs
  pub ran : HasGone p (spot_of point) unit edges rs

-- the activation on top is legal
pub legal_top : (p : Program) (q : Passed p) (v : ℕ) (us : List ℕ) (below : List (List ℕ)) (registers : List ℕ)
    → Counts p q v us registers → IsLegal p.graph.regions ((v ∷ us) ∷ below)
legal_top p q v us below registers counts r k = elim (is_held r v) [
  | inl within ↦ (counts r k within).within
  | inr out ↦ omega (arith, visits_outside r v us out)
]

-- a walk over one more edge
pub walked_along : (p : Program) (f g : ℕ) (e : Edge) (us : List ℕ) (below : List (List ℕ)) (vs : List ℕ) (more : List (List ℕ)) (es : List Edge) (k : EdgeKind)
    → Walked p f e.from us below es
    → IsFunction p.code p.entry g → IsUnitOf p.code g e.to → Reached p.code p.entry e.to → Contains p.graph.edges e
    → e.kind ≡ k
    → Comes k e.from e.to ((e.from ∷ us) ∷ below) → follow k e.to ((e.from ∷ us) ∷ below) ≡ (e.to ∷ vs) ∷ more
    → IsLegal p.graph.regions ((e.to ∷ vs) ∷ more) → Walked p g e.to vs more (e ∷ es)
walked_along p f g e us below vs more es k walked function member reached edge is comes goes legal =
    let opens : open_from (alone p.entry) (e ∷ es) ≡ (e.to ∷ vs) ∷ more = ap (λ k. follow k e.to (open_from (alone p.entry) es)) is ∙ ap (λ o. follow k e.to o) walked.opens ∙ goes in
    let may : Comes k e.from e.to (open_from (alone p.entry) es) = subst (λ o. Comes k e.from e.to o) (sym walked.opens) comes in
    record {
      opens = opens;
      walk = (walked.walk, edge, subst (λ k. Comes k e.from e.to (open_from (alone p.entry) es)) (sym is) may, subst (λ o. IsLegal p.graph.regions o) (sym opens) legal);
      function = function;
      member = member;
      reached = reached;
    }

-- what a register keeps, over another change
pub below_moves : (p : Program) (q : Passed p) (f : ℕ) (registers moved : List ℕ) (below : List (List ℕ))
    → ((r : ℕ) → r < 32 → (p.mask f r ≡ true) ⊎ (slice_index moved r ≡ slice_index registers r))
    → Below p q f registers below → Below p q f moved below
unfolding Below
below_moves p q f registers moved [] kept is = is
below_moves p q f registers moved ([] ∷ rest) kept is = is
below_moves p q f registers moved ((u ∷ us) ∷ rest) kept is =
    let frame = is.2 in (
      is.0,
      is.1,
      record {
        function = frame.function;
        member = frame.member;
        reached = frame.reached;
        calls = frame.calls;
        call = frame.call;
        call_stands = frame.call_stands;
        is_call = frame.is_call;
        slot = frame.slot;
        slot_stands = frame.slot_stands;
        fit = frame.fit;
        counts = frame.counts;
        kept = λ r low. elim (kept r low) [
          | inl masked ↦ inl masked
          | inr same ↦ elim (frame.kept r low) [ inl masked ↦ inl masked | inr saved ↦ inr (same ∙ saved) ]
        ];
      },
      is.3,
    )

-- the calls that wait are a chain
pub chain_of : (p : Program) (q : Passed p) (f : ℕ) (registers : List ℕ) (below : List (List ℕ))
    → Below p q f registers below → Chain p.code p.entry (length below) f
unfolding Below
chain_of p q f registers [] is = subst (λ g. Chain p.code p.entry 0 g) (sym is) Begins
chain_of p q f registers ([] ∷ rest) is = absurd is
chain_of p q f registers ((u ∷ us) ∷ rest) is =
    let frame = is.2 in
    Calls (length rest) is.0 u f (chain_of p q is.0 is.1 rest is.3) frame.member frame.calls

pub depth_of : (p : Program) (q : Passed p) (f : ℕ) (registers : List ℕ) (below : List (List ℕ))
    → Below p q f registers below → length (points below) ≡ length below + 1
unfolding Below points
depth_of p q f registers [] is = refl
depth_of p q f registers ([] ∷ rest) is = absurd is
depth_of p q f registers ((u ∷ us) ∷ rest) is = omega (arith, depth_of p q is.0 is.1 rest is.3)

-- which registers an instruction of a unit of a function leaves
pub moves_of : (p : Program) (f u at : ℕ) (i : Instr) (x : Mips) (word : ℕ) → Masked p → IsFunction p.code p.entry f
    → IsUnitOf p.code f u → is_word_of p.code u at ≡ true → instr_at p.code at ≡ Some i → WentBy x word i
    → (r : ℕ) → r < 32 → (p.mask f r ≡ true) ⊎ (slice_index (step_of x).state.registers r ≡ slice_index x.registers r)
moves_of p f u at i x word masked function member of stands w r low = elim (writes_or (writes_of i) r) [
  | inl is ↦ inl (masked.written f u at i r function member of stands is low)
  | inr other ↦ inr (register_kept x word i r w low other)
]
