-- The three built-in predictors. They are this project's own: a static prediction, a table of two-bit counters, and such a table
-- whose index mixes the address with the last outcomes.
use Rattle.std.specs.Prelude.{ℕ, ◌+◌, ◌-◌, ◌*◌, ◌/◌, ◌%◌, min, Bool, true, false, nat_le, ◌==◌, List, [], ◌∷◌, replicate, slice_index, slice_set, bit_xor, if◌then◌else◌}
use Rattle.mips_isa.specs.declared.instr.Instr.{Instr}
use Rattle.mips_isa.specs.declared.instr.Instr.TheVariants.{Branch2, Branch1, Jr, Jalr}
use Rattle.mips_isa.specs.declared.instr.Kind.{Kind}
use Rattle.mips_isa.specs.declared.instr.Kind.TheVariants.{Branch}
use Rattle.mips_isa.specs.Kinds.{kind_of}
use Rattle.mips_isa.specs.Prediction.{predicted_taken_of}
use Rattle.mips_isa.specs.Words.{branch_target, word_sum}
use Rattle.predictors.specs.declared.builtin.Builtin.{Builtin}
use Rattle.predictors.specs.declared.builtin.Builtin.TheVariants.{Static, Bimodal, Gshare}
use Rattle.predictors.specs.declared.builtin.PredictorKind.{PredictorKind}
use Rattle.predictors.specs.declared.builtin.PredictorKind.TheVariants as kind
use Rattle.predictors.specs.declared.table.Table.{Table}

-- the table at first: each counter is 1, no jump and no outcome was learnt
abbrev pub first_table : Table
first_table = record { counters = replicate 256 1; last = 0; outcomes = 0 }

-- a predictor of a kind at first
unfoldable pub made_of : PredictorKind → Builtin
made_of kind.Static = Static
made_of kind.Bimodal = Bimodal first_table
made_of kind.Gshare = Gshare first_table

-- the places of the counters for an instruction at `pc`
abbrev pub bimodal_place : ℕ → ℕ
bimodal_place pc = pc / 4 % 256

abbrev pub gshare_place : ℕ → ℕ → ℕ
gshare_place outcomes pc = bit_xor (pc / 4) outcomes % 256

-- a counter of at least 2 says that a branch is taken
abbrev pub says_taken : Table → ℕ → Bool
says_taken t place = nat_le 2 (slice_index t.counters place)

-- whether a branch at `pc` is predicted to be taken
abbrev pub taken_by : Builtin → ℕ → Instr → Bool
taken_by Static pc i = predicted_taken_of i
taken_by (Bimodal t) pc i = says_taken t (bimodal_place pc)
taken_by (Gshare t) pc i = says_taken t (gshare_place t.outcomes pc)

-- where a jump to a register is predicted to go: on, or where the last one that was learnt went
abbrev pub jump_by : Builtin → ℕ → ℕ
jump_by Static npc = word_sum npc 4
jump_by (Bimodal t) npc = t.last
jump_by (Gshare t) npc = t.last

abbrev pub is_branch_kind : Kind → Bool
is_branch_kind Branch = true
is_branch_kind other = false

-- a conditional branch
abbrev pub is_branch : Instr → Bool
is_branch i = is_branch_kind (kind_of i)

-- a jump to a register
abbrev pub is_register_jump : Instr → Bool
is_register_jump (Jr rs) = true
is_register_jump (Jalr rs rd) = true
is_register_jump other = false

-- where a branch at `pc` goes if it is taken
abbrev pub target_of : Instr → ℕ → ℕ
target_of (Branch2 m rs rt off) pc = branch_target pc off
target_of (Branch1 m rs off) pc = branch_target pc off
target_of other pc = 0

-- What an instruction at `pc`, before the one at `npc`, is guessed to go on with behind it: a branch with its target where it is
-- predicted to be taken, a jump to a register as above, and everything else straight on.
unfoldable pub builtin_guess : Builtin → ℕ → ℕ → Instr → ℕ
builtin_guess p pc npc i =
    if is_branch i then (if taken_by p pc i then target_of i pc else word_sum npc 4)
    else (if is_register_jump i then jump_by p npc else word_sum npc 4)

-- a counter of 0 to 3 after an outcome
abbrev pub counted : Bool → ℕ → ℕ
counted taken n = if taken then min (n + 1) 3 else n - 1

abbrev pub counters_after : Bool → ℕ → List ℕ → List ℕ
counters_after taken place counters = slice_set counters place (counted taken (slice_index counters place))

-- the last eight outcomes, the newest in the lowest bit
abbrev pub outcomes_after : Bool → ℕ → ℕ
outcomes_after taken outcomes = (2 * outcomes + (if taken then 1 else 0)) % 256

-- a predictor after a branch at `pc`
abbrev pub after_branch : Builtin → ℕ → Bool → Builtin
after_branch Static pc taken = Static
after_branch (Bimodal t) pc taken = Bimodal (record t { counters = counters_after taken (bimodal_place pc) t.counters })
after_branch (Gshare t) pc taken =
    Gshare (record t { counters = counters_after taken (gshare_place t.outcomes pc) t.counters; outcomes = outcomes_after taken t.outcomes })

-- a predictor after a jump to a register, which went to `next`
abbrev pub after_jump : Builtin → ℕ → Builtin
after_jump Static next = Static
after_jump (Bimodal t) next = Bimodal (record t { last = next })
after_jump (Gshare t) next = Gshare (record t { last = next })

-- a predictor after an instruction at `pc`, which was `taken` or not and went on with `next`
unfoldable pub builtin_after : Builtin → ℕ → Instr → Bool → ℕ → Builtin
builtin_after p pc i taken next =
    if is_branch i then after_branch p pc taken else (if is_register_jump i then after_jump p next else p)

-- a predictor as a list of numbers: its kind, and what its table holds
abbrev pub table_numbers : Table → List ℕ
table_numbers t = t.last ∷ t.outcomes ∷ t.counters

abbrev pub numbers_of : Builtin → List ℕ
numbers_of Static = 0 ∷ []
numbers_of (Bimodal t) = 1 ∷ table_numbers t
numbers_of (Gshare t) = 2 ∷ table_numbers t

-- the predictor that is given by such a list
abbrev pub builtin_at : ℕ → Table → Builtin
builtin_at number t = if number == 1 then Bimodal t else Gshare t

abbrev pub builtin_of : List ℕ → Builtin
builtin_of (number ∷ last ∷ outcomes ∷ counters) = builtin_at number (record { counters = counters; last = last; outcomes = outcomes })
builtin_of other = Static

-- the same over numbers alone
unfoldable pub guess_by_numbers : List ℕ → ℕ → ℕ → Instr → ℕ
guess_by_numbers numbers pc npc i = builtin_guess (builtin_of numbers) pc npc i

unfoldable pub numbers_after : List ℕ → ℕ → Instr → Bool → ℕ → List ℕ
numbers_after numbers pc i taken next = numbers_of (builtin_after (builtin_of numbers) pc i taken next)
