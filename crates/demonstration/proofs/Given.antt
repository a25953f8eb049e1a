-- The task of the demonstration is that of some text.
use Rattle.std.proofs.Common.{◌≡◌, Bool, true, ◌&&◌, List, [], ◌∷◌, refl, sym, subst, Some, Result, Ok, Err, IfOk}
use Rattle.std.specs.declared.alloc.AllocError.{AllocError}
use Rattle.std.specs.Prelude.{pos}
use Rattle.text_fields.specs.Numbers.{is_signed_word}
use Rattle.text_fields.proofs.Digits.{and_parts}
use Rattle.task_text.specs.declared.row.Row.{Row}
use Rattle.task_text.specs.declared.row.Row.TheVariants as row
use Rattle.task_text.specs.declared.task.Task.{Task}
use Rattle.task_text.specs.Limits.{KeepsLimits}
use Rattle.task_text.specs.Table.{keyword, is_shape, next_needed, is_strided, in_limits, agrees, agrees_with_all, may_stand}
use Rattle.task_text.specs.Texts.{IsStart, IsGiven, is_ended}
use Rattle.task_text.proofs.KeepsLimits.{keeps_limits}
use Rattle.demonstration.specs.Demonstration.{demo_machine, demo_region, demo_task, demo_words}

-- its lines, the last one first
rows : List Row
rows =
    row.Fact (record { at = 0x00400010; register = 9; lo = pos 268435712; hi = pos 268435712; stride = 1 })
    ∷ row.Fact (record { at = 0x00400010; register = 4; lo = pos 268435460; hi = pos 268435712; stride = 4 })
    ∷ row.Fact (record { at = 0x00400004; register = 9; lo = pos 268435712; hi = pos 268435712; stride = 1 })
    ∷ row.Fact (record { at = 0x00400004; register = 4; lo = pos 268435456; hi = pos 268435708; stride = 4 })
    ∷ row.Fact (record { at = 0x00400000; register = 4; lo = pos 268435456; hi = pos 268435456; stride = 1 })
    ∷ row.Loop demo_region
    ∷ row.Output 16
    ∷ row.Input (record { start = 0x10000000; len = 256 })
    ∷ row.Ram (record { start = 0x10000000; len = 4096 })
    ∷ row.Stack 0x7fff0000
    ∷ row.Entry (Some 0x00400000)
    ∷ row.Words (record { start = 0x00400000; words = demo_words })
    ∷ row.Time (record { period_ps = 2000000; deadline_ps = 1900000 })
    ∷ row.Point 1000
    ∷ row.Point 4000
    ∷ row.Dcache demo_machine.dcache
    ∷ row.Icache demo_machine.icache
    ∷ row.Memory (record { mem_ps = 10000; store_ps = 10000; settle_ps = 100000; start_ps = 0 })
    ∷ row.Core (record { width = 1; rob = 32; mul = 4; div = 16 })
    ∷ row.Order true
    ∷ row.Version
    ∷ []

-- what each line keeps behind those before it, as one test
abbrev is_start : List Row → Bool
is_start [] = true
is_start (r ∷ older) = may_stand older (keyword r) && (in_limits r && (agrees_with_all older r && is_start older))

start_from : (xs : List Row) → is_start xs ≡ true → IsStart xs
start_from [] e = tt
start_from (r ∷ older) e =
    let stands = and_parts (may_stand older (keyword r)) (in_limits r && (agrees_with_all older r && is_start older)) e in
    let keeps = and_parts (in_limits r) (agrees_with_all older r && is_start older) stands.1 in
    let agrees_too = and_parts (agrees_with_all older r) (is_start older) keeps.1 in
    (stands.0, keeps.0, agrees_too.0, start_from older agrees_too.1)

passes : is_start rows ≡ true
unfolding in_limits is_shape is_strided agrees may_stand next_needed is_signed_word rows
passes = refl

ended : is_ended rows ≡ true
unfolding rows
ended = refl

pub given : IsGiven demo_task
unfolding demo_task rows
given = record { rows = rows; whole = (start_from rows passes, ended); task = refl }

pub limits : KeepsLimits demo_task
limits = keeps_limits demo_task given

pub made_given : (r : Result Task AllocError) → IfOk r (λ t. t ≡ demo_task) → IfOk r IsGiven
made_given (Ok t) e = subst IsGiven (sym e) given
made_given (Err x) e = tt

pub made_limited : (r : Result Task AllocError) → IfOk r (λ t. t ≡ demo_task) → IfOk r KeepsLimits
made_limited (Ok t) e = subst KeepsLimits (sym e) limits
made_limited (Err x) e = tt
