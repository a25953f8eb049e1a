-- Want of memory, which may come in place of any other answer. This project's own.
use Rattle.std.specs.Prelude.{◌≡◌, ◌⊎◌}

-- an answer is the one for want of memory, or one that is wanted
abbrev pub OrMemory : {A : Type 0} → A → (A → Type 0) → A → Type 0
OrMemory memory Wanted answer = (answer ≡ memory) ⊎ Wanted answer
