-- The times of the newest instruction as equations, one for each stage.
use Rattle.std.proofs.Common.{◌≡◌, ℕ, ◌+◌, max, List, ◌∷◌, refl}
use Rattle.simple_pipe.specs.declared.executed.Executed.{Executed}
use Rattle.simple_pipe.specs.Times.{Times, times_of, redirect_of, loaded_at}

pub record IsNext (e : Executed) (before : Times) (t : Times) (redirected : ℕ) (loaded : ℕ) : Type 0 where
  pub fetch : t.fetch ≡ max before.decode redirected
  pub decode : t.decode ≡ max (t.fetch + 1 + e.fetch_excess) before.read
  pub read : t.read ≡ max (t.decode + 1) before.execute
  pub execute : t.execute ≡ max (max (t.read + 1) before.memory) loaded
  pub memory : t.memory ≡ max (t.execute + 1 + e.execute_excess) before.write
  pub write : t.write ≡ max (t.memory + 1 + e.memory_excess) before.left
  pub left : t.left ≡ t.write + 1

pub times_of-cons : (e : Executed) (older : List Executed) → IsNext e (times_of older) (times_of (e ∷ older)) (redirect_of older) (loaded_at e older (times_of older).write)
unfolding times_of
times_of-cons e older = record { fetch = refl; decode = refl; read = refl; execute = refl; memory = refl; write = refl; left = refl }
