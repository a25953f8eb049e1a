-- The buffer of a job's input.
use Rattle.std.proofs.Common.{◌≡◌, ℕ, ◌+◌, true, Option, Some, None, refl}
use Rattle.mips_ref.specs.Memory.{AllDeclared, AllStorable, Flat, at_place, place_of, takes_stores}
use Rattle.mips_ref.specs.declared.place.Place.{Place}

storable_there : (o : Option Place) → at_place o (λ p. takes_stores p.span) ≡ true → at_place o (λ p. true) ≡ true
storable_there None e = e
storable_there (Some p) e = refl

-- addresses that can be stored to are declared
pub declared_buffer : (m : Flat) (at len : ℕ) → AllStorable m at len → AllDeclared m at len
declared_buffer m at len all = λ k below. storable_there (place_of m (at + k)) (all k below)
