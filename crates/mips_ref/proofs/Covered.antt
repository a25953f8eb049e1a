-- Up to where a range covers the addresses of a memory.
use Rattle.std.proofs.Common.{◌≡◌, ℕ, ◌+◌, ◌-◌, Bool, true, false, Option, Some, refl, ap, subst, ◌∙◌, arith}
use Rattle.mips_ref.specs.Layout.{CoveredWithin, covered_at}
use Rattle.mips_ref.specs.Memory.{Flat, IsMemory, at_place, place_of, takes_stores}
use Rattle.mips_ref.specs.declared.place.Place.{Place}
use Rattle.mips_ref.proofs.Places.{place_from-next}

at-place : (m : Flat) (a : ℕ) (o : Option Place) (test : Place → Bool) → place_of m a ≡ o → at_place (place_of m a) test ≡ at_place o test
at-place m a o test found = ap (λ p. at_place p test) found

-- an address with a place, and those after it in the same range
covered-one : (write : Bool) (m : Flat) (a : ℕ) (p : Place) → place_of m a ≡ Some p → (write ≡ true → takes_stores p.span ≡ true) → covered_at write m a ≡ true
covered-one true m a p found may = at-place m a (Some p) (λ q. takes_stores q.span) found ∙ may refl
covered-one false m a p found may = at-place m a (Some p) (λ q. true) found

pub covered-range : (write : Bool) (m : Flat) (at : ℕ) (p : Place) → IsMemory m → place_of m at ≡ Some p → (write ≡ true → takes_stores p.span ≡ true)
    → CoveredWithin write m at (p.span.start + p.span.len)
covered-range write m at p kept found may b low high =
    let q : Place = record { span = p.span; index = p.index + (b - at) } in
    let same : at + (b - at) ≡ b = omega arith in
    let there : place_of m (at + (b - at)) ≡ Some q = place_from-next 0 0 m.spans at (b - at) p kept.laid_out found (omega arith) in
    covered-one write m b q (subst (λ a. place_of m a ≡ Some q) same there) may
