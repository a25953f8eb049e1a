use Rattle.std.proofs.Common.{◌≡◌, ◌*◌, ◌^◌, ◌%◌, ◌-◌, ap, ◌∙◌, arith, bit_and}
use Rattle.std.proofs.lemmas.Nat.{and_mask}
use Rattle.std.proofs.Math.Pow.{pow-lt}
use Rattle.cache_lru.proofs.powers.remainder.Goals as goal

pub returns : goal.returns
returns c =
    let unwrapped : 1 * 2 ^ c.args.bits % 4294967296 ≡ 2 ^ c.args.bits = omega (arith, pow-lt {i = c.args.bits} {j = 32} c.requires) in
    ap (λ q. bit_and c.args.n (q - 1)) unwrapped ∙ and_mask c.args.n c.args.bits
