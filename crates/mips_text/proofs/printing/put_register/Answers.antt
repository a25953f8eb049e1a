use Rattle.std.proofs.Common.{◌∙◌, ap, ◌∷◌, []}
use Rattle.std.specs.Prelude.{decimal}
use Rattle.mips_text.specs.Room.{joined}
use Rattle.mips_text.proofs.Rooms.{joined-joined}
use Rattle.mips_text.proofs.printing.put_register.Goals as goal

pub returns : goal.returns
returns c = c.put_decimal.ensures ∙ ap (λ n. joined c.push.new.self (decimal n)) c.from.ensures ∙ ap (λ q. joined q (decimal c.args.n)) c.push.ensures ∙ joined-joined c.args.text.now (36 ∷ []) (decimal c.args.n)
