use Rattle.persistence.proofs.Charged.{charged_of_lent, not_falling, some_of_pow}
use Rattle.persistence.proofs.charging.charge_lines.Goals as goal

pub free_of-requires-clause-blocks : goal.free_of-requires-clause-blocks
free_of-requires-clause-blocks c = not_falling c.args.g.now.blocks c.blocks-2.result.now c.blocks-2.ensures c.requires.rising.blocks

pub returns : goal.returns
returns c =
    charged_of_lent c.args.g.now c.args.scope.now c.args.shape c.in_ok-addresses.addresses.items c.deref.result.now c.deref-5.result.now c.in_ok-lines.lines.items c.deref-2.result.now c.deref-3.result.now
    c.in_ok-counts.counts.items c.deref-4.result.now c.deref-6.result.now c.in_ok-free.free.items c.blocks-2.result.now c.count_with_room-persistent.result
    c.in_ok-addresses.ensures c.deref.ensures.value c.deref-5.ensures.value c.deref-2.ensures.value c.deref-3.ensures.value c.deref-4.ensures.value c.deref-6.ensures.value
    c.in_ok-lines.ensures c.in_ok-counts.ensures c.count_with_room-persistent.ensures c.blocks-2.ensures c.in_ok-free.ensures (some_of_pow c.args.shape.sets c.requires.shape.set_bits c.requires.shape.sets_are)
