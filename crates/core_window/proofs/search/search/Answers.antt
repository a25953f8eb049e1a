use Rattle.std.proofs.Common.{arith}
use Rattle.core_window.proofs.Searched.{Past, one_more, small_more}
use Rattle.core_window.proofs.search.search.Goals as goal

pub loop-j-preserved : goal.loop-j-preserved
loop-j-preserved c =
    let past : Past c.loop-j.found c.past-found.result c.args.names c.index.result.now =
    record {
      first = c.past-found.ensures.first;
      second = c.past-found.ensures.second;
      third = c.past-found.ensures.third;
      stores = c.past-found.ensures.stores;
    } in
    record {
      found = one_more c.args.entries.now.items c.loop-j.j c.index.result.now c.args.state.now.mips c.args.names c.loop-j.found c.past-found.result
          (omega (arith, c.loop-j-test.true, c.requires.within)) c.index.ensures c.loop-j.invariant.found past;
      small = small_more c.index.result.now c.args.names c.loop-j.found c.past-found.result c.loop-j.invariant.small past;
    }
