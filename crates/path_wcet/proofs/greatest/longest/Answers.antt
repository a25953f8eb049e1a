use Rattle.std.proofs.Common.{◌≡◌, ap, sym, subst, ◌∙◌, ◌+◌, ℕ, List, min, arith, Option, ◌<◌, length}
use Rattle.std.specs.Prelude.{slice_index}
use Rattle.std.proofs.lemmas.List.Sorted.{All-permutation}
use Rattle.loop_regions.specs.Cycles.{AreIn, IsIn}
use Rattle.loop_regions.specs.declared.ways.Way.{Way}
use Rattle.loop_regions.proofs.FreeWays.{ways_in}
use Rattle.path_wcet.specs.Known.{entry, lap, read}
use Rattle.path_wcet.specs.Paid.{cap}
use Rattle.path_wcet.specs.Settled.{or_zero}
use Rattle.path_wcet.proofs.Exact.{longest_is}
use Rattle.path_wcet.proofs.Nests.{apart_headers, headers_among}
use Rattle.path_wcet.proofs.greatest.longest.Goals as goal

pub table_of-requires-clause-headers : goal.table_of-requires-clause-headers
table_of-requires-clause-headers c = headers_among c.args.g.now c.args.n.now.regions c.requires.nest.nested c.args.n.now.addresses c.requires.nest.numbered.addresses_are

pub table_of-requires-clause-apart : goal.table_of-requires-clause-apart
table_of-requires-clause-apart c = apart_headers c.args.g.now c.args.n.now.regions c.requires.nest.nested

pub find-requires-clause-headers : goal.find-requires-clause-headers
find-requires-clause-headers c = headers_among c.args.g.now c.args.n.now.regions c.requires.nest.nested c.args.n.now.addresses c.requires.nest.numbered.addresses_are

pub find-requires-clause-inside : goal.find-requires-clause-inside
find-requires-clause-inside c =
    subst (λ (l : List Way). AreIn (length c.args.n.now.addresses) l) (sym c.as_slice.ensures.value)
    (All-permutation (IsIn (length c.args.n.now.addresses)) c.args.n.now.ways c.in_ok-ways.ways.items c.in_ok-ways.ensures (ways_in c.args.g.now c.args.n.now.addresses c.args.n.now.regions c.args.n.now.ways c.requires.nest.numbered.ways_are))

pub stops_of-requires-clause-inside : goal.stops_of-requires-clause-inside
stops_of-requires-clause-inside c =
    subst (λ (l : List Way). AreIn (length c.args.n.now.addresses) l) (sym c.as_slice-2.ensures.value)
    (All-permutation (IsIn (length c.args.n.now.addresses)) c.args.n.now.ways c.in_ok-ways.ways.items c.in_ok-ways.ensures (ways_in c.args.g.now c.args.n.now.addresses c.args.n.now.regions c.args.n.now.ways c.requires.nest.numbered.ways_are))

pub returns : goal.returns
returns c =
    let stops : c.or_zero-ahead.result ≡ or_zero (entry 0 c.in_ok-stops.stops.items c.number_of-u.result) = c.or_zero-ahead.ensures ∙ ap or_zero (c.entry_at.ensures.is ∙ ap (λ (l : List (Option ℕ)). entry 0 l c.number_of-u.result) c.as_slice-3.ensures.value) in
    let laps : c.laps.result ≡ lap c.in_ok-table.table c.in_ok-found.found.turns.items c.number_of-u.result = c.laps.ensures.is ∙ ap (λ (l : List ℕ). lap c.in_ok-table.table l c.number_of-u.result) c.as_slice-4.ensures.value in
    let most : c.min.result ≡ min cap (read c.in_ok-table.table.units c.number_of-u.result + lap c.in_ok-table.table c.in_ok-found.found.turns.items c.number_of-u.result + or_zero (entry 0 c.in_ok-stops.stops.items c.number_of-u.result)) =
    omega (arith, c.min.ensures, c.unit.ensures.is, laps, stops) in
    longest_is c.args.g.now c.args.n.now c.args.costs.now c.args.from c.args.to c.in_ok-table.table c.in_ok-found.found.turns.items c.in_ok-found.found.rets.items c.in_ok-stops.stops.items
    c.requires.whole c.requires.calls c.requires.nest c.requires.counted c.requires.small c.in_ok-table.ensures c.in_ok-found.ensures c.in_ok-stops.ensures c.requires.opening c.requires.other c.number_of-u.result
    (subst (λ (l : List ℕ). c.number_of-u.result < length l) c.addresses.ensures c.number_of-u.ensures.inside)
    (ap (λ (l : List ℕ). slice_index l c.number_of-u.result) (sym c.addresses.ensures) ∙ c.number_of-u.ensures.at) c.min.result most
