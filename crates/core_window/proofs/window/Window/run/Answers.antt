use Rattle.std.proofs.Common.{◌≡◌, arith, length, take, true, false, ap, sym, ◌∙◌, subst}
use Rattle.std.proofs.lemmas.Grind.{common_steps}
use Rattle.std.proofs.lemmas.Option.{slice_get_within}
use Rattle.core_window.proofs.FoundOutcome.{Searched, are-names, runs, waits}
use Rattle.core_window.proofs.StoresFitting.{stores-fit}
use Rattle.core_window.specs.Core.{Core}
use Rattle.core_window.specs.Search.{outcome_by}
use Rattle.core_window.specs.Overlay.{StoresFit}
use Rattle.core_window.proofs.window.Window.run.Goals as goal

pub search-found-requires-clause-named : goal.search-found-requires-clause-named
search-found-requires-clause-named c = are-names c.args.i c.names_read.result c.requires.fits c.names_read.ensures

pub returns-then-not-is_ready : goal.returns-then-not-is_ready
returns-then-not-is_ready c =
    let searched : Searched c.args.self.now c.args.state.now.mips c.args.k c.args.i c.self.inside.entries.items c.names_read.result c.search-found.result =
    record {
      entries = ap (λ (w : Core). w.entries) c.self.view_is;
      reads = c.names_read.ensures;
      is = c.search-found.ensures.found;
      small = c.search-found.ensures.small;
    } in
    let none : c.is_ready.result ≡ false = grind (arith, common_steps, c.if-not-is_ready.true) in
    waits c.args.self.now c.args.state.now.mips c.args.k c.args.e c.args.i c.self.inside.entries.items c.names_read.result c.search-found.result searched
    (sym c.is_ready.ensures ∙ none)

pub outcome_by-outcome-requires-clause-within : goal.outcome_by-outcome-requires-clause-within
outcome_by-outcome-requires-clause-within c =
    let within = slice_get_within c.args.self.now.entries c.args.k c.args.e c.requires.there in
    omega (arith, within, ap (λ (w : Core). length w.entries) c.self.view_is)

pub outcome_by-outcome-requires-clause-stores : goal.outcome_by-outcome-requires-clause-stores
outcome_by-outcome-requires-clause-stores c =
    subst (λ m. StoresFit m (take c.args.k c.self.inside.entries.items)) (sym c.memory-memory.ensures.value)
    (subst (λ (w : Core). StoresFit c.args.state.now.mips.memory (take c.args.k w.entries)) (sym c.self.view_is)
    (stores-fit c.args.self.now c.args.state.now.mips c.args.k c.requires.stands))

pub returns : goal.returns
returns c =
    let searched : Searched c.args.self.now c.args.state.now.mips c.args.k c.args.i c.self.inside.entries.items c.names_read.result c.search-found.result =
    record {
      entries = ap (λ (w : Core). w.entries) c.self.view_is;
      reads = c.names_read.ensures;
      is = c.search-found.ensures.found;
      small = c.search-found.ensures.small;
    } in
    let all : c.is_ready.result ≡ true = grind (arith, common_steps, c.if-not-is_ready.false) in
    runs c.args.self.now c.args.state.now.mips c.args.k c.args.e c.args.i c.self.inside.entries.items c.names_read.result c.search-found.result
    c.memory-memory.result.now c.outcome_by-outcome.result c.requires.fits searched (sym c.is_ready.ensures ∙ all) c.memory-memory.ensures.value
    (c.outcome_by-outcome.ensures ∙ ap (λ v. outcome_by (take c.args.k c.self.inside.entries.items) c.args.i c.args.e.pc c.args.e.npc v c.memory-memory.result.now) c.values.ensures)
