use Rattle.std.proofs.Common.{sym, subst, List}
use Rattle.std.specs.List.{All, Contains}
use Rattle.std.proofs.lemmas.List.Sorted.{All-permutation}
use Rattle.std.proofs.lemmas.Result.{IfOk-weaker}
use Rattle.visa_io.specs.declared.records.Region.{Region}
use Rattle.path_wcet.specs.Settled.{AreCircuits}
use Rattle.path_wcet.proofs.Rounds.{circuits_are, some_regions}
use Rattle.path_wcet.proofs.turns.circuits_of.Goals as goal

pub circuits_in-requires-clause-among : goal.circuits_in-requires-clause-among
circuits_in-requires-clause-among c =
    subst (λ (l : List Region). All (λ r. Contains c.args.n.now.regions r) l) (sym c.as_slice.ensures.value) (some_regions c.args.n.now.regions c.in_ok-regions.regions.items c.in_ok-regions.ensures)

pub circuits_in-requires-clause-headers : goal.circuits_in-requires-clause-headers
circuits_in-requires-clause-headers c =
    subst (λ (l : List Region). All (λ r. Contains c.args.n.now.addresses r.header) l) (sym c.as_slice.ensures.value)
    (All-permutation (λ (r : Region). Contains c.args.n.now.addresses r.header) c.args.n.now.regions c.in_ok-regions.regions.items c.in_ok-regions.ensures c.requires.headers)

pub returns : goal.returns
returns c =
    IfOk-weaker c.circuits_in.result _ (λ cs. AreCircuits c.args.n.now c.args.n.now.regions cs.items)
    (λ cs are. circuits_are c.args.n.now c.in_ok-regions.regions.items cs.items c.in_ok-regions.ensures (subst (λ (l : List Region). AreCircuits c.args.n.now l cs.items) c.as_slice.ensures.value are)) c.circuits_in.ensures
