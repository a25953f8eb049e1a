use Rattle.std.proofs.Common.{rules, ◌≡◌, sym, subst, List, ℕ, ◌++◌, take, drop, length}
use Rattle.std.specs.List.{All, Contains}
use Rattle.visa_io.specs.declared.records.Region.{Region}
use Rattle.path_wcet.specs.Paths.{AreCounts}
use Rattle.path_wcet.specs.Tables.{ArePut}
use Rattle.path_wcet.proofs.Orders.{whole_back}
use Rattle.path_wcet.proofs.greatest.counts_of.Goals as goal

pub put_counts-requires-clause-headers : goal.put_counts-requires-clause-headers
put_counts-requires-clause-headers c =
    subst (λ (rs : List Region). All (λ r. Contains c.addresses-2.result.now r.header) rs) (sym c.regions.ensures)
    (subst (λ (a : List ℕ). All (λ r. Contains a r.header) c.args.n.now.regions) (sym c.addresses-2.ensures) c.requires.headers)

pub returns : goal.returns
returns c =
    let back : take c.in_ok-counts.counts.len (c.put_counts.new.counts ++ drop (length c.put_counts.new.counts) c.in_ok-counts.counts.items) ≡ c.put_counts.new.counts = whole_back c.put_counts.new.counts _ c.in_ok-counts.counts.len (search rules) in
    subst (λ (l : List ℕ). AreCounts c.args.n.now l) (sym back)
    (subst (λ (rs : List Region). ArePut c.args.n.now.addresses rs c.put_counts.new.counts) c.regions.ensures (subst (λ (a : List ℕ). ArePut a c.regions.result.now c.put_counts.new.counts) c.addresses-2.ensures c.put_counts.ensures.counts))
