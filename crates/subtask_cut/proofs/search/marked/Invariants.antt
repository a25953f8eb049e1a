use Rattle.subtask_cut.proofs.Listing.{IsListing}
use Rattle.subtask_cut.proofs.search.marked.Given as goal

abbrev pub invariant-loop-u : goal.invariant-loop-u
invariant-loop-u l = IsListing l.addresses l.marks l.u l.us.items
