use Rattle.std.proofs.Common.{◌≡◌, ◌∷◌, ◌∙◌, ap}
use Rattle.simple_pipe.specs.Simple.{caches_of, executed_of, fetch_cost, load_hit, loads}
use Rattle.simple_pipe.proofs.After.{as_listed}
use Rattle.simple_pipe.proofs.parts.Parts.enter.Goals as goal

pub returns : goal.returns
returns c = λ i d rs a.
    let p = c.args.pace in
    let r = c.args.ran in
    let fetched : c.fetch-fetch_excess.result ≡ fetch_cost p (caches_of i d) r rs =
    c.fetch-fetch_excess.ensures.cost d rs a.fetched ∙ ap (λ s. fetch_cost p (caches_of s d) r rs) a.icache_is in
    let hit : c.load-hit.result ≡ load_hit (caches_of i d) r.load (loads (r ∷ rs)) =
    c.load-hit.ensures.hit i (loads rs) a.loaded ∙ ap (λ s. load_hit (caches_of i s) r.load (loads (r ∷ rs))) a.dcache_is in
    record {
      icache_is = c.fetch-fetch_excess.ensures.shape ∙ a.icache_is;
      dcache_is = c.load-hit.ensures.shape ∙ a.dcache_is;
      fetched = c.fetch-fetch_excess.ensures.stands rs a.fetched;
      loaded = c.load-hit.ensures.stands (loads rs) a.loaded;
      stages =
          as_listed p (caches_of i d) r rs c.as_executed.result c.enter.new.self (c.as_executed.ensures.is (caches_of i d) rs fetched hit)
          (c.enter.ensures (executed_of p (caches_of i d) rs) a.stages);
    }
