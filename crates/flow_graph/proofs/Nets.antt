-- The tables of code, from its lines.
use Rattle.std.proofs.Common.{ℕ, ◌<◌, ◌≡◌, ◌≤◌, ◌⊎◌, inl, inr, sym, ap, subst, ◌∙◌, Option, Some, None, List, Contains, map, length, get_or, arith}
use Rattle.std.specs.List.Sorted.{IsStrictlyIncreasing}
use Rattle.std.proofs.lemmas.Bool.{cases_lt}
use Rattle.std.proofs.lemmas.List.{get_or-map, length-map}
use Rattle.std.proofs.Math.ListN.{get_or-eq_default}
use Rattle.visa_io.specs.declared.records.Code.{Code}
use Rattle.mips_isa.specs.Fits.{FieldsFit}
use Rattle.mips_isa.specs.declared.instr.Instr.{Instr}
use Rattle.flow_graph.specs.Code.{instr_at}
use Rattle.flow_graph.specs.Net.{ArePlaces}
use Rattle.flow_graph.specs.Sites.{AreSites, AreSitesOf, no_site, site_of}
use Rattle.flow_graph.specs.Table.{AreLines, IsLine, IsTable}
use Rattle.flow_graph.specs.declared.places.Places.{Places}
use Rattle.flow_graph.specs.declared.site.Site.{Site}
use Rattle.flow_graph.specs.declared.table.Line.{Line}
use Rattle.flow_graph.specs.declared.table.Table.{Table}

pub table_of : (code : Code) (lines : List Line) (table : Table) → AreLines code lines → table.addresses.items ≡ map (λ line. line.at) lines → table.instrs.items ≡ map (λ line. line.instr) lines → IsTable code table
table_of code lines table l a i = record {
  index = record {
    beside = ap length i ∙ length-map lines (λ (x : Line). x.instr) ∙ sym (length-map lines (λ (x : Line). x.at)) ∙ sym (ap length a);
    rise = subst IsStrictlyIncreasing (sym a) l.rise;
    fits = λ k instr e. fits k instr (cases_lt k (length lines)) e;
  };
  each = λ k below. line k (omega (arith, below, ap length a, length-map lines (λ (x : Line). x.at)));
  all = λ n h. subst (λ (ns : List ℕ). Contains ns n) (sym a) (l.all n h);
}
  where
    instr_of : (k : ℕ) → k < length lines → get_or table.instrs.items k None ≡ (get_or lines k (record { at = 0; instr = None })).instr
    instr_of k below = ap (λ (os : List (Option Instr)). get_or os k None) i ∙ get_or-map (λ (x : Line). x.instr) lines k (record { at = 0; instr = None }) None below

    address_of : (k : ℕ) → k < length lines → get_or table.addresses.items k 0 ≡ (get_or lines k (record { at = 0; instr = None })).at
    address_of k below = ap (λ (ns : List ℕ). get_or ns k 0) a ∙ get_or-map (λ (x : Line). x.at) lines k (record { at = 0; instr = None }) 0 below

    line : (k : ℕ) → k < length lines → IsLine code (record { at = get_or table.addresses.items k 0; instr = get_or table.instrs.items k None })
    line k below = let own : IsLine code (get_or lines k (record { at = 0; instr = None })) = l.each k (record { at = 0; instr = None }) below in
        rw (address_of k below, instr_of k below) own

    none_is_some : {x : Instr} → None ≡ Some x → ⊥
    none_is_some e = cc

    fits : (k : ℕ) (instr : Instr) → (k < length lines) ⊎ (length lines ≤ k) → get_or table.instrs.items k None ≡ Some instr → FieldsFit instr
    fits k instr (inl below) e = (line k below).fits instr e
    fits k instr (inr over) e = absurd (none_is_some (sym (get_or-eq_default table.instrs.items None (omega (arith, over, ap length i, length-map lines (λ (x : Line). x.instr)))) ∙ e))

pub places_of : (code : Code) (table : Table) (places : Places) → IsTable code table → AreSitesOf table (length table.addresses.items) places.sites.items → places.addresses.items ≡ table.addresses.items → places.net.items ≡ map (λ site. site.exits) places.sites.items → ArePlaces code places
places_of code table places t s a n = record {
  rise = subst IsStrictlyIncreasing (sym a) t.index.rise;
  all = λ at h. subst (λ (ns : List ℕ). Contains ns at) (sym a) (t.all at h);
  sites = subst (λ (ns : List ℕ). AreSites code ns places.sites.items) (sym a) sites;
  net = n;
  fits = λ k i e. fits k i (cases_lt k (length table.addresses.items)) e;
}
  where
    sites : AreSites code table.addresses.items places.sites.items
    sites = record {
      beside = s.beside;
      at = λ k below. (s.each k below).0;
      each = λ k below. (s.each k below).1 code t;
    }

    none_is_some : {x : Instr} → None ≡ Some x → ⊥
    none_is_some e = cc

    fits : (k : ℕ) (i : Instr) → (k < length table.addresses.items) ⊎ (length table.addresses.items ≤ k) → (site_of places.sites.items k).first ≡ Some i → FieldsFit i
    fits k i (inl below) e =
        let site = sites.each k below in
        (t.each k below).fits i (sym (t.each k below).instr ∙ ap (instr_at code) (sym (sites.at k below)) ∙ site.first ∙ e)
    fits k i (inr over) e = absurd (none_is_some (sym (ap (λ (x : Site). x.first) (get_or-eq_default places.sites.items no_site (omega (arith, over, s.beside)))) ∙ e))
