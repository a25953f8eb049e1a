-- What is marked from the entry, as the rules speak of it.
use Rattle.std.proofs.Common.{◌≡◌, refl, sym, subst, ◌∙◌, ℕ, Bool, List, Option, Some}
use Rattle.flow_graph.specs.Flow.{Flow}
use Rattle.flow_graph.specs.Reached.{is_inner}
use Rattle.flow_graph.specs.declared.parts.Edge.{Edge}
use Rattle.flow_graph.specs.declared.parts.Unit.{Unit as FlowUnit}
use Rattle.loop_regions.specs.Nested.{IsNest, Numbered}
use Rattle.loop_regions.specs.Ways.{addresses_of}
use Rattle.subtask_cut.specs.Cuts.{IsBypassed}
use Rattle.subtask_cut.specs.Asked.{AreReached, DoesReturn}
use Rattle.subtask_cut.specs.Ways.{is_onward}
use Rattle.subtask_cut.specs.Search.{AreListed, AreMarked, IsOn, SaysWhether}
use Rattle.subtask_cut.proofs.Members.{says_same}

returns_past : (g : Flow) (c : ℕ) (addresses : List ℕ) (marks : List Bool) (b : Bool)
    → AreMarked addresses g.edges is_inner (Some c) g.entry marks → SaysWhether b (DoesReturn g.units addresses marks)
    → SaysWhether b (IsBypassed g c)
returns_past g c addresses marks b m says = says_same b _ _
    (λ r. ((r.0).at, record { unit = r.0; among = r.1; at = refl; returns = r.2 }, (m.are (r.0).at).0 r.3))
    (λ r. (r.1.unit, r.1.among, r.1.returns, subst (IsOn addresses marks) (sym r.1.at) ((m.are r.0).1 r.2))) says

pub says_bypassed : (g : Flow) (c : ℕ) (units : List FlowUnit) (n addresses : List ℕ) (marks slice : List Bool)
    (b : Bool)
    → units ≡ g.units → addresses ≡ n → slice ≡ marks → AreMarked n g.edges is_inner (Some c) g.entry marks
    → SaysWhether b (DoesReturn units addresses slice) → SaysWhether b (IsBypassed g c)
says_bypassed g c units n addresses marks slice b units_are same slice_is m says =
    returns_past g c addresses marks b (subst (λ l. AreMarked l g.edges is_inner (Some c) g.entry marks) (sym same) m)
    (subst (λ l. SaysWhether b (DoesReturn g.units addresses l)) slice_is
    (subst (λ l. SaysWhether b (DoesReturn l addresses slice)) units_are says))

-- the addresses of the nest, as they are read
pub addresses_read : (g : Flow) (n : Numbered) → IsNest g n → (l : List ℕ) → l ≡ n.addresses → l ≡ addresses_of g.units
addresses_read g n nest l is = is ∙ nest.numbered.addresses_are

pub scope_listed : (g : Flow) (next : Option ℕ) (first : ℕ) (n one other : List ℕ) (edges : List Edge)
    (marks slice : List Bool)
    → one ≡ n → other ≡ n → edges ≡ g.edges → slice ≡ marks → AreMarked one edges is_onward next first marks
    → (us : List ℕ) → AreListed other slice us → AreReached g.edges next first us
scope_listed g next first n one other edges marks slice same also edges_are slice_is m us l =
    listed
    (subst (λ a. AreMarked a g.edges is_onward next first marks) (same ∙ sym also)
    (subst (λ e. AreMarked one e is_onward next first marks) edges_are m))
    (subst (λ s. AreListed other s us) slice_is l)
  where
    listed : AreMarked other g.edges is_onward next first marks → AreListed other marks us
        → AreReached g.edges next first us
    listed m l = record {
      are = λ u. (λ h. (m.are u).0 ((l.are u).0 h), λ r. (l.are u).1 ((m.are u).1 r));
      rise =
          l.rise;
    }
