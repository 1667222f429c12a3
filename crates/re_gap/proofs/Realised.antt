-- The labels that an algorithm puts on edges of coloured trees without leaves.
use Rattle.std.proofs.Common.{◌≡◌, ℕ, Bool, true, false, List, length, ap, ap₂, ◌∙◌}
use Rattle.std.specs.Prelude.{Contains, not, if◌then◌else◌}
use Rattle.re_forests.proofs.EdgeLabels.{label_on, label_turned}
use Rattle.re_gap.proofs.Coloured.{far, put, run}
use Rattle.re_gap.proofs.Members.{at_port}
use Rattle.re_gap.proofs.Trees.{IsTree}
use Rattle.re_layers.specs.Layers.{IsColoured}
use Rattle.re_layers.specs.Networks.{Network}
use Rattle.re_problem.specs.Problems.{Problem}

-- a tree all of whose nodes have as many neighbours as their side has ports, coloured
pub record IsRegular (problem : Problem) (N T : ℕ) (G : Network) (colour : ℕ → ℕ) : Type 0 where
  pub tree : IsTree problem.active.degree problem.passive.degree G
  pub full : (v : ℕ) → length (G.near v) ≡ (if G.active v then problem.active.degree else problem.passive.degree)
  pub coloured : IsColoured (far T) N G colour

-- x stands on the edge between two nodes, of which the second is of this kind
pub record IsOn (problem : Problem) (N T : ℕ) (algorithm : Network → ℕ → List ℕ) (active : Bool) (x : ℕ) : Type 0 where
  pub G : Network
  pub colour : ℕ → ℕ
  pub regular : IsRegular problem N T G colour
  pub from : ℕ
  pub to : ℕ
  pub edge : Contains (G.near from) to
  pub kind : G.active to ≡ active
  pub label : label_on G (run N T algorithm G colour) to from ≡ x

module _ (problem : Problem) (N T : ℕ) (algorithm : Network → ℕ → List ℕ) where
  -- each edge has a second node of either kind
  pub turned : (active : Bool) (x : ℕ) → IsOn problem N T algorithm active x → IsOn problem N T algorithm (not active) x
  turned active x is = record {
    G = is.G;
    colour = is.colour;
    regular = is.regular;
    from = is.to;
    to = is.from;
    edge = is.regular.tree.both is.from is.to is.edge;
    kind = is.regular.tree.turns is.to is.from (is.regular.tree.both is.from is.to is.edge) ∙ ap not is.kind;
    label = label_turned is.G (run N T algorithm is.G is.colour) is.from is.to (is.regular.tree.turns is.from is.to is.edge) ∙ is.label;
  }

  pub of_kind : (active : Bool) (x : ℕ) → IsOn problem N T algorithm true x → IsOn problem N T algorithm active x
  of_kind true x is = is
  of_kind false x is = turned true x is

  pub as_active : (active : Bool) (x : ℕ) → IsOn problem N T algorithm active x → IsOn problem N T algorithm true x
  as_active true x is = is
  as_active false x is = turned false x is

  -- the label is what the active end puts there
  pub label_put : (G : Network) (colour : ℕ → ℕ) → IsRegular problem N T G colour → (v w : ℕ) → Contains (G.near v) w
      → label_on G (run N T algorithm G colour) v w ≡
      (if G.active v then put N T algorithm G colour v w else put N T algorithm G colour w v)
  label_put G colour regular v w on =
      ap₂ (λ x y. if G.active v then x else y)
      (at_port (put N T algorithm G colour v) (G.near v) w (regular.tree.differ v) on)
      (at_port (put N T algorithm G colour w) (G.near w) v (regular.tree.differ w) (regular.tree.both v w on))
