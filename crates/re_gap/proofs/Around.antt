-- What stands around the nodes of a solved network all of whose nodes are full, and the paths of labels along its walks.
use Rattle.std.proofs.Common.{◌≡◌, ℕ, zero, suc, ◌<◌, Bool, true, false, List, map, length, refl, sym, ap, ap₂, ◌∙◌, subst}
use Rattle.std.specs.Prelude.{Contains, not, if◌then◌else◌}
use Rattle.re_labels.proofs.Rearranging.{Contains-Rearranged, Rearranged-map}
use Rattle.re_labels.proofs.Sorting.{Rearranged-sorted}
use Rattle.re_labels.specs.Configs.{IsConfig, sorted}
use Rattle.re_labels.specs.Rearranging.{chained, kept}
use Rattle.re_forests.proofs.EdgeLabels.{label_on, label_turned, picked}
use Rattle.re_forests.proofs.Ports.{Has-Rearranged, at_ports}
use Rattle.re_laws.proofs.Mapping.{count_of as length-Has}
use Rattle.re_forests.proofs.TreeWalks.{Walk}
use Rattle.re_forests.specs.Flexible.{side}
use Rattle.re_forests.specs.OnForests.{SolvesOn, label_towards}
use Rattle.re_gap.proofs.Closed.{JoinsBy, LeadsBy}
use Rattle.re_gap.proofs.Trees.{IsTree}
use Rattle.re_labels.proofs.Membership.{Contains-map_cases}
use Rattle.re_labels.proofs.Membership.{AllByRecursion-contains, AllByRecursion-from_contains, Contains-map}
use Rattle.re_layers.specs.Networks.{Network}
use Rattle.re_problem.specs.Problems.{IsProblem, Problem}
use Rattle.re_labels.specs.Constraints.{Has, IsConstraint}

module _ (problem : Problem) (is : IsProblem problem) (G : Network) (labels : ℕ → List ℕ)
    (tree : IsTree problem.active.degree problem.passive.degree G)
    (full : (v : ℕ) → length (G.near v) ≡ (if G.active v then problem.active.degree else problem.passive.degree))
    (solves : SolvesOn problem G labels) where
  Has_around : (v : ℕ) → Has (side problem (G.active v)) (map (λ w. label_on G labels v w) (G.near v))
  Has_around v = by (G.active v) refl
    where
      by : (b : Bool) → G.active v ≡ b → Has (side problem b) (map (λ w. label_on G labels v w) (G.near v))
      by true e =
          let count : length (G.near v) ≡ problem.active.degree = full v
          ∙ ap (λ b. if b then problem.active.degree else problem.passive.degree) e in
          let has : Has problem.active (labels v) = solves.active v e count in
          let all : map (λ w. label_towards G labels w v) (G.near v) ≡ labels v =
          at_ports (G.near v) (labels v) (tree.differ v)
          (length-Has problem.labels problem.active (labels v) is.active has ∙ sym count) in
          subst (λ b. Has problem.active (map (λ w. if b then label_towards G labels w v else label_towards G labels v w) (G.near v)))
          (sym e)
          (subst (λ l. Has problem.active l) (sym all) has)
      by false e =
          let count : length (G.near v) ≡ problem.passive.degree = full v
          ∙ ap (λ b. if b then problem.active.degree else problem.passive.degree) e in
          subst (λ b. Has problem.passive (map (λ w. if b then label_towards G labels w v else label_towards G labels v w) (G.near v)))
          (sym e) (solves.passive v e count)

  side_is : (b : Bool) → IsConstraint problem.labels (side problem b)
  side_is true = is.active
  side_is false = is.passive

  pub label_low : (v w : ℕ) → Contains (G.near v) w → label_on G labels v w < problem.labels
  label_low v w on =
      let all : List ℕ = map (λ w. label_on G labels v w) (G.near v) in
      let good : IsConfig (side problem (G.active v)).degree problem.labels (sorted all) =
      AllByRecursion-contains (IsConfig (side problem (G.active v)).degree problem.labels) (side problem (G.active v)).configs
      (sorted all)
      (side_is (G.active v)).configs (Has_around v) in
      AllByRecursion-contains (λ y. y < problem.labels) (sorted all) (label_on G labels v w) good.below
      (Contains-Rearranged (label_on G labels v w) (Rearranged-sorted all) (Contains-map (λ w. label_on G labels v w) (G.near v) w on))

  module _ (Q : ℕ → Type 0) (each : (v w : ℕ) → Contains (G.near v) w → Q (label_on G labels v w)) where
    joins_at : (v u w : ℕ) → Contains (G.near v) u → Contains (G.near v) w → (w ≡ u → ⊥)
        → JoinsBy (side problem (G.active v)) Q (label_on G labels v u) (label_on G labels v w)
    joins_at v u w first second ne =
        let f : ℕ → ℕ = λ z. label_on G labels v z in
        let (rest, moved, of, to) = picked (G.near v) u first in
        let (last, moved', of', to') = picked rest w (to w second ne) in (
          map f last,
          AllByRecursion-from_contains Q (map f last)
              (λ y held. (let (x, at, e) = Contains-map_cases f last y held in subst Q e (each v x (of x (of' x at))))),
          Has-Rearranged (side problem (G.active v)) (Rearranged-map f (chained moved (kept moved'))) (Has_around v),
        )

    pub leads_along : (n u v x y : ℕ) → Contains (G.near v) u → Walk G n u v x y
        → LeadsBy problem Q (G.active v) n (label_on G labels v u) (label_on G labels y x)
    leads_along zero u v x y held walk = ap₂ (λ v u. label_on G labels v u) walk.1 walk.0
    leads_along (suc n) u v x y held walk =
        let (w, at, ne, rest) = walk in
        let kinds : G.active w ≡ not (G.active v) = tree.turns v w at in
        let next : LeadsBy problem Q (G.active w) n (label_on G labels w v) (label_on G labels y x) = leads_along n v w x y
        (tree.both v w at) rest in (
          label_on G labels v w,
          each v w at,
          joins_at v u w held at ne,
          subst (λ b. LeadsBy problem Q b n (label_on G labels v w) (label_on G labels y x)) kinds
              (subst (λ z. LeadsBy problem Q (G.active w) n z (label_on G labels y x)) (sym (label_turned G labels v w kinds)) next),
        )
