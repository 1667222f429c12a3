-- What a table on views solves given a proper colouring is solved on forests where colours are found: each node sees the places around it, coloured.
use Rattle.std.proofs.Common.{ℕ, zero, suc, ◌+◌, ◌≤◌, ◌<◌, not, List, [], ap, subst, arith}
use Rattle.re_forests.specs.OnForests.{SolvableOnForests, SolvesOn}
use Rattle.re_forests.proofs.ColouredPlaces.{colour_side, places_around}
use Rattle.re_forests.proofs.FittingViews.{view_fits}
use Rattle.re_forests.proofs.LocalViews.{coloured_same}
use Rattle.re_forests.proofs.Places.{IsGood, IsPorted-places, colour_of, places, real}
use Rattle.re_forests.proofs.PlacesAround.{active_view, labels_around, passive_view}
use Rattle.re_forests.proofs.SpareColours.{spare}
use Rattle.re_forests.proofs.Views.{view}
use Rattle.re_forests.specs.Colours.{AreApartAround}
use Rattle.re_forests.specs.FromViews.{ColouredOnForestsLaw, GivenOnForestsLaw}
use Rattle.re_given.specs.Given.{KnownEntry, SolvesGiven, answer_known}
use Rattle.re_given.specs.InputViews.{FitsAround, InputView, known}
use Rattle.re_given.specs.Unavoidable.{colouring}
use Rattle.re_layers.proofs.Balls.{ball_before, ball_near}
use Rattle.re_layers.specs.Layers.{IsColoured}
use Rattle.re_layers.specs.Networks.{IsForest, IsLocal, Network}
use Rattle.re_problem.specs.Problems.{IsProblem, Problem}
use Rattle.re_labels.specs.Constraints.{Has}

module _ (problem : Problem) (is : IsProblem problem) (n N r k : ℕ) (colour : Network → ℕ → ℕ) (enough : problem.passive.degree ≤ suc n) (local : IsLocal r colour)
    (coloured : (G : Network) → IsForest problem.active.degree problem.passive.degree N G → AreApartAround (suc n) G (colour G))
    (table : List KnownEntry) (solves : SolvesGiven problem (colouring problem.active.degree problem.passive.degree (suc n)) k table) where
  -- what a node sees
  abbrev seen : ℕ → Network → ℕ → InputView
  seen t G v = view (places problem.active.degree problem.passive.degree (colour_of (spare n) (colour G) G) G) t (real v)

  abbrev algorithm : Network → ℕ → List ℕ
  algorithm G v = answer_known table (known k (seen (suc k) G v))

  decided : IsLocal (r + k + 2) algorithm
  decided G H v same =
      ap (λ x. answer_known table (known k x)) (coloured_same problem.active.degree problem.passive.degree (spare n) r colour local G H (suc k) (r + k + 2) v (omega arith) same)

  solved : (G : Network) → IsForest problem.active.degree problem.passive.degree N G → SolvesOn problem G (algorithm G)
  solved G forest =
      record {
        active = λ v kind full. solves.solves.active (seen (suc k) G v)
            (active_view problem.active.degree problem.passive.degree N (colour_of (spare n) (colour G) G) G forest some_active some_passive (suc k) v kind)
            (subst (λ b. FitsAround (colour_side problem.active.degree problem.passive.degree (suc n) b) (colour_side problem.active.degree problem.passive.degree (suc n) (not b)) [] (seen (suc k) G v)) kind
            (fits (suc k) v));
        passive = λ w kind full.
            subst (Has problem.passive)
            (labels_around problem.active.degree problem.passive.degree N (colour_of (spare n) (colour G) G) G forest some_active some_passive (suc k) (λ x. answer_known table (known k x)) w kind full)
            (solves.solves.passive (seen (suc (suc k)) G w)
            (passive_view problem.active.degree problem.passive.degree N (colour_of (spare n) (colour G) G) G forest some_active some_passive (suc (suc k)) w kind)
            (subst (λ b. FitsAround (colour_side problem.active.degree problem.passive.degree (suc n) b) (colour_side problem.active.degree problem.passive.degree (suc n) (not b)) [] (seen (suc (suc k)) G w)) kind
            (fits (suc (suc k)) w)));
      }
    where
      some_active : 0 < problem.active.degree
      some_active = let two = is.active.least in omega arith

      some_passive : 0 < problem.passive.degree
      some_passive = let two = is.passive.least in omega arith

      fits : (t v : ℕ) → FitsAround (colour_side problem.active.degree problem.passive.degree (suc n) (G.active v)) (colour_side problem.active.degree problem.passive.degree (suc n) (not (G.active v))) [] (seen t G v)
      fits t v =
          view_fits (places problem.active.degree problem.passive.degree (colour_of (spare n) (colour G) G) G) (IsGood problem.active.degree problem.passive.degree G)
          (IsPorted-places problem.active.degree problem.passive.degree N (colour_of (spare n) (colour G) G) G forest some_active some_passive)
          (colour_side problem.active.degree problem.passive.degree (suc n))
          (places_around problem.active.degree problem.passive.degree N n (colour G) G forest some_active enough (coloured G forest)) t (real v) tt

  on_forests : SolvableOnForests problem N (r + k + 2)
  on_forests = (algorithm, decided, solved)

pub given_on_forests : GivenOnForestsLaw
given_on_forests problem zero N r k colour is enough local coloured solvable = let two = is.passive.least in absurd (omega arith)
given_on_forests problem (suc n) N r k colour is enough local coloured (table, solves) = on_forests problem is n N r k colour enough local coloured table solves

-- colours that differ within two hops differ around each passive node
pub apart_around : {a p N : ℕ} (c : ℕ) (G : Network) (colour : ℕ → ℕ) → IsForest a p N G → IsColoured 2 c G colour → AreApartAround c G colour
apart_around c G colour forest coloured = record {
  below = coloured.below;
  apart = λ w u v passive first second other same. coloured.apart u v (ball_before G 1 u w v (forest.both w u first) (ball_near G 0 w v second)) other same;
}

pub coloured_on_forests : ColouredOnForestsLaw
coloured_on_forests problem c N r k colour is enough local coloured solvable =
    given_on_forests problem c N r k colour is enough local (λ G forest. apart_around c G (colour G) forest (coloured G forest)) solvable
