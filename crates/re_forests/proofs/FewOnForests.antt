-- What few colours solve takes the order of log* N rounds on forests: constantly many colours are found, and made fewer.
use Rattle.std.proofs.Common.{ℕ, suc, ◌+◌, ◌-◌, ◌*◌, ◌≤◌, subst, arith}
use Rattle.std.proofs.Math.Nat.{mul-le-mul_right}
use Rattle.re_forests.specs.OnForests.{SolvableOnForests}
use Rattle.re_forests.proofs.FewerAround.{few, few_apart, few_local}
use Rattle.re_forests.proofs.GivenOnForests.{apart_around, given_on_forests}
use Rattle.re_forests.specs.Colours.{AreApartAround}
use Rattle.re_forests.specs.FromViews.{FewColoursOnForestsLaw}
use Rattle.re_given.specs.Given.{SolvableGiven}
use Rattle.re_given.specs.Unavoidable.{colouring}
use Rattle.re_layers.proofs.FarColours.{far_colours_law}
use Rattle.re_layers.specs.Networks.{IsForest, IsLocal, Network}
use Rattle.re_problem.specs.Problems.{IsProblem, Problem}

more_around : (c d : ℕ) (G : Network) (colour : ℕ → ℕ) → c ≤ d → AreApartAround c G colour → AreApartAround d G colour
more_around c d G colour most coloured = record { below = λ v. let l = coloured.below v in omega arith; apart = coloured.apart }

-- from any C colours
pub few_on_forests : (problem : Problem) (C N r k : ℕ) (colour : Network → ℕ → ℕ) → IsProblem problem → IsLocal r colour →
    ((G : Network) → IsForest problem.active.degree problem.passive.degree N G → AreApartAround C G (colour G)) →
    SolvableGiven problem (colouring problem.active.degree problem.passive.degree (problem.active.degree * (problem.passive.degree - 1) + 1)) k →
    SolvableOnForests problem N (2 * C + r + k + 2)
few_on_forests problem C N r k colour is local coloured solvable =
    given_on_forests problem (B + 1) N (2 * C + r) k (few B C colour) is enough (few_local B C r colour local)
    (λ G forest.
    more_around (suc B) (B + 1) G (few B C colour G) (omega arith)
    (few_apart C colour G forest (more_around C (suc B + C) G (colour G) (omega arith) (coloured G forest))))
    solvable
  where
    B : ℕ
    B = problem.active.degree * (problem.passive.degree - 1)

    enough : problem.passive.degree ≤ B + 1
    enough =
        let active = is.active.least in
        let passive = is.passive.least in
        let more : 2 * (problem.passive.degree - 1) ≤ problem.active.degree * (problem.passive.degree - 1) = mul-le-mul_right (problem.passive.degree - 1) active in
        omega arith

pub few_colours_on_forests : FewColoursOnForestsLaw
few_colours_on_forests = (
  λ a p. 2 * (far_colours_law a p 2).0 + (far_colours_law a p 2).1 + 2,
  λ problem k h N is solvable low.
      (let (colour, local, coloured) = (far_colours_law problem.active.degree problem.passive.degree 2).2 h N low in
      let C : ℕ = (far_colours_law problem.active.degree problem.passive.degree 2).0 in
      let K : ℕ = (far_colours_law problem.active.degree problem.passive.degree 2).1 in
      subst (λ T. SolvableOnForests problem N T) (omega arith)
      (few_on_forests problem C N (2 * h + K) k colour is local (λ G forest. apart_around C G (colour G) forest (coloured G forest)) solvable)),
)
