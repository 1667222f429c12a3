-- Proper colourings with few colours.
use Rattle.std.proofs.Common.{◌≡◌, ℕ, Bool, ◌≤◌, true, ap, refl, ◌∙◌, sym, subst, arith}
use Rattle.std.specs.Prelude.{if◌then◌else◌}
use Rattle.re_evidence.specs.Colours.{IsColouringOf, IsNamedColouring, IsSolvableGivenFew, colours_of, few_colours, input_kind}
use Rattle.re_given.specs.Given.{SolvableGiven}
use Rattle.re_given.specs.InputExamples.{edge_colouring}
use Rattle.re_given.specs.Inputs.{IsInput}
use Rattle.re_inputs.proofs.NamedProofs.{inputs, named_inputs}
use Rattle.re_inputs.specs.NamedInputs.{edge_colours, fits, input_of, law_input}
use Rattle.re_labels.proofs.Tests.{eqb-apart}
use Rattle.re_labels.specs.declared.sides.Side.{Side}
use Rattle.re_labels.specs.declared.sides.Side.TheVariants.{Active, Passive}
use Rattle.re_problem.specs.NamedProblems.{NamedProblem, unnamed}
use Rattle.re_problem.specs.Problems.{IsProblem, Problem}

-- some number of rounds is enough
some_enough : (problem : NamedProblem) (side : Side) (k : ℕ) → SolvableGiven (unnamed problem) (colours_of side problem (few_colours side problem.active.degree problem.passive.degree)) k
    → IsSolvableGivenFew side (unnamed problem)
some_enough problem Active k solvable = (k, solvable)
some_enough problem Passive k solvable = (k, solvable)

pub few_enough : (problem input : NamedProblem) (side : Side) (colours k : ℕ) → colours ≡ few_colours side problem.active.degree problem.passive.degree → IsColouringOf problem side colours input
    → SolvableGiven (unnamed problem) (unnamed input) k → IsSolvableGivenFew side (unnamed problem)
few_enough problem input side colours k few colouring solvable =
    some_enough problem side k
    (subst (λ (c : ℕ). SolvableGiven (unnamed problem) (colours_of side problem c) k) few (subst (λ (p : Problem). SolvableGiven (unnamed problem) p k) colouring.same solvable))

-- edges have as many colours as are named
edges-named : (a n : ℕ) → 1 ≤ n → edge_colours a n ≡ n
edges-named a n least = ap (λ (b : Bool). if b then a else n) (eqb-apart n 0 (λ e. omega (arith, e, least)))

-- the input problem that is named is the colouring of the side
colours-named : (problem : NamedProblem) (side : Side) (colours : ℕ) → 1 ≤ colours → law_input (input_kind side) (unnamed problem) colours ≡ colours_of side problem colours
colours-named problem Active colours least = refl
colours-named problem Passive colours least = ap (edge_colouring problem.active.degree problem.passive.degree) (edges-named problem.active.degree colours least)

few-least : (side : Side) (a p colours : ℕ) → colours ≡ few_colours side a p → 1 ≤ colours
few-least Active a p colours few = omega (arith, few)
few-least Passive a p colours few = omega (arith, few)

-- the input problem that is made
pub colouring_input : (problem input : NamedProblem) (side : Side) (a p x y z colours : ℕ) → IsProblem (unnamed problem) → a ≡ problem.active.degree → p ≡ problem.passive.degree → x ≡ a
    → y ≡ p → z ≡ colours → colours ≡ few_colours side problem.active.degree problem.passive.degree → fits (input_kind side) x y z ≡ true → input ≡ input_of (input_kind side) a p colours
    → IsColouringOf problem side colours input
colouring_input problem input side a p x y z colours is is_a is_p is_x is_y is_z few fit made =
    let known : fits (input_kind side) problem.active.degree problem.passive.degree colours ≡ true =
    subst (λ n. fits (input_kind side) n problem.passive.degree colours ≡ true) (is_x ∙ is_a)
    (subst (λ n. fits (input_kind side) x n colours ≡ true) (is_y ∙ is_p) (subst (λ n. fits (input_kind side) x y n ≡ true) is_z fit)) in
    let same : input ≡ input_of (input_kind side) problem.active.degree problem.passive.degree colours =
    subst (λ n. input ≡ input_of (input_kind side) n problem.passive.degree colours) is_a (subst (λ n. input ≡ input_of (input_kind side) a n colours) is_p made) in
    record {
      is_input = subst (λ (i : NamedProblem). IsInput (unnamed problem) (unnamed i)) (sym same) (inputs (input_kind side) (unnamed problem) colours is known);
      same = ap unnamed same ∙ named_inputs (input_kind side) (unnamed problem) colours is known
          ∙ colours-named problem side colours (few-least side problem.active.degree problem.passive.degree colours few);
    }

-- what is the named colouring is one
pub named_colouring : (problem input : NamedProblem) (side : Side) → IsProblem (unnamed problem) → IsNamedColouring side problem input
    → IsColouringOf problem side (few_colours side problem.active.degree problem.passive.degree) input
named_colouring problem input side is named =
    colouring_input problem input side problem.active.degree problem.passive.degree problem.active.degree problem.passive.degree (few_colours side problem.active.degree problem.passive.degree)
    (few_colours side problem.active.degree problem.passive.degree) is refl refl refl refl refl refl named.there named.same
