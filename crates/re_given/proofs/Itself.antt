-- What is given is solved.
use Rattle.std.proofs.Common.{◌≡◌, ℕ, suc, ◌<◌, inl, inr, List, [], ◌∷◌, length, subst, refl, sym, ◌∙◌, arith}
use Rattle.std.specs.Prelude.{Contains, ◌⊎◌}
use Rattle.std.specs.List.{AllByRecursion}
use Rattle.std.proofs.lemmas.List.{length-map}
use Rattle.re_labels.specs.Rows.{IsChoice, singles}
use Rattle.re_given.proofs.FastGiven.{IsInput-exchanged}
use Rattle.re_given.proofs.SlowGiven.{SolvableGiven-upper, SolvableGiven-zero}
use Rattle.re_given.proofs.ZeroGiven.{config-Has}
use Rattle.re_laws.proofs.Mapping.{count_of}
use Rattle.re_labels.proofs.Closure.{Choice-singles}
use Rattle.re_given.specs.Given.{SolvableGiven, ZeroGiven}
use Rattle.re_given.specs.Inputs.{IsInput, exchanged}
use Rattle.re_labels.proofs.Membership.{Contains-cases, Contains-none}
use Rattle.re_problem.specs.Problems.{IsProblem, Problem}
use Rattle.re_problem.specs.Steps.{IsUpper}
use Rattle.re_labels.specs.Constraints.{Has}

-- the only choice of one label each from sets of one label
pub only_choice : (config labels : List ℕ) → IsChoice labels (singles config) → labels ≡ config
only_choice [] [] h = refl
only_choice [] (x ∷ labels) h = absurd h
only_choice (y ∷ config) [] h = absurd h
only_choice (y ∷ config) (x ∷ labels) h = same (Contains-cases x y [] h.0) (only_choice config labels h.1)
  where
    same : (x ≡ y) ⊎ Contains [] x → labels ≡ config → x ∷ labels ≡ y ∷ config
    same (inl e) rest = cc
    same (inr none) rest = absurd (Contains-none x none)

filled_singles : (config : List ℕ) → AllByRecursion (λ (s : List ℕ). 0 < length s) (singles config)
filled_singles [] = tt
filled_singles (x ∷ config) = (omega arith, filled_singles config)

-- an upper step from a problem to itself with its sides exchanged, by the sets of one label
pub IsUpper-itself : (problem : Problem) → IsProblem problem → IsUpper problem (exchanged problem) (λ x. x ∷ [])
IsUpper-itself problem is = record {
  active_degree = refl;
  passive_degree = refl;
  good = λ config held.
      let has : Has problem.passive config = config-Has problem.labels problem.passive config is.passive held in
      record {
        count = length-map config (λ x. x ∷ []) ∙ count_of problem.labels problem.passive config is.passive has;
        filled = filled_singles config;
        choice = λ labels chosen. subst (Has problem.passive) (sym (only_choice config labels chosen)) has;
      };
  choice = λ config held. (config, Choice-singles config, config-Has problem.labels problem.active config is.active held);
}

pub ZeroGiven-itself : (input : Problem) → IsInput input input → ZeroGiven input input
ZeroGiven-itself input is = (λ x. x ∷ [], IsUpper-itself input is.is_problem)

pub SolvableGiven-itself : (input : Problem) → IsInput input input → SolvableGiven input input 0
SolvableGiven-itself input is = SolvableGiven-zero input input is (ZeroGiven-itself input is)

-- what is solvable given an input problem takes one round more with the sides of both exchanged
pub SolvableGiven-exchanged : (problem input : Problem) (T : ℕ) → IsProblem problem → IsInput problem input → SolvableGiven problem input T → SolvableGiven (exchanged problem) (exchanged input) (suc T)
SolvableGiven-exchanged problem input T is is_input h =
    let turned : IsProblem (exchanged problem) = record { active = is.passive; passive = is.active } in
    SolvableGiven-upper (exchanged problem) problem (exchanged input) (λ x. x ∷ []) T (IsInput-exchanged problem (exchanged problem) input is_input refl refl) (IsUpper-itself (exchanged problem) turned) h
