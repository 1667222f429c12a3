use Rattle.std.proofs.Common.{◌≡◌, arith, inl, inr, subst}
use Rattle.re_labels.proofs.Tests.{below-cases}
use Rattle.re_laws.specs.Algorithms.{Solvable}
use Rattle.re_problem.specs.NamedProblems.{unnamed}
use Rattle.re_given_words.proofs.looking.look_on.Goals as goal

pub returns-in-Enough : goal.returns-in-Enough
returns-in-Enough c = (
  omega arith,
  c.requires.most,
  c.in_ok-find_rows.ensures.enough c.in-Enough.is,
  λ T low high solvable.
      let one : T ≡ 1 = omega (arith, low, high) in
      c.requires.few (subst (Solvable (unnamed c.args.problem.now)) one solvable),
)

pub look_further-requires-clause-few : goal.look_further-requires-clause-few
look_further-requires-clause-few c = λ T low high solvable. elim (below-cases T 2 (omega (arith, high))) [
  | inl less ↦ c.requires.few (let one : T ≡ 1 = omega (arith, low, less) in subst (Solvable (unnamed c.args.problem.now)) one solvable)
  | inr two ↦ c.in_ok-find_rows.ensures.few c.in-TooFew.is (subst (Solvable (unnamed c.args.problem.now)) two solvable)
]

pub look_further-requires-in-Untold-clause-few : goal.look_further-requires-in-Untold-clause-few
look_further-requires-in-Untold-clause-few c = λ T low high solvable. c.requires.few (let one : T ≡ 1 = omega (arith, low, high) in subst (Solvable (unnamed c.args.problem.now)) one solvable)
