-- Input problems: those of which a solution is given.
use Rattle.std.specs.Prelude.{◌≡◌, ℕ, ◌<◌, zero, suc, [], ◌∷◌, length, replicate}
use Rattle.re_problem.specs.NamedProblems.{OccursIn}
use Rattle.re_problem.specs.Problems.{IsProblem, Problem}

-- the problem with its two sides exchanged
abbrev pub exchanged : Problem → Problem
exchanged problem = record { labels = problem.labels; active = problem.passive; passive = problem.active }

-- exchanged k times
abbrev pub exchanged_by : ℕ → Problem → Problem
exchanged_by zero problem = problem
exchanged_by (suc k) problem = exchanged (exchanged_by k problem)

-- an input problem of a problem: one of the same degrees, in which each label occurs on both sides, and some active configuration stands
pub record IsInput (problem input : Problem) : Type 0 where
  pub is_problem : IsProblem input
  pub active_degree : input.active.degree ≡ problem.active.degree
  pub passive_degree : input.passive.degree ≡ problem.passive.degree
  pub some : 0 < length input.active.configs
  pub occurs : (label : ℕ) → label < input.labels → OccursIn input.active label × OccursIn input.passive label

-- the input problem with one label, which says nothing
abbrev pub nothing : Problem → Problem
nothing problem = record {
  labels = 1;
  active = record { degree = problem.active.degree; configs = replicate problem.active.degree 0 ∷ [] };
  passive = record { degree = problem.passive.degree; configs = replicate problem.passive.degree 0 ∷ [] };
}
