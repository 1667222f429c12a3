-- Bounds that go on from a chain of lower steps.
use Rattle.std.specs.Prelude.{◌≡◌, ◌≤◌, ℕ, true, List, ◌++◌, length}
use Rattle.std.specs.List.{AllByRecursion}
use Rattle.re_problem.specs.NamedProblems.{unnamed}
use Rattle.re_cert.specs.Bounds.{Bound, BoundStep, is_bound}
use Rattle.re_cert.specs.declared.certificate.Kind.{Kind}
use Rattle.re_chains.specs.Chains.{IsOverProblems}
use Rattle.re_check.specs.Verdicts.{Means, verdict_of}
use Rattle.re_check.specs.declared.verdict.Verdict.TheVariants.{Accepted}
use Rattle.re_shaping.specs.declared.extending.Extension.{Extension}

-- each step leads to a problem of at most so many labels
abbrev pub AreSmall : ℕ → List BoundStep → Type 0
AreSmall labels steps = AllByRecursion (λ (s : BoundStep). length s.next.names ≤ labels) steps

-- the chain with these steps behind its own, and the kind and the way back of the whole
abbrev pub continued : Bound → Extension → Bound
continued chain extension = record {
  kind = extension.kind;
  back = extension.back;
  first = chain.first;
  steps = chain.steps ++ extension.steps.items;
  renaming = extension.renaming.items;
}

-- a bound of this kind goes on from the chain: its parts make a bound over problems; it has the same first problem and, behind the chain's steps, at most so
-- many more, each to a problem of at most so many labels; it is accepted, and what its verdict says of algorithms holds of the chain's first problem
pub record GoesOn (kind : Kind) (most labels : ℕ) (chain bound : Bound) : Type 0 where
  pub fits : is_bound bound ≡ true
  pub problems : IsOverProblems bound
  pub of_kind : bound.kind ≡ kind
  pub first : bound.first ≡ chain.first
  pub more : List BoundStep
  pub steps : bound.steps ≡ chain.steps ++ more
  pub few : length more ≤ most
  pub small : AreSmall labels more
  pub valid : verdict_of bound ≡ Accepted kind (length bound.steps)
  pub means : Means (Accepted kind (length bound.steps)) (unnamed chain.first)
