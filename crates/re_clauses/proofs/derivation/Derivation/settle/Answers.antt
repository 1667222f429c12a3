use Rattle.std.proofs.Common.{◌∙◌, Bool, List, ℕ, subst, sym}
use Rattle.std.proofs.lemmas.Bool.{false≢true}
use Rattle.re_clauses.specs.Clauses.{Satisfies}
use Rattle.re_clauses.specs.Implied.{AreFalse}
use Rattle.re_clauses.proofs.derivation.Derivation.settle.Goals as goal

pub returns-in-Some-clause-clash : goal.returns-in-Some-clause-clash
returns-in-Some-clause-clash c = λ is some.
    let are : Satisfies some.0 c.self.inside.given.now = subst (λ (l : List (List ℕ)). Satisfies some.0 l) (sym c.self.view_is) some.1 in
    let none : AreFalse some.0 c.as_mut_slice.result.now = subst (λ (m : List Bool). AreFalse some.0 m) (sym c.as_mut_slice.ensures.value) (c.self.invariant.1 some.0 are) in
    false≢true (sym (c.follow.ensures.clash is some.0 none) ∙ c.in-Some.ensures some.0 are)
