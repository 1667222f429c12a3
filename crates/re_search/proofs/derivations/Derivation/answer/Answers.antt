use Rattle.std.proofs.Common.{◌∙◌, subst}
use Rattle.re_problem.specs.NamedProblems.{unnamed}
use Rattle.re_problem.specs.Problems.{Problem}
use Rattle.re_search.specs.Derivations.{IsFound}
use Rattle.re_search.specs.declared.derivations.Found.{Found}
use Rattle.re_search.specs.declared.derivations.Found.TheVariants.{Derived}
use Rattle.re_search.proofs.derivations.Derivation.answer.Goals as goal

pub returns-in-Ok-clause-derived : goal.returns-in-Ok-clause-derived
returns-in-Ok-clause-derived c =
    let found : IsFound (unnamed c.self.inside.problem) (Derived c.in-Derived.derived) = subst (λ (f : Found). IsFound (unnamed c.self.inside.problem) f) c.in-Derived.is c.self.invariant in
    let held : IsFound c.args.self.now (Derived c.in-Derived.derived) = subst (λ (p : Problem). IsFound p (Derived c.in-Derived.derived)) c.self.view_is found in
    c.in-Ok.ensures ∙ held.1
