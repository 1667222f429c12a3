use Rattle.std.proofs.Common.{◌≡◌, ◌∙◌, ◌∷◌, [], ap, subst, true}
use Rattle.std.proofs.lemmas.Result.{IfOk-weaker}
use Rattle.re_greedy.proofs.Searches.{found_of, none_without}
use Rattle.re_greedy.proofs.finding.search_all.Goals as goal
use Rattle.re_greedy.specs.Findings.{IsSearched}
use Rattle.re_problem.specs.NamedProblems.{unnamed}

pub returns-then-not-has_member : goal.returns-then-not-has_member
returns-then-not-has_member c =
    none_without (unnamed c.args.problem.now) c.args.all.now c.degrees-degrees.ensures.problem.problem c.requires
    (λ at. (let held : c.has_member.result ≡ true = c.has_member.ensures.1 at in absurd (cc)))

pub returns : goal.returns
returns c =
    let kept_is : c.as_slice.result.now ≡ [] ∷ [] = c.as_slice.ensures.value ∙ c.in_ok-kept.ensures ∙ ap (λ x. x ∷ []) c.from_labels.ensures in
    IfOk-weaker c.search.result _ _
    (λ answer is. found_of (unnamed c.args.problem.now) c.args.all.now answer c.degrees-degrees.ensures.problem.problem c.requires (subst (λ k. IsSearched (unnamed c.args.problem.now) c.args.all.now k answer) kept_is is))
    c.search.ensures
