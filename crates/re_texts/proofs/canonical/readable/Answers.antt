use Rattle.std.proofs.Common.{◌≡◌, ◌∙◌, ap}
use Rattle.re_texts.proofs.ReadBack.{canonical_law}
use Rattle.re_problem.specs.CanonicalTexts.{canonical}
use Rattle.re_problem.specs.ProblemTexts.{first_fault, lines_of, problem_of}
use Rattle.re_texts.proofs.canonical.readable.Goals as goal

pub returns-clause-right : goal.returns-clause-right
returns-clause-right c =
    let text : c.in_ok-text.text.items ≡ canonical c.args.problem.now = c.in_ok-text.ensures in
    ap (λ items. first_fault 0 1 (lines_of items)) text ∙ (canonical_law c.args.problem.now c.limits.ensures.named c.limits.ensures.within).0 0 1

pub returns-clause-read : goal.returns-clause-read
returns-clause-read c =
    let text : c.in_ok-text.text.items ≡ canonical c.args.problem.now = c.in_ok-text.ensures in
    ap (λ items. problem_of (lines_of items)) text ∙ (canonical_law c.args.problem.now c.limits.ensures.named c.limits.ensures.within).1
