use Rattle.re_frame.specs.Outcomes.{refused}
use Rattle.re_explore.proofs.evidence.evidence_of.Goals as goal
use Rattle.re_explore.specs.Evidence.{IsUnjudged}
use Rattle.std.proofs.Common.{ap, inr, subst, ◌∙◌}

pub returns-in_ok-begun : goal.returns-in_ok-begun
returns-in_ok-begun c =
    let text = c.as_slice.ensures.value ∙ c.in_ok-text.ensures in
    let unjudged = c.in_ok-is_evidence.ensures.none c.if-branch.false in
    inr (record {
      levels = c.flexibility_of-levels.result;
      decided = c.flexibility_of-levels.ensures;
      nothing = inr (c.refused.ensures ∙ ap refused c.in_ok-begun.ensures, subst (IsUnjudged c.args.problem.now) text unjudged);
    })
