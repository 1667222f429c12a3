use Rattle.std.proofs.Common.{◌≤◌, ap, length, subst, sym, ◌∙◌}
use Rattle.std.proofs.lemmas.Slice.Eq.{bytes_eq-Decides}
use Rattle.re_judging.proofs.SameTexts.{same_texts}
use Rattle.re_problem.specs.CanonicalTexts.{canonical}
use Rattle.re_labels.specs.Constraints.{Constraint}
use Rattle.re_labels.specs.declared.constraint_table.TheConstants.{MAX_CONFIGURATIONS}
use Rattle.re_judging.proofs.same.are_same.Goals as goal

pub returns : goal.returns
returns c =
    let text = c.as_slice.ensures.value ∙ c.in_ok-text.ensures in
    let other_text = c.as_slice-2.ensures.value ∙ c.in_ok-other_text.ensures in
    let decides = bytes_eq-Decides c.as_slice.result.now c.as_slice-2.result.now in (
      (λ same. same_texts c.args.problem.now c.args.other.now c.names-names.ensures.problem c.names-others.ensures.problem (
        subst (λ (x : Constraint). length x.configs ≤ MAX_CONFIGURATIONS) c.active.ensures.active (subst (λ x. x ≤ MAX_CONFIGURATIONS) c.len-active.ensures.len c.len-active.ensures.most),
        subst (λ (x : Constraint). length x.configs ≤ MAX_CONFIGURATIONS) c.passive.ensures.passive (subst (λ x. x ≤ MAX_CONFIGURATIONS) c.len-passive.ensures.len c.len-passive.ensures.most),
      ) (
        subst (λ (x : Constraint). length x.configs ≤ MAX_CONFIGURATIONS) c.active-2.ensures.active (subst (λ x. x ≤ MAX_CONFIGURATIONS) c.len-other_active.ensures.len c.len-other_active.ensures.most),
        subst (λ (x : Constraint). length x.configs ≤ MAX_CONFIGURATIONS) c.passive-2.ensures.passive (subst (λ x. x ≤ MAX_CONFIGURATIONS) c.len-other_passive.ensures.len c.len-other_passive.ensures.most),
      )
          (sym text ∙ decides.0 (sym c.eq.ensures ∙ same) ∙ other_text)),
      λ same. c.eq.ensures ∙ decides.1 (text ∙ ap canonical same ∙ sym other_text),
    )
