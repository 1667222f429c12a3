use Rattle.std.proofs.Common.{◌↔◌, ◌∷◌, [], sym, subst}
use Rattle.re_labels.specs.Sets.{IsIn}
use Rattle.re_labels.specs.Constraints.{Has}
use Rattle.re_step.proofs.LeftLabels.{met}
use Rattle.re_step.proofs.completing.completing_two.Goals as goal

pub returns-in-Some-clause-completing : goal.returns-in-Some-clause-completing
returns-in-Some-clause-completing c = met (λ x. Has c.args.constraint.now (x ∷ c.args.rest.now)) c.args.labels c.args.among c.in-Some.all c.meet.result c.meet.ensures c.requires.among
    (λ x b. subst (λ r. IsIn x c.in-Some.all ↔ Has c.args.constraint.now (x ∷ r)) (sym c.requires.rest) (c.in-Some.ensures x b))

pub returns-clause-completing : goal.returns-clause-completing
returns-clause-completing c = met (λ x. Has c.args.constraint.now (x ∷ c.args.rest.now)) c.args.labels c.args.among c.all_completing-held.result.labels c.meet-2.result c.meet-2.ensures c.requires.among
    (λ x b. subst (λ r. IsIn x c.all_completing-held.result.labels ↔ Has c.args.constraint.now (x ∷ r)) (sym c.requires.rest) (subst (λ v. IsIn x c.all_completing-held.result.labels ↔ Has c.args.constraint.now (x ∷ c.args.first ∷ v ∷ [])) c.all_completing-held.ensures.second
    (subst (λ v. IsIn x c.all_completing-held.result.labels ↔ Has c.args.constraint.now (x ∷ v ∷ c.all_completing-held.result.second ∷ [])) c.all_completing-held.ensures.first (c.all_completing-held.ensures.right x b))))
