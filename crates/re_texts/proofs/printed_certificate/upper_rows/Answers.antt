use Rattle.std.proofs.Common.{◌≡◌, [], false, refl, subst}
use Rattle.std.proofs.lemmas.Bool.{true≢false}
use Rattle.re_problem.specs.NamedProblems.{NamedProblem}
use Rattle.re_cert.specs.Bounds.{BoundStep, step_with}
use Rattle.re_cert.specs.declared.certificate.StepParts.{StepParts}
use Rattle.re_cert.specs.declared.certificate.StepParts.TheVariants as parts
use Rattle.re_texts.proofs.printed_certificate.upper_rows.Goals as goal

no_rows : (next : NamedProblem) (held : StepParts) → (step_with next held).lower ≡ false → (step_with next held).rows ≡ []
no_rows next (parts.Lower rows map) e = absurd (true≢false e)
no_rows next (parts.Upper entries) e = refl

pub returns : goal.returns
returns c = subst (λ (s : BoundStep). s.lower ≡ false → s.rows ≡ []) c.step.view_is (no_rows c.step.inside.next c.step.inside.parts)
