-- What `given` accepts.
use Rattle.std.proofs.Common.{◌≡◌, refl, sym, ap, ◌∙◌}
use Rattle.re_cert.specs.Bounds.{Bound}
use Rattle.re_frame.specs.Outcomes.{Outcome}
use Rattle.re_frame.specs.declared.status.Status.TheVariants.{Done}
use Rattle.re_problem.specs.NamedProblems.{NamedProblem}
use Rattle.re_settings.proofs.GivenMeans.{steps_are_refused}
use Rattle.re_settings.specs.Taken.{IsTaken}
use Rattle.re_settings.specs.Verdicts.{HasCause, given_outcome, rendered}
use Rattle.re_settings.specs.declared.bound_words.BoundWord.TheVariants.{Given}
use Rattle.re_settings.specs.declared.verdicts.GivenVerdict.{GivenVerdict}
use Rattle.re_settings.specs.declared.verdicts.GivenVerdict.TheVariants as verdicts

module _ (input : NamedProblem) (bound : Bound) where
  only_accepted : (verdict : GivenVerdict) → HasCause input bound verdict → (rendered input bound verdict).status ≡ Done → verdict ≡ verdicts.Accepted
  only_accepted verdicts.Accepted cause says = refl
  only_accepted (verdicts.NoInput fault) cause says = absurd (cc)
  only_accepted (verdicts.Fails refusal) cause says = absurd (steps_are_refused bound refusal cause says)
  only_accepted (verdicts.Solvable number sets holds) cause says = absurd (cc)
  only_accepted verdicts.Unsolvable cause says = absurd (cc)
  only_accepted verdicts.NotBack cause says = absurd (cc)
  only_accepted verdicts.TooManyTries cause says = absurd (cc)

  pub accepted_taken : (verdict : GivenVerdict) → rendered input bound verdict ≡ given_outcome Given input bound → verdict ≡ verdicts.Accepted → IsTaken input bound
  accepted_taken verdict is e = sym is ∙ ap (rendered input bound) e

  pub taken_accepted : (verdict : GivenVerdict) → rendered input bound verdict ≡ given_outcome Given input bound → HasCause input bound verdict → IsTaken input bound → verdict ≡ verdicts.Accepted
  taken_accepted verdict is cause taken = only_accepted verdict cause (ap (λ (o : Outcome). o.status) (is ∙ taken))
