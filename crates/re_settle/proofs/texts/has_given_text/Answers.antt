use Rattle.std.proofs.Common.{◌≡◌, length, nat_lt, ap, subst, arith, refl}
use Rattle.std.proofs.lemmas.Bool.Decides.{nat_tests}
use Rattle.re_frame.specs.Outcomes.{outcome_of, status_of, within_limit}
use Rattle.re_frame.specs.declared.status.Answer.{Answer}
use Rattle.re_frame.specs.declared.status.Answer.TheVariants as answers
use Rattle.re_frame.specs.declared.status.Status.TheVariants as status
use Rattle.re_io.specs.declared.read.TheConstants.{MAX_BYTES}
use Rattle.re_chains.specs.GivenTexts.{IsGivenText, given_text}
use Rattle.re_settle.proofs.texts.has_given_text.Goals as goal
use Rattle.re_settings.proofs.TextsThatFit.{not_over, text_done}

pub returns-in-Done-clause-text : goal.returns-in-Done-clause-text
unfolding within_limit
returns-in-Done-clause-text c = λ yes.
    let finished = ap status_of c.in-Done.is in
    let is = text_done (nat_lt MAX_BYTES (length (given_text c.args.certificate.now c.args.input.now))) (given_text c.args.certificate.now c.args.input.now) (outcome_of c.in_ok-output.output)
    c.in_ok-output.ensures.outcome finished in
    subst (IsGivenText c.args.certificate.now c.args.input.now) is (c.in_ok-output.ensures.text finished)

answer_done : (answer : Answer) → status_of answer ≡ status.Done → answer ≡ answers.Done
answer_done answers.Done is = refl
answer_done answers.No is = absurd cc
answer_done answers.BadWords is = absurd cc
answer_done answers.BadInput is = absurd cc
answer_done answers.Limit is = absurd cc

pub returns-clause-whole : goal.returns-clause-whole
unfolding within_limit
returns-clause-whole c = λ has.
    let text = given_text c.args.certificate.now c.args.input.now in
    let finished = not_over (nat_lt MAX_BYTES (length text)) text (outcome_of c.in_ok-output.output) (λ over. let short = has.short in grind (arith, nat_tests)) c.in_ok-output.ensures.outcome in
    absurd (c.in_default.not-Done (answer_done c.in_ok-output.output.answer finished))
