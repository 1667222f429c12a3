use Rattle.std.proofs.Common.{◌≡◌, Ok, ap, subst, sym}
use Rattle.re_search.specs.Searches.{FindsSteps, FindsValid}
use Rattle.re_search.specs.declared.types.Search.{Search}
use Rattle.re_words.proofs.Found.{text_accepted}
use Rattle.re_frame.specs.Check.{check_outcome}
use Rattle.re_words.specs.Found.{Accepts}
use Rattle.re_frame.specs.Outcomes.{Outcome}
use Rattle.re_words.proofs.searching.search_output.Goals as goal

pub returns-in_ok-print_certificate-in-Ok-Found-clause-accepted : goal.returns-in_ok-print_certificate-in-Ok-Found-clause-accepted
returns-in_ok-print_certificate-in-Ok-Found-clause-accepted c = λ done.
    let text : c.done.result.text.items ≡ c.in_ok-print_certificate-in-Ok-Found.field-0.items = ap (λ (outcome : Outcome). outcome.text) c.done.ensures in
    let is = c.in-Ok-Found.field-0-is in
    subst (λ t. Accepts c.args.kind c.args.steps (check_outcome t)) (sym text)
    (text_accepted c.args.kind c.args.steps c.in-Ok-Found.certificate c.in_ok-print_certificate-in-Ok-Found.field-0.items
    (subst (λ (search : Search). FindsSteps c.args.kind c.args.steps (Ok search)) is c.in-Ok-Found.ensures.found_steps)
    (subst (λ (search : Search). FindsValid c.args.kind (Ok search)) is c.in-Ok-Found.ensures.valid)
    c.in_ok-print_certificate-in-Ok-Found.ensures.right c.in_ok-print_certificate-in-Ok-Found.ensures.read)
