use Rattle.std.proofs.Common.{◌≡◌, subst}
use Rattle.std.specs.Prelude.{IfSome}
use Rattle.re_cert.specs.declared.certificate.Kind.{Kind}
use Rattle.re_cert.specs.declared.certificate.Kind.TheVariants.{Lower}
use Rattle.re_chains.proofs.WordsGiven.{both_ok}
use Rattle.re_frame.specs.Outcomes.{outcome_of, status_of}
use Rattle.re_frame.specs.declared.status.Status.TheVariants.{Done}
use Rattle.re_given_words.specs.Extensions.{GoesOnIn}
use Rattle.re_search_words.specs.MayGive.{IsFound}
use Rattle.re_search_words.proofs.ShorterTexts.{lengthened, stayed}
use Rattle.re_search_words.proofs.answering.longest_found.Goals as goal

pub returns-in-Some : goal.returns-in-Some
returns-in-Some c =
    let setting = c.args.setting.now in
    let chain = c.args.chain.now.certificate in
    let found = subst (λ o. IfSome o (λ output. IsFound setting Lower c.args.steps c.args.labels chain (outcome_of output) × (status_of output.answer ≡ Done))) c.in-Some.is c.in_ok-output.ensures in
    lengthened setting c.args.steps c.args.labels chain (outcome_of c.in-Some.output) found.0 found.1

pub returns : goal.returns
returns c =
    let setting = c.args.setting.now in
    let chain = c.args.chain.now.certificate in
    let on = subst (λ (k : Kind). GoesOnIn setting k c.args.steps c.args.labels chain c.in_ok-same.same) c.args.chain.now.chain.lower c.in_ok-same.ensures.goes_on in
    both_ok _ _ _ c.print_in.result c.print_in.ensures.outcome c.print_in.ensures.text
    (λ output one gives. stayed setting c.args.steps c.args.labels chain c.in_ok-same.same (outcome_of output) c.in_ok-same.ensures.same on one gives)
