use Rattle.std.proofs.Common.{◌≡◌, subst}
use Rattle.std.specs.Prelude.{IfSome}
use Rattle.re_cert.specs.declared.certificate.Kind.TheVariants.{Upper}
use Rattle.re_frame.specs.Outcomes.{outcome_of, status_of}
use Rattle.re_frame.specs.declared.status.Status.TheVariants.{Done}
use Rattle.re_search_words.specs.MayGive.{IsFound}
use Rattle.re_search_words.proofs.ShorterTexts.{shortened}
use Rattle.re_search_words.proofs.answering.shortest_else.Goals as goal

pub returns-in-Some : goal.returns-in-Some
returns-in-Some c =
    let setting = c.args.setting.now in
    let chain = c.args.chain.now.certificate in
    let found = subst (λ o. IfSome o (λ output. IsFound setting Upper c.args.steps c.three_quarters.result chain (outcome_of output) × (status_of output.answer ≡ Done))) c.in-Some.is c.in_ok-fitting.ensures in
    shortened setting c.args.steps c.three_quarters.result c.args.labels chain (outcome_of c.in-Some.fitting) c.three_quarters.ensures.most found.0
