use Rattle.re_cert.specs.declared.certificate.Kind.TheVariants.{Lower}
use Rattle.re_frame.specs.Outcomes.{outcome_of}
use Rattle.re_search_words.specs.MayGive.{IsFound}
use Rattle.re_search_words.proofs.ShorterTexts.{found_more, some_more}
use Rattle.re_search_words.proofs.fitting.+fitting_lower.Goals as goal

pub returns : goal.returns
returns t c =
    let setting = c.args.setting.now in
    let chain = c.args.chain.now.certificate in
    some_more (λ output. IsFound setting Lower c.args.steps c.three_quarters.result chain (outcome_of output)) (λ output. IsFound setting Lower c.args.steps c.args.labels chain (outcome_of output))
    c.fitting_lower.result (λ output. found_more setting Lower c.args.steps c.three_quarters.result c.args.labels chain (outcome_of output) c.three_quarters.ensures.most) c.fitting_lower.ensures
