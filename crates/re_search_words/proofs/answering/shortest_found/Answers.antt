use Rattle.std.proofs.Common.{inl, subst}
use Rattle.re_chains.proofs.WordsGiven.{both_ok}
use Rattle.re_cert.specs.declared.certificate.Kind.TheVariants.{Upper}
use Rattle.re_frame.specs.Outcomes.{outcome_of}
use Rattle.re_going_on.specs.ShortestAnswers.{MayAnswer}
use Rattle.re_search_words.proofs.ShorterTexts.{text_on}
use Rattle.re_search_words.proofs.answering.shortest_found.Goals as goal

pub returns-in-Found : goal.returns-in-Found
returns-in-Found c =
    let chain = c.args.chain.now.certificate in
    let on = subst (MayAnswer c.args.setting.now c.args.steps c.args.labels chain) c.in-Found.is c.in_ok-certificate.ensures.may in
    both_ok _ _ _ c.print_in.result c.print_in.ensures.outcome c.print_in.ensures.text
    (λ output one gives. inl (c.in-Found.certificate, text_on c.args.setting.now Upper c.args.steps c.args.labels chain c.in-Found.certificate (outcome_of output) on one gives))
