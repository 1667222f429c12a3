use Rattle.std.proofs.Common.{subst}
use Rattle.re_cert.specs.Bounds.{Bound}
use Rattle.re_cert.specs.declared.certificate.Kind.{Kind}
use Rattle.re_cert.specs.declared.certificate.Kind.TheVariants.{Upper}
use Rattle.re_chains.proofs.WordsGiven.{both_ok}
use Rattle.re_frame.specs.Outcomes.{outcome_of}
use Rattle.re_given_words.specs.Extensions.{GoesOnIn}
use Rattle.re_search_words.specs.MayGive.{IsTextOn}
use Rattle.re_search_words.proofs.ShorterTexts.{text_on}
use Rattle.re_search_words.proofs.answering.shortest_same.Goals as goal

pub returns : goal.returns
returns c =
    let setting = c.args.setting.now in
    let chain = c.args.chain.now.certificate in
    let on = subst (λ (k : Kind). GoesOnIn setting k c.args.steps c.args.labels chain c.in_ok-same.same) c.args.chain.now.chain.upper c.in_ok-same.ensures.goes_on in
    both_ok _ _ _ c.print_in.result c.print_in.ensures.outcome c.print_in.ensures.text
    (λ output one gives. subst (λ (b : Bound). IsTextOn setting Upper c.args.steps c.args.labels chain b (outcome_of output)) c.in_ok-same.ensures.same
    (text_on setting Upper c.args.steps c.args.labels chain c.in_ok-same.same (outcome_of output) on one gives))
