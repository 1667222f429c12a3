use Rattle.std.proofs.Common.{◌≡◌, Err, rules, ◌∙◌}
use Rattle.std.proofs.lemmas.Result.{IfOk-weaker}
use Rattle.re_shaping.specs.Merging.{merged}
use Rattle.re_shaping.specs.declared.refusal.MergeFault.TheVariants.{Limit}
use Rattle.re_chains.proofs.WordsGiven.{sound_given}
use Rattle.re_chain_words.proofs.MergesGiven.{merge_given, merge_limited}
use Rattle.re_frame.specs.Outcomes.{outcome_of}
use Rattle.re_chain_words.proofs.shaping.merge_output.Goals as goal

pub returns-in-Ok-clause-output : goal.returns-in-Ok-clause-output
returns-in-Ok-clause-output c =
    IfOk-weaker c.certificate_output.result _ _
    (λ output e. e ∙ merge_given c.args.first.now c.args.second.now c.args.chain.now c.label_in-from.result c.label_in-to.result c.label_in-from.ensures c.label_in-to.ensures c.in-Ok.ensures.may
    c.in-Ok.merged c.in-Ok.ensures.within c.in-Ok.ensures.merged)
    c.certificate_output.ensures.outcome

pub returns-in-Ok-clause-text : goal.returns-in-Ok-clause-text
returns-in-Ok-clause-text c =
    let chain = c.args.chain.now in
    IfOk-weaker c.certificate_output.result _ _
    (λ output gives. sound_given c.in-Ok.merged (merged c.label_in-from.result c.label_in-to.result chain) _ (outcome_of output) c.in-Ok.ensures.merged
    (λ i. merged (c.label_in-from.ensures i) (c.label_in-to.ensures i) chain) (c.merge_law.ensures chain _ _ c.requires c.in-Ok.ensures.may c.in-Ok.ensures.within) gives)
    c.certificate_output.ensures.text

pub returns-in-Err-Limit-clause-output : goal.returns-in-Err-Limit-clause-output
returns-in-Err-Limit-clause-output c =
    let passed : c.merge.result ≡ Err (Limit c.in-Err-Limit.passed) = search rules in
    let told = c.merge.ensures.limit c.in-Err-Limit.passed passed in
    IfOk-weaker c.limit_output.result _ _
    (λ output e. e ∙ merge_limited c.args.first.now c.args.second.now c.args.chain.now c.label_in-from.result c.label_in-to.result c.label_in-from.ensures c.label_in-to.ensures told.0 c.in-Err-Limit.passed told.1)
    c.limit_output.ensures
