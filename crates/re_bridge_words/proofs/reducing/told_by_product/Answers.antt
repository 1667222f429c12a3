use Rattle.std.proofs.Common.{◌++◌, ap, ◌∙◌}
use Rattle.std.proofs.lemmas.Result.{IfOk-weaker}
use Rattle.re_given_words.specs.Answers.{MayGive}
use Rattle.re_given_words.specs.ProductTexts.{product_outcome}
use Rattle.re_bridge_words.proofs.reducing.told_by_product.Goals as goal

pub returns : goal.returns
unfolding MayGive
returns c =
    IfOk-weaker c.find.result _ _
    (λ output may. may.answer ∙ ap product_outcome (c.in_ok-extend_from_slice.ensures.items ∙ ap (λ t. t ++ c.args.text.now) c.new-bytes.ensures.items)) c.find.ensures.output
