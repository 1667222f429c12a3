use Rattle.std.proofs.Common.{subst, sym}
use Rattle.std.proofs.lemmas.Result.{IfOk-weaker}
use Rattle.re_frame.specs.Outcomes.{Outcome}
use Rattle.re_given_words.proofs.ProductMeaning.{product_means}
use Rattle.re_given_words.specs.ProductTexts.{ProductMeans}
use Rattle.re_given_words.proofs.multiplying.meant_output.Goals as goal

pub returns-clause-means : goal.returns-clause-means
returns-clause-means c =
    IfOk-weaker c.answer_output.result _ _ (λ output e. subst (λ (o : Outcome). ProductMeans c.args.texts.now.problem c.args.texts.now.input o) (sym e)
    (product_means c.args.texts.now.problem c.args.texts.now.input c.names-own.ensures.problem c.names-given.ensures.problem)) c.answer_output.ensures
