use Rattle.std.proofs.Common.{◌∙◌}
use Rattle.std.proofs.lemmas.Result.{IfOk-weaker}
use Rattle.re_bridge_words.proofs.GivenReductions.{told_refusal}
use Rattle.re_bridge_words.proofs.reducing.refusal_output.Goals as goal

pub returns-in_default-clause-output : goal.returns-in_default-clause-output
returns-in_default-clause-output c =
    IfOk-weaker c.told_by_product.result _ _
    (λ output e. e ∙ (told_refusal c.args.text.now c.args.texts.now c.args.fault c.requires.writes c.requires.judged c.in_default.not-NoMemory c.requires.refuses).0) c.told_by_product.ensures

pub returns-in_default-clause-told : goal.returns-in_default-clause-told
returns-in_default-clause-told c =
    IfOk-weaker c.told_by_product.result _ _
    (λ output e. (told_refusal c.args.text.now c.args.texts.now c.args.fault c.requires.writes c.requires.judged c.in_default.not-NoMemory c.requires.refuses).1) c.told_by_product.ensures
