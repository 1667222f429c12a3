use Rattle.std.proofs.lemmas.Result.{IfOk-weaker}
use Rattle.re_forest_words.proofs.Saying.{word_says}
use Rattle.re_forest_words.proofs.answering.ForestWordFinding.find.Goals as goal
use Rattle.re_forest_words.specs.declared.words.ForestWord.TheVariants.{Flexible, Greedy}
use Rattle.re_frame.specs.Outcomes.{outcome_of}

pub returns-in-Flexible-clause-says : goal.returns-in-Flexible-clause-says
returns-in-Flexible-clause-says c = IfOk-weaker c.text_output.result _ _ (λ output may. word_says Flexible c.as_slice.result.now (outcome_of output) may) c.text_output.ensures

pub returns-clause-says : goal.returns-clause-says
returns-clause-says c = IfOk-weaker c.greedy_output.result _ _ (λ output may. word_says (Greedy c.in-Greedy.most) c.as_slice-in-Greedy.result.now (outcome_of output) may) c.greedy_output.ensures
