use Rattle.std.proofs.lemmas.Result.{IfOk-weaker}
use Rattle.re_frame.specs.Outcomes.{outcome_of}
use Rattle.re_given_words.proofs.RoundsAnswers.{counted_line}
use Rattle.re_given_words.proofs.rounds.count_output.Goals as goal

pub returns : goal.returns
returns c =
    IfOk-weaker c.counted_output.result _ _ (λ output e. counted_line c.args.texts.now.problem c.args.texts.now.input c.args.most c.in_ok-counted.counted (outcome_of output) c.names-names.ensures.problem.problem c.requires.beside
    c.in_ok-counted.ensures.told e) c.counted_output.ensures
