use Rattle.std.proofs.Common.{subst, sym}
use Rattle.re_given.proofs.RelativeGiven.{IsInput-derived_by}
use Rattle.re_given.specs.Inputs.{IsInput, exchanged_by}
use Rattle.re_problem.specs.NamedProblems.{unnamed}
use Rattle.re_problem.specs.Problems.{Problem}
use Rattle.re_given_words.proofs.CountingMeans.{beside_input}
use Rattle.re_given_words.proofs.counting.tell_given.Goals as goal

pub fit_answer-requires : goal.fit_answer-requires
fit_answer-requires c =
    subst (λ (p : Problem). IsInput p (exchanged_by c.args.rounds (unnamed c.args.input.now))) (sym c.requires.here)
    (IsInput-derived_by c.args.rounds (unnamed c.args.texts.now.problem) (unnamed c.args.input.now) (beside_input (unnamed c.args.texts.now.problem) c.args.texts.now.input c.args.input.now c.requires.input c.requires.beside))
