use Rattle.re_problem.proofs.ItemShapes.{base_before, base_of_word}
use Rattle.re_problem.proofs.labels.base_text.Goals as goal

pub returns-in-None : goal.returns-in-None
returns-in-None c = λ item is. base_of_word c.args.word.now item c.in-None.ensures.place is

pub returns-in-Some : goal.returns-in-Some
returns-in-Some c = λ item is. base_before c.args.word.now c.in-Some.at item c.in-Some.ensures.place is
