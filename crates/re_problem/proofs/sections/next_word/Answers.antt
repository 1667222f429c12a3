use Rattle.re_problem.proofs.SectionWords.{last_word, no_words, word_cut}
use Rattle.re_problem.proofs.sections.next_word.Goals as goal

pub returns-in_default : goal.returns-in_default
returns-in_default c = no_words c.args.line.now c.in_default.ensures.place

pub returns-in-Some-blank_place : goal.returns-in-Some-blank_place
returns-in-Some-blank_place c = word_cut c.args.line.now c.in-Some.from c.in-Some.ensures.place c.in-Some-blank_place.to c.in-Some-blank_place.ensures.place

pub returns-in-None : goal.returns-in-None
returns-in-None c = last_word c.args.line.now c.in-Some.from c.in-Some.ensures.place c.in-None.ensures.place
