use Rattle.std.proofs.Common.{map, refl, subst, sym, ◌∙◌}
use Rattle.std.specs.Prelude.{string_bytes}
use Rattle.re_explore.proofs.Said.{says_bad_words, says_no}
use Rattle.re_explore.proofs.TextsWorth.{worth_of}
use Rattle.re_explore.specs.Commands.{command_of}
use Rattle.re_frame.specs.Outcomes.{IsAnswer}
use Rattle.re_explore.proofs.tool.run.Goals as goal

pub returns-in-Ok-clause-answer : goal.returns-in-Ok-clause-answer
returns-in-Ok-clause-answer g c answers bytes input = c.put_telling.ensures.answer answers (map string_bytes c.args.words.now) bytes (c.in-Ok.ensures.told bytes input)

pub returns-in-Ok-clause-bad_words : goal.returns-in-Ok-clause-bad_words
returns-in-Ok-clause-bad_words g c answers =
    let command = command_of (map string_bytes c.args.words.now) in
    says_bad_words command c.put_telling.result c.put_telling.result (c.put_telling.ensures.says answers command c.in-Ok.ensures.says) refl

pub returns-in-Ok-clause-no : goal.returns-in-Ok-clause-no
returns-in-Ok-clause-no g c said_no =
    let command = command_of (map string_bytes c.args.words.now) in
    says_no command c.put_telling.result c.put_telling.result (c.put_telling.ensures.says (subst IsAnswer (sym said_no) tt) command c.in-Ok.ensures.says) refl said_no

pub returns-in-Ok-clause-partly : goal.returns-in-Ok-clause-partly
returns-in-Ok-clause-partly g c failed bytes input = c.put_telling.ensures.partly failed (map string_bytes c.args.words.now) bytes (c.in-Ok.ensures.told bytes input)

pub returns-in-Ok-clause-memory_partly : goal.returns-in-Ok-clause-memory_partly
returns-in-Ok-clause-memory_partly g c ended bytes input = c.put_telling.ensures.no_memory ended (map string_bytes c.args.words.now) bytes (c.in-Ok.ensures.told bytes input)

pub returns-in-Ok-clause-memory_nothing_written : goal.returns-in-Ok-clause-memory_nothing_written
returns-in-Ok-clause-memory_nothing_written g c ended whole = c.put_telling.ensures.nothing ended (command_of (map string_bytes c.args.words.now)) c.in-Ok.ensures.says whole

pub returns-in-Ok-clause-text_worth : goal.returns-in-Ok-clause-text_worth
returns-in-Ok-clause-text_worth g c finished bytes input =
    let words = map string_bytes c.args.words.now in
    let (outcome, expected, answered) = c.put_telling.ensures.answer (subst IsAnswer (sym finished) tt) words bytes (c.in-Ok.ensures.told bytes input) in
    (outcome.text, answered.text, worth_of words (command_of words) bytes outcome expected (sym answered.status ∙ finished))
