use Rattle.std.proofs.Common.{Some, ap, map, refl, sym, ◌∙◌}
use Rattle.std.specs.Prelude.{string_bytes}
use Rattle.std.proofs.lemmas.Result.{IfOk-weaker}
use Rattle.re_explore.proofs.Pieces.{says_by_words, told_by_words}
use Rattle.re_explore.proofs.Said.{reading_of}
use Rattle.re_explore.specs.declared.command.Command.TheVariants.{Reads}
use Rattle.re_explore.specs.declared.text_words.TextWord.TheVariants.{Settles}
use Rattle.re_explore.proofs.tool.telling_from.Goals as goal

pub returns-in-Some-Reads-Settles-clause-told : goal.returns-in-Some-Reads-Settles-clause-told
returns-in-Some-Reads-Settles-clause-told g c =
    let words = map string_bytes c.args.words.now in
    let word = c.in-Some-Reads-Settles.word in
    let named = ap Some (sym (c.in-Some-Reads-Settles.field-0-is ∙ ap Reads c.in-Some-Reads-Settles.field-0-0-is)) ∙ c.in-Some-Reads-Settles.ensures.command in
    IfOk-weaker c.tell_input.result _ _
    (λ telling may bytes input. told_by_words words word bytes telling named (may bytes (input (reading_of words (Reads (Settles word)) named refl))))
    c.tell_input.ensures.told

pub returns-in-Some-Reads-Settles-clause-says : goal.returns-in-Some-Reads-Settles-clause-says
returns-in-Some-Reads-Settles-clause-says g c =
    let words = map string_bytes c.args.words.now in
    let word = c.in-Some-Reads-Settles.word in
    let named = ap Some (sym (c.in-Some-Reads-Settles.field-0-is ∙ ap Reads c.in-Some-Reads-Settles.field-0-0-is)) ∙ c.in-Some-Reads-Settles.ensures.command in
    IfOk-weaker c.tell_input.result _ _ (λ telling says. says_by_words words word telling named says) c.tell_input.ensures.says
