use Rattle.std.proofs.Common.{Some, ap, map, refl, sym, ◌∙◌}
use Rattle.std.proofs.lemmas.Result.{IfOk-weaker}
use Rattle.std.specs.Prelude.{string_bytes}
use Rattle.re_explore.specs.declared.command.Command.TheVariants.{Beside}
use Rattle.re_frame.specs.Outcomes.{outcome_of}
use Rattle.re_explore.proofs.Said.{expected_of, reading_of, says_none}
use Rattle.re_explore.proofs.tool.output_from.Goals as goal

pub returns-in_ok-bad_words-in-None-clause-says : goal.returns-in_ok-bad_words-in-None-clause-says
returns-in_ok-bad_words-in-None-clause-says g c =
    says_none (map string_bytes c.args.words.now) c.in_ok-bad_words-in-None.field-0 (sym c.in-None.is ∙ c.command_from.ensures.command) c.in_ok-bad_words-in-None.ensures

pub returns-in-Some-Beside-clause-output : goal.returns-in-Some-Beside-clause-output
returns-in-Some-Beside-clause-output g c =
    let words = map string_bytes c.args.words.now in
    let named = ap Some (sym c.in-Some-Beside.field-0-is) ∙ c.in-Some-Beside.ensures.command in
    IfOk-weaker c.find_input-in-Some-Beside.result _ _
    (λ output may bytes input. expected_of words (Beside c.in-Some-Beside.beside) bytes (outcome_of output) named (may bytes (input (reading_of words (Beside c.in-Some-Beside.beside) named refl))))
    c.find_input-in-Some-Beside.ensures.output
