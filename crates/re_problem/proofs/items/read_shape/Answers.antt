use Rattle.std.proofs.Common.{◌∙◌, ap, sym, take, Some}
use Rattle.std.specs.Option.{option_and_then, option_map}
use Rattle.re_problem.specs.Items.{item_with}
use Rattle.re_problem.specs.Shapes.{shape_of}
use Rattle.re_problem.proofs.ItemShapes.{letter_shape, whole_word, word_with_power}
use Rattle.re_problem.proofs.items.read_shape.Goals as goal

pub returns-in-None : goal.returns-in-None
returns-in-None c = c.shape_with.ensures ∙ sym (ap (option_map shape_of) (whole_word c.args.word.now c.in-None.ensures.place))

pub returns-in-None-read_power : goal.returns-in-None-read_power
returns-in-None-read_power c = sym (ap (option_map shape_of) (word_with_power c.args.word.now c.in-Some.at c.in-Some.ensures.place
    ∙ ap (option_and_then (λ n. item_with (Some n) (take c.in-Some.at c.args.word.now))) (sym c.in-None-read_power.ensures)))

pub returns-in-Some-read_power : goal.returns-in-Some-read_power
returns-in-Some-read_power c = c.shape_with-in-Some-read_power.ensures ∙ sym (ap (option_map shape_of) (word_with_power c.args.word.now c.in-Some.at c.in-Some.ensures.place
    ∙ ap (option_and_then (λ n. item_with (Some n) (take c.in-Some.at c.args.word.now))) (sym c.in-Some-read_power.ensures)))

pub returns-then-is_letter : goal.returns-then-is_letter
returns-then-is_letter c = letter_shape c.args.word.now (sym c.is_letter.ensures ∙ c.if-is_letter.true)
