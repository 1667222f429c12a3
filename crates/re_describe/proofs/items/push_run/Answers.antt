use Rattle.re_texts.proofs.PrintLemmas.{set_there}
use Rattle.re_problem.specs.CanonicalTexts.{power_text}
use Rattle.std.proofs.Common.{◌++◌, [], ap, append_assoc, sym, ◌∙◌}
use Rattle.re_describe.specs.Pieces.{item_text}
use Rattle.re_describe.proofs.items.push_run.Goals as goal

pub returns-clause-run : goal.returns-clause-run
returns-clause-run c =
    let there = set_there c.args.numbers.now c.args.sets.now c.args.at c.index-sets-at.result c.requires.numbers c.requires.at c.index-sets-at.is c.number-number.ensures.set in (
      _,
      c.run_length-count.ensures.runs,
      c.in_ok-push_power.ensures.text ∙ ap (λ l. l ++ power_text c.run_length-count.result) c.in_ok-push_item.ensures
          ∙ append_assoc c.args.text.now.items (item_text c.args.names.now [] c.index-sets-at.result) (power_text c.run_length-count.result)
          ∙ ap (λ set. c.args.text.now.items ++ (item_text c.args.names.now [] set ++ power_text c.run_length-count.result)) (sym there),
    )
