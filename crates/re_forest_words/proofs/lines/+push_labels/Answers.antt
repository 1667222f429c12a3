use Rattle.re_forest_words.proofs.lines.+push_labels.Goals as goal
use Rattle.re_texts.proofs.PrintLemmas.{label_then_rest, rest_is}
use Rattle.re_texts.specs.SetTexts.{named_text}
use Rattle.re_labels.proofs.Strengths.{rest-smaller}
use Rattle.std.proofs.Common.{◌++◌, sym, arith}
use Rattle.std.proofs.lemmas.Result.{on_ok_weaker}
use Rattle.std.specs.Prelude.{codes}

pub push_labels-requires : goal.push_labels-requires
push_labels-requires t c = (
  omega (arith, c.decreases, rest-smaller c.args.set c.remove.result c.in-Some.label c.requires.0 (sym c.in-Some.ensures) c.remove.ensures),
  rest_is c.args.set c.remove.result c.in-Some.label c.requires (sym c.in-Some.ensures) c.remove.ensures,
)

pub returns : goal.returns
returns t c = on_ok_weaker c.push_labels.result
    (λ f. label_then_rest (λ label. codes " " ++ named_text c.args.names.now label) c.args.set c.remove.result c.in-Some.label c.args.text.now.items c.push_behind.new.text.items c.push_labels.new.text.items c.requires.0 (sym c.in-Some.ensures) c.remove.ensures
    c.in_ok-push_behind.ensures f)
    c.push_labels.ensures
