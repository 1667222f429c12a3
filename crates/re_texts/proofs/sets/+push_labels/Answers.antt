use Rattle.re_texts.proofs.PrintLemmas.{first_holds, label_then_rest, rest_holds, rest_is}
use Rattle.re_texts.specs.SetTexts.{named_text}
use Rattle.re_labels.proofs.Strengths.{rest-smaller}
use Rattle.std.proofs.Common.{◌<◌, length, sym, arith}
use Rattle.std.proofs.lemmas.Result.{on_ok_weaker}
use Rattle.re_texts.proofs.sets.+push_labels.Goals as goal
use Rattle.re_labels.specs.declared.TheConstants.{MAX_LABELS}

pub remove-requires : goal.remove-requires
remove-requires t c = first_holds (λ x. x < MAX_LABELS) c.args.set c.in-Some.label c.requires.set.0 (sym c.in-Some.ensures) c.requires.set.1

pub push_labels-requires : goal.push_labels-requires
push_labels-requires t c = (
  omega (arith, c.decreases, rest-smaller c.args.set c.remove.result c.in-Some.label c.requires.set.0 (sym c.in-Some.ensures) c.remove.ensures),
  (
    rest_is c.args.set c.remove.result c.in-Some.label c.requires.set (sym c.in-Some.ensures) c.remove.ensures,
    rest_holds (λ label. label < length c.args.names.now) c.args.set c.remove.result c.in-Some.label c.requires.set.0 (sym c.in-Some.ensures) c.remove.ensures c.requires.named,
  ),
)

pub returns-clause-text : goal.returns-clause-text
returns-clause-text t c = on_ok_weaker c.push_labels.result
    (λ f. label_then_rest (named_text c.args.names.now) c.args.set c.remove.result c.in-Some.label c.args.text.now.items c.push_named.new.text.items c.push_labels.new.text.items c.requires.set.0 (sym c.in-Some.ensures) c.remove.ensures
    c.in_ok-push_named.ensures.text f)
    c.push_labels.ensures.text
