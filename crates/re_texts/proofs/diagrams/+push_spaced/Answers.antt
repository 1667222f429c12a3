use Rattle.re_texts.proofs.PrintLemmas.{first_holds, label_then_rest, rest_holds, rest_is}
use Rattle.re_texts.specs.SetTexts.{named_text}
use Rattle.re_labels.proofs.Strengths.{rest-smaller}
use Rattle.std.proofs.Common.{◌<◌, ◌++◌, ap, append_assoc, codes, length, sym, ◌∙◌, arith}
use Rattle.std.proofs.lemmas.Result.{on_ok_weaker}
use Rattle.re_texts.proofs.diagrams.+push_spaced.Goals as goal
use Rattle.re_labels.specs.declared.TheConstants.{MAX_LABELS}

pub remove-requires : goal.remove-requires
remove-requires t c = first_holds (λ x. x < MAX_LABELS) c.args.class c.in-Some.label c.requires.set.0 (sym c.in-Some.ensures) c.requires.set.1

pub push_spaced-requires : goal.push_spaced-requires
push_spaced-requires t c = (
  omega (arith, c.decreases, rest-smaller c.args.class c.remove.result c.in-Some.label c.requires.set.0 (sym c.in-Some.ensures) c.remove.ensures),
  (
    rest_is c.args.class c.remove.result c.in-Some.label c.requires.set (sym c.in-Some.ensures) c.remove.ensures,
    rest_holds (λ label. label < length c.args.names.now) c.args.class c.remove.result c.in-Some.label c.requires.set.0 (sym c.in-Some.ensures) c.remove.ensures c.requires.named,
  ),
)

pub returns : goal.returns
returns t c = on_ok_weaker c.push_spaced.result
    (λ f. label_then_rest (λ label. codes " " ++ named_text c.args.names.now label) c.args.class c.remove.result c.in-Some.label c.args.text.now.items c.push_named.new.text.items c.push_spaced.new.text.items c.requires.set.0 (sym c.in-Some.ensures) c.remove.ensures
    (c.in_ok-push_named.ensures.text ∙ ap (λ w. w ++ named_text c.args.names.now c.in-Some.label) c.in_ok-push_all.ensures ∙ append_assoc c.args.text.now.items (codes " ") (named_text c.args.names.now c.in-Some.label)) f)
    c.push_spaced.ensures
