use Rattle.re_texts.proofs.PrintLemmas.{label_then_rest, rest_is}
use Rattle.re_labels.proofs.Strengths.{rest-smaller}
use Rattle.std.proofs.Common.{◌++◌, sym, arith}
use Rattle.std.proofs.lemmas.Result.{on_ok_weaker}
use Rattle.re_describe.specs.Pieces.{shown}
use Rattle.re_describe.proofs.pieces.+push_behind.Goals as goal

pub push_behind-requires : goal.push_behind-requires
push_behind-requires t c = (
  omega (arith, c.decreases, rest-smaller c.args.set c.remove.result c.in-Some.label c.requires.0 (sym c.in-Some.ensures) c.remove.ensures),
  rest_is c.args.set c.remove.result c.in-Some.label c.requires (sym c.in-Some.ensures) c.remove.ensures,
)

pub returns : goal.returns
returns t c = on_ok_weaker c.push_behind.result
    (λ f. label_then_rest (λ label. c.args.between.now ++ shown c.args.names.now c.args.index.now label) c.args.set c.remove.result c.in-Some.label c.args.text.now.items c.push_next.new.text.items c.push_behind.new.text.items c.requires.0 (sym c.in-Some.ensures) c.remove.ensures
    c.in_ok-push_next.ensures f)
    c.push_behind.ensures
