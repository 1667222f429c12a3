use Rattle.std.proofs.Common.{◌≡◌, ◌∙◌, ◌+◌, ◌++◌, ap, arith, codes, length}
use Rattle.std.proofs.lemmas.List.{length-append}
use Rattle.re_problem.specs.CanonicalTexts.{config_text}
use Rattle.re_problem.proofs.GatheredLines.{config_gathered}
use Rattle.re_problem.proofs.printing.add_config.Goals as goal

pub pop-requires : goal.pop-requires
pop-requires c =
    let labels = c.labels-labels.result.now in
    let two = c.labels-labels.ensures.two in
    let line = c.args.lines.now ++ config_text c.args.words.now labels in
    let text = config_gathered c.args.words.now labels c.args.lines.now c.runs.lines c.runs.at (grind (arith, c.labels-labels.ensures.labels, two)) (let past = c.runs-test.false in omega arith) c.runs.invariant.lines in
    let len : length c.runs.lines ≡ length line + 1 = ap length text ∙ length-append line (codes " ") in
    omega arith

pub returns-clause-line : goal.returns-clause-line
returns-clause-line c =
    let labels = c.labels-labels.result.now in
    let two = c.labels-labels.ensures.two in
    let text = config_gathered c.args.words.now labels c.args.lines.now c.runs.lines c.runs.at (grind (arith, c.labels-labels.ensures.labels, two)) (let past = c.runs-test.false in omega arith) c.runs.invariant.lines in
    c.pop.ensures.items (c.args.lines.now ++ config_text c.args.words.now labels) 32 text
    ∙ ap (λ l. c.args.lines.now ++ config_text c.args.words.now l) c.labels-labels.ensures.labels
