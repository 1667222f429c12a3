use Rattle.re_boxes.proofs.spans.parted.Goals as goal

pub returns : goal.returns
returns c =
    let low = c.below.ensures c.args.constraint.now.degree c.args.depth c.args.label c.requires.span c.requires.depth c.requires.label in
    let high = c.after.ensures c.args.constraint.now.degree c.args.depth c.args.label c.requires.span c.requires.depth c.requires.label in
    record {
      below = low.0;
      after = high.0;
      endings_below = low.1;
      endings_after = high.1;
    }
