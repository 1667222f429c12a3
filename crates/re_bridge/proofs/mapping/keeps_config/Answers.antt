use Rattle.std.proofs.Common.{◌-◌, arith, length, get_or, sym, ap}
use Rattle.re_bridge.proofs.MapTests.{all-known, kept-passed, kept-tested}
use Rattle.re_bridge.proofs.mapping.keeps_config.Goals as goal

pub returns-then-last-images : goal.returns-then-last-images
returns-then-last-images c =
    let labels = c.labels-labels.result.now in
    let same = c.labels-labels.ensures.labels in
    sym (kept-passed c.args.constraint.now c.args.images.now c.args.config.now (length labels - 1) (get_or labels (length labels - 1) 0) (omega (arith, ap length same, c.labels-labels.ensures.two))
    (ap (λ l. get_or l (length labels - 1) 0) same) c.labels-labels.ensures.config.ascends c.if-last-images.true c.requires.front)

pub image-requires-clause-known : goal.image-requires-clause-known
image-requires-clause-known c =
    let labels = c.labels-labels.result.now in
    let same = c.labels-labels.ensures.labels in
    all-known c.args.constraint.now c.args.images.now c.args.config.now (length labels - 1) (get_or labels (length labels - 1) 0) (omega (arith, ap length same, c.labels-labels.ensures.two))
    (ap (λ l. get_or l (length labels - 1) 0) same) c.labels-labels.ensures.config.ascends c.if-last-images.false

pub returns : goal.returns
returns c =
    let labels = c.labels-labels.result.now in
    let same = c.labels-labels.ensures.labels in
    kept-tested c.args.constraint.now c.args.images.now c.args.config.now (length labels - 1) (get_or labels (length labels - 1) 0) (omega (arith, ap length same, c.labels-labels.ensures.two))
    (ap (λ l. get_or l (length labels - 1) 0) same) c.labels-labels.ensures.config.ascends c.contains.result c.image.result c.if-last-images.false c.contains.ensures c.image.ensures
