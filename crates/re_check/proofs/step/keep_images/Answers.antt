use Rattle.re_check.proofs.StepTests.{images-below, images-test}
use Rattle.re_check.proofs.step.keep_images.Goals as goal

pub returns-clause-test : goal.returns-clause-test
returns-clause-test c = images-test c.args.active.now c.args.images.now c.keeps_images.result c.keeps_images.ensures

pub returns-clause-below : goal.returns-clause-below
returns-clause-below c = images-below c.args.active.now c.args.images.now c.keeps_images.result c.degree-degree.ensures.constraint c.keeps_images.ensures
