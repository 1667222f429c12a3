use Rattle.std.proofs.Common.{◌∙◌, ap, refl, true, Some}
use Rattle.re_cert.specs.Bounds.{map_of}
use Rattle.re_why.proofs.Dispatch.{before-L5, few-rows, map-below, map-fits, rows-fit, sets-before}
use Rattle.re_why.proofs.finding.lower_witness.Goals as goal
use Rattle.re_check.proofs.StepMeaning.{exchanged-degrees}

pub wrong_rows-requires-clause-fits : goal.wrong_rows-requires-clause-fits
wrong_rows-requires-clause-fits c = rows-fit c.requires.fits.0 c.args.before.now (record { lower = true; next = c.args.next.now; rows = c.args.rows.now; map = map_of c.args.map.now }) c.requires.fits.1

pub wrong_rows-requires-clause-few : goal.wrong_rows-requires-clause-few
wrong_rows-requires-clause-few c = few-rows c.requires.fits.0 c.args.before.now c.args.next.now c.args.rows.now (map_of c.args.map.now) c.requires.fits.1

pub lost_images-requires-clause-sets : goal.lost_images-requires-clause-sets
lost_images-requires-clause-sets c = sets-before c.requires.fits.0 c.args.before.now c.args.next.now c.args.rows.now (map_of c.args.map.now) (c.requires.fault ∙ ap Some c.in-L4.is)

pub lost_images-requires-clause-below : goal.lost_images-requires-clause-below
lost_images-requires-clause-below c = map-below c.args.before.now c.args.next.now (map_of c.args.map.now) c.names-names.ensures.problem.names.few (map-fits c.requires.fits.0 c.args.before.now (record { lower = true; next = c.args.next.now; rows = c.args.rows.now; map = map_of c.args.map.now }) c.requires.fits.1)

pub lost_images-requires-clause-few : goal.lost_images-requires-clause-few
lost_images-requires-clause-few c = few-rows c.requires.fits.0 c.args.before.now c.args.next.now c.args.rows.now (map_of c.args.map.now) c.requires.fits.1

pub lost_choices-requires-clause-degree : goal.lost_choices-requires-clause-degree
lost_choices-requires-clause-degree c = (exchanged-degrees c.args.before.now c.args.next.now (before-L5 c.args.before.now (record { lower = true; next = c.args.next.now; rows = c.args.rows.now; map = map_of c.args.map.now }) refl (c.requires.fault ∙ ap Some c.in-L5.is)).0).1

pub lost_choices-requires-clause-below : goal.lost_choices-requires-clause-below
lost_choices-requires-clause-below c = map-below c.args.before.now c.args.next.now (map_of c.args.map.now) c.names-names.ensures.problem.names.few (map-fits c.requires.fits.0 c.args.before.now (record { lower = true; next = c.args.next.now; rows = c.args.rows.now; map = map_of c.args.map.now }) c.requires.fits.1)
