use Rattle.std.proofs.Common.{◌+◌, refl}
use Rattle.re_settle.proofs.GivenTogether.{beyond_settled, bounds_settled}
use Rattle.re_settle.proofs.settling_given.together.Goals as goal

pub returns-then-tells_passive : goal.returns-then-tells_passive
returns-then-tells_passive c =
    beyond_settled c.args.times c.args.problem.now c.args.input.now (c.args.few.rounds + 1) c.args.few c.args.most c.names-names.ensures.problem.problem c.requires.input
    (c.tells_passive.ensures.0 c.if-tells_passive.true) refl c.requires.few c.requires.most

pub returns-else-few-lt255 : goal.returns-else-few-lt255
returns-else-few-lt255 c = bounds_settled c.args.times c.args.problem.now c.args.input.now c.args.few c.args.most c.requires.few c.requires.most
