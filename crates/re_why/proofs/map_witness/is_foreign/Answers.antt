use Rattle.std.proofs.Common.{ap}
use Rattle.re_problem.specs.Steps.{SetEntry}
use Rattle.re_why.proofs.Occurring.{foreign-test}
use Rattle.re_why.proofs.map_witness.is_foreign.Goals as goal

pub returns : goal.returns
returns c = foreign-test c.args.rows.now c.args.entry.now c.entry.inside.set c.occurs.result (ap (λ (e : SetEntry). e.set) c.entry.view_is) c.occurs.ensures
