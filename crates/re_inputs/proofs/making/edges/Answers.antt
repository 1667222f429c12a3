use Rattle.std.proofs.Common.{◌≡◌, arith, sym, subst, None}
use Rattle.re_families.specs.Families.{out_of_range}
use Rattle.re_families.specs.declared.types.Family.TheVariants as family
use Rattle.re_inputs.proofs.NamedProofs.{colouring_in, degrees_of, edge_range}
use Rattle.re_inputs.specs.NamedInputs.{edge_colours}
use Rattle.re_inputs.specs.declared.kinds.InputKind.TheVariants.{Edges}
use Rattle.re_inputs.proofs.making.edges.Goals as goal
use Rattle.re_families.proofs.Whole.{degree_range}

pub family_problem-requires : goal.family_problem-requires
family_problem-requires c =
    let degrees = degrees_of Edges c.args.active c.args.passive c.args.number c.requires in
    let range = degree_range c.args.active degrees.active in
    let colours = edge_range c.args.active c.args.passive c.args.number c.requires in
    let least = colours.0 in
    subst (λ n. out_of_range family.Colouring c.args.passive c.args.active n ≡ None) (sym c.edge_colours-colours.ensures)
    (colouring_in c.args.passive c.args.active (edge_colours c.args.active c.args.number) degrees.passive degrees.active (omega (arith, range.0, least)) colours.1)
