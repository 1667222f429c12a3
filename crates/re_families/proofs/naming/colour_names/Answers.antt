use Rattle.std.proofs.Common.{◌≡◌, arith}
use Rattle.re_families.specs.Families.{colour_name}
use Rattle.re_families.proofs.ColourNames.{name_put, names_done, names_short}
use Rattle.re_families.proofs.naming.colour_names.Goals as goal

pub put_colour-requires-clause-room : goal.put_colour-requires-clause-room
put_colour-requires-clause-room c = omega (arith, names_short (colour_name c.args.colours) c.loop-before.before c.loop-before.names c.loop-before.invariant)

pub loop-before-preserved : goal.loop-before-preserved
loop-before-preserved c = name_put (colour_name c.args.colours) c.loop-before.before c.loop-before.names c.put_colour.new.names c.loop-before.invariant c.in_ok-put_colour.ensures

pub returns : goal.returns
returns c =
    let all : c.loop-before.before ≡ c.args.colours = omega arith in
    names_done c.args.colours c.loop-before.before c.loop-before.names c.requires all c.loop-before.invariant
