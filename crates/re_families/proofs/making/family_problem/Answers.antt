use Rattle.std.proofs.Common.{◌≡◌, Err, None, Some, ap, sym, ◌∙◌}
use Rattle.re_families.specs.Families.{out_of_range}
use Rattle.re_families.proofs.making.family_problem.Goals as goal

pub unreachable-requires : goal.unreachable-requires
unreachable-requires c =
    let there : out_of_range c.args.kind c.args.active c.args.passive c.args.number ≡ Some c.in-Err-OutOfRange.field-0-0 =
    (c.family.ensures.range c.in-Err-OutOfRange.field-0-0).0 (c.in-Err-OutOfRange.is ∙ ap (λ f. Err f) c.in-Err-OutOfRange.field-0-is) in
    let wrong : Some c.in-Err-OutOfRange.field-0-0 ≡ None = sym there ∙ c.requires in
    cc
