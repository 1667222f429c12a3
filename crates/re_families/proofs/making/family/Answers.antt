use Rattle.std.proofs.Common.{◌≡◌, ◌≤◌, ◌∙◌, ap, sym, arith, length, None}
use Rattle.re_families.proofs.Whole.{few_names, in_range, problem_made}
use Rattle.re_families.specs.Families.{rules_of}
use Rattle.re_families.proofs.making.family.Goals as goal

pub constraint_of-requires-clause-labels : goal.constraint_of-requires-clause-labels
constraint_of-requires-clause-labels c =
    let none : c.out_of_range.result ≡ None = c.in_default.is in
    let is = in_range c.args.kind c.args.active c.args.passive c.args.number (sym c.out_of_range.ensures ∙ none) in
    let few : length c.in_ok-names.names ≤ 16 = rw c.in_ok-names.ensures (few_names c.args.kind c.args.number is.number_most) in
    omega (arith, few, c.len-labels.ensures.len)

pub constraint_of-requires-2-clause-labels : goal.constraint_of-requires-2-clause-labels
constraint_of-requires-2-clause-labels c =
    let none : c.out_of_range.result ≡ None = c.in_default.is in
    let is = in_range c.args.kind c.args.active c.args.passive c.args.number (sym c.out_of_range.ensures ∙ none) in
    let few : length c.in_ok-names.names ≤ 16 = rw c.in_ok-names.ensures (few_names c.args.kind c.args.number is.number_most) in
    omega (arith, few, c.len-labels.ensures.len)

pub unreachable-requires : goal.unreachable-requires
unreachable-requires c =
    let none : c.out_of_range.result ≡ None = c.in_default.is in
    let is = in_range c.args.kind c.args.active c.args.passive c.args.number (sym c.out_of_range.ensures ∙ none) in
    let labels : length (rules_of c.args.kind c.args.number).names ≡ c.len-labels.result = sym (c.len-labels.ensures.len ∙ ap length c.in_ok-names.ensures) in
    let whole = problem_made c.args.kind c.args.number c.args.active c.args.passive c.in_ok-names.names c.in_ok-active.active c.in_ok-passive.passive is c.in_ok-names.ensures (c.in_ok-active.ensures c.args.number labels) (c.in_ok-passive.ensures c.args.number labels) in
    absurd (cc (whole, c.in-None.is, c.build.ensures))

pub returns-clause-problem : goal.returns-clause-problem
returns-clause-problem c =
    let none : c.out_of_range.result ≡ None = c.in_default.is in
    let is = in_range c.args.kind c.args.active c.args.passive c.args.number (sym c.out_of_range.ensures ∙ none) in
    let labels : length (rules_of c.args.kind c.args.number).names ≡ c.len-labels.result = sym (c.len-labels.ensures.len ∙ ap length c.in_ok-names.ensures) in
    let whole = problem_made c.args.kind c.args.number c.args.active c.args.passive c.in_ok-names.names c.in_ok-active.active c.in_ok-passive.passive is c.in_ok-names.ensures (c.in_ok-active.ensures c.args.number labels) (c.in_ok-passive.ensures c.args.number labels) in
    cc (whole, c.in-Some-build.is, c.build.ensures)
