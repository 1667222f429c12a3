use Rattle.std.proofs.Common.{ap, arith, length, sym}
use Rattle.re_inputs.proofs.ProductNames.{few_names, not_own}
use Rattle.re_inputs.specs.NamedProducts.{is_nameless, pair_count}
use Rattle.re_problem.proofs.FirstFound.{label-here, label-none}
use Rattle.re_inputs.proofs.products.put_names.Goals as goal

pub put_name-requires-clause-few : goal.put_name-requires-clause-few
put_name-requires-clause-few c = omega (arith, ap length c.loop-pair.invariant.names, few_names c.args.problem.now c.args.input.now c.loop-pair.pair, c.loop-pair-test.true, c.requires.few)

pub returns-then-not-branch-clause-nameless : goal.returns-then-not-branch-clause-nameless
returns-then-not-branch-clause-nameless c =
    sym (label-here (is_nameless c.args.problem.now c.args.input.now) (pair_count c.args.problem.now c.args.input.now) c.loop-pair.pair (omega (arith, c.loop-pair-test.true, c.requires.count)) c.loop-pair.invariant.before
    (not_own c.args.problem.now c.args.input.now c.loop-pair.pair c.in_ok-put_name.field-0 c.in_ok-put_name.ensures.own c.if-not-branch.true))

pub returns-clause-nameless : goal.returns-clause-nameless
returns-clause-nameless c =
    sym (label-none (is_nameless c.args.problem.now c.args.input.now) (pair_count c.args.problem.now c.args.input.now) (λ k l. c.loop-pair.invariant.before k (omega (arith, l, c.loop-pair-test.false, c.requires.count))))
