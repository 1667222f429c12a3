use Rattle.std.proofs.Common.{ℕ, List, arith, below_more}
use Rattle.re_search.proofs.WaysBack.{first-way, no-way, way-none, way-some}
use Rattle.re_search.proofs.returning.way_back.Goals as goal

pub returns-in-Some : goal.returns-in-Some
returns-in-Some c left =
    let way : ℕ × List ℕ = (c.loop-number.number, c.in-Some.images.items) in
    first-way c.args.first.now c.args.path.now left c.loop-number.number way (let l = c.loop-number-test.true in omega arith)
    (way-some c.args.first.now c.args.path.now left c.loop-number.number c.end_of-problem.result.now c.problem_behind.result.now c.in-Some.images.items c.end_of-problem.ensures c.problem_behind.ensures c.in-Some.ensures)
    (c.loop-number.invariant left)

pub loop-number-preserved : goal.loop-number-preserved
loop-number-preserved c left = below_more _ _ (c.loop-number.invariant left)
    (way-none c.args.first.now c.args.path.now left c.loop-number.number c.end_of-problem.result.now c.problem_behind.result.now c.end_of-problem.ensures c.problem_behind.ensures c.in-None.ensures)

pub returns : goal.returns
returns c left =
    no-way c.args.first.now c.args.path.now left (λ j l. c.loop-number.invariant left j (let m = c.loop-number-test.false in omega arith))
