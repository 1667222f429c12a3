use Rattle.std.proofs.Common.{◌≤◌, ◌*◌, ◌^◌, ◌-◌, ◌∙◌, refl, sym, ap, arith}
use Rattle.std.proofs.Math.Nat.{one-le-mul}
use Rattle.re_algo.proofs.CountCode.{branches_past, some_branch, trees_counted}
use Rattle.re_algo.specs.Counting.{listed}
use Rattle.re_algo.proofs.counting.+tree_count.Goals as goal

pub returns-in_err-branches : goal.returns-in_err-branches
returns-in_err-branches t c =
    c.from_residual.ensures ∙ branches_past c.args.own c.args.other c.args.depth c.args.ports (let l = c.requires.own in omega arith) (let l = c.requires.other in omega arith) c.requires.ports c.if-depth-eq0.false
    (sym c.in_err-branches.was ∙ c.tree_count.ensures)

pub power-requires-clause-base : goal.power-requires-clause-base
power-requires-clause-base t c =
    let some : 1 ≤ c.in_ok-branches.branches = some_branch c.args.other c.args.own (c.args.depth - 1) (c.args.other - 1) c.in_ok-branches.branches (let l = c.requires.other in omega arith) (let l = c.requires.own in omega arith) (sym c.in_ok-branches.was ∙ c.tree_count.ensures) in
    rw (c.from.ensures, c.from-2.ensures) (one-le-mul some (let l = c.requires.other in omega arith))

pub returns : goal.returns
returns t c =
    c.power.ensures ∙ (ap (λ n. listed ((n * c.from-2.result) ^ c.args.ports)) c.from.ensures ∙ (ap (λ n. listed ((c.in_ok-branches.branches * n) ^ c.args.ports)) c.from-2.ensures
    ∙ trees_counted c.args.own c.args.other c.args.depth c.args.ports c.in_ok-branches.branches (c.args.other - 1) c.if-depth-eq0.false refl (sym c.in_ok-branches.was ∙ c.tree_count.ensures)))
