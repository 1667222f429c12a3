use Rattle.std.proofs.Common.{rules, ◌+◌, ◌≡◌, ◌≤◌, arith, length, ℕ, List, take, false, subst, sym, ◌∙◌}
use Rattle.std.specs.Prelude.{Contains, ◌↔◌}
use Rattle.std.proofs.lemmas.Bool.{false≢true}
use Rattle.re_labels.specs.Rows.{Dominates}
use Rattle.re_closure.proofs.Keeping.{left_all, left_antichain, left_in, left_out}
use Rattle.re_closure.proofs.Counting.{pushed_length}
use Rattle.re_closure.specs.Kept.{IsAntichain}
use Rattle.re_closure.proofs.topmost.not_below.Goals.{then-not-dominates+in_ok-push, else-not-dominates}
use Rattle.re_closure.proofs.topmost.not_below.Goals as goal

pub loop-line-preserved : goal.loop-line-preserved
loop-line-preserved c = elim c.if-not-dominates.branch [
  | then-not-dominates+in_ok-push w ↦ record {
    left = subst (λ v. (line : List (List ℕ)) → Contains v.items line ↔ (Contains (take (c.loop-line.line-index + 1) c.args.lines.now) line × (Dominates c.args.top.now line → ⊥))) (sym w.left-is)
        (left_in c.args.top.now c.args.lines.now c.loop-line.left.items c.loop-line.line-index c.line-item.result c.loop-line-test.true c.line-item.is c.loop-line.invariant.left _ w.copy.result
        (let free : c.dominates.result ≡ false = search (w.if-not-dominates, rules) in λ dom. false≢true (sym free ∙ c.dominates.ensures.1 dom)) w.copy.ensures w.in_ok-push.ensures.items);
    unrelated = subst (λ v. IsAntichain c.args.lines.now → IsAntichain v.items) (sym w.left-is)
        (λ chain. left_antichain c.args.top.now c.args.lines.now c.loop-line.left.items c.loop-line.line-index c.line-item.result c.loop-line-test.true c.line-item.is c.loop-line.invariant.left _ w.copy.result
        w.copy.ensures w.in_ok-push.ensures.items chain (c.loop-line.invariant.unrelated chain));
    few = subst (λ v. length v.items ≤ c.loop-line.line-index + 1) (sym w.left-is)
        (let h = c.loop-line.invariant.few in let k = pushed_length c.loop-line.left.items _ w.copy.result w.in_ok-push.ensures.items in omega (arith, h, k));
  }
  | else-not-dominates w ↦ record {
    left = subst (λ v. (line : List (List ℕ)) → Contains v.items line ↔ (Contains (take (c.loop-line.line-index + 1) c.args.lines.now) line × (Dominates c.args.top.now line → ⊥))) (sym w.left-is)
        (left_out c.args.top.now c.args.lines.now c.loop-line.left.items c.loop-line.line-index c.line-item.result c.loop-line-test.true c.line-item.is c.loop-line.invariant.left (c.dominates.ensures.0 (search (w.if-not-dominates, rules))));
    unrelated = subst (λ v. IsAntichain c.args.lines.now → IsAntichain v.items) (sym w.left-is) c.loop-line.invariant.unrelated;
    few = subst (λ v. length v.items ≤ c.loop-line.line-index + 1) (sym w.left-is) (let h = c.loop-line.invariant.few in omega (arith, h));
  }
]

pub returns-clause-left : goal.returns-clause-left
returns-clause-left c = left_all c.args.top.now c.args.lines.now c.loop-line.left.items c.loop-line.line-index c.loop-line-test.false c.loop-line.invariant.left
