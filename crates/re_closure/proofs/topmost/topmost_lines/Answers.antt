use Rattle.std.proofs.Common.{◌≡◌, ◌<◌, Err, length, sym, ap, ◌∙◌, subst, arith}
use Rattle.re_labels.proofs.Tests.{above_zero, eqb-true}
use Rattle.re_closure.proofs.Counting.{counted_begin, counted_full, counted_taken}
use Rattle.re_closure.proofs.Keeping.{err_is, kept_begin, kept_taken, kept_topmost}
use Rattle.re_closure.specs.Kept.{IsAntichain, IsCounted}
use Rattle.re_closure.specs.declared.topmost.LinesFault.TheVariants.{TooManyCombinations, TooManyLines}
use Rattle.re_closure.specs.declared.topmost.TheConstants.{MAX_COMBINATIONS}
use Rattle.re_closure.proofs.topmost.topmost_lines.Goals as goal

pub returns-then-is_empty-clause-topmost : goal.returns-then-is_empty-clause-topmost
returns-then-is_empty-clause-topmost c = λ d count.
    let none : length c.loop-settled.waiting.items ≡ 0 = sym c.loop-settled.waiting.ok.0 ∙ eqb-true c.loop-settled.waiting.len 0 (sym c.is_empty.ensures ∙ c.if-is_empty.true) in
    kept_topmost d c.args.starts.items c.loop-settled.kept.items c.loop-settled.waiting.items none (c.loop-settled.invariant.kept d count)

pub returns-then-is_empty-2-clause-topmost : goal.returns-then-is_empty-2-clause-topmost
returns-then-is_empty-2-clause-topmost c = λ d count.
    let none : length c.loop-settled.waiting.items ≡ 0 = sym c.loop-settled.waiting.ok.0 ∙ eqb-true c.loop-settled.waiting.len 0 (sym c.is_empty-2.ensures ∙ c.if-is_empty-2.true) in
    kept_topmost d c.args.starts.items c.loop-settled.kept.items c.loop-settled.waiting.items none (c.loop-settled.invariant.kept d count)

pub loop-settled-init : goal.loop-settled-init
loop-settled-init c = record {
  kept = λ d count. kept_begin d c.args.starts.items c.new-kept.result.items c.new-kept.ensures.items count;
  few = (let none = ap length c.new-kept.ensures.items in omega (arith, none));
  unrelated = subst IsAntichain (sym c.new-kept.ensures.items) tt;
  counted = λ d count. counted_begin d c.args.starts.items c.new-kept.result.items c.new-kept.ensures.items;
}

pub loop-settled-preserved : goal.loop-settled-preserved
loop-settled-preserved c = record {
  kept = λ d count. c.in_ok-settle.ensures.kept d c.args.starts.items
      (kept_taken d c.args.starts.items c.loop-settled.kept.items c.loop-settled.waiting.items c.take_largest-line.new.waiting.items c.take_largest-line.result c.take_largest-line.ensures.taken (c.loop-settled.invariant.kept d count));
  few = c.in_ok-settle.ensures.few c.loop-settled.invariant.few;
  unrelated = c.in_ok-settle.ensures.unrelated c.loop-settled.invariant.unrelated;
  counted = λ d count. c.in_ok-settle.ensures.counted d c.loop-settled._settled c.args.starts.items
      (kept_taken d c.args.starts.items c.loop-settled.kept.items c.loop-settled.waiting.items c.take_largest-line.new.waiting.items c.take_largest-line.result c.take_largest-line.ensures.taken (c.loop-settled.invariant.kept d count))
      (counted_taken d c.args.starts.items c.loop-settled.kept.items c.loop-settled.waiting.items c.take_largest-line.new.waiting.items c.take_largest-line.result c.loop-settled._settled c.take_largest-line.ensures.count
      (c.loop-settled.invariant.counted d count));
}

pub returns-in_err-settle-clause-many : goal.returns-in_err-settle-clause-many
returns-in_err-settle-clause-many c = λ e d count.
    c.in_err-settle.ensures.many (ap Err (err_is c.from_residual.result c.in_err-settle.field-0.0 TooManyLines c.from_residual.ensures.1 e)) d c.args.starts.items c.loop-settled.invariant.unrelated
    (kept_taken d c.args.starts.items c.loop-settled.kept.items c.loop-settled.waiting.items c.take_largest-line.new.waiting.items c.take_largest-line.result c.take_largest-line.ensures.taken (c.loop-settled.invariant.kept d count))

pub returns-in_err-settle-clause-full : goal.returns-in_err-settle-clause-full
returns-in_err-settle-clause-full c = λ e d count.
    c.in_err-settle.ensures.full (ap Err (err_is c.from_residual.result c.in_err-settle.field-0.0 TooManyCombinations c.from_residual.ensures.1 e)) d c.loop-settled._settled c.args.starts.items
    (kept_taken d c.args.starts.items c.loop-settled.kept.items c.loop-settled.waiting.items c.take_largest-line.new.waiting.items c.take_largest-line.result c.take_largest-line.ensures.taken (c.loop-settled.invariant.kept d count))
    (counted_taken d c.args.starts.items c.loop-settled.kept.items c.loop-settled.waiting.items c.take_largest-line.new.waiting.items c.take_largest-line.result c.loop-settled._settled c.take_largest-line.ensures.count
    (c.loop-settled.invariant.counted d count))

pub returns-clause-full : goal.returns-clause-full
returns-clause-full c = λ e d count.
    let there = above_zero c.loop-settled.waiting.len (sym c.is_empty-2.ensures ∙ c.if-is_empty-2.false) in
    let some : 0 < length c.loop-settled.waiting.items = omega (arith, there, c.loop-settled.waiting.ok.0) in
    let all : c.loop-settled._settled ≡ MAX_COMBINATIONS = omega arith in
    counted_full d c.args.starts.items c.loop-settled.kept.items c.loop-settled.waiting.items some
    (subst (IsCounted d c.args.starts.items c.loop-settled.kept.items c.loop-settled.waiting.items) all (c.loop-settled.invariant.counted d count))
