use Rattle.std.proofs.Common.{◌≡◌, ◌∙◌, ◌<◌, [], arith, get_or, length, sym}
use Rattle.re_labels.specs.declared.TheConstants.{MAX_LABELS}
use Rattle.re_labels.proofs.Placing.{read_at}
use Rattle.re_flexible.proofs.Building.{new_in, related_low, within_more}
use Rattle.re_flexible.proofs.tables.is_within.Goals as goal

pub returns-then-not-within : goal.returns-then-not-within
returns-then-not-within c =
    let low : c.loop-label.label < length c.args.first.now = (let below = c.loop-label-test.true in let same = c.requires.first in omega (arith, below, same)) in
    let under : c.loop-label.label < length c.args.second.now = (let below = c.loop-label-test.true in let same = c.requires.second in omega (arith, below, same)) in
    let one : c.index-first-label.result ≡ get_or c.args.first.now c.loop-label.label [] = read_at c.args.first.now c.loop-label.label c.index-first-label.result low c.index-first-label.is in
    let other : c.index-second-label.result ≡ get_or c.args.second.now c.loop-label.label [] = read_at c.args.second.now c.loop-label.label c.index-second-label.result under c.index-second-label.is in
    new_in MAX_LABELS c.args.first.now c.args.second.now c.loop-label.label c.index-first-label.result c.index-second-label.result c.loop-label-test.true c.count-count.ensures.set one other (sym c.within.ensures ∙ c.if-not-within.true)

pub loop-label-preserved : goal.loop-label-preserved
loop-label-preserved c =
    let low : c.loop-label.label < length c.args.first.now = (let below = c.loop-label-test.true in let same = c.requires.first in omega (arith, below, same)) in
    let under : c.loop-label.label < length c.args.second.now = (let below = c.loop-label-test.true in let same = c.requires.second in omega (arith, below, same)) in
    let one : c.index-first-label.result ≡ get_or c.args.first.now c.loop-label.label [] = read_at c.args.first.now c.loop-label.label c.index-first-label.result low c.index-first-label.is in
    let other : c.index-second-label.result ≡ get_or c.args.second.now c.loop-label.label [] = read_at c.args.second.now c.loop-label.label c.index-second-label.result under c.index-second-label.is in
    within_more c.args.first.now c.args.second.now c.loop-label.label c.index-first-label.result c.index-second-label.result c.loop-label.invariant one other (sym c.within.ensures ∙ c.if-not-within.false)

pub returns : goal.returns
returns c = λ x y held. c.loop-label.invariant x y
    (let low : x < length c.args.first.now = related_low c.args.first.now x y held in let past = c.loop-label-test.false in let same = c.requires.first in omega (arith, low, past, same)) held
