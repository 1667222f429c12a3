use Rattle.std.proofs.Common.{◌≡◌, ◌+◌, ◌-◌, ◌<◌, suc, ap, arith, ◌∙◌, sym, subst, length, None}
use Rattle.std.specs.List.{sum_by}
use Rattle.re_labels.specs.Lists.{count_from}
use Rattle.re_labels.specs.declared.TheConstants.{MAX_LABELS}
use Rattle.re_shaping.specs.Answers.{KeepsColours}
use Rattle.re_shaping.specs.Colours.{refined, with_single}
use Rattle.re_shaping.specs.Tries.{first_shared, tries_for, tries_of}
use Rattle.re_shaping.proofs.Answering.{NoneBelow, ended, marked, passed, tried}
use Rattle.re_shaping.proofs.Trying.{apart_tries, deep_tries, few_left, marked_tries, none_left, other_tries, passed_by, same_tries, shared_tries, takes_none, tried_all}
use Rattle.re_shaping.proofs.finding.+renaming_by.Goals as goal

pub returns-then-mark-clause-answer : goal.returns-then-mark-clause-answer
returns-then-mark-clause-answer t c =
    marked c.args.from.now c.args.to.now c.requires.from c.requires.to c.args.colours.now c.args.others.now (λ e. c.if-mark.true (c.mark.ensures ∙ e ∙ sym c.mark-2.ensures))

pub returns-then-mark-clause-tries : goal.returns-then-mark-clause-tries
returns-then-mark-clause-tries t c =
    let none = marked_tries c.args.left c.args.from.now c.args.to.now c.args.colours.now c.args.others.now (λ e. c.if-mark.true (c.mark.ensures ∙ e ∙ sym c.mark-2.ensures)) in
    omega (arith, none)

pub returns-in_default-clause-tries : goal.returns-in_default-clause-tries
returns-in_default-clause-tries t c =
    let none : None ≡ first_shared c.args.colours.now = cc (c.in_default.is, c.in_default.ensures.first, c.first_shared.ensures.first) in
    takes_none c.args.tries.now (tries_of c.args.left c.args.from.now c.args.to.now c.args.colours.now c.args.others.now) c.renaming_of.result
    (apart_tries c.args.left c.args.from.now c.args.to.now c.args.colours.now c.args.others.now none) c.renaming_of.ensures.settled

pub returns-then-left-eq0-clause-tries : goal.returns-then-left-eq0-clause-tries
returns-then-left-eq0-clause-tries t c =
    let from = c.args.from.now in
    let to = c.args.to.now in
    let colours = c.args.colours.now in
    let others = c.args.others.now in
    let single = c.in-Some.single in
    let same = sym c.mark.ensures ∙ c.if-mark.false ∙ c.mark-2.ensures in
    let whole = deep_tries c.args.left single from to colours others c.if-left-eq0.true same c.in-Some.ensures.first in
    omega (arith, whole, c.requires.few)

pub returns-then-tries-eq0-clause-tries : goal.returns-then-tries-eq0-clause-tries
returns-then-tries-eq0-clause-tries t c =
    let from = c.args.from.now in
    let to = c.args.to.now in
    let colours = c.args.colours.now in
    let others = c.args.others.now in
    let single = c.in-Some.single in
    let same = sym c.mark.ensures ∙ c.if-mark.false ∙ c.mark-2.ensures in
    let more : c.args.left ≡ suc (c.args.left - 1) = omega (arith, c.if-left-eq0.false) in
    let f = tries_for (tries_of (c.args.left - 1) from to) from to colours others single in
    let whole = shared_tries c.args.left (c.args.left - 1) single from to colours others more same c.in-Some.ensures.first in
    let below : c.loop-label.label < length c.args.others.now = omega (arith, ap length c.all.ensures.all, c.all.ensures.most) in
    let equal = sym c.of.ensures ∙ c.if-of-colour.false ∙ c.of-colour.ensures in
    subst (λ n. c.args.tries.now < n) (sym whole)
    (none_left f c.args.tries.now c.loop-label.tries _ c.loop-label.label (length others) c.loop-label.invariant.tries c.if-tries-eq0.true below
    (same_tries (c.args.left - 1) from to colours others single c.loop-label.label equal))

pub returns-in-TooMany-clause-tries : goal.returns-in-TooMany-clause-tries
returns-in-TooMany-clause-tries t c =
    let from = c.args.from.now in
    let to = c.args.to.now in
    let colours = c.args.colours.now in
    let others = c.args.others.now in
    let single = c.in-Some.single in
    let same = sym c.mark.ensures ∙ c.if-mark.false ∙ c.mark-2.ensures in
    let more : c.args.left ≡ suc (c.args.left - 1) = omega (arith, c.if-left-eq0.false) in
    let f = tries_for (tries_of (c.args.left - 1) from to) from to colours others single in
    let whole = shared_tries c.args.left (c.args.left - 1) single from to colours others more same c.in-Some.ensures.first in
    let below : c.loop-label.label < length c.args.others.now = omega (arith, ap length c.all.ensures.all, c.all.ensures.most) in
    let own = c.refined-refined.ensures ∙ ap (refined MAX_LABELS from) c.with_single.ensures in
    let next = c.refined-next.ensures ∙ ap (refined MAX_LABELS to) c.with_single-in-loop-label.ensures in
    let equal = sym c.of.ensures ∙ c.if-of-colour.false ∙ c.of-colour.ensures in
    let is : tries_for (tries_of (c.args.left - 1) from to) from to colours others single c.loop-label.label ≡ suc (tries_of (c.args.left - 1) from to c.refined-refined.result c.refined-next.result) =
    same_tries (c.args.left - 1) from to colours others single c.loop-label.label equal ∙ (λ i. suc (tries_of (c.args.left - 1) from to (sym own i) (sym next i))) in
    subst (λ n. c.args.tries.now < n) (sym whole)
    (few_left f c.args.tries.now c.loop-label.tries (tries_of (c.args.left - 1) from to c.refined-refined.result c.refined-next.result) c.loop-label.label (length others) c.loop-label.invariant.tries
    c.in-TooMany.ensures.tries below is)

pub loop-label-init : goal.loop-label-init
loop-label-init t c = record { none = λ images renaming keeps below. omega (arith, below); tries = omega arith }

pub loop-label-preserved : goal.loop-label-preserved
loop-label-preserved t c =
    let from = c.args.from.now in
    let to = c.args.to.now in
    let colours = c.args.colours.now in
    let others = c.args.others.now in
    let single = c.in-Some.single in
    let own = c.refined-refined.ensures ∙ ap (refined MAX_LABELS from) c.with_single.ensures in
    let next = c.refined-next.ensures ∙ ap (refined MAX_LABELS to) c.with_single-in-loop-label.ensures in
    let equal = sym c.of.ensures ∙ c.if-of-colour.false ∙ c.of-colour.ensures in
    let is : tries_for (tries_of (c.args.left - 1) from to) from to colours others single c.loop-label.label ≡ suc (tries_of (c.args.left - 1) from to c.refined-refined.result c.refined-next.result) =
    same_tries (c.args.left - 1) from to colours others single c.loop-label.label equal ∙ (λ i. suc (tries_of (c.args.left - 1) from to (sym own i) (sym next i))) in
    let f = tries_for (tries_of (c.args.left - 1) from to) from to colours others single in
    record {
      none = tried from to c.requires.from c.requires.to colours others single c.loop-label.label c.in-Some.ensures.some c.loop-label.invariant.none
          (λ images renaming keeps. c.in-Missing.ensures.answer images renaming
          (subst (λ x. KeepsColours from to x c.refined-next.result images) (sym own) (subst (λ x. KeepsColours from to (refined MAX_LABELS from (with_single colours single)) x images) (sym next) keeps)));
      tries = tried_all f c.args.tries.now c.loop-label.tries c.renaming_by.new.tries (tries_of (c.args.left - 1) from to c.refined-refined.result c.refined-next.result) c.loop-label.label
          c.loop-label.invariant.tries c.if-tries-eq0.false c.in-Missing.ensures.tries is;
    }

pub loop-label-preserved-then-of-colour : goal.loop-label-preserved-then-of-colour
loop-label-preserved-then-of-colour t c =
    let from = c.args.from.now in
    let to = c.args.to.now in
    let colours = c.args.colours.now in
    let others = c.args.others.now in
    let single = c.in-Some.single in
    let f = tries_for (tries_of (c.args.left - 1) from to) from to colours others single in
    record {
      none = passed from to c.requires.from c.requires.to colours others single c.loop-label.label c.in-Some.ensures.some c.loop-label.invariant.none
          (λ e. c.if-of-colour.true (c.of.ensures ∙ e ∙ sym c.of-colour.ensures));
      tries = passed_by f c.args.tries.now c.loop-label.tries c.loop-label.label c.loop-label.invariant.tries
          (other_tries (c.args.left - 1) from to colours others single c.loop-label.label (λ e. c.if-of-colour.true (c.of.ensures ∙ e ∙ sym c.of-colour.ensures)));
    }

pub returns-clause-answer : goal.returns-clause-answer
returns-clause-answer t c =
    let e : c.loop-label.label ≡ length c.args.others.now = omega (arith, ap length c.all.ensures.all, c.all.ensures.most) in
    ended c.args.from.now c.args.to.now c.requires.from c.requires.to c.args.colours.now c.args.others.now c.in-Some.single c.in-Some.ensures.some
    (subst (NoneBelow c.args.from.now c.args.to.now c.args.colours.now c.args.others.now c.in-Some.single) e c.loop-label.invariant.none)

pub returns-clause-tries : goal.returns-clause-tries
returns-clause-tries t c =
    let from = c.args.from.now in
    let to = c.args.to.now in
    let colours = c.args.colours.now in
    let others = c.args.others.now in
    let single = c.in-Some.single in
    let same = sym c.mark.ensures ∙ c.if-mark.false ∙ c.mark-2.ensures in
    let more : c.args.left ≡ suc (c.args.left - 1) = omega (arith, c.if-left-eq0.false) in
    let f = tries_for (tries_of (c.args.left - 1) from to) from to colours others single in
    let whole = shared_tries c.args.left (c.args.left - 1) single from to colours others more same c.in-Some.ensures.first in
    let e : c.loop-label.label ≡ length c.args.others.now = omega (arith, ap length c.all.ensures.all, c.all.ensures.most) in
    c.loop-label.invariant.tries
    ∙ ap (λ n. c.loop-label.tries + sum_by (tries_for (tries_of (c.args.left - 1) from to) from to colours others single) (count_from 0 n)) e
    ∙ ap (λ w. c.loop-label.tries + w) (sym whole)
