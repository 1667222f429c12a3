use Rattle.std.proofs.Common.{◌≤◌, List, ℕ, length, map, sym, ap, ◌∙◌, arith}
use Rattle.re_labels.proofs.Sorting.{take_all}
use Rattle.re_labels.specs.Configs.{sorted}
use Rattle.re_labels.proofs.Membership.{length-map'}
use Rattle.re_labels.specs.Lists.{place_of}
use Rattle.re_labels.specs.ListSets.{list_set}
use Rattle.re_step.proofs.ConfigurationLemmas.{configs_step, length-config_of}
use Rattle.re_closure.proofs.constraints.topmost_of.Goals as goal

pub config_of-requires-clause-two : goal.config_of-requires-clause-two
config_of-requires-clause-two c =
    let count = c.requires.family.count c.line-item.result (c.loop-line.line-index, c.loop-line-test.true, sym c.line-item.is) in
    let least = c.requires.family.least in
    omega (arith, count, least)

pub config_of-requires-clause-there : goal.config_of-requires-clause-there
config_of-requires-clause-there c = λ set there. c.requires.family.known c.line-item.result set (c.loop-line.line-index, c.loop-line-test.true, sym c.line-item.is) there

pub insert-requires : goal.insert-requires
insert-requires c =
    length-config_of c.args.sets.now c.line-item.result c.config_of.result c.config_of.ensures
    ∙ c.requires.family.count c.line-item.result (c.loop-line.line-index, c.loop-line-test.true, sym c.line-item.is) ∙ sym c.loop-line.invariant.degree

pub loop-line-preserved : goal.loop-line-preserved
loop-line-preserved c =
    let both = configs_step c.args.sets.now c.args.lines.now c.loop-line.line-index c.line-item.result c.config_of.result c.loop-line.configs.configs c.insert.new.self.configs c.loop-line-test.true c.line-item.is c.config_of.ensures
    c.loop-line.invariant.configs c.loop-line.invariant.few c.in-Ok.ensures.configs in
    record { degree = c.insert.ensures.degree ∙ c.loop-line.invariant.degree; configs = both.0; few = both.1 }

pub returns : goal.returns
returns c =
    let f : List (List ℕ) → List ℕ = λ line. sorted (map (place_of c.args.sets.now) line) in
    let past : length (map f c.args.lines.now) ≤ c.loop-line.line-index = (let n = length-map' f c.args.lines.now in let l = c.loop-line-test.false in omega (arith, n, l)) in
    let all = c.loop-line.invariant.configs ∙ ap list_set (take_all (map f c.args.lines.now) c.loop-line.line-index past) in
    (λ i. record { degree = c.loop-line.invariant.degree i; configs = all i })
