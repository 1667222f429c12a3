use Rattle.std.proofs.Common.{ap, arith, ◌∙◌, eqb, get_or, length}
use Rattle.std.specs.List.{count_by, sum_by}
use Rattle.std.proofs.lemmas.List.Sums.{count_by-le-length, sum_by_more}
use Rattle.re_labels.proofs.Sorting.{take_all}
use Rattle.re_shaping.specs.Colours.{pairs_alike}
use Rattle.re_shaping.proofs.colours.Colours.pairs_alike.Goals as goal

pub overflow_add-pairs : goal.overflow_add-pairs
overflow_add-pairs c =
    let most = count_by-le-length (λ other. eqb other (get_or c.all-all.result.now c.loop-colour.colour-index 0)) c.all-all.result.now in
    omega (arith, most, c.count_of-pairs.ensures, c.loop-colour.invariant.few, c.loop-colour-test.true, ap length c.all-all.ensures.all, c.all-all.ensures.most)

pub loop-colour-preserved : goal.loop-colour-preserved
loop-colour-preserved c =
    let most = count_by-le-length (λ other. eqb other (get_or c.all-all.result.now c.loop-colour.colour-index 0)) c.all-all.result.now in
    let more = sum_by_more (λ colour. count_by (λ other. eqb other colour) c.all-all.result.now) c.all-all.result.now c.loop-colour.colour-index 0 c.loop-colour-test.true in
    record {
      pairs = omega (arith, more, c.count_of-pairs.ensures, c.loop-colour.invariant.pairs);
      few = omega (arith, most, c.count_of-pairs.ensures, c.loop-colour.invariant.few, ap length c.all-all.ensures.all, c.all-all.ensures.most);
    }

pub returns : goal.returns
unfolding pairs_alike
returns c =
    c.loop-colour.invariant.pairs
    ∙ ap (sum_by (λ colour. count_by (λ other. eqb other colour) c.all-all.result.now)) (take_all c.all-all.result.now c.loop-colour.colour-index c.loop-colour-test.false)
    ∙ ap (λ l. sum_by (λ colour. count_by (λ other. eqb other colour) l) l) c.all-all.ensures.all
