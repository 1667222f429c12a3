use Rattle.std.proofs.Common.{◌≡◌, ◌<◌, Bool, List, ℕ, ap, arith, eqb, get_or, length, not, sym, ◌∙◌}
use Rattle.re_problem.specs.NamedProblems.{NamedProblem, unnamed}
use Rattle.re_changes.proofs.Counted.{below_more, find-first, find-none, length-map_counted}
use Rattle.re_changes.proofs.Alike.{read-counted}
use Rattle.re_changes.proofs.TrimmedProblems.{covered-tells}
use Rattle.re_changes.specs.Trimming.{is_covered}
use Rattle.re_labels.specs.Lists.{count_from}
use Rattle.re_labels.specs.Sets.{meet, without_label}
use Rattle.re_labels.specs.Strength.{up_set}
use Rattle.std.specs.Prelude.{map}
use Rattle.re_changes.proofs.trimming.first_covered.Goals as goal

-- whether the label is covered, by what was read
covered-read : (named : NamedProblem) (label : ℕ) (sets : List (List ℕ)) (set others : List ℕ) (empty : Bool)
    → sets ≡ map (λ a. meet (up_set named.active a (length named.names)) (up_set named.passive a (length named.names))) (count_from 0 (length named.names)) → label < length named.names
    → set ≡ get_or sets label set → others ≡ without_label set label → empty ≡ eqb (length others) 0 → not empty ≡ is_covered (unnamed named) label
covered-read named label sets set others empty e below read rest is =
    covered-tells (unnamed named) label set others empty
    (read-counted (λ a. meet (up_set named.active a (length named.names)) (up_set named.passive a (length named.names))) (length named.names) label sets set e below read) rest is

pub bounds-covers-label : goal.bounds-covers-label
bounds-covers-label c =
    let n = c.len-label-end.ensures.len ∙ ap length c.names.ensures.names in
    let e = ap length c.requires
    ∙ length-map_counted (λ a. meet (up_set c.args.problem.now.active a (length c.args.problem.now.names)) (up_set c.args.problem.now.passive a (length c.args.problem.now.names))) (length c.args.problem.now.names) in
    let below = c.loop-label-test.true in omega (arith, e, n, below)

pub loop-label-preserved : goal.loop-label-preserved
loop-label-preserved c =
    let below : c.loop-label.label < length c.args.problem.now.names = omega (arith, c.len-label-end.ensures.len, ap length c.names.ensures.names, c.loop-label-test.true) in
    below_more (is_covered (unnamed c.args.problem.now)) c.loop-label.label c.loop-label.invariant
    (sym (covered-read c.args.problem.now c.loop-label.label c.args.covers.now c.index-covers-label.result c.remove.result c.is_empty.result c.requires below
    c.index-covers-label.is c.remove.ensures c.is_empty.ensures) ∙ ap not c.if-not-is_empty.false)

pub returns-then-not-is_empty : goal.returns-then-not-is_empty
returns-then-not-is_empty c =
    let below : c.loop-label.label < length c.args.problem.now.names = omega (arith, c.len-label-end.ensures.len, ap length c.names.ensures.names, c.loop-label-test.true) in
    sym (find-first (is_covered (unnamed c.args.problem.now)) (length c.args.problem.now.names) c.loop-label.label below
    (sym (covered-read c.args.problem.now c.loop-label.label c.args.covers.now c.index-covers-label.result c.remove.result c.is_empty.result c.requires below
    c.index-covers-label.is c.remove.ensures c.is_empty.ensures) ∙ ap not c.if-not-is_empty.true) c.loop-label.invariant)

pub returns : goal.returns
returns c =
    sym (find-none (is_covered (unnamed c.args.problem.now)) (length c.args.problem.now.names)
    (λ k l. c.loop-label.invariant k (omega (arith, c.len-label-end.ensures.len, ap length c.names.ensures.names, c.loop-label-test.false))))
