use Rattle.std.proofs.Common.{◌∙◌, sym, arith}
use Rattle.re_boxes.proofs.Grown.{lacks_law}
use Rattle.re_labels.proofs.Membership.{AllByRecursion-weaker}
use Rattle.re_labels.proofs.Tests.{not_told}
use Rattle.re_labels.specs.Sets.{IsLabelSet}
use Rattle.re_boxes.proofs.RowsOfSets.{AreSets-more}
use Rattle.re_check.proofs.covering.ListedKeeper.settle.Goals as goal

pub is_dominated-requires-clause-two : goal.is_dominated-requires-clause-two
is_dominated-requires-clause-two c = let count = c.requires.good.count in omega (arith, count, c.degree-degree.ensures.constraint.least)

pub is_dominated-requires-clause-six : goal.is_dominated-requires-clause-six
is_dominated-requires-clause-six c = let count = c.requires.good.count in omega (arith, count, c.degree-degree.ensures.constraint.most)

pub is_dominated-requires-clause-sets : goal.is_dominated-requires-clause-sets
is_dominated-requires-clause-sets c = AreSets-more c.args._strength.now.labels 128 c.args._strength.now.few c.args.sets.now c.requires.sets

pub is_dominated-requires-clause-alike : goal.is_dominated-requires-clause-alike
is_dominated-requires-clause-alike c = λ row held. c.requires.serves row held ∙ sym c.requires.good.count

pub returns-clause-refused : goal.returns-clause-refused
returns-clause-refused c =
    lacks_law c.args.constraint.now c.args._strength.now.labels c.args.self.now.rows.now c.args.sets.now c.requires.good
    (AllByRecursion-weaker _ (IsLabelSet c.args._strength.now.labels) (λ s a. a.0) c.args.sets.now c.requires.sets)
    (λ held. not_told c.is_dominated.result c.is_dominated.ensures c.if-is_dominated.false held)
