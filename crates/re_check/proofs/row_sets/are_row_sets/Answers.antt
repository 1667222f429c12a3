use Rattle.std.proofs.Common.{refl}
use Rattle.re_check.proofs.Telling.{tells-false, tells-same, told}
use Rattle.re_check.proofs.row_sets.are_row_sets.Goals as goal
use Rattle.re_labels.proofs.Tests.{not_told}

pub returns-then-not-has_all_sets : goal.returns-then-not-has_all_sets
returns-then-not-has_all_sets c = tells-false _ refl (λ has. not_told c.has_all_sets.result c.has_all_sets.ensures c.if-not-has_all_sets.true (λ set occurs. (has.sets set).1 occurs))

pub returns : goal.returns
returns c = tells-same c.all_occur.result c.all_occur.ensures
    (λ all. record {
      ascends = told c.ascend.result c.ascend.ensures c.if-not-ascend.false;
      sets = λ set. (all set, told c.has_all_sets.result c.has_all_sets.ensures c.if-not-has_all_sets.false set);
    })
    (λ has set held. (has.sets set).0 held)
