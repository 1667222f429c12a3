use Rattle.std.proofs.Common.{add-one}
use Rattle.re_given.proofs.ColouredPairs.{lower_bound_pairs}
use Rattle.re_given.proofs.lower_bound_coloured_pairs_law.Goals as goal

pub returns : goal.returns
returns c = λ first last half c T is pairs. rw add-one (λ steps not_zero many l h. lower_bound_pairs half is pairs steps not_zero many T l h)
