use Rattle.re_given.proofs.AvoidedInputs.{lower_bound_unavoidable}
use Rattle.re_given.proofs.lower_bound_unavoidable_law.Goals as goal

pub returns : goal.returns
returns c = λ first last input k T is is_input steps not_zero unavoidable l h. lower_bound_unavoidable is is_input steps not_zero unavoidable T l h
