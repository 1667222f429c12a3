use Rattle.re_given.proofs.AvoidedInputs.{shorter_bound_unavoidable}
use Rattle.re_given.proofs.shorter_bound_unavoidable_law.Goals as goal

pub returns : goal.returns
returns c = λ first last input k n T is is_input steps not_zero few unavoidable l h. shorter_bound_unavoidable is is_input steps not_zero few unavoidable T l h
