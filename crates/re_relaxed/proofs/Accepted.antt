-- The steps of a bound that is accepted meet their clauses.
use Rattle.std.proofs.Common.{◌≡◌, ℕ, length, Option, None, Some, refl}
use Rattle.re_cert.specs.Bounds.{Bound}
use Rattle.re_cert.specs.declared.certificate.Kind.{Kind}
use Rattle.re_chains.specs.Chains.{IsSound}
use Rattle.re_check.specs.Verdicts.{end_fault, fault_or, steps_fault, verdict_of, verdict_with}
use Rattle.re_check.specs.declared.verdict.ClauseFault.{ClauseFault}
use Rattle.re_check.specs.declared.verdict.Verdict.TheVariants.{Accepted}

no_fault : (kind other : Kind) (n m : ℕ) (fault end : Option ClauseFault) → verdict_with kind n (fault_or fault end) ≡ Accepted other m → fault ≡ None
no_fault kind other n m None end e = refl
no_fault kind other n m (Some fault) end e = cc

pub accepted_sound : (bound : Bound) (kind : Kind) (n : ℕ) → verdict_of bound ≡ Accepted kind n → IsSound bound
accepted_sound bound kind n valid = no_fault bound.kind kind (length bound.steps) n (steps_fault bound.first 1 bound.steps) (end_fault bound) valid
