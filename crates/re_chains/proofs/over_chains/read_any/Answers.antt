use Rattle.re_chains.proofs.WordsGiven.{answered_fault, any_chain}
use Rattle.re_chains.proofs.over_chains.read_any.Goals as goal

pub returns-in-Ok : goal.returns-in-Ok
returns-in-Ok c = (c.in-Ok.ensures.1, any_chain c.args.text.now c.in-Ok.chain c.in-Ok.ensures.0 c.in-Ok.ensures.1)

pub returns-in_ok-fault_output-in-Err-Bad : goal.returns-in_ok-fault_output-in-Err-Bad
returns-in_ok-fault_output-in-Err-Bad c =
    answered_fault c.args.text.now c.in-Err-Bad.fault c.in_ok-fault_output-in-Err-Bad.field-0 (rw c.in-Err-Bad.field-0-is at c.in-Err-Bad.ensures) c.in_ok-fault_output-in-Err-Bad.ensures
