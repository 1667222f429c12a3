use Rattle.re_chains.proofs.GivenReading.{given_text_law}
use Rattle.re_chains.proofs.two_text_laws.given_text_law.Goals as goal

pub returns : goal.returns
returns c = given_text_law
