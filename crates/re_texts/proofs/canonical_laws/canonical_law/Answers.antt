use Rattle.re_texts.proofs.ReadBack.{canonical_law}
use Rattle.re_texts.proofs.canonical_laws.canonical_law.Goals as goal

pub returns : goal.returns
returns c = canonical_law
