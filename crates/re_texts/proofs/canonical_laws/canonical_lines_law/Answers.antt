use Rattle.re_texts.proofs.ReadBack.{canonical_lines_law}
use Rattle.re_texts.proofs.canonical_laws.canonical_lines_law.Goals as goal

pub returns : goal.returns
returns c = canonical_lines_law
