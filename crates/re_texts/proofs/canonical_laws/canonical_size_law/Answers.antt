use Rattle.re_texts.proofs.TextSizes.{canonical_size_law}
use Rattle.re_texts.proofs.canonical_laws.canonical_size_law.Goals as goal

pub returns : goal.returns
returns c = canonical_size_law
