use Rattle.re_forest_words.proofs.Means.{greedy_means}
use Rattle.re_forest_words.proofs.greedy_answering.greedy_means_law.Goals as goal

pub returns : goal.returns
returns c = greedy_means
