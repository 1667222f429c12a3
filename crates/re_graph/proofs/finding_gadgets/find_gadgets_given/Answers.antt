use Rattle.re_graph.proofs.Answering.{found-means}
use Rattle.re_problem.specs.NamedProblems.{unnamed}
use Rattle.re_graph.proofs.finding_gadgets.find_gadgets_given.Goals as goal

pub returns-clause-means : goal.returns-clause-means
returns-clause-means c = found-means c.no_solution_given_law.ensures (unnamed c.args.problem.now) (unnamed c.args.input.now) (λ found. found.cover) c.find_given.result c.requires.input c.find_given.ensures.cover c.find_given.ensures.given
