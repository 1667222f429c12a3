use Rattle.std.proofs.Common.{subst, sym}
use Rattle.re_graph_words.proofs.GivenParts.{graph-line}
use Rattle.re_graph_words.specs.GivenReading.{GivenGraphGives}
use Rattle.re_graph_words.proofs.given_texts.read_given_graph.Goals as goal

pub returns : goal.returns
returns c = subst (λ wanted. GivenGraphGives wanted c.given_for.result) (sym (graph-line c.args.text.now c.in-Some.cut c.in-Some.ensures)) c.given_for.ensures
