use Rattle.std.proofs.Common.{◌≡◌, ◌∙◌, [], Ok, subst}
use Rattle.re_problem.specs.ProblemTexts.{lines_of}
use Rattle.re_graph_words.proofs.GivenParts.{lines-right, lines-wrong}
use Rattle.re_graph_words.specs.GivenInputs.{labels_from}
use Rattle.re_graph_words.specs.Reading.{IsRefused}
use Rattle.re_graph_words.proofs.given_texts.labelled_for.Goals as goal

pub returns-in-Ok : goal.returns-in-Ok
returns-in-Ok c = record {
  wanted_is = lines-right c.args.given c.args.number (lines_of c.args.text.now) c.in-Ok.labels.items (subst (λ n. labels_from c.args.given.input n c.args.number [] (lines_of c.args.text.now) ≡ Ok c.in-Ok.labels.items) c.nodes.ensures.nodes c.in-Ok.ensures.labels);
  count = c.in-Ok.ensures.count ∙ c.nodes.ensures.nodes;
  active = c.requires.active;
  passive = c.requires.passive;
}

pub returns-in-Err : goal.returns-in-Err
returns-in-Err c = lines-wrong c.args.given c.args.number (lines_of c.args.text.now) c.in-Err.fault (subst (λ n. IsRefused (labels_from c.args.given.input n c.args.number [] (lines_of c.args.text.now)) c.in-Err.fault) c.nodes.ensures.nodes c.in-Err.ensures.labels)
