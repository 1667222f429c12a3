-- The command `run`: the algorithm of a certificate at work on a finite tree.
use Rattle.std.specs.Prelude.{◌≡◌, ℕ, suc, ◌<◌, true, List, [], ◌∷◌, ◌++◌, codes, flat_map, length, map, IfSome, Option, Some, None, Result, Ok, Err}
use Rattle.std.specs.List.{AllByRecursion}
use Rattle.std.specs.Fmt.{decimal}
use Rattle.re_cert.specs.Bounds.{Bound}
use Rattle.re_cert.specs.Stages.{stages_of}
use Rattle.re_cert.specs.declared.certificate.Kind.TheVariants.{Upper}
use Rattle.re_check.specs.Verdicts.{verdict_of}
use Rattle.re_check.specs.declared.verdict.Verdict.{Verdict}
use Rattle.re_check.specs.declared.verdict.Verdict.TheVariants.{Accepted, Refused}
use Rattle.re_labels.specs.Lists.{count_from}
use Rattle.re_labels.specs.declared.sides.Side.TheVariants.{Passive}
use Rattle.re_laws.specs.Algorithms.{Plain}
use Rattle.re_laws.specs.Extracted.{extracted}
use Rattle.re_net.specs.FiniteTrees.{neighbour, node_count, side_of}
use Rattle.re_net.specs.FullTrees.{has_all_ports}
use Rattle.re_net.specs.declared.joins.Neighbour.{Neighbour}
use Rattle.re_texts.specs.SetTexts.{named_text}
use Rattle.re_problem.specs.CanonicalTexts.{spaced}
use Rattle.re_problem.specs.NamedProblems.{unnamed}
use Rattle.re_problem.specs.declared.fault.InputFault.{InputFault}
use Rattle.re_net.specs.RunTexts.{RunText, run_text}
use Rattle.re_net.specs.Runs.{first_illegal, has_output, labels_around, messages_of, standing_of}
use Rattle.re_net.specs.declared.runs.Standing.{Standing}
use Rattle.re_labels.specs.Constraints.{Has}
use Rattle.re_frame.specs.Check.{verdict_outcome}
use Rattle.re_frame.specs.Outcomes.{Outcome, done, refused}
use Rattle.re_frame.specs.TextFaults.{fault_outcome}

-- the algorithm that the steps of a bound give
abbrev pub algorithm_of : Bound → Plain → List ℕ
algorithm_of bound = extracted (unnamed bound.first) (stages_of bound.steps)

-- the labels that a node outputs, if it does, with a space between
abbrev pub output_text : List (List ℕ) → Option (List ℕ) → List ℕ
output_text names None = []
output_text names (Some labels) = codes ": " ++ spaced (map (named_text names) labels)

-- the line of a node: its round, and its labels, if it outputs
abbrev pub node_line : List (List ℕ) → ℕ → Standing → List ℕ
node_line names v standing = codes "node " ++ decimal v ++ codes " round " ++ decimal standing.round ++ output_text names standing.labels ++ codes "\n"

-- where each node stands behind the deliveries, by the algorithm of the bound: a line for each node, in order
abbrev pub nodes_text : RunText → List ℕ
nodes_text text =
    flat_map (λ v. node_line text.bound.first.names v (standing_of text.tree (length text.bound.steps) (messages_of text.deliveries) (algorithm_of text.bound) v))
    (count_from 0 (node_count text.tree))

-- the lines of nodes from this one on, where they stand so
abbrev pub nodes_from : List (List ℕ) → ℕ → List Standing → List ℕ
nodes_from names v [] = []
nodes_from names v (standing ∷ standings) = node_line names v standing ++ nodes_from names (suc v) standings

-- each label that is output is one of the names
abbrev pub AreNamed : List (List ℕ) → List Standing → Type 0
AreNamed names standings = AllByRecursion (λ (standing : Standing). IfSome standing.labels (AllByRecursion (λ label. label < length names))) standings

-- the first delivery that isn't legal, or else where the nodes stand
abbrev pub delivered : RunText → Option ℕ → Outcome
delivered text (Some line) = refused (codes "illegal: line " ++ decimal line ++ codes "\n")
delivered text None = done (nodes_text text)

-- the certificate must be accepted, and be one of an upper bound
abbrev pub verified : RunText → Verdict → Outcome
verified text (Accepted Upper steps) = delivered text (first_illegal text.tree (length text.bound.steps) [] text.deliveries)
verified text (Accepted kind steps) = refused (codes "no: not an upper bound\n")
verified text (Refused step clause) = verdict_outcome (Refused step clause)

abbrev pub written : Result RunText InputFault → Outcome
written (Ok text) = verified text (verdict_of text.bound)
written (Err fault) = fault_outcome fault

-- the outcome for an input of a certificate, a tree and deliveries, or for its first fault
unfoldable pub running_outcome : List ℕ → Outcome
running_outcome bytes = written (run_text bytes)

-- ---- what it means for passive nodes
-- a passive node with as many edges as its side allows, all of whose neighbours output, gets a configuration that is passive in the
-- first problem
abbrev pub PassiveNodesGet : RunText → Type 0
PassiveNodesGet text =
    (v : ℕ) → side_of text.tree v ≡ Passive → has_all_ports text.tree v ≡ true →
    ((p : ℕ) (one : Neighbour) → neighbour text.tree v p ≡ Some one → has_output text.tree (length text.bound.steps) (messages_of text.deliveries) one.node ≡ true) →
    Has text.bound.first.passive (labels_around text.tree (length text.bound.steps) (messages_of text.deliveries) (algorithm_of text.bound) v)
