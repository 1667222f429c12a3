-- Texts whose configurations are written in groups, and which are read as the same.
use Rattle.std.specs.Prelude.{◌≡◌, ◌≤◌, ℕ, zero, suc, Bool, true, false, List, codes, length, Option, None, Some}
use Rattle.re_cert.specs.Bounds.{Bound}
use Rattle.re_cert.specs.CertificateTexts.{certificate_of, text_lines}
use Rattle.re_chains.specs.ChainTexts.{chain_fault, is_certificate_text, text_bound}
use Rattle.re_chains.specs.TwoTexts.{back_problem, front_bound, front_chain, has_line, lines_behind, two_fault}
use Rattle.re_graph_words.specs.GivenInputs.{labelled_input}
use Rattle.re_graph_words.specs.GraphInputs.{graph_input}
use Rattle.re_io.specs.declared.read.TheConstants.{MAX_BYTES}
use Rattle.re_judging.specs.Joints.{behind_joint, first_part, joint_at}
use Rattle.re_judging.specs.PartFaults.{part_fault}
use Rattle.re_judging.specs.PartVerdicts.{front_problem, kind_of}
use Rattle.re_judging.specs.declared.types.PartKind.{PartKind}
use Rattle.re_judging.specs.declared.types.PartKind.TheVariants as part
use Rattle.re_problem.specs.NamedProblems.{NamedProblem}

-- the text can be read, has no fault, is that of a certificate where the other one is, and writes the bound
pub record WritesSame (bytes : List ℕ) (bound : Bound) (text : List ℕ) : Type 0 where
  pub short : length text ≤ MAX_BYTES
  pub form : is_certificate_text text ≡ is_certificate_text bytes
  pub right : chain_fault text ≡ None
  pub written : text_bound text ≡ bound

-- the same of a text with a line `== given` and an input problem
pub record WritesBoth (bytes : List ℕ) (bound : Bound) (input : NamedProblem) (text : List ℕ) : Type 0 where
  pub short : length text ≤ MAX_BYTES
  pub form : is_certificate_text text ≡ is_certificate_text bytes
  pub right : two_fault (codes "given") text ≡ None
  pub bound_is : front_bound (codes "given") text ≡ bound
  pub input_is : back_problem (codes "given") text ≡ input

-- the text can be read, has a line `== given` where the other one has, writes the same problem and graph, and has the same lines behind its line `== graph`
pub record WritesGraph (bytes text : List ℕ) : Type 0 where
  pub short : length text ≤ MAX_BYTES
  pub given : has_line (codes "given") text ≡ has_line (codes "given") bytes
  pub read : graph_input text ≡ graph_input bytes
  pub lines : lines_behind (codes "graph") text ≡ lines_behind (codes "graph") bytes

-- the same of a text with an input problem and labels: it writes both problems, the graph and the labels
pub record WritesLabelled (bytes text : List ℕ) : Type 0 where
  pub short : length text ≤ MAX_BYTES
  pub given : has_line (codes "given") text ≡ has_line (codes "given") bytes
  pub read : labelled_input text ≡ labelled_input bytes
  pub lines : lines_behind (codes "graph") text ≡ lines_behind (codes "graph") bytes

-- ---- evidence
-- the problem in front of the line of this name is the same, and so are the lines behind it
pub record WritesFront (name bytes text : List ℕ) : Type 0 where
  pub problem : front_problem name text ≡ front_problem name bytes
  pub lines : lines_behind name text ≡ lines_behind name bytes

-- the same of the chain in front of the line
pub record WritesChain (name bytes text : List ℕ) : Type 0 where
  pub chain : front_chain name text ≡ front_chain name bytes
  pub lines : lines_behind name text ≡ lines_behind name bytes

-- the bound and the input problem are the same
pub record WritesBound (name bytes text : List ℕ) : Type 0 where
  pub bound : front_bound name text ≡ front_bound name bytes
  pub input : back_problem name text ≡ back_problem name bytes

abbrev pub WritesGraphBy : Bool → List ℕ → List ℕ → Type 0
WritesGraphBy true bytes text = WritesLabelled bytes text
WritesGraphBy false bytes text = WritesGraph bytes text

-- a text of this kind writes the same
abbrev pub WritesKind : PartKind → List ℕ → List ℕ → Type 0
WritesKind part.Certificate bytes text = certificate_of (text_lines text) ≡ certificate_of (text_lines bytes)
WritesKind part.Given bytes text = WritesBound (codes "given") bytes text
WritesKind part.Graph bytes text = WritesGraphBy (has_line (codes "given") bytes) bytes text
WritesKind part.Length bytes text = WritesFront (codes "length") bytes text
WritesKind part.Flexible bytes text = WritesFront (codes "flexible") bytes text
WritesKind part.Greedy bytes text = WritesChain (codes "greedy") bytes text

-- the text of a part holds the same kind, is that of a certificate where the other one is, has no fault, and writes the same
pub record WritesPart (bytes text : List ℕ) : Type 0 where
  pub kind : kind_of text ≡ kind_of bytes
  pub form : is_certificate_text text ≡ is_certificate_text bytes
  pub right : part_fault text ≡ None
  pub same : WritesKind (kind_of bytes) bytes text

-- a line between parts stands in both texts or in none, and what stands behind it is the same
abbrev pub WritesBehind : (List ℕ → List ℕ → Type 0) → Option ℕ → Option ℕ → List ℕ → List ℕ → Type 0
WritesBehind Rest None None bytes text = Unit {0}
WritesBehind Rest (Some at) (Some other) bytes text = Rest (behind_joint at bytes) (behind_joint other text)
WritesBehind Rest None (Some other) bytes text = ⊥
WritesBehind Rest (Some at) None bytes text = ⊥

-- the parts of the text write the same one by one, the first and so many behind it at most
abbrev pub WritesParts : ℕ → List ℕ → List ℕ → Type 0
WritesParts zero bytes text = WritesPart (first_part bytes) (first_part text) × (joint_at bytes ≡ None) × (joint_at text ≡ None)
WritesParts (suc more) bytes text = WritesPart (first_part bytes) (first_part text) × WritesBehind (WritesParts more) (joint_at bytes) (joint_at text) bytes text

-- the text can be read, and its parts write the same
pub record WritesEvidence (bytes text : List ℕ) : Type 0 where
  pub short : length text ≤ MAX_BYTES
  pub parts : WritesParts 15 bytes text
