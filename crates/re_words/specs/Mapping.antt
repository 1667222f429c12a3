-- The commands that judge a map between two problems.
use Rattle.std.specs.Prelude.{ℕ, ◌<◌, List, ◌++◌, codes, map, slice_index_or, Result, Ok, Err}
use Rattle.std.specs.List.{AllByRecursion}
use Rattle.re_labels.specs.declared.sides.Side.TheVariants.{Active as ActiveSide, Passive as PassiveSide}
use Rattle.re_texts.specs.Entries.{source}
use Rattle.re_texts.specs.MapTexts.{MapText, map_text}
use Rattle.re_texts.specs.declared.entries.MapKind.{MapKind}
use Rattle.re_texts.specs.declared.entries.MapKind.TheVariants.{Labels, Sets}
use Rattle.re_problem.specs.Verdicts.{relaxation_verdict, renaming_verdict, restriction_verdict}
use Rattle.re_problem.specs.declared.verdict.MapVerdict.{MapVerdict}
use Rattle.re_problem.specs.declared.verdict.MapVerdict.TheVariants.{Active, Count, Degrees, Empty, Passive, Twice, Yes}
use Rattle.re_texts.specs.SetTexts.{named_text}
use Rattle.re_problem.specs.CanonicalTexts.{config_text}
use Rattle.re_problem.specs.NamedProblems.{unnamed}
use Rattle.re_problem.specs.declared.fault.InputFault.{InputFault}
use Rattle.re_frame.specs.Outcomes.{Outcome, refused}
use Rattle.re_frame.specs.TextFaults.{fault_outcome}
use Rattle.re_words.specs.declared.command.Mapping.{Mapping}
use Rattle.re_words.specs.declared.command.Mapping.TheVariants.{Relax, Rename, Restrict}
use Rattle.re_frame.specs.declared.status.Status.TheVariants.{Done}

-- the line of a verdict, where these are the names of the labels that have images
abbrev pub map_outcome : List (List ℕ) → MapVerdict → Outcome
map_outcome names Yes = record { status = Done; text = codes "yes\n" }
map_outcome names Degrees = refused (codes "no: degrees\n")
map_outcome names (Empty label) = refused (codes "no: empty " ++ named_text names label ++ codes "\n")
map_outcome names (Twice label) = refused (codes "no: twice " ++ named_text names label ++ codes "\n")
map_outcome names (Active config) = refused (codes "no: active " ++ config_text names config ++ codes "\n")
map_outcome names (Passive config) = refused (codes "no: passive " ++ config_text names config ++ codes "\n")
map_outcome names (Count ActiveSide) = refused (codes "no: active count\n")
map_outcome names (Count PassiveSide) = refused (codes "no: passive count\n")

-- the label or the configuration that a verdict names is one of so many labels
abbrev pub IsNamedVerdict : ℕ → MapVerdict → Type 0
IsNamedVerdict n (Empty label) = label < n
IsNamedVerdict n (Twice label) = label < n
IsNamedVerdict n (Active config) = AllByRecursion (λ label. label < n) config
IsNamedVerdict n (Passive config) = AllByRecursion (λ label. label < n) config
IsNamedVerdict n verdict = Unit {0}

-- what a command's map has as images
abbrev pub kind_of : Mapping → MapKind
kind_of Relax = Labels
kind_of Restrict = Sets
kind_of Rename = Labels

-- the labels of sets of one label each
abbrev pub labels_in : List (List ℕ) → List ℕ
labels_in images = map (λ image. slice_index_or image 0 0) images

-- the verdict on what a text writes
abbrev pub text_verdict : Mapping → MapText → MapVerdict
text_verdict Relax text = relaxation_verdict (unnamed text.from) (unnamed text.to) (labels_in text.images)
text_verdict Restrict text = restriction_verdict (unnamed text.from) (unnamed text.to) text.images
text_verdict Rename text = renaming_verdict (unnamed text.from) (unnamed text.to) (labels_in text.images)

abbrev pub mapped : Mapping → Result MapText InputFault → Outcome
mapped mapping (Ok text) = map_outcome (source (kind_of mapping) text.from text.to).names (text_verdict mapping text)
mapped mapping (Err fault) = fault_outcome fault

-- the outcome for an input of two problems and a map: that of its verdict, or of its first fault
unfoldable pub mapping_outcome : Mapping → List ℕ → Outcome
mapping_outcome mapping bytes = mapped mapping (map_text (kind_of mapping) bytes)
