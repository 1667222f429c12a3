-- What is held of an input of `run` behind some lines, and what its reading gives.
use Rattle.std.specs.Prelude.{◌≡◌, ℕ, ◌+◌, ◌≤◌, true, List, [], ◌∷◌, ◌++◌, length, None, Result, Ok, Err}
use Rattle.std.specs.List.{AllByRecursion}
use Rattle.re_io.specs.LineReading.{LineText}
use Rattle.re_problem.specs.TextReading.{IsRefused}
use Rattle.re_problem.specs.declared.fault.InputFault.{InputFault}
use Rattle.re_problem.specs.declared.fault.TextFault.{TextFault}
use Rattle.re_problem.specs.declared.fault.TextFault.TheVariants.{Bad, NoMemory}
use Rattle.re_cert.specs.Bounds.{Bound}
use Rattle.re_cert.specs.CertificateReading.{Stands}
use Rattle.re_cert.specs.CertificateTexts.{State as CertificateState, certificate_fault, certificate_of, judged as judged_certificate, text_lines}
use Rattle.re_cert.specs.declared.cert_reader.CertReader.{CertReader}
use Rattle.re_net.specs.FiniteTrees.{FiniteTree, IsNumbered}
use Rattle.re_net.specs.Rounds.{IsMessage}
use Rattle.re_net.specs.RunTexts.{RunText, State, behind, ended, run_text}
use Rattle.re_net.specs.RunTexts.State.{BehindEnd, AtRoot, InTree, InDeliveries}
use Rattle.re_net.specs.declared.reading.Delivery.{Delivery}
use Rattle.re_net.specs.declared.reading.Place.{Place}
use Rattle.re_net.specs.declared.reading.Place.TheVariants as place
use Rattle.re_net.specs.declared.run_texts.RunInput.{RunInput}
use Rattle.re_problem.specs.NamedProblems.{degrees_of}

-- the state that is held behind the certificate of this bound
abbrev pub state_of : Bound → Place → State
state_of bound place.Behind = BehindEnd bound
state_of bound place.Root = AtRoot bound
state_of bound (place.Tree tree) = InTree bound tree
state_of bound (place.Deliveries tree deliveries) = InDeliveries bound tree deliveries.items

-- each delivery is of a message of the tree, with a number below the bound
abbrev pub AreMessages : FiniteTree → ℕ → List Delivery → Type 0
AreMessages tree bound deliveries = AllByRecursion (λ (delivery : Delivery). IsMessage tree bound delivery.message) deliveries

-- the tree has the degrees of the first problem; behind it it is numbered, and the deliveries are of its messages
abbrev pub Fits : Bound → Place → Type 0
Fits bound place.Behind = Unit {0}
Fits bound place.Root = Unit {0}
Fits bound (place.Tree tree) = tree.degrees ≡ degrees_of bound.first
Fits bound (place.Deliveries tree deliveries) =
    (tree.degrees ≡ degrees_of bound.first) × IsNumbered tree × AreMessages tree (length bound.steps) deliveries.items

-- ---- what the calls give
-- what a line brought is held
abbrev pub Holds : Bound → Result State InputFault → Result Place TextFault → Type 0
Holds bound result (Ok p) = (result ≡ Ok (state_of bound p)) × Fits bound p
Holds bound result (Err fault) = IsRefused result fault

-- the text of the certificate, behind which this is left; its first line has this number
pub record Ends (text rest : List ℕ) (number : ℕ) : Type 0 where
  pub before : List ℕ
  pub text_is : text ≡ before ++ rest
  pub faultless : certificate_fault (text_lines before) ≡ None
  pub whole : run_text text ≡ behind (length before) number (BehindEnd (certificate_of (text_lines before))) (text_lines rest)
  pub counted : number ≤ length before + 1

-- what the end of the lines gives behind the certificate
abbrev pub RestGives : Bound → Result RunText InputFault → Result Place TextFault → Type 0
RestGives bound result (Ok p) = (result ≡ ended (state_of bound p)) × Fits bound p
RestGives bound result (Err fault) = IsRefused result fault

-- ---- the certificate's part
-- what a finished line more brings to a reader of certificates that is at this state behind these lines
abbrev pub Feeds : CertificateState → List ℕ → CertReader → List LineText → Result (Unit {0}) TextFault → Type 0
Feeds s text new before (Ok u) = Stands new (before ++ record { text = text; ended = true } ∷ [])
Feeds s text new before (Err (Bad fault)) = judged_certificate s (record { text = text; ended = true }) ≡ Err fault
Feeds s text new before (Err NoMemory) = Unit {0}

-- what an input holds
abbrev pub text_of : RunInput → RunText
text_of input = record { bound = input.certificate; tree = input.tree; deliveries = input.deliveries.items }

-- the certificate, the tree and the deliveries that the text writes, exactly where it has no fault, and else its first fault
abbrev pub RunGives : List ℕ → Result RunInput TextFault → Type 0
RunGives text (Ok input) = run_text text ≡ Ok (text_of input)
RunGives text (Err fault) = IsRefused (run_text text) fault
