-- Texts of a chain, alone or with a line `== given` and an input problem behind it.
use Rattle.std.specs.Prelude.{◌≡◌, ℕ, Bool, true, false, List, codes, Option, None, Some, Result, Ok, Err}
use Rattle.re_chains.specs.ChainTexts.{chain_fault, text_chain}
use Rattle.re_chains.specs.TwoTexts.{back_problem, front_text, has_line, two_fault}
use Rattle.re_problem.specs.declared.fault.InputFault.{InputFault}
use Rattle.re_problem.specs.declared.fault.TextFault.{TextFault}
use Rattle.re_problem.specs.declared.fault.TextFault.TheVariants.{Bad, NoMemory}
use Rattle.re_settings.specs.declared.reading.SettingTexts.{SettingTexts}
use Rattle.re_settings.specs.declared.setting.Setting.{Setting}
use Rattle.re_settings.specs.declared.setting.Setting.TheVariants.{Alone, Given}

-- the parts of a text: its first fault, if any; the text of the chain; and what is given
pub record Parts : Type 0 where
  pub fault : Option InputFault
  pub front : List ℕ
  pub setting : Setting

-- with the line, and without it
abbrev pub parts_by : Bool → List ℕ → Parts
parts_by true bytes = record { fault = two_fault (codes "given") bytes; front = front_text (codes "given") bytes; setting = Given (back_problem (codes "given") bytes) }
parts_by false bytes = record { fault = chain_fault bytes; front = bytes; setting = Alone }

abbrev pub parts_of : List ℕ → Parts
parts_of bytes = parts_by (has_line (codes "given") bytes) bytes

-- what a text gives: the chain and the setting exactly where it has no fault, and else its first fault
abbrev pub RefusesBy : Bool → List ℕ → TextFault → Type 0
RefusesBy has text (Bad fault) = (parts_by has text).fault ≡ Some fault
RefusesBy has text NoMemory = Unit {0}

abbrev pub GivesBy : Bool → List ℕ → Result SettingTexts TextFault → Type 0
GivesBy has text (Ok texts) = ((parts_by has text).fault ≡ None) × (texts.chain ≡ text_chain (parts_by has text).front) × (texts.setting ≡ (parts_by has text).setting)
GivesBy has text (Err fault) = RefusesBy has text fault

abbrev pub SettingGives : List ℕ → Result SettingTexts TextFault → Type 0
SettingGives text result = GivesBy (has_line (codes "given") text) text result
