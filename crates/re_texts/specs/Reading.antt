-- What a reader of map inputs holds of the lines that it was fed, and what its calls give.
use Rattle.std.specs.Prelude.{◌≡◌, ℕ, List, Result, Ok, Err}
use Rattle.re_labels.specs.Rows.{singles}
use Rattle.re_problem.specs.TextReading.{IsRefused, Reads}
use Rattle.re_problem.specs.declared.fault.InputFault.{InputFault}
use Rattle.re_problem.specs.declared.fault.TextFault.{TextFault}
use Rattle.re_texts.specs.MapTexts.{MapText, State, map_text}
use Rattle.re_texts.specs.MapTexts.State.{Start, InFrom, InTo, InMap}
use Rattle.re_texts.specs.declared.entries.MapKind.TheVariants.{Labels, Sets}
use Rattle.re_texts.specs.declared.map_texts.LabelMapInput.{LabelMapInput}
use Rattle.re_texts.specs.declared.map_texts.SetMapInput.{SetMapInput}
use Rattle.re_texts.specs.declared.reading.MapRead.{MapRead}
use Rattle.re_texts.specs.declared.reading.Place.{Place}
use Rattle.re_texts.specs.declared.reading.Place.TheVariants as place

-- what is held is this state, at this byte
abbrev pub IsAt : Place → State → ℕ → Type 0
IsAt place.Start Start byte = Unit {0}
IsAt (place.From reader) (InFrom text_byte text_line text) byte = Reads reader text_byte text_line text byte
IsAt (place.To from reader) (InTo problem text_byte text_line text) byte = (from ≡ problem) × Reads reader text_byte text_line text byte
IsAt (place.Map read) (InMap from to images) byte = (read.from ≡ from) × (read.to ≡ to) × (read.images.items ≡ images)
IsAt p s byte = ⊥

-- ---- what the calls give
-- what a line brought is held, at this byte
abbrev pub Holds : Result State InputFault → ℕ → Result Place TextFault → Type 0
Holds result byte (Ok p) = (s : State) × (result ≡ Ok s) × IsAt p s byte
Holds result byte (Err fault) = IsRefused result fault

-- the same in the map, which is held then
abbrev pub HoldsMap : Result State InputFault → Result (Unit {0}) TextFault → MapRead → Type 0
HoldsMap result (Ok u) read = result ≡ Ok (InMap read.from read.to read.images.items)
HoldsMap result (Err fault) read = IsRefused result fault

abbrev pub EndGives : Result MapText InputFault → Result MapRead TextFault → Type 0
EndGives result (Ok read) = result ≡ Ok (record { from = read.from; to = read.to; images = read.images.items })
EndGives result (Err fault) = IsRefused result fault

-- the problems and the map that the text writes, exactly where it has no fault, and else its first fault
abbrev pub LabelsGive : List ℕ → Result LabelMapInput TextFault → Type 0
LabelsGive text (Ok input) = map_text Labels text ≡ Ok (record { from = input.from; to = input.to; images = singles input.map })
LabelsGive text (Err fault) = IsRefused (map_text Labels text) fault

abbrev pub SetsGive : List ℕ → Result SetMapInput TextFault → Type 0
SetsGive text (Ok input) = map_text Sets text ≡ Ok (record { from = input.from; to = input.to; images = input.map })
SetsGive text (Err fault) = IsRefused (map_text Sets text) fault
