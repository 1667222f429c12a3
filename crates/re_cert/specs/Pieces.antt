-- The parts that the lines of a certificate hand out, in order.
use Rattle.std.specs.Prelude.{◌≡◌, true, List, [], ◌∷◌, ◌++◌, map, if◌then◌else◌, Option, None, Some}
use Rattle.re_io.specs.LineReading.{LineText}
use Rattle.re_cert.specs.Bounds.{Bound, is_fixed}
use Rattle.re_cert.specs.CertificateTexts.{Part, behind, certificate_of, is_whole, part_at}
use Rattle.re_cert.specs.CertificateTexts.Part.{Head, First, Next, Renaming}

-- the part, if there is one
abbrev pub if_any : Option Part → List Part
if_any None = []
if_any (Some part) = part ∷ []

-- the parts that lines hand out behind the lines before them
abbrev pub parts_behind : List LineText → List LineText → List Part
parts_behind before [] = []
parts_behind before (line ∷ lines) = if_any (part_at before line) ++ parts_behind (before ++ line ∷ []) lines

-- the kind with the number of the problem to which a fixed point goes back, the first problem, and the steps
abbrev pub parts_before_renaming : Bound → List Part
parts_before_renaming bound = Head bound.kind bound.back ∷ First bound.first ∷ map Next bound.steps

-- these, and of a fixed point alone the renaming
abbrev pub parts_of : Bound → List Part
parts_of bound = parts_before_renaming bound ++ (if is_fixed bound.kind then Renaming bound.renaming ∷ [] else [])

-- the lines of a whole certificate hand out its parts, each once and in order, and nothing else
abbrev pub PiecesLaw : Type 0
PiecesLaw = (lines : List LineText) → is_whole (behind lines) ≡ true → parts_behind [] lines ≡ parts_of (certificate_of lines)
