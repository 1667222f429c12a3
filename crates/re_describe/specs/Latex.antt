-- A report written for LaTeX, line by line.
use Rattle.std.specs.Prelude.{ℕ, ◌==◌, Bool, true, false, List, [], ◌∷◌, ◌++◌, codes, drop, if◌then◌else◌}
use Rattle.std.specs.List.{slice_split, starts_with}
use Rattle.re_describe.specs.declared.latex.Form.{Form}
use Rattle.re_describe.specs.declared.latex.Mode.{Mode}
use Rattle.re_describe.specs.declared.latex.Mode.TheVariants.{Code, Formula, Plain}
use Rattle.re_describe.specs.declared.latex.Form.TheVariants.{Fails, Item, Section, Title, Verbatim, Words}

-- ---- within a line
-- a byte of words: what means something else to LaTeX is escaped; a line may end behind an underscore, and a star, which marks bold words, isn't written
abbrev pub escaped : ℕ → List ℕ
escaped byte =
    if byte == 42 then []
    else if byte == 92 then codes "\\textbackslash{}"
    else if byte == 94 then codes "\\textasciicircum{}"
    else if byte == 126 then codes "\\textasciitilde{}"
    else if byte == 60 then codes "\\textless{}"
    else if byte == 62 then codes "\\textgreater{}"
    else if byte == 35 then codes "\\#"
    else if byte == 36 then codes "\\$"
    else if byte == 37 then codes "\\%"
    else if byte == 38 then codes "\\&"
    else if byte == 95 then codes "\\_\\allowbreak{}"
    else if byte == 123 then codes "\\{"
    else if byte == 125 then codes "\\}"
    else byte ∷ []

-- the words behind a byte: a backtick begins code and ends it, a dollar begins a formula and ends it
abbrev pub mode_behind : Mode → ℕ → Mode
mode_behind Plain byte = if byte == 96 then Code else if byte == 36 then Formula else Plain
mode_behind Code byte = if byte == 96 then Plain else Code
mode_behind Formula byte = if byte == 36 then Plain else Formula

-- a byte: formulas stand as they are
abbrev pub written : Mode → ℕ → List ℕ
written Plain byte = if byte == 96 then codes "\\texttt{" else if byte == 36 then codes "$" else escaped byte
written Code byte = if byte == 96 then codes "}" else escaped byte
written Formula byte = byte ∷ []

-- what ends with the words
abbrev pub ending : Mode → List ℕ
ending Plain = []
ending Code = codes "}"
ending Formula = codes "$"

-- words, the first of which are so
abbrev pub latex_words : Mode → List ℕ → List ℕ
latex_words mode [] = ending mode
latex_words mode (byte ∷ words) = written mode byte ++ latex_words (mode_behind mode byte) words

-- ---- lines
-- whether a line begins so
abbrev pub begins : List ℕ → List ℕ → Bool
begins words line = starts_with (λ byte other. byte == other) line words

-- the form of a line
abbrev pub form_of : List ℕ → Form
form_of line =
    if begins (codes "# ") line then Title
    else if begins (codes "## ") line then Section
    else if begins (codes "- ") line then Item
    else if begins (codes "    ") line then Verbatim
    else if begins (codes "**") line then Fails
    else Words

-- how many bytes of a line say its form
abbrev pub mark : Form → ℕ
mark Title = 2
mark Section = 3
mark Item = 2
mark Verbatim = 4
mark Fails = 2
mark Words = 0

-- what stands behind them
abbrev pub words_of : Form → List ℕ → List ℕ
words_of form line = drop (mark form) line

-- a line of this form
abbrev pub latex_line : Form → List ℕ → List ℕ
latex_line Title line = codes "\\section*{" ++ latex_words Plain (words_of Title line) ++ codes "}\n"
latex_line Section line = codes "\\subsection*{" ++ latex_words Plain (words_of Section line) ++ codes "}\n"
latex_line Item line = codes "\\item " ++ latex_words Plain (words_of Item line) ++ codes "\n"
latex_line Fails line = codes "\\textbf{" ++ latex_words Plain (words_of Fails line) ++ codes "}\n"
latex_line Words line = codes "" ++ latex_words Plain (words_of Words line) ++ codes "\n"
latex_line Verbatim line = words_of Verbatim line ++ codes "\n"

-- ---- environments: items stand in a list, and lines that stand as they are in `verbatim`
abbrev pub opening : Form → List ℕ
opening Item = codes "\\begin{itemize}\n"
opening Verbatim = codes "\\begin{verbatim}\n"
opening form = codes ""

abbrev pub closing : Form → List ℕ
closing Item = codes "\\end{itemize}\n"
closing Verbatim = codes "\\end{verbatim}\n"
closing form = codes ""

-- whether the environment of a line goes on with the next one
abbrev pub goes_on : Form → Form → Bool
goes_on Item Item = true
goes_on Verbatim Verbatim = true
goes_on before form = false

-- what ends and begins between two lines
abbrev pub change : Form → Form → List ℕ
change before form = if goes_on before form then [] else closing before ++ opening form

-- the lines behind a line of some form
abbrev pub latex_lines : Form → List (List ℕ) → List ℕ
latex_lines before [] = closing before
latex_lines before (line ∷ lines) = change before (form_of line) ++ latex_line (form_of line) line ++ latex_lines (form_of line) lines

-- the report in LaTeX
abbrev pub latex_of : List ℕ → List ℕ
latex_of report = latex_lines Words (slice_split (λ byte. byte == 10) report)
