-- The first line of a text that isn't of blanks alone.
use Rattle.std.proofs.Common.{◌≡◌, ℕ, true, false, not, cond, List, [], ◌∷◌, length, Some, ap, ◌∙◌, arith}
use Rattle.std.specs.Option.{option_map_or}
use Rattle.std.specs.Prelude.{find}
use Rattle.re_problem.specs.Bytes.{is_empty_line}
use Rattle.re_problem.specs.ProblemTexts.{lines_of}
use Rattle.re_problem.specs.SectionLines.{is_section}
use Rattle.re_chains.specs.ChainTexts.{begins_section}

pub empty_passed : (text rest line behind : List ℕ) → begins_section (lines_of text) ≡ begins_section (lines_of rest) → lines_of rest ≡ line ∷ lines_of behind → is_empty_line line ≡ true
    → begins_section (lines_of text) ≡ begins_section (lines_of behind)
empty_passed text rest line behind so_far cut empty =
    so_far ∙ ap begins_section cut ∙ ap (λ e. option_map_or is_section (cond (not e) (Some line) (find (λ l. not (is_empty_line l)) (lines_of behind))) false) empty

pub filled_first : (text rest line behind : List ℕ) → begins_section (lines_of text) ≡ begins_section (lines_of rest) → lines_of rest ≡ line ∷ lines_of behind → is_empty_line line ≡ false
    → begins_section (lines_of text) ≡ is_section line
filled_first text rest line behind so_far cut filled =
    so_far ∙ ap begins_section cut ∙ ap (λ e. option_map_or is_section (cond (not e) (Some line) (find (λ l. not (is_empty_line l)) (lines_of behind))) false) filled

pub none_filled : (text rest : List ℕ) → begins_section (lines_of text) ≡ begins_section (lines_of rest) → length rest ≡ 0 → begins_section (lines_of text) ≡ false
none_filled text [] so_far end = so_far
none_filled text (b ∷ rest) so_far end = absurd (omega arith)
