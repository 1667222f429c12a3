-- The lines that are printed of a table.
use Rattle.std.proofs.Common.{◌≡◌, ℕ, zero, suc, ◌≤◌, ◌<◌, ◌+◌, ◌-◌, ◌/◌, ◌%◌, Bool, true, false, not, eqb, List, [], ◌∷◌, ◌++◌, map, codes, decimal, refl, sym, ap, ◌∙◌, subst, arith, inl, inr, append_assoc}
use Rattle.std.specs.List.{list_all}
use Rattle.std.proofs.lemmas.Bool.{cases_lt}
use Rattle.std.proofs.lemmas.Fmt.{decimal_digit, decimal_step}
use Rattle.std.proofs.lemmas.Grind.{flat_map-append}
use Rattle.re_texts.proofs.ReadBack.{text_ended}
use Rattle.re_texts.specs.CanonicalLines.{canonical_lines}
use Rattle.re_labels.proofs.Tests.{and-true}
use Rattle.re_problem.proofs.EndedLines.{NoFeed}
use Rattle.re_problem.specs.NamedProblems.{NamedProblem}
use Rattle.re_problem.specs.ProblemTexts.{ended}
use Rattle.re_algo.specs.Tables.{AnswerTable}
use Rattle.re_table_texts.specs.PrintedTables.{answer_text, answers_text, table_text}
use Rattle.re_table_texts.specs.SectionLines.{section_of}
use Rattle.re_table_texts.specs.declared.sections.Section.TheVariants.{Table}

-- ---- lines without line feeds
feeds_not : (text : List ℕ) → list_all (λ b. not (eqb b 10)) text ≡ true → NoFeed text
feeds_not [] all = tt
feeds_not (b ∷ text) all =
    let both = and-true (not (eqb b 10)) (list_all (λ b. not (eqb b 10)) text) all in
    (other (eqb b 10) both.0, feeds_not text both.1)
  where
    other : (t : Bool) → not t ≡ true → t ≡ false
    other true h = absurd (cc)
    other false h = refl

-- ---- the section line of a table
-- the line with these digits names the radius
pub record IsTableLine (radius : ℕ) (digits : List ℕ) : Type 0 where
  pub feeds : list_all (λ b. not (eqb b 10)) (codes "== table " ++ digits) ≡ true
  pub named : section_of (codes "== table " ++ digits) ≡ Table radius

each_digit : (P : ℕ → Type 0) → P 0 → P 1 → P 2 → P 3 → P 4 → P 5 → P 6 → P 7 → P 8 → P 9 → (d : ℕ) → d < 10 → P d
each_digit P p0 p1 p2 p3 p4 p5 p6 p7 p8 p9 zero low = p0
each_digit P p0 p1 p2 p3 p4 p5 p6 p7 p8 p9 (suc zero) low = p1
each_digit P p0 p1 p2 p3 p4 p5 p6 p7 p8 p9 (suc (suc zero)) low = p2
each_digit P p0 p1 p2 p3 p4 p5 p6 p7 p8 p9 (suc (suc (suc zero))) low = p3
each_digit P p0 p1 p2 p3 p4 p5 p6 p7 p8 p9 (suc (suc (suc (suc zero)))) low = p4
each_digit P p0 p1 p2 p3 p4 p5 p6 p7 p8 p9 (suc (suc (suc (suc (suc zero))))) low = p5
each_digit P p0 p1 p2 p3 p4 p5 p6 p7 p8 p9 (suc (suc (suc (suc (suc (suc zero)))))) low = p6
each_digit P p0 p1 p2 p3 p4 p5 p6 p7 p8 p9 (suc (suc (suc (suc (suc (suc (suc zero))))))) low = p7
each_digit P p0 p1 p2 p3 p4 p5 p6 p7 p8 p9 (suc (suc (suc (suc (suc (suc (suc (suc zero)))))))) low = p8
each_digit P p0 p1 p2 p3 p4 p5 p6 p7 p8 p9 (suc (suc (suc (suc (suc (suc (suc (suc (suc zero))))))))) low = p9
each_digit P p0 p1 p2 p3 p4 p5 p6 p7 p8 p9 (suc (suc (suc (suc (suc (suc (suc (suc (suc (suc d)))))))))) low = absurd (omega arith)

one_digit : (r : ℕ) → r < 10 → IsTableLine r ((48 + r) ∷ [])
unfolding section_of
one_digit r low = record {
  feeds = each_digit (λ r. list_all (λ b. not (eqb b 10)) (codes "== table " ++ (48 + r) ∷ []) ≡ true) refl refl refl refl refl refl refl refl refl refl r low;
  named = each_digit (λ r. section_of (codes "== table " ++ (48 + r) ∷ []) ≡ Table r) refl refl refl refl refl refl refl refl refl refl r low;
}

two_digits : (k : ℕ) → k < 10 → IsTableLine (10 + k) (49 ∷ (48 + k) ∷ [])
unfolding section_of
two_digits k low = record {
  feeds = each_digit (λ k. list_all (λ b. not (eqb b 10)) (codes "== table " ++ 49 ∷ (48 + k) ∷ []) ≡ true) refl refl refl refl refl refl refl refl refl refl k low;
  named = each_digit (λ k. section_of (codes "== table " ++ 49 ∷ (48 + k) ∷ []) ≡ Table (10 + k)) refl refl refl refl refl refl refl refl refl refl k low;
}

-- the line with a radius below 20
pub table_line : (radius : ℕ) → radius < 20 → IsTableLine radius (decimal radius)
table_line radius small = elim (cases_lt radius 10) [ inl low ↦ alone low | inr high ↦ several high ]
  where
    alone : radius < 10 → IsTableLine radius (decimal radius)
    alone low = subst (IsTableLine radius) (sym (decimal_digit radius low)) (one_digit radius low)

    several : 10 ≤ radius → IsTableLine radius (decimal radius)
    several high =
        let k : ℕ = radius - 10 in
        let whole : 10 + k ≡ radius = omega arith in
        let tens : radius / 10 ≡ 1 = omega arith in
        let ones : radius % 10 ≡ k = omega arith in
        let first : decimal 1 ≡ 49 ∷ [] = decimal_digit 1 (omega arith) in
        let text : decimal radius ≡ 49 ∷ (48 + k) ∷ [] = decimal_step radius high (omega arith) ∙ ((λ i. decimal (tens i) ++ (48 + ones i) ∷ []) ∙ ap (λ d. d ++ (48 + k) ∷ []) first) in
        subst (IsTableLine radius) (sym text) (subst (λ r. IsTableLine r (49 ∷ (48 + k) ∷ [])) whole (two_digits k (omega arith)))

-- ---- the whole text
abbrev pub answer_lines : List (List ℕ) → List (List ℕ) → List (List ℕ)
answer_lines names answers = map (answer_text names) answers

abbrev pub table_lines : NamedProblem → AnswerTable → List (List ℕ)
table_lines problem table = codes "== problem" ∷ canonical_lines problem ++ (codes "== table " ++ decimal table.radius) ∷ answer_lines problem.names table.answers

answers_ended : (names answers : List (List ℕ)) → answers_text names answers ≡ ended (answer_lines names answers)
answers_ended names [] = refl
answers_ended names (labels ∷ answers) = ap (λ t. (answer_text names labels ++ 10 ∷ []) ++ t) (answers_ended names answers)

pub table_text_ended : (problem : NamedProblem) (table : AnswerTable) → table_text problem table ≡ ended (table_lines problem table)
table_text_ended problem table =
    let line : List ℕ = codes "== table " ++ decimal table.radius in
    let answers : List (List ℕ) = answer_lines problem.names table.answers in
    ap (λ t. codes "== problem\n" ++ t)
    ((λ i. text_ended problem i ++ codes "== table " ++ decimal table.radius ++ codes "\n" ++ answers_ended problem.names table.answers i)
    ∙ (ap (λ t. (t ++ 10 ∷ []) ++ ended answers) (append_assoc (ended (canonical_lines problem)) (codes "== table ") (decimal table.radius))
    ∙ (ap (λ t. t ++ ended answers) (append_assoc (ended (canonical_lines problem)) line (10 ∷ []))
    ∙ (append_assoc (ended (canonical_lines problem)) (line ++ 10 ∷ []) (ended answers)
    ∙ sym (flat_map-append (λ l. l ++ 10 ∷ []) (canonical_lines problem) (line ∷ answers))))))

pub problem_line_feeds : NoFeed (codes "== problem")
problem_line_feeds = feeds_not (codes "== problem") refl

pub table_line_feeds : (radius : ℕ) → radius < 20 → NoFeed (codes "== table " ++ decimal radius)
table_line_feeds radius small = feeds_not (codes "== table " ++ decimal radius) (table_line radius small).feeds
