-- Lines of spaced words are read in their sections.
use Rattle.std.proofs.Common.{◌≡◌, ℕ, true, false, not, ◌&&◌, eqb, List, [], ◌∷◌, ◌++◌, flat_map, refl, sym, ap, ◌∙◌}
use Rattle.std.specs.List.{AllByRecursion, list_all}
use Rattle.std.proofs.lemmas.Bool.{false≢true}
use Rattle.re_texts.proofs.SpacedWords.{IsWord, first_byte, spaced_allowed, spaced_filled, spaced_no_feeds}
use Rattle.re_problem.specs.SectionLines.{is_section}
use Rattle.re_texts.specs.CertificateLines.{IsOneLine, IsRead}
use Rattle.re_labels.proofs.Tests.{and-true}
use Rattle.re_problem.specs.CanonicalTexts.{spaced}

-- no byte of a line is a line feed where the test says so
pub one_line : (text : List ℕ) → list_all (λ b. not (eqb b 10)) text ≡ true → IsOneLine text
one_line [] all = tt
one_line (b ∷ text) all =
    let both = and-true (not (eqb b 10)) (list_all (λ b. not (eqb b 10)) text) all in
    ((λ e. false≢true (sym (ap (λ x. not (eqb x 10)) e) ∙ both.0)), one_line text both.1)

-- a line of words is read in its section
pub spaced_read : (text : List ℕ) (texts : List (List ℕ)) → AllByRecursion IsWord (text ∷ texts) → IsRead (spaced (text ∷ texts))
spaced_read text texts all = record {
  one = one_line (spaced (text ∷ texts)) (spaced_no_feeds (text ∷ texts) all);
  filled = spaced_filled text texts all.0;
  inner = ap (λ t. is_section (t ++ flat_map (λ next. 32 ∷ next) texts)) first.2 ∙ unmarked first.0 (first.1 ++ flat_map (λ next. 32 ∷ next) texts) (first_byte text all.0).mark;
  allowed = spaced_allowed (text ∷ texts) all;
}
  where
    first : (b : ℕ) × (rest : List ℕ) × (text ≡ b ∷ rest)
    first = all.0.filled

    unmarked : (b : ℕ) (line : List ℕ) → eqb b 61 ≡ false → is_section (b ∷ line) ≡ false
    unmarked b [] h = refl
    unmarked b (c ∷ line) h = ap (λ t. t && eqb c 61) h
