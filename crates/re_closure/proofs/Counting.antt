-- How many lines are found, wait and are looked at.
use Rattle.std.proofs.Common.{◌≡◌, ℕ, zero, suc, ◌+◌, ◌-◌, ◌*◌, ◌<◌, ◌≤◌, true, false, List, [], ◌∷◌, ◌++◌, length, refl, sym, ap, ◌∙◌, subst, inl, inr, arith, length-append}
use Rattle.std.specs.Prelude.{Contains, ◌↔◌}
use Rattle.std.proofs.Math.Nat.{mul-le-mul_right}
use Rattle.std.proofs.lemmas.Bool.{false≢true}
use Rattle.re_labels.proofs.ChoicesOfRows.{IsUnder-refl}
use Rattle.re_labels.proofs.Placing.{Dominates-dominates, Dominates-refl, Dominates-trans, dominates-Dominates}
use Rattle.re_labels.proofs.Rearranging.{Rearranged-sym}
use Rattle.re_labels.specs.Orders.{factorial}
use Rattle.re_labels.specs.Rearranging.{Rearranged}
use Rattle.re_labels.specs.Rows.{Dominates, dominates}
use Rattle.re_labels.proofs.Membership.{Contains-cases, Contains-here, Contains-none}
use Rattle.re_labels.proofs.Lists.{Contains-last, Contains-more}
use Rattle.re_labels.specs.GoodRows.{IsDominated}
use Rattle.re_closure_laws.specs.Closures.{IsGenerated}
use Rattle.re_closure.specs.Kept.{HasManyCombinations, IsCounted, IsKept, combinations_of, pairs_of}
use Rattle.re_closure.specs.declared.topmost.TheConstants.{MAX_COMBINATIONS}

-- ---- lists that grow
pub pushed_length : {X : Type 0} (old new : List X) (x : X) → new ≡ old ++ x ∷ [] → length new ≡ length old + 1
pushed_length old new x e = ap length e ∙ length-append old (x ∷ [])

pub factorial_split : (n : ℕ) → 0 < n → n * factorial (n - 1) ≡ factorial n
unfolding factorial
factorial_split zero low = absurd (omega arith)
factorial_split (suc m) low = let e : suc m - 1 ≡ m = omega arith in ap (λ k. suc m * factorial k) e

-- so many times as many at most
pub grown_more : (old mid new times most : ℕ) → mid ≤ old + times * most → new ≤ mid + most → new ≤ old + (times + 1) * most
grown_more old mid new times most h k = omega arith

pub grown_still : (old new times most : ℕ) → new ≤ old + times * most → new ≤ old + (times + 1) * most
grown_still old new times most h = omega arith

-- ---- lines that are looked at
module _ (d : ℕ) (starts : List (List (List ℕ))) where
  pub counted_begin : (kept : List (List (List ℕ))) → kept ≡ [] → IsCounted d starts kept starts 0
  counted_begin kept none = record {
    lines = [];
    generated = λ line h. absurd (Contains-none line h);
    different = tt;
    covered = λ line h. absurd (Contains-none line h);
    few = (let e = ap length none in omega (arith, e));
    count = omega arith;
  }

  pub counted_taken : (kept waiting left : List (List (List ℕ))) (line : List (List ℕ)) (looked : ℕ) → length waiting ≡ length left + 1 → IsCounted d starts kept waiting looked → IsCounted d starts kept (line ∷ left) looked
  counted_taken kept waiting left line looked one before = record {
    lines = before.lines;
    generated = before.generated;
    different = before.different;
    covered = before.covered;
    few = before.few;
    count = (let h = before.count in omega (arith, h, one));
  }

  pub counted_dominated : (kept waiting : List (List (List ℕ))) (line : List (List ℕ)) (looked : ℕ) → IsCounted d starts kept (line ∷ waiting) looked → IsCounted d starts kept waiting (looked + 1)
  counted_dominated kept waiting line looked before = record {
    lines = before.lines;
    generated = before.generated;
    different = before.different;
    covered = before.covered;
    few = before.few;
    count = (let h = before.count in omega (arith, h));
  }

  pub counted_full : (kept waiting : List (List (List ℕ))) → 0 < length waiting → IsCounted d starts kept waiting MAX_COMBINATIONS → HasManyCombinations d starts
  counted_full kept waiting some is = record {
    lines = is.lines;
    generated = is.generated;
    different = is.different;
    many = (let h = is.count in omega (arith, h, some));
  }

  -- a line that no kept one dominates is settled in place of those that it dominates
  module _ (old left new waiting : List (List (List ℕ))) (line copy : List (List ℕ)) (looked : ℕ) (free : IsDominated old line → ⊥)
      (of_old : (other : List (List ℕ)) → Contains left other ↔ (Contains old other × (Dominates line other → ⊥))) (fewer : length left ≤ length old) (same : copy ≡ line) (pushed : new ≡ left ++ copy ∷ [])
      (is : IsKept d starts old (line ∷ waiting)) (before : IsCounted d starts old (line ∷ waiting) looked) where
    whole : new ≡ left ++ line ∷ []
    whole = pushed ∙ ap (λ c. left ++ c ∷ []) same

    line_is : IsGenerated d starts line
    line_is = is.generated line (inr (Contains-here line waiting))

    pub line_length : length line ≡ d
    line_length = is.count line (inr (Contains-here line waiting))

    -- no line that was settled is this one in another order
    new_line : (other : List (List ℕ)) → Contains before.lines other → Rearranged line other → ⊥
    new_line other held p =
        let (top, at, dom) = before.covered other held in
        free (top, at, Dominates-trans top other line dom (line, Rearranged-sym p, IsUnder-refl line))

    lines_covered : (other : List (List ℕ)) → Contains (line ∷ before.lines) other → IsDominated new other
    lines_covered other held = subst (λ l. IsDominated l other) (sym whole) (elim (Contains-cases other line before.lines held) [
      | inl e ↦ (line, Contains-last left line, subst (Dominates line) (sym e) (Dominates-refl line))
      | inr h ↦ by_old other (before.covered other h)
    ])
      where
        by_old : (other : List (List ℕ)) → IsDominated old other → IsDominated (left ++ line ∷ []) other
        by_old other (top, at, dom) = elim (dominates line top) as (λ b. dominates line top ≡ b → IsDominated (left ++ line ∷ []) other) [
          | true ↦ λ e. (line, Contains-last left line, Dominates-trans line top other (dominates-Dominates line top e) dom)
          | false ↦ λ e. (top, Contains-more left line top ((of_old top).1 (at, λ over. false≢true (sym e ∙ Dominates-dominates line top over))), dom)
        ] refl

    new_count : length new ≡ length left + 1
    new_count = pushed_length left new copy pushed

    few_new : length new ≤ suc (length before.lines)
    few_new = let h = before.few in omega (arith, new_count, fewer, h)

    -- the combinations of the line with the kept ones
    few_combinations : length new * combinations_of (length line) ≤ suc (length before.lines) * combinations_of d
    few_combinations = subst (λ k. length new * combinations_of k ≤ suc (length before.lines) * combinations_of d) (sym line_length) (mul-le-mul_right (combinations_of d) few_new)

    together : (pairs more each : ℕ) → (pairs + more) * each ≡ pairs * each + more * each
    together pairs more each = omega arith

    pub counted_kept : (more : List (List (List ℕ))) → length more ≤ length waiting + length new * combinations_of (length line) → IsCounted d starts new more (looked + 1)
    counted_kept more grown = record {
      lines = line ∷ before.lines;
      generated = λ other h. elim (Contains-cases other line before.lines h) [ inl e ↦ subst (IsGenerated d starts) (sym e) line_is | inr k ↦ before.generated other k ];
      different = (new_line, before.different);
      covered = lines_covered;
      few = few_new;
      count = (
          let h = before.count in
          let k = few_combinations in
          let e = together (pairs_of (length before.lines)) (suc (length before.lines)) (combinations_of d) in
          omega (arith, h, k, e, grown)
          );
    }

    pub counted_many : MAX_COMBINATIONS < length waiting + length new * combinations_of (length line) → HasManyCombinations d starts
    counted_many full = record {
      lines = line ∷ before.lines;
      generated = λ other h. elim (Contains-cases other line before.lines h) [ inl e ↦ subst (IsGenerated d starts) (sym e) line_is | inr k ↦ before.generated other k ];
      different = (new_line, before.different);
      many = (
          let h = before.count in
          let k = few_combinations in
          let e = together (pairs_of (length before.lines)) (suc (length before.lines)) (combinations_of d) in
          omega (arith, h, k, e, full)
          );
    }
