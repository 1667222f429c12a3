-- Which sound chains `check` accepts.
use Rattle.std.proofs.Common.{◌≡◌, ℕ, Bool, true, false, not, length, refl, sym, ap, ◌∙◌, Option, Some, None}
use Rattle.std.specs.Prelude.{◌&&◌, if◌then◌else◌, is_none, is_some}
use Rattle.re_problem.specs.NamedProblems.{unnamed}
use Rattle.re_problem.specs.Zero.{zero_place}
use Rattle.re_cert.specs.Bounds.{Bound, is_fixed, last_problem}
use Rattle.re_chains.specs.Chains.{IsSound}
use Rattle.re_check.specs.Verdicts.{end_fault, ends_well, fault_at, fault_or, meets_back, meets_end, verdict_of, verdict_with}
use Rattle.re_check.specs.declared.clause.Clause.TheVariants.{Back, End}
use Rattle.re_check.specs.declared.verdict.Verdict.TheVariants.{Accepted}
use Rattle.re_settings.specs.Settings.{IsTakenIn, TakenAloneLaw}
use Rattle.re_settings.specs.declared.setting.Setting.TheVariants.{Alone}

module _ (chain : Bound) (sound : IsSound chain) (open_ : is_fixed chain.kind ≡ false) where
  by_end : verdict_of chain ≡ verdict_with chain.kind (length chain.steps) (if not (meets_end chain) then Some (fault_at (length chain.steps) End) else None)
  by_end =
      ap (λ fault. verdict_with chain.kind (length chain.steps) (fault_or fault (end_fault chain))) sound
      ∙ ap (λ b. verdict_with chain.kind (length chain.steps) (if not (meets_end chain) then Some (fault_at (length chain.steps) End) else if b && not (meets_back chain) then Some (fault_at (length chain.steps) Back) else None)) open_

  ends : meets_end chain ≡ true → IsTakenIn Alone chain
  ends meets = by_end ∙ ap (λ b. verdict_with chain.kind (length chain.steps) (if not b then Some (fault_at (length chain.steps) End) else None)) meets

  taken : IsTakenIn Alone chain → meets_end chain ≡ true
  taken accepted = go (meets_end chain) (sym by_end ∙ accepted)
    where
      go : (b : Bool) → verdict_with chain.kind (length chain.steps) (if not b then Some (fault_at (length chain.steps) End) else None) ≡ Accepted chain.kind (length chain.steps) → b ≡ true
      go true is = refl
      go false is = absurd (cc)

none_is : (place : Option ℕ) → is_none place ≡ true → place ≡ None
none_is None e = refl
none_is (Some place) e = absurd (cc)

some_is : (place : Option ℕ) → (is_some place ≡ true → place ≡ None → ⊥) × ((place ≡ None → ⊥) → is_some place ≡ true)
some_is None = (λ e none. let wrong : false ≡ true = e in cc, λ other. absurd (other refl))
some_is (Some place) = (λ e none. cc, λ other. refl)

pub taken_alone : TakenAloneLaw
taken_alone chain = record {
  lower = λ is.
      let place : Option ℕ = zero_place (unnamed (last_problem chain)) in
      let kind : ends_well chain.kind (last_problem chain) ≡ is_none place = ap (λ k. ends_well k (last_problem chain)) is.lower in
      let open_ = ap is_fixed is.lower in
      (λ accepted. none_is place (sym kind ∙ taken chain is.sound open_ accepted), λ none. ends chain is.sound open_ (kind ∙ ap is_none none));
  upper = λ is.
      let place : Option ℕ = zero_place (unnamed (last_problem chain)) in
      let kind : ends_well chain.kind (last_problem chain) ≡ is_some place = ap (λ k. ends_well k (last_problem chain)) is.upper in
      let open_ = ap is_fixed is.upper in
      (λ accepted. (some_is place).0 (sym kind ∙ taken chain is.sound open_ accepted), λ some. ends chain is.sound open_ (kind ∙ (some_is place).1 some));
}
