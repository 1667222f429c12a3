-- What is found behind relaxations, as what `cycle` may give.
use Rattle.std.proofs.Common.{◌≡◌, ℕ, Some, None, inl, inr, sym, ◌∙◌}
use Rattle.re_labels.specs.declared.TheConstants.{MAX_LABELS}
use Rattle.re_problem.specs.NamedProblems.{unnamed}
use Rattle.re_problem.specs.Zero.{zero_place}
use Rattle.re_cert.specs.Bounds.{Bound, last_problem}
use Rattle.re_cert.specs.declared.certificate.Kind.TheVariants.{Fixed}
use Rattle.re_cert.specs.declared.certificate.TheConstants.{MAX_STEPS}
use Rattle.re_chains.specs.Chains.{IsSoundLower}
use Rattle.re_chains.specs.OverChains.{GivesText, certificate_outcome}
use Rattle.re_frame.specs.Outcomes.{Outcome, refused}
use Rattle.re_frame.specs.SearchLines.{solvable_line}
use Rattle.re_settings.specs.Settings.{TakenAloneLaw}
use Rattle.re_settings.specs.declared.setting.Setting.TheVariants.{Alone}
use Rattle.re_search_words.specs.Lines.{searched_limit, searched_outcome}
use Rattle.re_search_words.specs.MayGive.{MayFindBy}
use Rattle.re_search_words.specs.declared.words.SearchWord.TheVariants.{Cycle}
use Rattle.re_shaping.specs.Extensions.{GoesOn}

module _ (chain : Bound) (law : TakenAloneLaw) (sound : IsSoundLower chain) (nodes : ℕ) (outcome : Outcome) where
  pub found : (bound : Bound) → zero_place (unnamed (last_problem chain)) ≡ None → GoesOn Fixed MAX_STEPS MAX_LABELS chain bound → outcome ≡ certificate_outcome bound → GivesText bound outcome
      → MayFindBy (Cycle MAX_STEPS 0 nodes) Alone chain outcome
  found bound none on one gives = inl (((law chain).lower sound).1 none, inl (bound, record { one = one; goes_on = on; gives = gives }))

  pub solvable : (place : ℕ) → zero_place (unnamed (last_problem chain)) ≡ Some place → outcome ≡ refused (solvable_line (last_problem chain) place) → MayFindBy (Cycle MAX_STEPS 0 nodes) Alone chain outcome
  solvable place some is = inr ((λ taken. let wrong : Some place ≡ None = sym some ∙ ((law chain).lower sound).0 taken in cc), (place, some, is))

  pub counted : (seen cut : ℕ) → zero_place (unnamed (last_problem chain)) ≡ None → outcome ≡ searched_outcome seen cut → MayFindBy (Cycle MAX_STEPS 0 nodes) Alone chain outcome
  counted seen cut none is = inl (((law chain).lower sound).1 none, inr (inl (seen, cut, is)))

  pub full : zero_place (unnamed (last_problem chain)) ≡ None → outcome ≡ searched_limit nodes → MayFindBy (Cycle MAX_STEPS 0 nodes) Alone chain outcome
  full none is = inl (((law chain).lower sound).1 none, inr (inr is))
