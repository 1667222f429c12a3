-- What the search for a fixed point answers.
use Rattle.std.specs.Prelude.{ℕ}
use Rattle.re_labels.specs.declared.TheConstants.{MAX_LABELS}
use Rattle.re_cert.specs.Bounds.{Bound}
use Rattle.re_cert.specs.declared.certificate.Kind.TheVariants.{Fixed}
use Rattle.re_given_words.specs.Extensions.{GoesOnIn}
use Rattle.re_settings.specs.declared.setting.Setting.{Setting}
use Rattle.re_going_on.specs.declared.cycle.Cycle.{Cycle}
use Rattle.re_going_on.specs.declared.cycle.Cycle.TheVariants.{Found, NotFound, TooMany}

-- a fixed point that goes on from the chain; or nothing found, which says nothing of the problem
abbrev pub Answers : Setting → ℕ → Bound → Cycle → Type 0
Answers setting most chain (Found bound) = GoesOnIn setting Fixed most MAX_LABELS chain bound
Answers setting most chain (NotFound nodes cut) = Unit {0}
Answers setting most chain TooMany = Unit {0}

-- nothing was found
abbrev pub IsFailure : Cycle → Type 0
IsFailure (Found bound) = ⊥
IsFailure (NotFound nodes cut) = Unit {0}
IsFailure TooMany = Unit {0}
