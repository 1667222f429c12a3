-- What the search for a short upper bound answers.
use Rattle.std.specs.Prelude.{◌≡◌, ℕ}
use Rattle.re_cert.specs.Bounds.{Bound}
use Rattle.re_cert.specs.declared.certificate.Kind.TheVariants.{Upper}
use Rattle.re_given_words.specs.Extensions.{GoesOnIn}
use Rattle.re_settings.specs.Settings.{IsTakenIn}
use Rattle.re_settings.specs.declared.setting.Setting.{Setting}
use Rattle.re_going_on.specs.declared.shortening.Shortest.{Shortest}
use Rattle.re_going_on.specs.declared.shortening.Shortest.TheVariants.{Found, NotFound}

-- an upper bound that goes on from the chain, or none
abbrev pub MayAnswer : Setting → ℕ → ℕ → Bound → Shortest → Type 0
MayAnswer setting most labels chain (Found bound) = GoesOnIn setting Upper most labels chain bound
MayAnswer setting most labels chain (NotFound nodes cut) = Unit {0}

-- where the chain is taken, that is the chain itself
abbrev pub IsChain : Bound → Shortest → Type 0
IsChain chain (Found bound) = bound ≡ chain
IsChain chain (NotFound nodes cut) = ⊥

pub record Answers (setting : Setting) (most labels : ℕ) (chain : Bound) (answer : Shortest) : Type 0 where
  pub may : MayAnswer setting most labels chain answer
  pub same : IsTakenIn setting chain → IsChain chain answer
