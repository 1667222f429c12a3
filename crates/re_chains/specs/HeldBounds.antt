-- The bounds that chains of programs hold.
use Rattle.re_cert.specs.Bounds.{Bound}
use Rattle.re_chains.specs.declared.chains.Chain.{Chain}
use Rattle.re_chains.specs.declared.chains.Chain.TheVariants.{Lower, Upper}

-- the bound of a chain of either kind
abbrev pub held_bound : Chain → Bound
held_bound (Lower chain) = chain.certificate
held_bound (Upper chain) = chain.certificate
