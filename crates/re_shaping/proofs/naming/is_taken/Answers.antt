use Rattle.std.proofs.Common.{◌≡◌, false, refl, true}
use Rattle.re_shaping.proofs.NewNames.{taken-none, taken-some}
use Rattle.re_shaping.proofs.naming.is_taken.Goals as goal

pub returns-in-Some : goal.returns-in-Some
returns-in-Some c = taken-some c.args.names.now c.args.name.now c.args.label c.in-Some.other c.len-count.ensures.names c.requires (c.in-Some.ensures.held.0 refl) c.in-Some.ensures.place

pub returns-in-None : goal.returns-in-None
returns-in-None c = taken-none c.args.names.now c.args.name.now c.args.label (λ held. let wrong : false ≡ true = c.in-None.ensures.held.1 held in cc)
