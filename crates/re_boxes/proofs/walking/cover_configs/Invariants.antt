use Rattle.std.proofs.Common.{◌≡◌, List, ℕ, map, ◌⊎◌}
use Rattle.std.specs.Prelude.{Contains}
use Rattle.re_labels.specs.GoodRows.{IsDominated}
use Rattle.re_boxes.specs.HeldStrength.{ups_in}
use Rattle.re_boxes.specs.Growing.{IsLonger}
use Rattle.re_boxes.proofs.walking.cover_configs.Given as goal

abbrev pub invariant-loop-config : goal.invariant-loop-config
invariant-loop-config g l = record {
  serves : g.K.Keeper.serves l.keeper l.constraint l.strength.labels;
  longer : IsLonger (g.K.Keeper.rows l.initial.keeper) (g.K.Keeper.rows l.keeper);
  most : g.K.Keeper.most l.keeper ≡ g.K.Keeper.most l.initial.keeper;
  held : (config : List ℕ) → Contains l.config-iterator config → Contains l.constraint.configs config;
  done : (config : List ℕ) → Contains l.constraint.configs config → Contains l.config-iterator config ⊎ IsDominated (g.K.Keeper.rows l.keeper) (map (ups_in l.strength.ups.items) config);
}
