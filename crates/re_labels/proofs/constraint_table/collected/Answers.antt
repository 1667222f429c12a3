use Rattle.std.proofs.Common.{◌≡◌, ap, sym, ◌∙◌, arith}
use Rattle.re_labels.specs.ListSets.{with_list}
use Rattle.re_labels.proofs.Insertions.{length-with_list_most, list_set-step}
use Rattle.re_labels.proofs.constraint_table.collected.Goals as goal

pub loop-config-preserved : goal.loop-config-preserved
loop-config-preserved c =
    let new : c.insert.new.self.configs ≡ with_list c.loop-config.whole.configs c.config-item.result = c.in-Ok.ensures.configs ∙ ap (with_list c.loop-config.whole.configs) c.copy.ensures in
    record {
      degree = c.insert.ensures.degree ∙ c.loop-config.invariant.degree;
      configs = new ∙ ap (λ l. with_list l c.config-item.result) c.loop-config.invariant.configs
          ∙ sym (list_set-step c.args.configs.now c.loop-config.config-index c.config-item.result c.loop-config-test.true c.config-item.is);
      few = rw new (omega (arith, length-with_list_most c.loop-config.whole.configs c.config-item.result, c.loop-config.invariant.few));
    }
