use Rattle.std.proofs.Common.{length, sym, ap, ◌∙◌}
use Rattle.sg_activity_table.specs.Cells.{live_at}
use Rattle.sg_activity_table.specs.Pool.{Pool}
use Rattle.sg_activity_table.proofs.Listed.{length-listed}
use Rattle.sg_activity_table.proofs.lives.Lives.numbers.Goals as goal

pub returns : goal.returns
returns c = sym (length-listed c.self.inside.keys (live_at c.self.inside.slab)) ∙ ap (λ (p : Pool). length p.slots) c.self.view_is
