use Rattle.std.proofs.Common.{sym, ◌∙◌}
use Rattle.sg_maxmin_solve.proofs.by_part.fill_running.Goals as goal

pub returns : goal.returns
returns g c =
    let out = c.fill_part.ensures in
    record {
      on = out.on;
      there = λ off. out.there;
      least = λ p q along its t r. out.least p q along (its (sym c.contains.ensures ∙ c.if-contains.false)) t r;
    }
