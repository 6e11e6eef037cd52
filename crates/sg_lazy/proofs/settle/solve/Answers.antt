use Rattle.std.proofs.Common.{arith}
use Rattle.sg_lazy.proofs.Leveled.{notes_on}
use Rattle.sg_lazy.proofs.settle.solve.Goals as goal

pub returns-then-settle_levels-clause-looks : goal.returns-then-settle_levels-clause-looks
returns-then-settle_levels-clause-looks g c = λ p q along marked. omega (arith, c.settle_levels.ensures.looks p q along marked)

pub returns-clause-solved : goal.returns-clause-solved
returns-clause-solved g c =
    let s = c.args.system.now in
    let out = c.fill_joined.ensures.solved in
    record {
      between = out.between;
      filled = out.filled;
      quiet = out.quiet;
      none_stale = out.none_stale;
      changed = notes_on s s s c.args.solver.now.levels c.settle_levels.new.solver.levels c.fill_joined.new.solver.levels c.settle_levels.ensures.changed out.changed;
      within = out.within;
      ready = out.ready;
    }

pub returns-clause-looks : goal.returns-clause-looks
returns-clause-looks g c = λ p q along marked. omega (arith, c.settle_levels.ensures.looks p q along marked, c.fill_joined.ensures.looks p q along marked)
