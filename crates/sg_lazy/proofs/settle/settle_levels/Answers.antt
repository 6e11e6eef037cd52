use Rattle.std.proofs.Common.{◌≡◌, ℕ, ◌+◌, ◌<◌, ◌≤◌, true, IsSome, length, get_or, refl, ap, subst, arith}
use Rattle.sg_maxmin.specs.Sharing.{flow_at}
use Rattle.sg_maxmin_levels.specs.Joined.{joined_count, joined_uses, spare_looks}
use Rattle.sg_maxmin.specs.Numbered.{all_uses}
use Rattle.sg_lazy.proofs.Joining.{uses_le}
use Rattle.sg_lazy.proofs.Leveled.{notes_none}
use Rattle.sg_maxmin.proofs.Listed.{in_at}
use Rattle.sg_lazy.proofs.settle.settle_levels.Goals as goal

pub returns-then-solver-eq0-clause-changed : goal.returns-then-solver-eq0-clause-changed
returns-then-solver-eq0-clause-changed g c = notes_none c.args.system.now c.args.solver.now.levels

pub returns-then-solver-eq0-clause-looks : goal.returns-then-solver-eq0-clause-looks
returns-then-solver-eq0-clause-looks g c = λ p q along marked. omega arith

pub returns-clause-solved : goal.returns-clause-solved
returns-clause-solved g c = λ yes'.
    let out = c.settle.ensures in
    record {
      between = out.between;
      filled = out.levels yes';
      quiet = out.none_active yes';
      none_stale = out.none_stale;
      changed = out.changed;
      within = λ p q along marked. out.within p q along (c.requires.within p q along marked);
      ready = c.requires.ready;
    }

pub returns-clause-pending : goal.returns-clause-pending
returns-clause-pending g c = λ _.
    let out = c.settle.ensures in
    record {
      between = out.between;
      ready = c.requires.ready;
      ended_room = c.requires.ended_room;
      below = c.requires.below;
      held = c.requires.held;
      gone = c.requires.gone;
      resources = c.requires.resources;
      within = λ p q along marked. out.within p q along (c.requires.within p q along marked);
    }

pub returns-clause-looks : goal.returns-clause-looks
returns-clause-looks g c = λ p q along marked.
    let s = c.args.system.now in
    let stale = c.args.solver.now.levels.stale.members in
    let w = c.requires.within p q along marked in
    let on : (i : ℕ) → i < length stale → IsSome (flow_at s.slots (get_or stale i 0)) × (p (get_or stale i 0) ≡ true) = λ i h. let here = in_at (get_or stale i 0) stale i h refl in (c.requires.between.alive (get_or stale i 0) here, w.stale (get_or stale i 0) here) in
    let few = uses_le s.slots p stale c.settle.ensures.once on in
    let ended = ap length c.members-ended.ensures.members in
    let looks = subst (λ n. c.settle.new.steps ≤ c.args.steps.now + all_uses s.slots stale + spare_looks (joined_count s.slots p) (joined_uses s.slots p) n) ended (c.settle.ensures.looks p q along w) in
    omega (arith, few, looks)
