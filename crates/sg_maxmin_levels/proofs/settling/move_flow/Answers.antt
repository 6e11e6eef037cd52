use Rattle.std.proofs.Common.{◌<◌, ◌≤◌, ◌^◌, length, length-set, set, ap, subst, ◌∙◌, arith}
use Rattle.sg_base.specs.MarkSet.{MarkSet}
use Rattle.sg_maxmin.specs.Sharing.{uses_at}
use Rattle.sg_maxmin.specs.Numbered.{flow_in}
use Rattle.sg_maxmin.proofs.Users.{held_below, weighs}
use Rattle.sg_maxmin_levels.specs.Kept.{Shifts}
use Rattle.sg_maxmin_levels.proofs.Demand.{part_le}
use Rattle.sg_maxmin_levels.proofs.Keeping.{can_shift, moved_kept}
use Rattle.sg_maxmin_levels.proofs.settling.move_flow.Goals as goal

pub part-before-requires : goal.part-before-requires
part-before-requires g c = omega (arith, held_below c.args.system.now.slots c.args.flow c.requires.held, c.requires.kept.places.parts)

pub insert-requires : goal.insert-requires
insert-requires g c = omega (arith, held_below c.args.system.now.slots c.args.flow c.requires.held, c.requires.kept.places.moved)

pub visit_uses-requires-clause-places : goal.visit_uses-requires-clause-places
visit_uses-requires-clause-places g c =
    let places = c.requires.kept.places in
    record {
      sound = places.sound;
      levels = omega (arith, places.levels, length-set c.args.kept.now.levels.items c.args.flow c.args.level);
      parts = omega (arith, places.parts, length-set c.args.kept.now.parts.items c.args.flow c.part_of-after.result);
      moved = omega (arith, places.moved, ap (λ (m : MarkSet). m.room) c.insert.ensures);
      stale = places.stale;
      holds = places.holds;
      demands = places.demands;
      counts = places.counts;
      active = places.active;
    }

pub visit_uses-requires-clause-shift : goal.visit_uses-requires-clause-shift
visit_uses-requires-clause-shift g c =
    let kept = c.requires.kept in
    let le : c.part_of-after.result ≤ 2 ^ 65 = omega (arith, c.part_of-after.ensures, part_le (flow_in c.args.system.now.slots c.args.flow) c.args.level (weighs c.args.system.now kept.places.sound c.args.flow).1) in
    can_shift c.args.system.now c.args.kept.now c.args.flow c.part-before.result c.part_of-after.result kept c.part-before.ensures le

pub returns-clause-to : goal.returns-clause-to
returns-clause-to g c =
    let s = c.args.system.now in
    let f = c.args.flow in
    let old = c.args.kept.now in
    let new = c.visit_uses.new.kept in
    let part = c.part_of-after.result in
    let out = c.visit_uses.ensures.levels in
    let places = c.requires.kept.places in
    let below : f < length old.parts.items = omega (arith, held_below s.slots f c.requires.held, places.parts) in
    let le : part ≤ 2 ^ 65 = omega (arith, c.part_of-after.ensures, part_le (flow_in s.slots f) c.args.level (weighs s c.requires.kept.places.sound f).1) in
    record {
      moved = record {
        level_is = out.levels;
        part_is = out.parts ∙ ap (set old.parts.items f) c.part_of-after.ensures;
        noted = out.moved ∙ c.insert.ensures;
        stale = out.stale;
        holds = out.holds;
      };
      kept = moved_kept s places.sound old new f part c.requires.held below le c.requires.kept
          (record {
            sound = places.sound;
            levels = omega (arith, places.levels, ap length out.levels, length-set old.levels.items f c.args.level);
            parts = omega (arith, places.parts, ap length out.parts, length-set old.parts.items f part);
            moved = omega (arith, places.moved, ap (λ (m : MarkSet). m.room) (out.moved ∙ c.insert.ensures));
            stale = omega (arith, places.stale, ap (λ (m : MarkSet). m.room) out.stale);
            holds = ap length out.holds ∙ places.holds;
            demands = out.demands ∙ places.demands;
            counts = out.counts ∙ places.counts;
            active = out.active ∙ places.active;
          }) out.parts out.longest
          (subst (λ b. Shifts b part (uses_at s.slots f) old.demands.items new.demands.items) c.part-before.ensures c.visit_uses.ensures.shifts) (λ n. omega (arith, c.visit_uses.ensures.counts n));
      looks = c.visit_uses.ensures.looks;
    }
