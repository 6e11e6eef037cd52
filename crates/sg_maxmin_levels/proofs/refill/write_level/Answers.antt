use Rattle.std.proofs.Common.{◌≡◌, ◌<◌, ◌≤◌, ◌^◌, inl, inr, true, IsTrue, length, length-set, set, refl, sym, ap, subst, ◌∙◌, arith}
use Rattle.sg_base.specs.MarkSet.{MarkSet, is_in}
use Rattle.sg_maxmin.specs.Sharing.{uses_at}
use Rattle.sg_maxmin.specs.Numbered.{flow_in}
use Rattle.sg_maxmin_levels.specs.Kept.{Shifts}
use Rattle.sg_maxmin.proofs.Users.{held_below, weighs}
use Rattle.sg_maxmin_levels.proofs.Demand.{part_le}
use Rattle.sg_maxmin_levels.proofs.Keeping.{can_shift, moved_kept}
use Rattle.sg_maxmin_levels.proofs.Noted.{noted_one}
use Rattle.sg_maxmin_levels.proofs.Refilling.{moved_gives}
use Rattle.sg_maxmin_levels.proofs.Within.{marked_or}
use Rattle.sg_maxmin_levels.proofs.refill.write_level.Goals as goal

pub part-before-requires : goal.part-before-requires
part-before-requires g c = omega (arith, held_below c.args.system.now.slots c.args.flow c.requires.held, c.requires.kept.places.parts)

pub insert-requires : goal.insert-requires
insert-requires g c = omega (arith, held_below c.args.system.now.slots c.args.flow c.requires.held, c.requires.kept.places.moved)

pub shift_uses-requires-clause-shift : goal.shift_uses-requires-clause-shift
shift_uses-requires-clause-shift g c =
    let kept = c.requires.kept in
    let le : c.part_of-after.result ≤ 2 ^ 65 = omega (arith, c.part_of-after.ensures, part_le (flow_in c.args.system.now.slots c.args.flow) c.args.level (weighs c.args.system.now kept.places.sound c.args.flow).1) in
    can_shift c.args.system.now c.args.kept.now c.args.flow c.part-before.result c.part_of-after.result kept c.part-before.ensures le

pub returns-clause-given : goal.returns-clause-given
returns-clause-given g c =
    let s = c.args.system.now in
    let f = c.args.flow in
    let old = c.args.kept.now in
    let places = c.requires.kept.places in
    let below : f < length old.levels.items = omega (arith, held_below s.slots f c.requires.held, places.levels) in
    let below' : f < length old.parts.items = omega (arith, held_below s.slots f c.requires.held, places.parts) in
    moved_gives s old _ f c.args.level below below'
    (record {
      level_is = refl;
      part_is = ap (set old.parts.items f) c.part_of-after.ensures;
      noted = c.insert.ensures;
      stale = refl;
      holds = refl;
    })

pub returns-clause-moves : goal.returns-clause-moves
returns-clause-moves g c = record {
  kept =
      let s = c.args.system.now in
      let f = c.args.flow in
      let old = c.args.kept.now in
      let part = c.part_of-after.result in
      let places = c.requires.kept.places in
      let below : f < length old.parts.items = omega (arith, held_below s.slots f c.requires.held, places.parts) in
      let le : part ≤ 2 ^ 65 = omega (arith, c.part_of-after.ensures, part_le (flow_in s.slots f) c.args.level (weighs s c.requires.kept.places.sound f).1) in
      moved_kept s c.requires.kept.places.sound old _ f part c.requires.held below le c.requires.kept
      (record {
        sound = places.sound;
        levels = omega (arith, places.levels, length-set old.levels.items f c.args.level);
        parts = omega (arith, places.parts, length-set old.parts.items f part);
        moved = omega (arith, places.moved, ap (λ (m : MarkSet). m.room) c.insert.ensures);
        stale = places.stale;
        holds = places.holds;
        demands = c.shift_uses.ensures.places ∙ places.demands;
        counts = places.counts;
        active = places.active;
      }) refl refl
      (subst (λ b. Shifts b part (uses_at s.slots f) old.demands.items c.shift_uses.new.demands.items) c.part-before.ensures c.shift_uses.ensures.shifts) (λ n. omega arith);
  moved = noted_one c.args.kept.now.moved c.insert.new.self c.args.kept.now.levels.items (set c.args.kept.now.levels.items c.args.flow c.args.level) c.args.flow c.args.level c.insert.ensures refl;
  within = λ p q along here are. record {
    active = are.active;
    moved = λ id i. elim (marked_or id c.args.flow c.args.kept.now.moved.members (subst (λ (m : MarkSet). is_in id m.members ≡ true) c.insert.ensures i)) [ inl e ↦ subst (λ n. IsTrue (p n)) (sym e) here | inr j ↦ are.moved id j ];
    stale = are.stale;
  };
}
