use Rattle.std.proofs.Common.{◌≡◌, ◌<◌, inl, inr, true, true≢false, length, length-set, sym, ap, subst, ◌∙◌, arith}
use Rattle.sg_maxmin.proofs.Users.{held_below}
use Rattle.sg_maxmin_levels.proofs.Changed.{HasLeft, ended_between}
use Rattle.sg_base.specs.MarkSet.{MarkSet, is_in}
use Rattle.sg_maxmin.specs.Sharing.{uses_at}
use Rattle.sg_maxmin.proofs.Listed.{bool_cases, eq_cases}
use Rattle.sg_maxmin_levels.specs.Kept.{IsKept, Shifts}
use Rattle.sg_maxmin_levels.proofs.Between.{notes_gone}
use Rattle.sg_maxmin_levels.proofs.Keeping.{can_shift, moved_kept}
use Rattle.sg_maxmin_levels.proofs.Renewing.{told_between}
use Rattle.sg_maxmin.specs.Numbered.{level_at}
use Rattle.sg_maxmin_levels.proofs.levels.Levels.end.Goals as goal

pub part-part-requires : goal.part-part-requires
part-part-requires g c = omega (arith, held_below c.args.system.now.slots c.args.flow c.requires.held, c.requires.between.kept.places.parts)

pub visit_uses-requires-clause-places : goal.visit_uses-requires-clause-places
visit_uses-requires-clause-places g c =
    let places = c.requires.between.kept.places in
    record {
      sound = places.sound;
      levels = places.levels;
      parts = omega (arith, places.parts, length-set c.args.self.now.parts.items c.args.flow 0);
      moved = places.moved;
      stale = places.stale;
      holds = places.holds;
      demands = places.demands;
      counts = places.counts;
      active = places.active;
    }

pub visit_uses-requires-clause-shift : goal.visit_uses-requires-clause-shift
visit_uses-requires-clause-shift g c = can_shift c.args.system.now c.args.self.now c.args.flow c.part-part.result 0 c.requires.between.kept c.part-part.ensures (omega arith)

pub remove-requires-2 : goal.remove-requires-2
remove-requires-2 g c =
    omega (arith, held_below c.args.system.now.slots c.args.flow c.requires.held, c.requires.between.kept.places.stale, ap (λ (m : MarkSet). m.room) c.visit_uses.ensures.levels.stale)

pub returns-clause-keeps : goal.returns-clause-keeps
returns-clause-keeps g c =
    let s = c.args.system.now in
    let f = c.args.flow in
    let old = c.args.self.now in
    let new = c.visit_uses.new.kept in
    let visits = c.visit_uses.ensures in
    let out = visits.levels in
    let left : HasLeft old new f = record { levels = out.levels; parts = out.parts; moved = out.moved; stale = out.stale; holds = out.holds } in
    record {
      between =
          let t = c.remove.new.self in
          let removed = c.remove.ensures in
          let before = c.requires.between in
          let places = before.kept.places in
          let below : f < length old.parts.items = omega (arith, held_below s.slots f c.requires.held, places.parts) in
          let kept : IsKept s new = moved_kept s places.sound old new f 0 c.requires.held below (omega arith) before.kept
          (record {
            sound = places.sound;
            levels = omega (arith, places.levels, ap length out.levels);
            parts = omega (arith, places.parts, ap length out.parts, length-set old.parts.items f 0);
            moved = omega (arith, places.moved, ap (λ (m : MarkSet). m.room) out.moved);
            stale = omega (arith, places.stale, ap (λ (m : MarkSet). m.room) out.stale);
            holds = ap length out.holds ∙ places.holds;
            demands = out.demands ∙ places.demands;
            counts = out.counts ∙ places.counts;
            active = out.active ∙ places.active;
          }) out.parts out.longest
          (subst (λ b. Shifts b 0 (uses_at s.slots f) old.demands.items new.demands.items) c.part-part.ensures visits.shifts) (λ n. omega (arith, visits.counts n)) in
          told_between t new c.remove-2.new.self c.remove-2.new.self.members c.remove-2.ensures.room
          (ended_between s t c.is_sound.ensures c.is_sound-2.ensures f removed.removed removed.numbers removed.capacities old new c.remove-2.new.self.members before
          below left c.remove-2.ensures.gone (λ other ne. c.remove-2.ensures.others other ne ∙ ap (λ (m : MarkSet). is_in other m.members) left.stale) visits.activates.all kept c.requires.held (λ n. visits.counts n));
      changed = notes_gone s c.remove.new.self old _ f c.remove.ensures.removed (λ other. ap (λ ls. level_at ls other) left.levels) (ap (λ (m : MarkSet). m.members) left.moved);
      joins = λ p q give are. record {
        active = λ r on. elim (bool_cases (is_in r (uses_at s.slots f))) [ inl used ↦ give r used | inr off ↦ are.active r (visits.activates.only r on off) ];
        moved = λ id i. are.moved id (subst (λ (m : MarkSet). is_in id m.members ≡ true) left.moved i);
        stale = λ id i. are.stale id (elim (eq_cases id f) [
          | inl e ↦ absurd (true≢false (sym i ∙ ap (λ n. is_in n c.remove-2.new.self.members) e ∙ c.remove-2.ensures.gone))
          | inr ne ↦ subst (λ (m : MarkSet). is_in id m.members ≡ true) left.stale (sym (c.remove-2.ensures.others id ne) ∙ i)
        ]);
      };
    }
