use Rattle.std.proofs.Common.{None, set, sym, subst, arith}
use Rattle.sg_maxmin.specs.Chained.{users_on}
use Rattle.sg_maxmin_levels.specs.Settling.{AreSettlingOn}
use Rattle.sg_maxmin_levels.proofs.Steps.{any_end, start_keeps}
use Rattle.sg_maxmin_levels.proofs.Within.{less_active}
use Rattle.sg_maxmin_levels.proofs.levels.Levels.write_hold.Goals as goal

pub returns : goal.returns
returns g c =
    let s = c.args.system.now in
    let n = c.args.resource in
    let kept = c.args.self.now in
    let new = c.settle_users.new.kept in
    let row = users_on s.users n in
    let places = c.requires.at.settling.kept.places in
    let start = start_keeps s c.is_sound.ensures kept.levels.items kept.holds.items kept.active.members c.remove.new.self.members 0 None n c.args.hold c.requires.at.settling.written (omega (arith, c.requires.at.resource, places.holds)) c.remove.ensures.others c.requires.hold_is in
    let on = c.settle_users.ensures.settles (record {
      parts = c.requires.at.settling.parts;
      written = subst (λ o. AreSettlingOn s kept.levels.items (set kept.holds.items n c.args.hold) c.remove.new.self.members n o row) (sym c.hold-was.ensures) start;
    }) in
    record {
      settles = record {
        settling = record {
          kept = c.settle_users.ensures.kept;
          parts = on.parts;
          written = any_end s new.levels.items new.holds.items new.active.members n 0 c.hold-was.result None on.written;
        };
        moved = c.settle_users.ensures.moved;
        within = λ p q along here are.
            c.settle_users.ensures.within p q along here (record {
              active = λ r on. are.active r (less_active c.args.self.now.active.members c.remove.new.self.members c.args.resource r c.remove.ensures.gone c.remove.ensures.others on);
              moved = are.moved;
              stale = are.stale;
            });
      };
      looks = c.settle_users.ensures.looks;
      few = c.settle_users.ensures.few;
    }
