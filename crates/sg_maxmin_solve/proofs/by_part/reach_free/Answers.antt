use Rattle.std.proofs.Common.{None, length-set, refl, ◌∙◌}
use Rattle.sg_maxmin_solve.proofs.Filled.{reached_more}
use Rattle.sg_maxmin_solve.proofs.by_part.reach_free.Goals as goal

pub returns-clause-filled : goal.returns-clause-filled
returns-clause-filled c =
    let f = c.args.filling.now in
    let old = c.requires.at.filled in
    let p = old.places in
    reached_more c.args.system.now c.args.component.now f _ c.args.resource c.insert.new.self old c.requires.at.exists c.requires.free c.insert.ensures
    (record {
      sound = p.sound;
      fixed_len = p.fixed_len;
      holds_len = length-set f.holds.items c.args.resource None ∙ p.holds_len;
      left_len = p.left_len;
      waiting_len = p.waiting_len;
      levels_len = p.levels_len;
      stale_room = p.stale_room;
      slots = p.slots;
    }) (record { waiting = old.idle.waiting; keys = old.idle.keys }) refl refl
