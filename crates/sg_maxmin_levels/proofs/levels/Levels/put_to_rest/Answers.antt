use Rattle.std.proofs.Common.{None, ◌∙◌}
use Rattle.sg_maxmin_levels.proofs.Noted.{noted_none}
use Rattle.sg_maxmin_levels.proofs.Steps.{rest_keeps}
use Rattle.sg_maxmin_levels.proofs.Within.{less_active}
use Rattle.sg_maxmin_levels.proofs.levels.Levels.put_to_rest.Goals as goal

pub returns : goal.returns
returns c =
    let all = c.args.self.now in
    let settling = c.requires.none.at.settling in
    let kept = settling.kept in
    let places = kept.places in
    record {
      settling = record {
        kept = record {
          places = record { sound = places.sound; levels = places.levels; parts = places.parts; moved = places.moved; stale = places.stale; holds = places.holds; demands = places.demands; counts = places.counts; active = c.remove.ensures.room ∙ places.active };
          demands = kept.demands;
          counts = kept.counts;
          fit = kept.fit;
          none = kept.none;
          longest = kept.longest;
        };
        parts = settling.parts;
        written = rest_keeps c.args.system.now c.is_sound.ensures all.levels.items all.holds.items all.active.members c.remove.new.self.members 0 None c.args.resource settling.written c.remove.ensures.others c.requires.held c.requires.none.hold_is;
      };
      moved = noted_none all.moved all.levels.items;
      within = λ p q along here are. record {
        active = λ r on. are.active r (less_active all.active.members c.remove.new.self.members c.args.resource r c.remove.ensures.gone c.remove.ensures.others on);
        moved = are.moved;
        stale = are.stale;
      };
    }
