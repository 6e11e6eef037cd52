use Rattle.std.proofs.Common.{◌≡◌, ◌<◌, ◌++◌, ℕ, false, true, IsSome, None, Some, length, length-set, option_to_list, set, sum_by, refl, sym, ap, subst, ◌∙◌, arith}
use Rattle.std.specs.Option.{IfSome}
use Rattle.sg_base.specs.MarkSet.{MarkSet, with_mark}
use Rattle.sg_lazy.specs.Lazily.{Lazily, without_flow}
use Rattle.sg_lazy.specs.RunningFlow.{RunningFlow, running_at}
use Rattle.sg_activity_table.specs.declared.kinds.PhaseKind.TheVariants as phase
use Rattle.sg_activity_table.specs.declared.lives.Live.{Live}
use Rattle.sg_activity.specs.Task.{flow_in}
use Rattle.sg_activity_table.specs.Kinds.{flows_ahead, takes_share}
use Rattle.sg_activity_table.specs.Pool.{uses_ahead}
use Rattle.sg_activity.specs.kept.Sound.{IsHeld, IsKept, IsPlaceOf, run_of, slot_ahead, slot_uses}
use Rattle.sg_activity.specs.kept.Stamps.{left_at}
use Rattle.sg_activity.specs.kept.State.{State, links_at, state_of, task_of, under_of}
use Rattle.sg_activity.specs.kept.Turns.{Turns}
use Rattle.sg_activity.proofs.Pairing.{there_within}
use Rattle.sg_activity.proofs.Roomy.{ahead_set, uses_set}
use Rattle.sg_activity.proofs.Starts.{held_unfilled, set_here}
use Rattle.sg_activity.proofs.Swapped.{hits_swapped}
use Rattle.sg_activity.proofs.Told.{mark_self}
use Rattle.sg_activity.proofs.Turned.{turned}
use Rattle.sg_activity.proofs.Turning.{ended_filled, held_state, held_turns, held_under, state_same}
use Rattle.sg_activity.proofs.phases.hold.Goals as goal

pub end-requires : goal.end-requires
end-requires c =
    let full : takes_share c.args.live.kind ≡ true = ap takes_share c.requires.kind in
    subst (λ o. IsSome o) (sym ((c.requires.there.sound.are.each c.args.key c.args.live c.requires.there.at).flow full).runs) refl

pub left_at-requires : goal.left_at-requires
left_at-requires c = (c.requires.there.sound.are.each c.args.key c.args.live c.requires.there.at).stamped

-- what is said of the flow that ended
gone : (old new : Lazily) (id : ℕ) (running : RunningFlow) → running_at old.slots id ≡ Some running → IfSome (running_at old.slots id) (λ r. new ≡ without_flow old id r.flow) → new ≡ without_flow old id running.flow
gone old new id running e is = subst (λ o. IfSome o (λ r. new ≡ without_flow old id r.flow)) e is

pub returns-clause-ends : goal.returns-clause-ends
returns-clause-ends c =
    let kept = c.args.kept.now in
    let s : State = state_of kept in
    let sound = c.requires.there.sound in
    let key = c.args.key in
    let old = c.args.live in
    let h = sound.are.each key old c.requires.there.at in
    let full : takes_share old.kind ≡ true = ap takes_share c.requires.kind in
    let is = gone kept.lazy c.end.new.self old.flow (run_of s key old (h.flow full).marked) (h.flow full).runs c.end.ensures in
    let left = left_at old.kept old.rate old.stamp kept.date in
    let live : Live = record old { kind = phase.Kept; kept = left; stamp = kept.date; rate = 0 } in
    let runs : c.end.new.self.slots ≡ set s.runs old.flow None = ap (λ (l : Lazily). l.slots) is in
    let ended : c.end.new.self.ended ≡ s.ended ++ option_to_list (flow_in s.capacities (Some (task_of s key old))) = ap (λ (l : Lazily). l.ended) is ∙ ended_filled s key old full in
    let lives : c.set.new.self.slots ≡ set s.slots key (Some live) = c.set.ensures.slots ∙ ap (λ n. set s.slots key (Some (record old { kind = phase.Kept; kept = n; stamp = kept.date; rate = 0 }))) c.left_at.ensures in
    let within = there_within s.slots key old c.requires.there.at in
    let keys_in : key < length s.keys = omega (arith, within, sound.room.agenda_long) in
    let more = s.ended ++ option_to_list (flow_in s.capacities (Some (task_of s key old))) in
    let new : State = held_state s key live (set s.runs old.flow None) more in
    let fits : IsPlaceOf phase.Exec old.place = subst (λ k. IsPlaceOf k old.place) c.requires.kind h.fits in
    let held : IsHeld new key live = held_unfilled new key live refl h.from h.to refl refl (omega (arith, h.small)) h.few_bytes h.weighs h.placed fits (λ e. absurd (cc e)) (mark_self key s.fresh) (set_here s.keys key None keys_in) in
    let turns : Turns s new key live.serial (Some live) = held_turns s key old live more sound.are c.requires.there.at full within keys_in refl refl refl held in
    let state_is = state_same s s.drawn false c.set.new.self.slots (set s.slots key (Some live)) s.ways s.ways c.clear.new.self (set s.keys key None) c.end.new.self.slots (set s.runs old.flow None) s.by_flow s.by_flow c.insert.new.self.members (with_mark key s.fresh) c.end.new.self.ended more c.end.new.self.resources s.resources
    lives refl c.clear.ensures runs refl (ap (λ (m : MarkSet). m.members) c.insert.ensures) ended (ap (λ (l : Lazily). l.resources) is) in
    record {
      slot = Some live;
      turns = subst (λ st. Turns s st key live.serial (Some live)) (sym state_is) turns;
      under = ap under_of state_is ∙ held_under s key old live (set s.runs old.flow None) more sound.are c.requires.there.at c.requires.kind refl refl turns;
      drawn = refl;
      sound = record {
        are = subst IsKept (sym state_is) (turned s new key live.serial (Some live) sound.are turns);
        room = record {
          capacities = ap (λ (l : Lazily). l.capacities) is ∙ sound.room.capacities;
          few = sound.room.few;
          early = sound.room.early;
          flows = omega (arith, sound.room.flows, ap flows_ahead c.requires.kind, ahead_set s.slots key (Some live) within, ap slot_ahead c.requires.there.at, ap (sum_by slot_ahead) lives);
          flow_room = omega (arith, sound.room.flow_room, ap (λ (l : Lazily). l.flow_room) is);
          uses = omega (arith, sound.room.uses, ap (λ k. uses_ahead k old.place) c.requires.kind, uses_set s.slots key (Some live) within, ap slot_uses c.requires.there.at, ap (sum_by slot_uses) lives);
          use_room = omega (arith, sound.room.use_room, ap (λ (l : Lazily). l.use_room) is);
          keys_free = omega (arith, sound.room.keys_free, c.set.ensures.room);
          rows_long = omega (arith, sound.room.rows_long, ap length lives, length-set s.slots key (Some live));
          agenda_long = omega (arith, sound.room.agenda_long, ap length lives, length-set s.slots key (Some live), ap length c.clear.ensures, length-set s.keys key None);
          fresh_room = omega (arith, sound.room.fresh_room, ap length lives, length-set s.slots key (Some live), ap (λ (m : MarkSet). m.room) c.insert.ensures);
          by_flow_long = omega (arith, sound.room.by_flow_long, ap length runs, length-set s.runs old.flow None);
        };
      };
      room = refl;
    }

pub returns-clause-hit : goal.returns-clause-hit
returns-clause-hit c hits is =
    let kept = c.args.kept.now in
    let s : State = state_of kept in
    let old = c.args.live in
    let path = links_at s.ways c.args.key in
    let live : Live = record old { kind = phase.Kept; kept = c.left_at.result; stamp = kept.date; rate = 0 } in
    hits_swapped s.slots c.set.new.self.slots c.args.key old live c.requires.there.at c.set.ensures.slots s.on s.ways hits is
    refl
