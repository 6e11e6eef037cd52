use Rattle.std.proofs.Common.{◌≡◌, ◌<◌, ◌∷◌, [], ℕ, false, true, IsSome, Some, length, length-set, set, sum_by, refl, sym, ap, subst, ◌∙◌, arith}
use Rattle.std.proofs.lemmas.List.{get_or_default}
use Rattle.sg_base.specs.MarkSet.{MarkSet, with_mark}
use Rattle.sg_maxmin.specs.Fill.{Flow, flow}
use Rattle.sg_maxmin.specs.Sharing.{HasLimit, IsFlow}
use Rattle.sg_lazy.specs.Lazily.{Lazily}
use Rattle.sg_lazy.specs.RunningFlow.{RunningFlow}
use Rattle.sg_activity_table.specs.declared.kinds.HostCap.{HostCap}
use Rattle.sg_activity_table.specs.declared.kinds.PhaseKind.TheVariants as phase
use Rattle.sg_activity.specs.declared.activity_state.Kept.{Kept}
use Rattle.sg_activity_table.specs.declared.lives.Live.{Live}
use Rattle.sg_activity.specs.Hosts.{host_at}
use Rattle.sg_activity_table.specs.Slots.{sooner}
use Rattle.sg_activity.specs.Task.{flow_at, flow_of, on_host}
use Rattle.sg_activity_table.specs.Kinds.{flows_ahead}
use Rattle.sg_activity_table.specs.Pool.{slot_at, uses_ahead}
use Rattle.sg_activity.specs.kept.Sound.{IsKept, IsPlace, IsPlaceOf, IsSound, slot_ahead, slot_uses}
use Rattle.sg_activity.specs.kept.State.{State, links_at, place_of, state_of, task_from, under_of, ways_of}
use Rattle.sg_activity.specs.kept.Turns.{Turns}
use Rattle.sg_activity.proofs.Pairing.{there_within}
use Rattle.sg_activity.proofs.Roomy.{ahead_set, uses_set}
use Rattle.sg_activity.proofs.Routed.{host_is_flow, sooner_some}
use Rattle.sg_activity.proofs.Swapped.{hits_swapped}
use Rattle.sg_activity.proofs.Turned.{turned}
use Rattle.sg_activity.proofs.Turning.{begun_state, flow_turns, resumed_begins, resumed_under, state_same}
use Rattle.sg_activity.proofs.phases.go_on.Goals as goal

-- the host of a suspended execution
host_there : (kept : Kept) (key host : ℕ) (live : Live) → IsSound kept → slot_at kept.lives.slots key ≡ Some live → place_of live.place (links_at (ways_of kept) key) ≡ on_host host → host < length kept.hosts.items
host_there kept key host live sound at e = subst (IsPlace (state_of kept).capacities) e (sound.are.each key live at).placed

pub index-requires : goal.index-requires
index-requires c = omega (arith, host_there c.args.kept.now c.args.key c.in-OnHost.host.0 c.args.live c.requires.there.sound c.requires.there.at (ap (λ p. place_of p (links_at (ways_of c.args.kept.now) c.args.key)) c.in-OnHost.is), c.args.kept.now.hosts.ok.0)

pub start-flow-requires-clause-flow : goal.start-flow-requires-clause-flow
start-flow-requires-clause-flow c =
    let kept = c.args.kept.now in
    let live = c.args.live in
    let host = c.in-OnHost.host.0 in
    let at = ap (λ p. place_of p (links_at (ways_of kept) c.args.key)) c.in-OnHost.is in
    let weighs = (c.requires.there.sound.are.each c.args.key live c.requires.there.at).weighs in
    subst (λ l. IsFlow l (flow (host ∷ []) live.weight c.tighter-bound.result)) (sym c.requires.there.sound.room.capacities)
    (host_is_flow (state_of kept).capacities host live.weight c.tighter-bound.result (host_there kept c.args.key host live c.requires.there.sound c.requires.there.at at) weighs (subst (λ o. IsSome o) (sym c.tighter-bound.ensures) (sooner_some c.index.result.now.speed live.bound)))

pub returns-clause-goes_on : goal.returns-clause-goes_on
returns-clause-goes_on c =
    let kept = c.args.kept.now in
    let s : State = state_of kept in
    let sound = c.requires.there.sound in
    let key = c.args.key in
    let old = c.args.live in
    let id = c.start-flow.result in
    let h = sound.are.each key old c.requires.there.at in
    let host = c.in-OnHost.host.0 in
    let at = ap (λ p. place_of p (links_at s.ways key)) c.in-OnHost.is in
    let there = host_there kept key host old sound c.requires.there.at at in
    let live : Live = record old { kind = phase.Exec; stamp = kept.date; rate = 0; flow = id } in
    let fits : IsPlaceOf phase.Kept old.place = subst (λ k. IsPlaceOf k old.place) c.requires.kind h.fits in
    let speed = ap (λ (h : HostCap). h.speed) (c.index.ensures ∙ get_or_default kept.hosts.items _ _ _ there) in
    let bound : c.tighter-bound.result ≡ sooner (Some (host_at kept.hosts.items host).speed) old.bound = c.tighter-bound.ensures ∙ ap (λ n. sooner (Some n) old.bound) speed in
    let asked : Flow = flow_of s.capacities (task_from s.date (links_at s.ways key) live) in
    let asked_is : asked ≡ flow (host ∷ []) old.weight (sooner (Some (host_at kept.hosts.items host).speed) old.bound) = ap (flow_at s.capacities (task_from s.date (links_at s.ways key) live)) at in
    let run : RunningFlow = record { flow = asked; rate = 0; began = true; marked = true } in
    let within = there_within s.slots key old c.requires.there.at in
    let by_in : id < length s.by_flow = omega (arith, c.start-flow.ensures.in_range, sound.room.by_flow_long) in
    let starts = c.start-flow.ensures.starts in
    let runs : c.start-flow.new.self.slots ≡ set s.runs id (Some run) = ap (λ (l : Lazily). l.slots) starts ∙ ap (λ b. set s.runs id (Some (record { flow = flow (host ∷ []) old.weight b; rate = 0; began = true; marked = true }))) bound ∙ ap (λ f. set s.runs id (Some (record { flow = f; rate = 0; began = true; marked = true }))) (sym asked_is) in
    let lives : c.set.new.self.slots ≡ set s.slots key (Some live) = c.set.ensures.slots in
    let new : State = begun_state s s.drawn key live s.ways s.keys (set s.runs id (Some run)) (set s.by_flow id key) in
    let limit = subst HasLimit (sym asked_is) (host_is_flow s.capacities host old.weight (sooner (Some (host_at kept.hosts.items host).speed) old.bound) there h.weighs (sooner_some (host_at kept.hosts.items host).speed old.bound)).limit in
    let turns : Turns s new key live.serial (Some live) =
    flow_turns s s.drawn key live s.keys sound.are (resumed_begins s key old live sound.are c.requires.there.at c.requires.kind within refl refl refl refl refl fits) refl refl c.start-flow.ensures.free c.start-flow.ensures.in_range by_in limit h.placed in
    let state_is = state_same s s.drawn false c.set.new.self.slots (set s.slots key (Some live)) s.ways s.ways s.keys s.keys c.start-flow.new.self.slots (set s.runs id (Some run)) (set s.by_flow id key) (set s.by_flow id key) c.insert.new.self.members (with_mark key s.fresh) c.start-flow.new.self.ended s.ended c.start-flow.new.self.resources s.resources
    lives refl refl runs refl (ap (λ (m : MarkSet). m.members) c.insert.ensures) (ap (λ (l : Lazily). l.ended) starts) (ap (λ (l : Lazily). l.resources) starts) in
    record {
      slot = Some live;
      turns = subst (λ st. Turns s st key live.serial (Some live)) (sym state_is) turns;
      under = ap under_of state_is ∙ resumed_under s key old live (set s.runs id (Some run)) (set s.by_flow id key) sound.are c.requires.there.at c.requires.kind refl turns;
      drawn = refl;
      sound = record {
        are = subst IsKept (sym state_is) (turned s new key live.serial (Some live) sound.are turns);
        room = record {
          capacities = ap (λ (l : Lazily). l.capacities) starts ∙ sound.room.capacities;
          few = sound.room.few;
          early = sound.room.early;
          flows = omega (arith, sound.room.flows, c.requires.room, ap flows_ahead c.requires.kind, ahead_set s.slots key (Some live) within, ap slot_ahead c.requires.there.at, ap (sum_by slot_ahead) lives);
          flow_room = omega (arith, sound.room.flow_room, sound.room.flows, c.requires.room, ap (λ (l : Lazily). l.flow_room) starts);
          uses = omega (arith, sound.room.uses, c.requires.room, ap (λ k. uses_ahead k old.place) c.requires.kind, uses_set s.slots key (Some live) within, ap slot_uses c.requires.there.at, ap (sum_by slot_uses) lives);
          use_room = omega (arith, sound.room.use_room, sound.room.uses, c.requires.room, ap (λ (l : Lazily). l.use_room) starts);
          keys_free = omega (arith, sound.room.keys_free, c.set.ensures.room);
          rows_long = omega (arith, sound.room.rows_long, ap length lives, length-set s.slots key (Some live));
          agenda_long = omega (arith, sound.room.agenda_long, ap length lives, length-set s.slots key (Some live));
          fresh_room = omega (arith, sound.room.fresh_room, ap length lives, length-set s.slots key (Some live), ap (λ (m : MarkSet). m.room) c.insert.ensures);
          by_flow_long = omega (arith, sound.room.by_flow_long, ap length runs, length-set s.runs id (Some run), length-set s.by_flow id key);
        };
      };
      room = refl;
    }

pub returns-clause-hit : goal.returns-clause-hit
returns-clause-hit c hits is =
    let kept = c.args.kept.now in
    let s : State = state_of kept in
    let old = c.args.live in
    let path = links_at s.ways c.args.key in
    let live : Live = record old { kind = phase.Exec; stamp = kept.date; rate = 0; flow = c.start-flow.result } in
    hits_swapped s.slots c.set.new.self.slots c.args.key old live c.requires.there.at c.set.ensures.slots s.on s.ways hits is
    refl
