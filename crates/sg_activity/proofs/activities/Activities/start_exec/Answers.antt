use Rattle.std.proofs.Common.{◌≡◌, ◌+◌, ◌-◌, ◌*◌, ◌<◌, ◌≤◌, ◌^◌, true, false, None, Some, [], ◌∷◌, length, length-set, set, sum_by, sym, ap, subst, ◌∙◌, refl, arith}
use Rattle.sg_base.specs.MarkSet.{MarkSet, with_mark}
use Rattle.sg_activity_table.specs.declared.kinds.PhaseKind.TheVariants as phase
use Rattle.sg_activity_table.specs.declared.kinds.Place.TheVariants as place_is
use Rattle.sg_activity_table.specs.declared.lives.Live.{Live}
use Rattle.sg_activity_table.specs.declared.kinds.HostCap.{HostCap}
use Rattle.sg_activity.specs.Hosts.{host_at}
use Rattle.sg_activity.specs.Task.{exec_of, on_host}
use Rattle.sg_lazy.specs.Lazily.{Lazily}
use Rattle.sg_lazy.specs.RunningFlow.{RunningFlow}
use Rattle.sg_maxmin.specs.Fill.{Flow, flow}
use Rattle.std.proofs.lemmas.List.{get_or_default}
use Rattle.sg_activity.specs.Doing.{Doing, started_in}
use Rattle.sg_activity.specs.kept.State.{State, state_of, told_at, task_of, doing_of}
use Rattle.sg_activity.specs.kept.Sound.{IsKept, slot_ahead, slot_uses}
use Rattle.sg_activity.specs.kept.Turns.{Turns}
use Rattle.sg_activity_table.proofs.Listed.{length-listed}
use Rattle.sg_activity.proofs.Roomy.{ahead_set, uses_set}
use Rattle.sg_activity.proofs.Told.{mark_self, started_told}
use Rattle.sg_activity.proofs.Turned.{turned}
use Rattle.sg_activity.proofs.Turning.{begun_state, state_same, flow_turns, new_begins, left_fresh}
use Rattle.std.proofs.Common.{get_or}
use Rattle.sg_activity.specs.kept.Index.{used_by}
use Rattle.sg_activity.specs.kept.Rows.{way_in}
use Rattle.sg_activity.specs.kept.State.{links_at, ways_of}
use Rattle.sg_activity.specs.Links.{is_off}
use Rattle.sg_activity.specs.kept.Hits.{AreHits}
use Rattle.sg_activity.proofs.Hitting.{hits_more}
use Rattle.sg_activity.proofs.Indexing.{row_idle, used_turned, ways_same}
use Rattle.sg_activity.proofs.Routed.{all_cons}
use Rattle.sg_activity.proofs.Starts.{fresh_serial, set_here, set_there}
use Rattle.sg_activity.specs.Laws.{IsSameHost}
use Rattle.sg_activity.specs.kept.Metered.{IsMetered, energies, metered_in}
use Rattle.sg_activity.specs.kept.State.{under_of}
use Rattle.sg_activity.proofs.Elsewhere.{same_started}
use Rattle.sg_activity.proofs.Metering.{metered_marked}
use Rattle.std.proofs.Common.{ne_eqb}
use Rattle.sg_activity.proofs.activities.Activities.start_exec.Goals as goal

pub enter-requires-clause-key : goal.enter-requires-clause-key
enter-requires-clause-key c = omega (arith, c.put-key.ensures.in_range, c.self.invariant.used.long)

pub enter-requires-clause-idle : goal.enter-requires-clause-idle
enter-requires-clause-idle c =
    let s : State = state_of c.self.inside.kept in
    row_idle s.capacities s.slots s.ways c.self.inside.kept.room c.self.inside.kept.index c.self.invariant.used c.put-key.result c.put-key.ensures.free

pub enter-requires-clause-exist : goal.enter-requires-clause-exist
enter-requires-clause-exist c =
    let there : c.args.host.0 < length c.self.inside.kept.hosts.items = subst (λ (d : Doing). c.args.host.0 < length d.under.capacities.hosts) (sym c.self.view_is) c.requires.host in
    all_cons (λ thing. thing < length c.self.inside.kept.index.users) c.args.host.0 [] (omega (arith, there, c.self.invariant.used.things)) (λ k d w. absurd (omega (arith, w)))

pub enter-requires-clause-room : goal.enter-requires-clause-room
enter-requires-clause-room c = omega (arith, c.self.invariant.used.uses_free, ap (λ (d : Doing). d.room) c.self.view_is, c.requires.start.room)

pub note_hit-requires : goal.note_hit-requires
note_hit-requires c = omega (arith, c.put-key.ensures.in_range, c.self.invariant.hit.long)

pub put-key-requires : goal.put-key-requires
put-key-requires c =
    let s : State = state_of c.self.inside.kept in
    let drawn : length c.args.self.now.under.tasks ≡ s.drawn = sym (ap (λ (d : Doing). length d.under.tasks) c.self.view_is) ∙ length-listed s.drawn (λ i. told_at (task_of s) s.slots (i + 1)) in
    record {
      room = omega (arith, c.self.invariant.sound.room.keys_free, ap (λ (d : Doing). d.room) c.self.view_is, c.requires.start.room);
      apart = fresh_serial s c.next_serial-serial.result.0 c.self.invariant.sound.are (omega (arith, c.next_serial-serial.ensures, drawn));
    }

pub invariant_of-self : goal.invariant_of-self
invariant_of-self c =
    let kept = c.self.inside.kept in
    let s : State = state_of kept in
    let is = c.self.invariant.sound in
    let key = c.put-key.result in
    let live : Live = record { serial = c.next_serial-serial.result.0; kind = phase.Exec; place = place_is.OnHost c.args.host; kept = c.from.result * 1000000000; stamp = kept.date; rate = 0; weight = c.args.priority; bound = None; bytes = 0; flow = c.start-flow.result } in
    let id = c.start-flow.result in
    let asked : Flow = flow (c.args.host.0 ∷ []) c.args.priority (Some (host_at kept.hosts.items c.args.host.0).speed) in
    let run : RunningFlow = record { flow = asked; rate = 0; began = true; marked = true } in
    let there : c.args.host.0 < length kept.hosts.items = subst (λ (d : Doing). c.args.host.0 < length d.under.capacities.hosts) (sym c.self.view_is) c.requires.host in
    let speed = ap (λ (h : HostCap). h.speed) (c.index.ensures ∙ get_or_default kept.hosts.items _ _ _ there) in
    let runs : c.start-flow.new.self.slots ≡ set s.runs id (Some run) = ap (λ (l : Lazily). l.slots) c.start-flow.ensures.starts ∙ ap (λ v. set s.runs id (Some (record { flow = flow (c.args.host.0 ∷ []) c.args.priority (Some v); rate = 0; began = true; marked = true }))) speed in
    let by_in : id < length s.by_flow = omega (arith, c.start-flow.ensures.in_range, is.room.by_flow_long) in
    let room = ap (λ (d : Doing). d.room) c.self.view_is in
    let drawn : length c.args.self.now.under.tasks ≡ s.drawn = sym (ap (λ (d : Doing). length d.under.tasks) c.self.view_is) ∙ length-listed s.drawn (λ i. told_at (task_of s) s.slots (i + 1)) in
    let free = c.put-key.ensures.free in
    let within = c.put-key.ensures.in_range in
    let serial : live.serial ≡ s.drawn + 1 = omega (arith, c.next_serial-serial.ensures, drawn) in
    let small : live.kept ≤ 10 ^ 24 = omega (arith, c.from.ensures, c.requires.flops) in
    let ways = ways_of (record kept { index = c.enter.new.self }) in
    let ways_are : ways ≡ s.ways = ways_same (length kept.hosts.items) key c.args.host.0 kept.index.rows c.enter.new.self.rows c.enter.ensures.row (row_idle s.capacities s.slots s.ways kept.room kept.index c.self.invariant.used key free) in
    let new : State = begun_state s (s.drawn + 1) key live s.ways s.keys (set s.runs id (Some run)) (set s.by_flow id key) in
    let turns : Turns s new key live.serial (Some live) = flow_turns s (s.drawn + 1) key live s.keys is.are (new_begins s key live is.are within free serial refl small (omega arith) c.requires.priority tt) refl refl c.start-flow.ensures.free c.start-flow.ensures.in_range by_in (record { weighs = c.requires.priority.0; bounds = λ _. refl }) there in
    let state_is = state_same s (s.drawn + 1) false c.put-key.new.self.slots (set s.slots key (Some live)) ways s.ways s.keys s.keys c.start-flow.new.self.slots (set s.runs id (Some run)) (set s.by_flow id key) (set s.by_flow id key) c.insert.new.self.members (with_mark key s.fresh) c.start-flow.new.self.ended s.ended c.start-flow.new.self.resources s.resources
    c.put-key.ensures.slots ways_are refl runs refl (ap (λ (m : MarkSet). m.members) c.insert.ensures) (ap (λ (l : Lazily). l.ended) c.start-flow.ensures.starts) (ap (λ (l : Lazily). l.resources) c.start-flow.ensures.starts) in
    let are = subst IsKept (sym state_is) (turned s new key live.serial (Some live) is.are turns) in
    let told =
    ap (λ st. doing_of st (kept.room - 1)) state_is
    ∙ started_told s new key live.serial (Some live) is.are turns live kept.room refl refl serial (mark_self key s.fresh) refl
    ∙ ap (λ n. started_in (record { kind = phase.Exec; left = n; place = on_host c.args.host.0; weight = c.args.priority; bound = None; bytes = 0 }) (doing_of s kept.room)) (left_fresh (c.from.result * 1000000000) 0 kept.date ∙ ap (λ n. n * 1000000000) c.from.ensures) in
    record {
      sound = record {
        are = are;
        room = record {
          capacities = ap (λ (l : Lazily). l.capacities) c.start-flow.ensures.starts ∙ is.room.capacities;
          few = omega (arith, drawn, c.requires.start.few);
          early = is.room.early;
          flows = omega (arith, is.room.flows, room, c.requires.start.room, ahead_set s.slots key (Some live) within, ap slot_ahead free, ap (sum_by slot_ahead) c.put-key.ensures.slots);
          flow_room = omega (arith, is.room.flow_room, is.room.flows, room, c.requires.start.room, ap (λ (l : Lazily). l.flow_room) c.start-flow.ensures.starts);
          uses = omega (arith, is.room.uses, room, c.requires.start.room, uses_set s.slots key (Some live) within, ap slot_uses free, ap (sum_by slot_uses) c.put-key.ensures.slots);
          use_room = omega (arith, is.room.use_room, is.room.uses, room, c.requires.start.room, ap (λ (l : Lazily). l.use_room) c.start-flow.ensures.starts);
          keys_free = omega (arith, is.room.keys_free, room, c.requires.start.room, c.put-key.ensures.room);
          rows_long = omega (arith, is.room.rows_long, c.enter.ensures.row.long, ap length c.put-key.ensures.slots, length-set s.slots key (Some live));
          agenda_long = omega (arith, is.room.agenda_long, ap length c.put-key.ensures.slots, length-set s.slots key (Some live));
          fresh_room = omega (arith, is.room.fresh_room, ap length c.put-key.ensures.slots, length-set s.slots key (Some live), ap (λ (m : MarkSet). m.room) c.insert.ensures);
          by_flow_long = omega (arith, is.room.by_flow_long, ap length runs, length-set s.runs id (Some run), length-set s.by_flow id key);
        };
      };
      hosts = c.self.invariant.hosts;
      used = used_turned s.capacities s.slots s.ways kept.room c.self.inside.kept.index c.self.invariant.used c.put-key.new.self.slots ways (kept.room - 1) c.enter.new.self key (c.args.host.0 ∷ []) c.enter.ensures.row
          (ap (used_by (length s.capacities.hosts) (length s.capacities.links) (links_at ways key)) (sym (ap (λ l. get_or l key None) c.put-key.ensures.slots ∙ set_here s.slots key (Some live) within)))
          (λ k ne. ap (λ l. get_or l k None) c.put-key.ensures.slots ∙ set_there s.slots key k (Some live) ne) (λ k ne. ap (way_in (length kept.hosts.items)) (c.enter.ensures.row.others k ne)) (ap length c.put-key.ensures.slots ∙ length-set s.slots key (Some live)) c.enter.ensures.users
          (omega (arith, c.self.invariant.used.uses_free, c.enter.ensures.room, room, c.requires.start.room));
      switches = c.self.invariant.switches;
      hit = subst (λ h. AreHits s.on c.put-key.new.self.slots ways h) (sym c.note_hit.ensures)
          (hits_more s.on s.slots s.ways c.self.inside.hits c.self.invariant.hit key live c.put-key.new.self.slots ways c.is_host_off-off.result free within (ap (λ (d : Doing). is_off d.under.on.hosts c.args.host.0) c.self.view_is ∙ sym c.is_host_off-off.ensures) c.put-key.ensures.slots (λ k ne. ap (way_in (length kept.hosts.items)) (c.enter.ensures.row.others k ne)));
      metered = subst (IsMetered _ c.self.inside.meter) (sym c.insert-2.ensures)
          (metered_marked kept _ c.self.inside.meter c.self.inside.touched c.args.host.0 c.self.invariant.metered refl refl is.are are
          (λ other ne. subst (λ u. IsSameHost (under_of s) u other) (sym (ap (λ (d : Doing). d.under) told)) (same_started (under_of s) other (exec_of c.args.host.0 c.args.flops c.args.priority) (ne_eqb c.args.host.0 other (λ e. ne (sym e))))));
    }

pub returns-clause-starts : goal.returns-clause-starts
returns-clause-starts c =
    let kept = c.self.inside.kept in
    let s : State = state_of kept in
    let is = c.self.invariant.sound in
    let key = c.put-key.result in
    let live : Live = record { serial = c.next_serial-serial.result.0; kind = phase.Exec; place = place_is.OnHost c.args.host; kept = c.from.result * 1000000000; stamp = kept.date; rate = 0; weight = c.args.priority; bound = None; bytes = 0; flow = c.start-flow.result } in
    let id = c.start-flow.result in
    let asked : Flow = flow (c.args.host.0 ∷ []) c.args.priority (Some (host_at kept.hosts.items c.args.host.0).speed) in
    let run : RunningFlow = record { flow = asked; rate = 0; began = true; marked = true } in
    let there : c.args.host.0 < length kept.hosts.items = subst (λ (d : Doing). c.args.host.0 < length d.under.capacities.hosts) (sym c.self.view_is) c.requires.host in
    let speed = ap (λ (h : HostCap). h.speed) (c.index.ensures ∙ get_or_default kept.hosts.items _ _ _ there) in
    let runs : c.start-flow.new.self.slots ≡ set s.runs id (Some run) = ap (λ (l : Lazily). l.slots) c.start-flow.ensures.starts ∙ ap (λ v. set s.runs id (Some (record { flow = flow (c.args.host.0 ∷ []) c.args.priority (Some v); rate = 0; began = true; marked = true }))) speed in
    let by_in : id < length s.by_flow = omega (arith, c.start-flow.ensures.in_range, is.room.by_flow_long) in
    let drawn : length c.args.self.now.under.tasks ≡ s.drawn = sym (ap (λ (d : Doing). length d.under.tasks) c.self.view_is) ∙ length-listed s.drawn (λ i. told_at (task_of s) s.slots (i + 1)) in
    let free = c.put-key.ensures.free in
    let within = c.put-key.ensures.in_range in
    let serial : live.serial ≡ s.drawn + 1 = omega (arith, c.next_serial-serial.ensures, drawn) in
    let small : live.kept ≤ 10 ^ 24 = omega (arith, c.from.ensures, c.requires.flops) in
    let ways = ways_of (record kept { index = c.enter.new.self }) in
    let ways_are : ways ≡ s.ways = ways_same (length kept.hosts.items) key c.args.host.0 kept.index.rows c.enter.new.self.rows c.enter.ensures.row (row_idle s.capacities s.slots s.ways kept.room kept.index c.self.invariant.used key free) in
    let new : State = begun_state s (s.drawn + 1) key live s.ways s.keys (set s.runs id (Some run)) (set s.by_flow id key) in
    let turns : Turns s new key live.serial (Some live) = flow_turns s (s.drawn + 1) key live s.keys is.are (new_begins s key live is.are within free serial refl small (omega arith) c.requires.priority tt) refl refl c.start-flow.ensures.free c.start-flow.ensures.in_range by_in (record { weighs = c.requires.priority.0; bounds = λ _. refl }) there in
    let state_is = state_same s (s.drawn + 1) false c.put-key.new.self.slots (set s.slots key (Some live)) ways s.ways s.keys s.keys c.start-flow.new.self.slots (set s.runs id (Some run)) (set s.by_flow id key) (set s.by_flow id key) c.insert.new.self.members (with_mark key s.fresh) c.start-flow.new.self.ended s.ended c.start-flow.new.self.resources s.resources
    c.put-key.ensures.slots ways_are refl runs refl (ap (λ (m : MarkSet). m.members) c.insert.ensures) (ap (λ (l : Lazily). l.ended) c.start-flow.ensures.starts) (ap (λ (l : Lazily). l.resources) c.start-flow.ensures.starts) in
    let told =
    ap (λ st. doing_of st (kept.room - 1)) state_is
    ∙ started_told s new key live.serial (Some live) is.are turns live kept.room refl refl serial (mark_self key s.fresh) refl
    ∙ ap (λ n. started_in (record { kind = phase.Exec; left = n; place = on_host c.args.host.0; weight = c.args.priority; bound = None; bytes = 0 }) (doing_of s kept.room)) (left_fresh (c.from.result * 1000000000) 0 kept.date ∙ ap (λ n. n * 1000000000) c.from.ensures) in
    ap (metered_in (energies kept.date c.self.inside.meter)) told
    ∙ ap (started_in (exec_of c.args.host.0 c.args.flops c.args.priority)) c.self.view_is
