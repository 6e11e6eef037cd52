use Rattle.std.proofs.Common.{◌≡◌, ◌+◌, ◌-◌, ◌<◌, ◌≤◌, ◌^◌, ℕ, false, None, Some, List, All, get_or, length, length-set, set, sum_by, sym, ap, ap₂, subst, ◌∙◌, refl, arith}
use Rattle.sg_base.specs.MarkSet.{MarkSet, with_mark}
use Rattle.sg_base.specs.declared.ids.LinkId.{LinkId}
use Rattle.sg_activity_table.specs.declared.kinds.PhaseKind.TheVariants as phase
use Rattle.sg_activity_table.specs.declared.kinds.Place.TheVariants as place_is
use Rattle.sg_activity_table.specs.declared.lives.Live.{Live}
use Rattle.sg_activity.specs.Task.{Way, comm_of, is_cut, over, task_at}
use Rattle.sg_activity.specs.Doing.{Doing, IsTransfer, begun_in, way_of}
use Rattle.sg_activity.specs.kept.Hits.{AreHits}
use Rattle.sg_activity.specs.kept.Index.{used_at, used_by}
use Rattle.sg_activity.specs.kept.Rows.{way_in}
use Rattle.sg_activity.specs.kept.State.{State, state_of, links_at, ways_of, told_at, task_of, doing_of}
use Rattle.sg_activity.specs.kept.Sound.{IsKept, IsPath, slot_ahead, slot_uses}
use Rattle.sg_activity.specs.kept.Turns.{Turns}
use Rattle.sg_activity.proofs.Hitting.{hits_more}
use Rattle.sg_activity.proofs.Indexing.{all_used, long_used, row_idle, used_turned, way_back}
use Rattle.sg_activity_table.proofs.Listed.{length-listed}
use Rattle.sg_activity.proofs.Roomy.{ahead_set, uses_set}
use Rattle.sg_activity.proofs.Starts.{idle_serial, set_here, set_there}
use Rattle.sg_activity.proofs.Told.{mark_self, begun_told, task_told}
use Rattle.sg_activity.proofs.Turned.{turned}
use Rattle.sg_activity.proofs.Turning.{begun_state, state_same, time_turns, idle_begins, left_fresh}
use Rattle.sg_activity.specs.Laws.{IsSameHost}
use Rattle.sg_activity.specs.kept.Metered.{energies, metered_in}
use Rattle.sg_activity.specs.kept.State.{under_of}
use Rattle.sg_activity.specs.Power.{loads}
use Rattle.sg_activity_table.specs.Slots.{passes}
use Rattle.sg_activity.proofs.Elsewhere.{same_task}
use Rattle.sg_activity.proofs.Metering.{metered_kept}
use Rattle.sg_activity.proofs.activities.Activities.start_comm.Goals as goal

-- what is asked, of what is kept
given : (asked doing : Doing) (way : Way) (latency bytes : ℕ) → doing ≡ asked → IsTransfer asked.under way latency bytes → IsTransfer doing.under way latency bytes
given asked doing way latency bytes same is = subst (λ (d : Doing). IsTransfer d.under way latency bytes) (sym same) is

pub write_things-requires-clause-few : goal.write_things-requires-clause-few
write_things-requires-clause-few c = c.requires.transfer.few

pub write_things-requires-clause-exist : goal.write_things-requires-clause-exist
write_things-requires-clause-exist c =
    let kept = c.self.inside.kept in
    let may = given c.args.self.now (metered_in (energies kept.date c.self.inside.meter) (doing_of (state_of kept) kept.room)) (way_of c.args.links.now c.args.sender.0 c.args.receiver.0) c.args.latency c.args.bytes c.self.view_is c.requires.transfer in
    subst (λ n. All (λ (link : LinkId). link.0 < n) c.args.links.now) (sym (c.len-2.ensures ∙ kept.links.ok.0)) may.exist

pub write_things-requires-clause-ends : goal.write_things-requires-clause-ends
write_things-requires-clause-ends c =
    let kept = c.self.inside.kept in
    let may = given c.args.self.now (metered_in (energies kept.date c.self.inside.meter) (doing_of (state_of kept) kept.room)) (way_of c.args.links.now c.args.sender.0 c.args.receiver.0) c.args.latency c.args.bytes c.self.view_is c.requires.transfer in
    (omega (arith, may.sender, c.len.ensures, kept.hosts.ok.0), omega (arith, may.receiver, c.len.ensures, kept.hosts.ok.0))

pub write_things-requires-clause-fits : goal.write_things-requires-clause-fits
write_things-requires-clause-fits c =
    let kept = c.self.inside.kept in
    omega (arith, c.len.ensures, c.len-2.ensures, kept.hosts.ok.0, kept.links.ok.0, c.self.invariant.switches.1.1.0)

pub enter-requires-clause-key : goal.enter-requires-clause-key
enter-requires-clause-key c = omega (arith, c.put-key.ensures.in_range, c.self.invariant.used.long)

pub enter-requires-clause-idle : goal.enter-requires-clause-idle
enter-requires-clause-idle c =
    let s : State = state_of c.self.inside.kept in
    row_idle s.capacities s.slots s.ways c.self.inside.kept.room c.self.inside.kept.index c.self.invariant.used c.put-key.result c.put-key.ensures.free

pub enter-requires-clause-exist : goal.enter-requires-clause-exist
enter-requires-clause-exist c =
    let kept = c.self.inside.kept in
    let s : State = state_of kept in
    let may = given c.args.self.now (metered_in (energies kept.date c.self.inside.meter) (doing_of s kept.room)) (way_of c.args.links.now c.args.sender.0 c.args.receiver.0) c.args.latency c.args.bytes c.self.view_is c.requires.transfer in
    let things_are : c.as_slice.result.now ≡ used_at (length kept.hosts.items) (length kept.links.items) (over (way_of c.args.links.now c.args.sender.0 c.args.receiver.0)) = c.as_slice.ensures.value ∙ c.write_things.ensures
    ∙ ap₂ (λ n m. used_at n m (over (way_of c.args.links.now c.args.sender.0 c.args.receiver.0))) (c.len.ensures ∙ kept.hosts.ok.0) (c.len-2.ensures ∙ kept.links.ok.0) in
    subst (All (λ thing. thing < length c.self.inside.kept.index.users)) (sym things_are)
    (all_used (length kept.hosts.items) (length kept.links.items) (length c.self.inside.kept.index.users) (way_of c.args.links.now c.args.sender.0 c.args.receiver.0) (sym c.self.invariant.used.things) may.sender may.receiver may.exist)

pub enter-requires-clause-room : goal.enter-requires-clause-room
enter-requires-clause-room c =
    let kept = c.self.inside.kept in
    omega (arith, ap length (c.as_slice.ensures.value ∙ c.write_things.ensures), long_used c.len.result c.len-2.result (way_of c.args.links.now c.args.sender.0 c.args.receiver.0), c.requires.transfer.few, c.self.invariant.used.uses_free, ap (λ (d : Doing). d.room) c.self.view_is, c.requires.serial.room)

pub note_hit-requires : goal.note_hit-requires
note_hit-requires c = omega (arith, c.put-key.ensures.in_range, c.self.invariant.hit.long)

pub put-key-requires : goal.put-key-requires
put-key-requires c =
    let s : State = state_of c.self.inside.kept in
    let drawn : length c.args.self.now.under.tasks ≡ s.drawn = sym (ap (λ (d : Doing). length d.under.tasks) c.self.view_is) ∙ length-listed s.drawn (λ i. told_at (task_of s) s.slots (i + 1)) in
    record {
      room = omega (arith, c.self.invariant.sound.room.keys_free, ap (λ (d : Doing). d.room) c.self.view_is, c.requires.serial.room);
      apart = idle_serial s c.args.serial.0 c.self.invariant.sound.are (sym (task_told s c.args.serial.0 c.requires.serial.from (omega (arith, c.requires.serial.to, drawn))) ∙ ap (λ (d : Doing). task_at d.under.tasks c.args.serial.0) c.self.view_is ∙ c.requires.serial.idle);
    }

pub invariant_of-self : goal.invariant_of-self
invariant_of-self c =
    let kept = c.self.inside.kept in
    let s : State = state_of kept in
    let is = c.self.invariant.sound in
    let key = c.put-key.result in
    let live : Live = record { serial = c.args.serial.0; kind = phase.Latency; place = place_is.Over c.args.sender c.args.receiver (length c.args.links.now); kept = c.args.latency; stamp = kept.date; rate = 1; weight = 1; bound = c.args.bound; bytes = c.args.bytes; flow = 0 } in
    let drawn : length c.args.self.now.under.tasks ≡ s.drawn = sym (ap (λ (d : Doing). length d.under.tasks) c.self.view_is) ∙ length-listed s.drawn (λ i. told_at (task_of s) s.slots (i + 1)) in
    let free = c.put-key.ensures.free in
    let within = c.put-key.ensures.in_range in
    let to : live.serial ≤ s.drawn = omega (arith, c.requires.serial.to, drawn) in
    let may = given c.args.self.now (metered_in (energies kept.date c.self.inside.meter) (doing_of s kept.room)) (way_of c.args.links.now c.args.sender.0 c.args.receiver.0) c.args.latency c.args.bytes c.self.view_is c.requires.transfer in
    let small : live.kept ≤ 10 ^ 24 = omega (arith, may.latency) in
    let idle : told_at (task_of s) s.slots live.serial ≡ None = sym (task_told s live.serial c.requires.serial.from to) ∙ ap (λ (d : Doing). task_at d.under.tasks live.serial) c.self.view_is ∙ c.requires.serial.idle in
    let ways : ℕ → List LinkId = ways_of (record kept { index = c.enter.new.self }) in
    let things_are : c.as_slice.result.now ≡ used_at (length kept.hosts.items) (length kept.links.items) (over (way_of c.args.links.now c.args.sender.0 c.args.receiver.0)) = c.as_slice.ensures.value ∙ c.write_things.ensures
    ∙ ap₂ (λ n m. used_at n m (over (way_of c.args.links.now c.args.sender.0 c.args.receiver.0))) (c.len.ensures ∙ kept.hosts.ok.0) (c.len-2.ensures ∙ kept.links.ok.0) in
    let here : links_at ways key ≡ c.args.links.now = ap (way_in (length kept.hosts.items)) (c.enter.ensures.row.here ∙ things_are) ∙ way_back (length kept.hosts.items) (length kept.links.items) (way_of c.args.links.now c.args.sender.0 c.args.receiver.0) in
    let way : IsPath s.capacities (record { links = links_at ways key; sender = c.args.sender.0; receiver = c.args.receiver.0 }) = subst (λ l. IsPath s.capacities (record { links = l; sender = c.args.sender.0; receiver = c.args.receiver.0 })) (sym here)
    (record { links = record { some = may.some; apart = may.apart; exist = may.exist; few = may.few; small = c.self.invariant.switches.1.1.1 }; sender = may.sender; receiver = may.receiver }) in
    let new : State = begun_state s s.drawn key live ways s.keys s.runs s.by_flow in
    let turns : Turns s new key live.serial (Some live) = time_turns s s.drawn key live ways is.are (idle_begins s key live is.are within free c.requires.serial.from to idle refl small may.bytes (omega arith, omega arith) tt) free refl refl (λ k ne. ap (way_in (length kept.hosts.items)) (c.enter.ensures.row.others k ne)) way (λ _. omega (arith, ap length here)) in
    let state_is = state_same s s.drawn false c.put-key.new.self.slots (set s.slots key (Some live)) ways ways s.keys s.keys s.runs s.runs s.by_flow s.by_flow c.insert.new.self.members (with_mark key s.fresh) s.ended s.ended s.resources s.resources
    c.put-key.ensures.slots refl refl refl refl (ap (λ (m : MarkSet). m.members) c.insert.ensures) refl refl in
    let room = ap (λ (d : Doing). d.room) c.self.view_is in
    let used_here : used_at (length kept.hosts.items) (length kept.links.items) (over (way_of c.args.links.now c.args.sender.0 c.args.receiver.0)) ≡ used_by (length kept.hosts.items) (length kept.links.items) (links_at ways key) (Some live) = ap (λ l. used_by (length kept.hosts.items) (length kept.links.items) l (Some live)) (sym here) in
    let few : length c.as_slice.result.now ≤ 66 = omega (arith, ap length things_are, long_used (length kept.hosts.items) (length kept.links.items) (way_of c.args.links.now c.args.sender.0 c.args.receiver.0), may.few) in
    let are = subst IsKept (sym state_is) (turned s new key live.serial (Some live) is.are turns) in
    let told =
    ap (λ st. doing_of st (kept.room - 1)) state_is
    ∙ begun_told s new key live.serial (Some live) is.are turns live kept.room refl refl c.requires.serial.from to idle free (mark_self key s.fresh) refl
    ∙ ap₂ (λ n l. begun_in c.args.serial.0 (record { kind = phase.Latency; left = n; place = over (record { links = l; sender = c.args.sender.0; receiver = c.args.receiver.0 }); weight = 1; bound = c.args.bound; bytes = c.args.bytes }) (doing_of s kept.room)) (left_fresh c.args.latency 1 kept.date) here in
    record {
      sound = record {
        are = are;
        room = record {
          capacities = is.room.capacities;
          few = is.room.few;
          early = is.room.early;
          flows = omega (arith, is.room.flows, room, c.requires.serial.room, ahead_set s.slots key (Some live) within, ap slot_ahead free, ap (sum_by slot_ahead) c.put-key.ensures.slots);
          flow_room = omega (arith, is.room.flow_room);
          uses = omega (arith, is.room.uses, room, c.requires.serial.room, may.few, uses_set s.slots key (Some live) within, ap slot_uses free, ap (sum_by slot_uses) c.put-key.ensures.slots);
          use_room = omega (arith, is.room.use_room);
          keys_free = omega (arith, is.room.keys_free, room, c.requires.serial.room, c.put-key.ensures.room);
          rows_long = omega (arith, c.enter.ensures.row.long, is.room.rows_long, ap length c.put-key.ensures.slots, length-set s.slots key (Some live));
          agenda_long = omega (arith, is.room.agenda_long, ap length c.put-key.ensures.slots, length-set s.slots key (Some live));
          fresh_room = omega (arith, is.room.fresh_room, ap length c.put-key.ensures.slots, length-set s.slots key (Some live), ap (λ (m : MarkSet). m.room) c.insert.ensures);
          by_flow_long = is.room.by_flow_long;
        };
      };
      hosts = c.self.invariant.hosts;
      used = used_turned s.capacities s.slots s.ways kept.room c.self.inside.kept.index c.self.invariant.used c.put-key.new.self.slots ways (kept.room - 1) c.enter.new.self key c.as_slice.result.now c.enter.ensures.row
          (things_are ∙ used_here ∙ ap (used_by (length s.capacities.hosts) (length s.capacities.links) (links_at ways key)) (sym (ap (λ l. get_or l key None) c.put-key.ensures.slots ∙ set_here s.slots key (Some live) within)))
          (λ k ne. ap (λ l. get_or l k None) c.put-key.ensures.slots ∙ set_there s.slots key k (Some live) ne) (λ k ne. ap (way_in (length kept.hosts.items)) (c.enter.ensures.row.others k ne))
          (ap length c.put-key.ensures.slots ∙ length-set s.slots key (Some live)) c.enter.ensures.users
          (omega (arith, c.self.invariant.used.uses_free, c.enter.ensures.room, room, c.requires.serial.room, few));
      switches = c.self.invariant.switches;
      hit = subst (λ h. AreHits s.on c.put-key.new.self.slots ways h) (sym c.note_hit.ensures)
          (hits_more s.on s.slots s.ways c.self.inside.hits c.self.invariant.hit key live c.put-key.new.self.slots ways c.is_cut-cut.result free within
          (ap (λ l. is_cut s.on (way_of l c.args.sender.0 c.args.receiver.0)) here ∙ ap (λ (d : Doing). is_cut d.under.on (way_of c.args.links.now c.args.sender.0 c.args.receiver.0)) c.self.view_is ∙ sym c.is_cut-cut.ensures) c.put-key.ensures.slots
          (λ k ne. ap (way_in (length kept.hosts.items)) (c.enter.ensures.row.others k ne)));
      metered = metered_kept kept _ c.self.inside.meter c.self.inside.touched c.self.invariant.metered refl refl is.are are
          (λ host. subst (λ u. IsSameHost (under_of s) u host) (sym (ap (λ (d : Doing). d.under) told)) (same_task (under_of s) host c.args.serial.0 (Some (comm_of (way_of c.args.links.now c.args.sender.0 c.args.receiver.0) c.args.latency c.args.bytes c.args.bound)) (ap (passes (loads host)) (ap (λ (d : Doing). task_at d.under.tasks c.args.serial.0) c.self.view_is ∙ c.requires.serial.idle)) refl));
    }

pub returns : goal.returns
returns c =
    let kept = c.self.inside.kept in
    let s : State = state_of kept in
    let is = c.self.invariant.sound in
    let key = c.put-key.result in
    let live : Live = record { serial = c.args.serial.0; kind = phase.Latency; place = place_is.Over c.args.sender c.args.receiver (length c.args.links.now); kept = c.args.latency; stamp = kept.date; rate = 1; weight = 1; bound = c.args.bound; bytes = c.args.bytes; flow = 0 } in
    let drawn : length c.args.self.now.under.tasks ≡ s.drawn = sym (ap (λ (d : Doing). length d.under.tasks) c.self.view_is) ∙ length-listed s.drawn (λ i. told_at (task_of s) s.slots (i + 1)) in
    let free = c.put-key.ensures.free in
    let within = c.put-key.ensures.in_range in
    let to : live.serial ≤ s.drawn = omega (arith, c.requires.serial.to, drawn) in
    let may = given c.args.self.now (metered_in (energies kept.date c.self.inside.meter) (doing_of s kept.room)) (way_of c.args.links.now c.args.sender.0 c.args.receiver.0) c.args.latency c.args.bytes c.self.view_is c.requires.transfer in
    let small : live.kept ≤ 10 ^ 24 = omega (arith, may.latency) in
    let idle : told_at (task_of s) s.slots live.serial ≡ None = sym (task_told s live.serial c.requires.serial.from to) ∙ ap (λ (d : Doing). task_at d.under.tasks live.serial) c.self.view_is ∙ c.requires.serial.idle in
    let ways : ℕ → List LinkId = ways_of (record kept { index = c.enter.new.self }) in
    let things_are : c.as_slice.result.now ≡ used_at (length kept.hosts.items) (length kept.links.items) (over (way_of c.args.links.now c.args.sender.0 c.args.receiver.0)) = c.as_slice.ensures.value ∙ c.write_things.ensures
    ∙ ap₂ (λ n m. used_at n m (over (way_of c.args.links.now c.args.sender.0 c.args.receiver.0))) (c.len.ensures ∙ kept.hosts.ok.0) (c.len-2.ensures ∙ kept.links.ok.0) in
    let here : links_at ways key ≡ c.args.links.now = ap (way_in (length kept.hosts.items)) (c.enter.ensures.row.here ∙ things_are) ∙ way_back (length kept.hosts.items) (length kept.links.items) (way_of c.args.links.now c.args.sender.0 c.args.receiver.0) in
    let way : IsPath s.capacities (record { links = links_at ways key; sender = c.args.sender.0; receiver = c.args.receiver.0 }) = subst (λ l. IsPath s.capacities (record { links = l; sender = c.args.sender.0; receiver = c.args.receiver.0 })) (sym here)
    (record { links = record { some = may.some; apart = may.apart; exist = may.exist; few = may.few; small = c.self.invariant.switches.1.1.1 }; sender = may.sender; receiver = may.receiver }) in
    let new : State = begun_state s s.drawn key live ways s.keys s.runs s.by_flow in
    let turns : Turns s new key live.serial (Some live) = time_turns s s.drawn key live ways is.are (idle_begins s key live is.are within free c.requires.serial.from to idle refl small may.bytes (omega arith, omega arith) tt) free refl refl (λ k ne. ap (way_in (length kept.hosts.items)) (c.enter.ensures.row.others k ne)) way (λ _. omega (arith, ap length here)) in
    let state_is = state_same s s.drawn false c.put-key.new.self.slots (set s.slots key (Some live)) ways ways s.keys s.keys s.runs s.runs s.by_flow s.by_flow c.insert.new.self.members (with_mark key s.fresh) s.ended s.ended s.resources s.resources
    c.put-key.ensures.slots refl refl refl refl (ap (λ (m : MarkSet). m.members) c.insert.ensures) refl refl in
    let told =
    ap (λ st. doing_of st (kept.room - 1)) state_is
    ∙ begun_told s new key live.serial (Some live) is.are turns live kept.room refl refl c.requires.serial.from to idle free (mark_self key s.fresh) refl
    ∙ ap₂ (λ n l. begun_in c.args.serial.0 (record { kind = phase.Latency; left = n; place = over (record { links = l; sender = c.args.sender.0; receiver = c.args.receiver.0 }); weight = 1; bound = c.args.bound; bytes = c.args.bytes }) (doing_of s kept.room)) (left_fresh c.args.latency 1 kept.date) here in
    ap (metered_in (energies kept.date c.self.inside.meter)) told
    ∙ ap (begun_in c.args.serial.0 (comm_of (way_of c.args.links.now c.args.sender.0 c.args.receiver.0) c.args.latency c.args.bytes c.args.bound)) c.self.view_is
