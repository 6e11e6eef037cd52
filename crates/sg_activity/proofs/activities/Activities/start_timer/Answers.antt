use Rattle.std.proofs.Common.{◌≡◌, ◌+◌, ◌-◌, ◌≤◌, ◌^◌, false, None, Some, length, length-set, set, sum_by, sym, ap, subst, ◌∙◌, refl, arith}
use Rattle.sg_base.specs.MarkSet.{MarkSet, with_mark}
use Rattle.sg_activity_table.specs.declared.kinds.PhaseKind.TheVariants as phase
use Rattle.sg_activity_table.specs.declared.kinds.Place.TheVariants as place_is
use Rattle.sg_activity_table.specs.declared.lives.Live.{Live}
use Rattle.sg_activity.specs.Task.{timer_of, nowhere}
use Rattle.sg_activity.specs.Doing.{Doing, started_in}
use Rattle.sg_activity.specs.kept.State.{State, state_of, told_at, task_of, doing_of}
use Rattle.sg_activity.specs.kept.Sound.{IsKept, slot_ahead, slot_uses}
use Rattle.sg_activity.specs.kept.Turns.{Turns}
use Rattle.sg_activity_table.proofs.Listed.{length-listed}
use Rattle.sg_activity.proofs.Roomy.{ahead_set, uses_set}
use Rattle.sg_activity.proofs.Told.{mark_self, started_told}
use Rattle.sg_activity.proofs.Turned.{turned}
use Rattle.sg_activity.proofs.Turning.{begun_state, state_same, time_turns, new_begins, left_fresh}
use Rattle.std.proofs.Common.{inl, inr, get_or}
use Rattle.sg_activity.specs.kept.Index.{used_by}
use Rattle.sg_activity.specs.kept.State.{links_at}
use Rattle.sg_activity.proofs.Hitting.{hits_more}
use Rattle.sg_activity.proofs.Indexing.{used_still}
use Rattle.sg_activity.proofs.Listing.{eq_cases}
use Rattle.sg_activity.proofs.Starts.{fresh_serial, set_here, set_there}
use Rattle.sg_activity.specs.Laws.{IsSameHost}
use Rattle.sg_activity.specs.kept.Metered.{energies, metered_in}
use Rattle.sg_activity.specs.kept.State.{under_of}
use Rattle.sg_activity.proofs.Elsewhere.{same_started}
use Rattle.sg_activity.proofs.Metering.{metered_kept}
use Rattle.sg_activity.proofs.activities.Activities.start_timer.Goals as goal

pub put-key-requires : goal.put-key-requires
put-key-requires c =
    let s : State = state_of c.self.inside.kept in
    let drawn : length c.args.self.now.under.tasks ≡ s.drawn = sym (ap (λ (d : Doing). length d.under.tasks) c.self.view_is) ∙ length-listed s.drawn (λ i. told_at (task_of s) s.slots (i + 1)) in
    record {
      room = omega (arith, c.self.invariant.sound.room.keys_free, ap (λ (d : Doing). d.room) c.self.view_is, c.requires.start.room);
      apart = fresh_serial s c.next_serial-serial.result.0 c.self.invariant.sound.are (omega (arith, c.next_serial-serial.ensures, drawn));
    }

pub invariant_of-self : goal.invariant_of-self
invariant_of-self c =
    let kept = c.self.inside.kept in
    let s : State = state_of kept in
    let is = c.self.invariant.sound in
    let key = c.put-key.result in
    let live : Live = record { serial = c.next_serial-serial.result.0; kind = phase.Timer; place = place_is.Nowhere; kept = c.from.result; stamp = kept.date; rate = 1; weight = 1; bound = None; bytes = 0; flow = 0 } in
    let room = ap (λ (d : Doing). d.room) c.self.view_is in
    let drawn : length c.args.self.now.under.tasks ≡ s.drawn = sym (ap (λ (d : Doing). length d.under.tasks) c.self.view_is) ∙ length-listed s.drawn (λ i. told_at (task_of s) s.slots (i + 1)) in
    let free = c.put-key.ensures.free in
    let within = c.put-key.ensures.in_range in
    let serial : live.serial ≡ s.drawn + 1 = omega (arith, c.next_serial-serial.ensures, drawn) in
    let small : live.kept ≤ 10 ^ 24 = omega (arith, c.from.ensures, c.requires.ns) in
    let new : State = begun_state s (s.drawn + 1) key live s.ways s.keys s.runs s.by_flow in
    let turns : Turns s new key live.serial (Some live) = time_turns s (s.drawn + 1) key live s.ways is.are (new_begins s key live is.are within free serial refl small (omega arith) (omega arith, omega arith) tt) free refl refl (λ k ne. refl) tt (λ e. absurd (cc e)) in
    let state_is = state_same s (s.drawn + 1) false c.put-key.new.self.slots (set s.slots key (Some live)) s.ways s.ways s.keys s.keys s.runs s.runs s.by_flow s.by_flow c.insert.new.self.members (with_mark key s.fresh) s.ended s.ended s.resources s.resources
    c.put-key.ensures.slots refl refl refl refl (ap (λ (m : MarkSet). m.members) c.insert.ensures) refl refl in
    let are = subst IsKept (sym state_is) (turned s new key live.serial (Some live) is.are turns) in
    let told =
    ap (λ st. doing_of st (kept.room - 1)) state_is
    ∙ started_told s new key live.serial (Some live) is.are turns live kept.room refl refl serial (mark_self key s.fresh) refl
    ∙ ap (λ n. started_in (record { kind = phase.Timer; left = n; place = nowhere; weight = 1; bound = None; bytes = 0 }) (doing_of s kept.room)) (left_fresh c.from.result 1 kept.date ∙ c.from.ensures) in
    record {
      sound = record {
        are = are;
        room = record {
          capacities = is.room.capacities;
          few = omega (arith, drawn, c.requires.start.few);
          early = is.room.early;
          flows = omega (arith, is.room.flows, room, c.requires.start.room, ahead_set s.slots key (Some live) within, ap slot_ahead free, ap (sum_by slot_ahead) c.put-key.ensures.slots);
          flow_room = omega (arith, is.room.flow_room);
          uses = omega (arith, is.room.uses, room, c.requires.start.room, uses_set s.slots key (Some live) within, ap slot_uses free, ap (sum_by slot_uses) c.put-key.ensures.slots);
          use_room = omega (arith, is.room.use_room);
          keys_free = omega (arith, is.room.keys_free, room, c.requires.start.room, c.put-key.ensures.room);
          rows_long = omega (arith, is.room.rows_long, ap length c.put-key.ensures.slots, length-set s.slots key (Some live));
          agenda_long = omega (arith, is.room.agenda_long, ap length c.put-key.ensures.slots, length-set s.slots key (Some live));
          fresh_room = omega (arith, is.room.fresh_room, ap length c.put-key.ensures.slots, length-set s.slots key (Some live), ap (λ (m : MarkSet). m.room) c.insert.ensures);
          by_flow_long = is.room.by_flow_long;
        };
      };
      hosts = c.self.invariant.hosts;
      used = used_still s.capacities s.slots s.ways kept.room c.self.inside.kept.index c.self.invariant.used c.put-key.new.self.slots s.ways (kept.room - 1)
          (λ k. ap (λ l. used_by (length s.capacities.hosts) (length s.capacities.links) (links_at s.ways k) (get_or l k None)) c.put-key.ensures.slots ∙ elim (eq_cases k key) [
            | inl e ↦ ap (λ n. used_by (length s.capacities.hosts) (length s.capacities.links) (links_at s.ways k) (get_or (set s.slots key (Some live)) n None)) e ∙ ap (used_by (length s.capacities.hosts) (length s.capacities.links) (links_at s.ways k)) (set_here s.slots key (Some live) within)
                ∙ sym (ap (λ n. used_by (length s.capacities.hosts) (length s.capacities.links) (links_at s.ways k) (get_or s.slots n None)) e ∙ ap (used_by (length s.capacities.hosts) (length s.capacities.links) (links_at s.ways k)) free)
            | inr ne ↦ ap (used_by (length s.capacities.hosts) (length s.capacities.links) (links_at s.ways k)) (set_there s.slots key k (Some live) ne)
          ])
          (ap length c.put-key.ensures.slots ∙ length-set s.slots key (Some live)) (omega arith);
      switches = c.self.invariant.switches;
      hit = hits_more s.on s.slots s.ways c.self.inside.hits c.self.invariant.hit key live c.put-key.new.self.slots s.ways false free within refl c.put-key.ensures.slots (λ k ne. refl);
      metered = metered_kept kept _ c.self.inside.meter c.self.inside.touched c.self.invariant.metered refl refl is.are are
          (λ host. subst (λ u. IsSameHost (under_of s) u host) (sym (ap (λ (d : Doing). d.under) told)) (same_started (under_of s) host (timer_of c.args.ns) refl));
    }

pub returns-clause-starts : goal.returns-clause-starts
returns-clause-starts c =
    let kept = c.self.inside.kept in
    let s : State = state_of kept in
    let is = c.self.invariant.sound in
    let key = c.put-key.result in
    let live : Live = record { serial = c.next_serial-serial.result.0; kind = phase.Timer; place = place_is.Nowhere; kept = c.from.result; stamp = kept.date; rate = 1; weight = 1; bound = None; bytes = 0; flow = 0 } in
    let drawn : length c.args.self.now.under.tasks ≡ s.drawn = sym (ap (λ (d : Doing). length d.under.tasks) c.self.view_is) ∙ length-listed s.drawn (λ i. told_at (task_of s) s.slots (i + 1)) in
    let free = c.put-key.ensures.free in
    let within = c.put-key.ensures.in_range in
    let serial : live.serial ≡ s.drawn + 1 = omega (arith, c.next_serial-serial.ensures, drawn) in
    let small : live.kept ≤ 10 ^ 24 = omega (arith, c.from.ensures, c.requires.ns) in
    let new : State = begun_state s (s.drawn + 1) key live s.ways s.keys s.runs s.by_flow in
    let turns : Turns s new key live.serial (Some live) = time_turns s (s.drawn + 1) key live s.ways is.are (new_begins s key live is.are within free serial refl small (omega arith) (omega arith, omega arith) tt) free refl refl (λ k ne. refl) tt (λ e. absurd (cc e)) in
    let state_is = state_same s (s.drawn + 1) false c.put-key.new.self.slots (set s.slots key (Some live)) s.ways s.ways s.keys s.keys s.runs s.runs s.by_flow s.by_flow c.insert.new.self.members (with_mark key s.fresh) s.ended s.ended s.resources s.resources
    c.put-key.ensures.slots refl refl refl refl (ap (λ (m : MarkSet). m.members) c.insert.ensures) refl refl in
    let told =
    ap (λ st. doing_of st (kept.room - 1)) state_is
    ∙ started_told s new key live.serial (Some live) is.are turns live kept.room refl refl serial (mark_self key s.fresh) refl
    ∙ ap (λ n. started_in (record { kind = phase.Timer; left = n; place = nowhere; weight = 1; bound = None; bytes = 0 }) (doing_of s kept.room)) (left_fresh c.from.result 1 kept.date ∙ c.from.ensures) in
    ap (metered_in (energies kept.date c.self.inside.meter)) told
    ∙ ap (started_in (timer_of c.args.ns)) c.self.view_is
