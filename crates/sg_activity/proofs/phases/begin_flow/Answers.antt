use Rattle.std.proofs.Common.{◌≡◌, ◌*◌, ◌<◌, ◌≤◌, ℕ, All, true, false, is_some, None, Some, List, length, length-set, get_or, set, sum_by, sym, ap, ap₂, subst, ◌∙◌, refl, arith}
use Rattle.std.specs.Option.{IfSome}
use Rattle.sg_base.specs.declared.ids.LinkId.{LinkId}
use Rattle.sg_base.specs.MarkSet.{MarkSet, with_mark}
use Rattle.sg_maxmin.specs.Fill.{Flow, flow}
use Rattle.sg_maxmin.specs.Sharing.{HasLimit, IsFlow}
use Rattle.sg_lazy.specs.Lazily.{Lazily}
use Rattle.sg_lazy.specs.RunningFlow.{RunningFlow}
use Rattle.sg_activity.specs.declared.activity_state.Kept.{Kept}
use Rattle.sg_activity_table.specs.declared.kinds.PhaseKind.TheVariants as phase
use Rattle.sg_activity_table.specs.declared.lives.Live.{Live}
use Rattle.sg_activity.specs.Links.{capacities_of, route_bound, shared_of}
use Rattle.sg_activity_table.specs.Slots.{sooner}
use Rattle.sg_activity.specs.Task.{flow_of}
use Rattle.sg_activity.specs.kept.State.{State, state_of, links_at, task_from, under_of, ways_of}
use Rattle.sg_activity.specs.kept.Sound.{IsKept, IsOver, IsPlaceOf, IsSound, IsWay, slot_ahead, slot_uses}
use Rattle.sg_activity_table.specs.Kinds.{flows_ahead}
use Rattle.sg_activity_table.specs.Pool.{uses_ahead}
use Rattle.sg_activity.specs.kept.Turns.{Turns}
use Rattle.sg_activity.proofs.Pairing.{there_within}
use Rattle.sg_activity.proofs.Roomy.{ahead_set, ahead_counted, uses_set, uses_counted}
use Rattle.sg_activity.proofs.Routed.{shared_few, way_is_flow}
use Rattle.sg_activity.proofs.Turned.{turned}
use Rattle.sg_activity.proofs.Turning.{begun_state, state_same, flow_turns, flow_begins, flow_under}
use Rattle.std.proofs.Common.{inl, inr}
use Rattle.sg_activity.specs.kept.Index.{used_by}
use Rattle.sg_activity.specs.kept.Rows.{IsWayRow, row_at, way_in}
use Rattle.sg_activity.specs.kept.Whole.{IsUsed}
use Rattle.sg_activity.specs.kept.Hits.{hit_in}
use Rattle.sg_activity.proofs.Hitting.{hits_still}
use Rattle.sg_activity.proofs.Indexing.{over_flow, over_row, over_way, used_still}
use Rattle.sg_activity.proofs.Listing.{eq_cases}
use Rattle.sg_activity.proofs.Starts.{set_here, set_there}
use Rattle.sg_activity.proofs.phases.begin_flow.Goals as goal

-- a latency is over a route
over_of : (kept : Kept) (key : ℕ) (live : Live) → IsSound kept → get_or kept.lives.slots key None ≡ Some live → live.kind ≡ phase.Latency → IsOver live.place
over_of kept key live sound at latency = subst (λ k. IsPlaceOf k live.place) latency (sound.are.each key live at).fits

-- the route of a latency
way_of : (kept : Kept) (key : ℕ) (live : Live) → IsSound kept → get_or kept.lives.slots key None ≡ Some live → live.kind ≡ phase.Latency → IsWay (state_of kept).capacities (links_at (ways_of kept) key)
way_of kept key live sound at latency = over_way (state_of kept).capacities live.place (links_at (ways_of kept) key) (over_of kept key live sound at latency) (sound.are.each key live at).placed

-- the route of a latency can be read
row_of : (kept : Kept) (key : ℕ) (live : Live) → IsSound kept → IsUsed kept kept.index → get_or kept.lives.slots key None ≡ Some live → live.kind ≡ phase.Latency → IsWayRow (length kept.hosts.items) (row_at kept.index.rows key)
row_of kept key live sound used at latency =
    over_row (state_of kept).capacities (row_at kept.index.rows key) live.place (links_at (ways_of kept) key) (over_of kept key live sound at latency) (sound.are.each key live at).placed
    (used.rows key ∙ ap (used_by (length kept.hosts.items) (length kept.links.items) (links_at (ways_of kept) key)) at)

-- and what is read is what stands there
read : (kept : Kept) (key hosts : ℕ) (links : List LinkId) → hosts ≡ length kept.hosts.items → links ≡ way_in hosts (row_at kept.index.rows key) → links ≡ links_at (ways_of kept) key
read kept key hosts links many is = is ∙ ap (λ n. way_in n (row_at kept.index.rows key)) many

pub write_way-requires-clause-key : goal.write_way-requires-clause-key
write_way-requires-clause-key c = omega (arith, there_within c.args.kept.now.lives.slots c.args.key c.args.live c.requires.there.at, c.requires.there.sound.room.rows_long)

pub write_way-requires-clause-way : goal.write_way-requires-clause-way
write_way-requires-clause-way c =
    let kept = c.args.kept.now in
    subst (λ n. IsWayRow n (row_at kept.index.rows c.args.key)) (sym (c.len-hosts.ensures ∙ kept.hosts.ok.0)) (row_of kept c.args.key c.args.live c.requires.there.sound c.requires.there.used c.requires.there.at c.requires.kind)

pub write_uses-requires-clause-exist : goal.write_uses-requires-clause-exist
write_uses-requires-clause-exist c =
    let kept = c.args.kept.now in
    let route = c.as_slice.ensures.value ∙ read kept c.args.key c.len-hosts.result c.write_way.new.links.items (c.len-hosts.ensures ∙ kept.hosts.ok.0) c.write_way.ensures in
    let way = way_of kept c.args.key c.args.live c.requires.there.sound c.requires.there.at c.requires.kind in
    subst (λ l. All (λ (link : LinkId). link.0 < length l) c.as_slice.result.now) (sym c.deref.ensures.value)
    (subst (All (λ (link : LinkId). link.0 < length kept.links.items)) (sym route) way.exist)

pub write_uses-requires-clause-few : goal.write_uses-requires-clause-few
write_uses-requires-clause-few c =
    let kept = c.args.kept.now in
    let route = c.as_slice.ensures.value ∙ read kept c.args.key c.len-hosts.result c.write_way.new.links.items (c.len-hosts.ensures ∙ kept.hosts.ok.0) c.write_way.ensures in
    let way = way_of kept c.args.key c.args.live c.requires.there.sound c.requires.there.at c.requires.kind in
    omega (arith, way.few, ap length route)

pub bound_of-requires : goal.bound_of-requires
bound_of-requires c =
    let kept = c.args.kept.now in
    let route = c.as_slice-2.ensures.value ∙ read kept c.args.key c.len-hosts.result c.write_way.new.links.items (c.len-hosts.ensures ∙ kept.hosts.ok.0) c.write_way.ensures in
    let way = way_of kept c.args.key c.args.live c.requires.there.sound c.requires.there.at c.requires.kind in
    subst (λ l. All (λ (link : LinkId). link.0 < length l) c.as_slice-2.result.now) (sym c.deref-2.ensures.value)
    (subst (All (λ (link : LinkId). link.0 < length kept.links.items)) (sym route) way.exist)

pub start-flow-requires-clause-flow : goal.start-flow-requires-clause-flow
start-flow-requires-clause-flow c =
    let kept = c.args.kept.now in
    let s : State = state_of kept in
    let links = links_at (ways_of kept) c.args.key in
    let way_is = read kept c.args.key c.len-hosts.result c.write_way.new.links.items (c.len-hosts.ensures ∙ kept.hosts.ok.0) c.write_way.ensures in
    let way = way_of kept c.args.key c.args.live c.requires.there.sound c.requires.there.at c.requires.kind in
    let hosts : c.len-hosts.result ≡ length kept.hosts.items = c.len-hosts.ensures ∙ kept.hosts.ok.0 in
    let uses : c.as_slice-3.result.now ≡ shared_of (length kept.hosts.items) kept.links.items links = c.as_slice-3.ensures.value ∙ c.write_uses.ensures ∙ ap (λ n. shared_of n c.deref.result.now c.as_slice.result.now) hosts
    ∙ ap₂ (shared_of (length kept.hosts.items)) c.deref.ensures.value (c.as_slice.ensures.value ∙ way_is) in
    let bound : c.tighter-bound.result ≡ sooner (route_bound kept.links.items links) c.args.live.bound = c.tighter-bound.ensures ∙ ap (λ b. sooner b c.args.live.bound) (c.bound_of.ensures ∙ ap₂ route_bound c.deref-2.ensures.value (c.as_slice-2.ensures.value ∙ way_is)) in
    let weighs = (c.requires.there.sound.are.each c.args.key c.args.live c.requires.there.at).weighs in
    subst (λ l. IsFlow l (flow c.as_slice-3.result.now c.args.live.weight c.tighter-bound.result)) (sym c.requires.there.sound.room.capacities)
    (subst (IsFlow (capacities_of s.capacities)) (sym (ap₂ (λ u b. flow u c.args.live.weight b) uses bound)) (way_is_flow s.capacities links c.args.live.weight c.args.live.bound way weighs))

pub start-flow-requires-clause-use_room : goal.start-flow-requires-clause-use_room
start-flow-requires-clause-use_room c =
    let kept = c.args.kept.now in
    let old = c.args.live in
    let links = links_at (ways_of kept) c.args.key in
    let way_is = read kept c.args.key c.len-hosts.result c.write_way.new.links.items (c.len-hosts.ensures ∙ kept.hosts.ok.0) c.write_way.ensures in
    let uses : c.as_slice-3.result.now ≡ shared_of c.len-hosts.result kept.links.items links = c.as_slice-3.ensures.value ∙ c.write_uses.ensures ∙ ap₂ (shared_of c.len-hosts.result) c.deref.ensures.value (c.as_slice.ensures.value ∙ way_is) in
    let sound = c.requires.there.sound in
    omega (arith, ap length uses, shared_few c.len-hosts.result kept.links.items links, (sound.are.each c.args.key old c.requires.there.at).counted c.requires.kind, ap (λ k. uses_ahead k old.place) c.requires.kind, uses_counted kept.lives.slots c.args.key old (there_within kept.lives.slots c.args.key old c.requires.there.at) c.requires.there.at, sound.room.uses, sound.room.use_room)

pub set-requires-clause-there : goal.set-requires-clause-there
set-requires-clause-there c = ap is_some c.requires.there.at

pub set-requires-clause-same : goal.set-requires-clause-same
set-requires-clause-same c = subst (λ o. IfSome o (λ (l : Live). l.serial ≡ c.args.live.serial)) (sym c.requires.there.at) refl

pub overflow_mul-from : goal.overflow_mul-from
overflow_mul-from c =
    let small = (c.requires.there.sound.are.each c.args.key c.args.live c.requires.there.at).few_bytes in
    omega (arith, c.from.ensures, small)

pub returns-clause-ends : goal.returns-clause-ends
returns-clause-ends c =
    let kept = c.args.kept.now in
    let s : State = state_of kept in
    let sound = c.requires.there.sound in
    let key = c.args.key in
    let old = c.args.live in
    let id = c.start-flow.result in
    let links = links_at (ways_of kept) key in
    let way_is = read kept c.args.key c.len-hosts.result c.write_way.new.links.items (c.len-hosts.ensures ∙ kept.hosts.ok.0) c.write_way.ensures in
    let way = way_of kept key old sound c.requires.there.at c.requires.kind in
    let hosts : c.len-hosts.result ≡ length kept.hosts.items = c.len-hosts.ensures ∙ kept.hosts.ok.0 in
    let uses : c.as_slice-3.result.now ≡ shared_of (length kept.hosts.items) kept.links.items links = c.as_slice-3.ensures.value ∙ c.write_uses.ensures ∙ ap (λ n. shared_of n c.deref.result.now c.as_slice.result.now) hosts
    ∙ ap₂ (shared_of (length kept.hosts.items)) c.deref.ensures.value (c.as_slice.ensures.value ∙ way_is) in
    let bound : c.tighter-bound.result ≡ sooner (route_bound kept.links.items links) c.args.live.bound = c.tighter-bound.ensures ∙ ap (λ b. sooner b c.args.live.bound) (c.bound_of.ensures ∙ ap₂ route_bound c.deref-2.ensures.value (c.as_slice-2.ensures.value ∙ way_is)) in
    let weighs = (sound.are.each key old c.requires.there.at).weighs in
    let live : Live = record old { kind = phase.Flow; kept = old.bytes * 1000000000; stamp = kept.date; rate = 0; flow = id } in
    let over = over_of kept key old sound c.requires.there.at c.requires.kind in
    let asked : Flow = flow_of s.capacities (task_from s.date links live) in
    let asked_is : asked ≡ flow (shared_of (length kept.hosts.items) kept.links.items links) old.weight (sooner (route_bound kept.links.items links) old.bound) = over_flow s.capacities (task_from s.date links live) old.place links over in
    let run : RunningFlow = record { flow = asked; rate = 0; began = true; marked = true } in
    let within = there_within s.slots key old c.requires.there.at in
    let keys_in : key < length s.keys = omega (arith, within, sound.room.agenda_long) in
    let by_in : id < length s.by_flow = omega (arith, c.start-flow.ensures.in_range, sound.room.by_flow_long) in
    let starts = c.start-flow.ensures.starts in
    let runs : c.start-flow.new.self.slots ≡ set s.runs id (Some run) = ap (λ (l : Lazily). l.slots) starts ∙ ap₂ (λ u b. set s.runs id (Some (record { flow = flow u old.weight b; rate = 0; began = true; marked = true }))) uses bound ∙ ap (λ f. set s.runs id (Some (record { flow = f; rate = 0; began = true; marked = true }))) (sym asked_is) in
    let lives : c.set.new.self.slots ≡ set s.slots key (Some live) = c.set.ensures.slots ∙ ap (λ n. set s.slots key (Some (record old { kind = phase.Flow; kept = n * 1000000000; stamp = kept.date; rate = 0; flow = id }))) c.from.ensures in
    let new : State = begun_state s s.drawn key live s.ways (set s.keys key None) (set s.runs id (Some run)) (set s.by_flow id key) in
    let turns : Turns s new key live.serial (Some live) =
    flow_turns s s.drawn key live (set s.keys key None) sound.are (flow_begins s key old live sound.are c.requires.there.at c.requires.kind within keys_in refl refl refl refl refl over) refl refl c.start-flow.ensures.free c.start-flow.ensures.in_range by_in (subst HasLimit (sym asked_is) (way_is_flow s.capacities links old.weight old.bound way weighs).limit) (sound.are.each key old c.requires.there.at).placed in
    let state_is = state_same s s.drawn false c.set.new.self.slots (set s.slots key (Some live)) s.ways s.ways c.clear.new.self (set s.keys key None) c.start-flow.new.self.slots (set s.runs id (Some run)) (set s.by_flow id key) (set s.by_flow id key) c.insert.new.self.members (with_mark key s.fresh) c.start-flow.new.self.ended s.ended c.start-flow.new.self.resources s.resources
    lives refl c.clear.ensures runs refl (ap (λ (m : MarkSet). m.members) c.insert.ensures) (ap (λ (l : Lazily). l.ended) starts) (ap (λ (l : Lazily). l.resources) starts) in
    let counted = ahead_counted s.slots key old within c.requires.there.at in
    let few : length c.as_slice-3.result.now ≤ uses_ahead old.kind old.place = omega (arith, ap length uses, shared_few (length kept.hosts.items) kept.links.items links, (sound.are.each key old c.requires.there.at).counted c.requires.kind, ap (λ k. uses_ahead k old.place) c.requires.kind) in
    record {
      slot = Some live;
      turns = subst (λ st. Turns s st key live.serial (Some live)) (sym state_is) turns;
      under = ap under_of state_is ∙ flow_under s key old live (set s.keys key None) (set s.runs id (Some run)) (set s.by_flow id key) sound.are c.requires.there.at c.requires.kind refl turns;
      drawn = refl;
      sound = record {
        are = subst IsKept (sym state_is) (turned s new key live.serial (Some live) sound.are turns);
        room = record {
          capacities = ap (λ (l : Lazily). l.capacities) starts ∙ sound.room.capacities;
          few = sound.room.few;
          early = sound.room.early;
          flows = omega (arith, sound.room.flows, counted, ap flows_ahead c.requires.kind, ahead_set s.slots key (Some live) within, ap slot_ahead c.requires.there.at, ap (sum_by slot_ahead) lives);
          flow_room = omega (arith, sound.room.flow_room, ap (λ (l : Lazily). l.flow_room) starts);
          uses = omega (arith, sound.room.uses, c.uses_ahead.ensures, uses_counted s.slots key old within c.requires.there.at, uses_set s.slots key (Some live) within, ap slot_uses c.requires.there.at, ap (sum_by slot_uses) lives);
          use_room = omega (arith, sound.room.use_room, c.uses_ahead.ensures, few, ap (λ (l : Lazily). l.use_room) starts);
          keys_free = omega (arith, sound.room.keys_free, c.set.ensures.room);
          rows_long = omega (arith, sound.room.rows_long, ap length lives, length-set s.slots key (Some live));
          agenda_long = omega (arith, sound.room.agenda_long, ap length lives, length-set s.slots key (Some live), ap length c.clear.ensures, length-set s.keys key None);
          fresh_room = omega (arith, sound.room.fresh_room, ap length lives, length-set s.slots key (Some live), ap (λ (m : MarkSet). m.room) c.insert.ensures);
          by_flow_long = omega (arith, sound.room.by_flow_long, ap length runs, length-set s.runs id (Some run), length-set s.by_flow id key);
        };
      };
      room = refl;
    }

pub returns-clause-used : goal.returns-clause-used
returns-clause-used c =
    let kept = c.args.kept.now in
    let s : State = state_of kept in
    let key = c.args.key in
    let old = c.args.live in
    let live : Live = record old { kind = phase.Flow; kept = c.from.result * 1000000000; stamp = kept.date; rate = 0; flow = c.start-flow.result } in
    let within = there_within s.slots key old c.requires.there.at in
    used_still s.capacities s.slots s.ways kept.room kept.index c.requires.there.used c.set.new.self.slots s.ways kept.room
    (λ k. ap (λ l. used_by (length s.capacities.hosts) (length s.capacities.links) (links_at s.ways k) (get_or l k None)) c.set.ensures.slots ∙ elim (eq_cases k key) [
      | inl e ↦ ap (λ n. used_by (length s.capacities.hosts) (length s.capacities.links) (links_at s.ways k) (get_or (set s.slots key (Some live)) n None)) e ∙ ap (used_by (length s.capacities.hosts) (length s.capacities.links) (links_at s.ways k)) (set_here s.slots key (Some live) within)
          ∙ sym (ap (λ n. used_by (length s.capacities.hosts) (length s.capacities.links) (links_at s.ways k) (get_or s.slots n None)) e ∙ ap (used_by (length s.capacities.hosts) (length s.capacities.links) (links_at s.ways k)) c.requires.there.at)
      | inr ne ↦ ap (used_by (length s.capacities.hosts) (length s.capacities.links) (links_at s.ways k)) (set_there s.slots key k (Some live) ne)
    ])
    (ap length c.set.ensures.slots ∙ length-set s.slots key (Some live)) (omega arith)

pub returns-clause-hit : goal.returns-clause-hit
returns-clause-hit c hits is =
    let kept = c.args.kept.now in
    let s : State = state_of kept in
    let key = c.args.key in
    let old = c.args.live in
    let live : Live = record old { kind = phase.Flow; kept = c.from.result * 1000000000; stamp = kept.date; rate = 0; flow = c.start-flow.result } in
    let within = there_within s.slots key old c.requires.there.at in
    hits_still s.on s.slots s.ways hits is c.set.new.self.slots s.ways
    (λ k. ap (λ l. hit_in s.on (links_at s.ways k) (get_or l k None)) c.set.ensures.slots ∙ elim (eq_cases k key) [
      | inl e ↦ ap (λ n. hit_in s.on (links_at s.ways k) (get_or (set s.slots key (Some live)) n None)) e ∙ ap (hit_in s.on (links_at s.ways k)) (set_here s.slots key (Some live) within)
          ∙ sym (ap (λ n. hit_in s.on (links_at s.ways k) (get_or s.slots n None)) e ∙ ap (hit_in s.on (links_at s.ways k)) c.requires.there.at)
      | inr ne ↦ ap (hit_in s.on (links_at s.ways k)) (set_there s.slots key k (Some live) ne)
    ])
    (ap length c.set.ensures.slots ∙ length-set s.slots key (Some live))
