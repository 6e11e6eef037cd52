use Rattle.std.proofs.Common.{◌+◌, ◌*◌, ◌<◌, true, false, length, All, sym, ap, subst, ◌∙◌, refl, arith}
use Rattle.sg_base.specs.MarkSet.{MarkSet}
use Rattle.sg_activity.specs.Underway.{work_of}
use Rattle.sg_activity.specs.Doing.{Doing, settled_in}
use Rattle.sg_activity.specs.kept.Renewal.{HaveKeys, AreRenewed}
use Rattle.sg_activity.specs.kept.Sound.{IsKept}
use Rattle.sg_activity.specs.kept.State.{State, state_of, doing_of}
use Rattle.sg_activity.proofs.Rates.{work_told}
use Rattle.sg_activity.proofs.Renewed.{all_dated}
use Rattle.sg_activity.proofs.Settled.{keyed_flows, small_before, small_lives, marked_below, ahead_stamped, uses_stamped, settled_kept, settled_told}
use Rattle.sg_activity.specs.kept.Index.{used_by}
use Rattle.sg_activity_table.specs.Pool.{slot_at}
use Rattle.sg_activity.specs.kept.State.{links_at}
use Rattle.sg_activity.specs.kept.Hits.{hit_in}
use Rattle.sg_activity.proofs.Hitting.{hits_still, hit_stamped}
use Rattle.sg_activity.proofs.Indexing.{used_still, used_stamped}
use Rattle.sg_activity.specs.Laws.{IsSameHost}
use Rattle.sg_activity.specs.kept.Metered.{energies, metered_in}
use Rattle.sg_activity.specs.kept.State.{under_of}
use Rattle.sg_activity.proofs.Elsewhere.{same_settled}
use Rattle.sg_activity.proofs.Metering.{metered_kept, metered_settled, work_metered}
use Rattle.sg_activity.proofs.activities.Activities.settle.Goals as goal

pub restamp-requires-clause-keys : goal.restamp-requires-clause-keys
restamp-requires-clause-keys g c =
    let kept = c.self.inside.kept in
    let s : State = state_of kept in
    subst (λ l. HaveKeys s.slots l c.settle.new.self s.date) (sym c.deref.ensures.value) (keyed_flows s kept.lazy c.settle.new.self c.self.invariant.sound.are refl c.settle.ensures.settled)

pub restamp-requires-clause-small : goal.restamp-requires-clause-small
restamp-requires-clause-small g c = small_before (state_of c.self.inside.kept) c.self.invariant.sound.are c.self.invariant.sound.room.early

pub renew-requires-clause-below : goal.renew-requires-clause-below
renew-requires-clause-below g c =
    let kept = c.self.inside.kept in
    let s : State = state_of kept in
    subst (All (λ key. key < length c.restamp.new.lives.slots)) (sym c.members.ensures.members)
    (marked_below s c.settle.new.self.changed c.restamp.new.fresh.members c.restamp.new.lives.slots c.self.invariant.sound.are c.restamp.ensures.fresh.members c.restamp.ensures.stamps.long)

pub renew-requires-clause-small : goal.renew-requires-clause-small
renew-requires-clause-small g c =
    let kept = c.self.inside.kept in
    let s : State = state_of kept in
    small_lives s c.settle.new.self.changed c.settle.new.self.slots c.restamp.new.lives.slots c.self.invariant.sound.are c.self.invariant.sound.room.early c.restamp.ensures.stamps.slots

pub invariant_of-self : goal.invariant_of-self
invariant_of-self g c =
    let kept = c.self.inside.kept in
    let s : State = state_of kept in
    let is = c.self.invariant.sound in
    let pool = c.restamp.new.lives in
    let new = c.settle.new.self in
    let by = c.settle.ensures.settled in
    let renewed = subst (λ l. AreRenewed c.restamp.new.agenda c.renew.new.agenda pool.slots l) c.members.ensures.members c.renew.ensures.dates in
    let dated = all_dated s.keys c.restamp.new.agenda c.renew.new.agenda kept.lives pool kept.fresh c.restamp.new.fresh new c.restamp.ensures.dates c.restamp.ensures.fresh renewed in
    let none = ap (λ (m : MarkSet). m.members) c.clear.ensures in
    let are = subst (λ l. IsKept (record s { slots = pool.slots; keys = c.renew.new.agenda; runs = new.slots; fresh = l; ended = new.ended; resources = new.resources; settled = true; arrived = false })) (sym none)
    (settled_kept s kept.lazy new pool kept.fresh c.renew.new.agenda is.are refl is.room.capacities by refl kept.lives refl c.restamp.ensures.stamps dated) in
    let told =
    ap (λ l. doing_of (record s { slots = pool.slots; keys = c.renew.new.agenda; runs = new.slots; fresh = l; ended = new.ended; resources = new.resources; settled = true; arrived = false }) kept.room) none
    ∙ settled_told s kept.lazy new pool kept.fresh c.renew.new.agenda is.are refl is.room.capacities by refl kept.lives refl c.restamp.ensures.stamps dated kept.room in
    record {
      sound = record {
        are = are;
        room = record {
          capacities = by.capacities_kept ∙ is.room.capacities;
          few = is.room.few;
          early = is.room.early;
          flows = is.room.flows ∙ ap (λ n. kept.room + n) (sym (ahead_stamped new.changed new.slots s.date s.slots pool.slots c.restamp.ensures.stamps.slots c.restamp.ensures.stamps.long));
          flow_room = omega (arith, is.room.flow_room, by.flow_room_back);
          uses = is.room.uses ∙ ap (λ n. 64 * kept.room + n) (sym (uses_stamped new.changed new.slots s.date s.slots pool.slots c.restamp.ensures.stamps.slots c.restamp.ensures.stamps.long));
          use_room = omega (arith, is.room.use_room, by.use_room_back);
          keys_free = omega (arith, is.room.keys_free, c.restamp.ensures.stamps.room);
          rows_long = omega (arith, is.room.rows_long, c.restamp.ensures.stamps.long);
          agenda_long = omega (arith, is.room.agenda_long, c.restamp.ensures.stamps.long, c.restamp.ensures.dates.long, c.renew.ensures.long);
          fresh_room = omega (arith, is.room.fresh_room, c.restamp.ensures.stamps.long, c.restamp.ensures.fresh.room, ap (λ (m : MarkSet). m.room) c.clear.ensures);
          by_flow_long = omega (arith, is.room.by_flow_long, by.numbers);
        };
      };
      hosts = c.self.invariant.hosts;
      used = used_still s.capacities s.slots s.ways kept.room c.self.inside.kept.index c.self.invariant.used pool.slots s.ways kept.room
          (λ key. ap (used_by (length s.capacities.hosts) (length s.capacities.links) (links_at s.ways key)) (c.restamp.ensures.stamps.slots key) ∙ used_stamped (length s.capacities.hosts) (length s.capacities.links) (links_at s.ways key) new.changed new.slots s.date (slot_at s.slots key))
          c.restamp.ensures.stamps.long (omega arith);
      switches = c.self.invariant.switches;
      hit = hits_still s.on s.slots s.ways c.self.inside.hits c.self.invariant.hit pool.slots s.ways (λ key. ap (hit_in s.on (links_at s.ways key)) (c.restamp.ensures.stamps.slots key) ∙ hit_stamped s.on (links_at s.ways key) new.changed new.slots s.date (slot_at s.slots key)) c.restamp.ensures.stamps.long;
      metered = metered_kept kept _ c.self.inside.meter c.self.inside.touched c.self.invariant.metered refl refl is.are are
          (λ host. subst (λ u. IsSameHost (under_of s) u host) (sym (ap (λ (d : Doing). d.under) told)) (same_settled (under_of s) host));
    }

pub returns-clause-settles : goal.returns-clause-settles
returns-clause-settles g c =
    let kept = c.self.inside.kept in
    let s : State = state_of kept in
    let is = c.self.invariant.sound in
    let pool = c.restamp.new.lives in
    let new = c.settle.new.self in
    let by = c.settle.ensures.settled in
    let renewed = subst (λ l. AreRenewed c.restamp.new.agenda c.renew.new.agenda pool.slots l) c.members.ensures.members c.renew.ensures.dates in
    let dated = all_dated s.keys c.restamp.new.agenda c.renew.new.agenda kept.lives pool kept.fresh c.restamp.new.fresh new c.restamp.ensures.dates c.restamp.ensures.fresh renewed in
    let none = ap (λ (m : MarkSet). m.members) c.clear.ensures in
    let told =
    ap (λ l. doing_of (record s { slots = pool.slots; keys = c.renew.new.agenda; runs = new.slots; fresh = l; ended = new.ended; resources = new.resources; settled = true; arrived = false }) kept.room) none
    ∙ settled_told s kept.lazy new pool kept.fresh c.renew.new.agenda is.are refl is.room.capacities by refl kept.lives refl c.restamp.ensures.stamps dated kept.room in
    ap (metered_in (energies kept.date c.self.inside.meter)) told
    ∙ metered_settled (energies kept.date c.self.inside.meter) (doing_of s kept.room)
    ∙ ap settled_in c.self.view_is

pub returns-clause-looks : goal.returns-clause-looks
returns-clause-looks g c =
    let s : State = state_of c.self.inside.kept in
    let same = work_told s c.self.invariant.sound.are in
    let view = ap (λ (d : Doing). work_of d.under) c.self.view_is in
    omega (arith, c.settle.ensures.looks, same, work_metered (energies c.self.inside.kept.date c.self.inside.meter) (under_of s), view)
