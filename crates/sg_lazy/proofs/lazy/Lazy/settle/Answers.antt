use Rattle.std.proofs.Common.{ℕ, ◌<◌, IsSome, length, get_or, refl, ap, subst, arith}
use Rattle.sg_base.specs.MarkSet.{MarkSet}
use Rattle.sg_maxmin.specs.Sharing.{flow_at}
use Rattle.sg_lazy.specs.Lazily.{IsSettled}
use Rattle.sg_lazy.specs.kept.Held.{running_in, ended_in}
use Rattle.sg_lazy.specs.kept.Leveled.{AreLeveled}
use Rattle.sg_lazy.proofs.Leveled.{no_marks}
use Rattle.sg_lazy.proofs.Whole.{is_settled, settled_lazy}
use Rattle.sg_maxmin.proofs.Listed.{in_at}
use Rattle.sg_lazy.proofs.lazy.Lazy.settle.Goals as goal

pub invariant_of-self : goal.invariant_of-self
invariant_of-self g c =
    let i = c.self.inside in
    let t = c.settle_flows.new.system in
    let out = c.settle_flows.ensures in
    let rates = c.settle_flows.new.rated.rates.items in
    let room = out.room in (
      settled_lazy i.system t i.pending.began.members i.pending.marked.members i.pending.ended.members i.rated.rates.items rates c.settle_flows.new.rated.changed.members out.refilled
          c.clear.new.self.members c.clear-2.new.self.members c.clear-3.new.self.members c.clear-4.new.self.members
          (ap (λ (m : MarkSet). m.members) c.clear.ensures) (ap (λ (m : MarkSet). m.members) c.clear-2.ensures) (ap (λ (m : MarkSet). m.members) c.clear-3.ensures) (ap (λ (m : MarkSet). m.members) c.clear-4.ensures),
      record {
        began = omega (arith, room.began, ap (λ (m : MarkSet). m.room) c.clear.ensures);
        marked = omega (arith, room.marked, ap (λ (m : MarkSet). m.room) c.clear-2.ensures);
        ended = omega (arith, room.ended, ap (λ (m : MarkSet). m.room) c.clear-3.ensures);
        resources = omega (arith, room.resources, ap (λ (m : MarkSet). m.room) c.clear-4.ensures);
        ready = room.ready;
        rates = room.rates;
        changed = room.changed;
      },
      no_marks (AreLeveled t c.settle_flows.new.solver.levels rates) c.clear.new.self.members c.clear-2.new.self.members c.clear-4.new.self.members (ap (λ (m : MarkSet). m.members) c.clear.ensures) (ap (λ (m : MarkSet). m.members) c.clear-2.ensures) (ap (λ (m : MarkSet). m.members) c.clear-4.ensures) out.leveled,
    )

pub returns-clause-settled : goal.returns-clause-settled
returns-clause-settled g c =
    let i = c.self.inside in
    let s = i.system in
    let t = c.settle_flows.new.system in
    let out = c.settle_flows.ensures in
    let rates = c.settle_flows.new.rated.rates.items in
    let changed = c.settle_flows.new.rated.changed.members in
    let ended = i.pending.ended.members in
    let there : (k : ℕ) → k < length ended → IsSome (flow_at s.slots (get_or ended k 0)) = (λ k h. c.self.invariant.0.ended_are (get_or ended k 0) (in_at (get_or ended k 0) ended k h refl)) in
    let b = c.clear.new.self.members in
    let m = c.clear-2.new.self.members in
    let e = c.clear-3.new.self.members in
    let r = c.clear-4.new.self.members in
    subst (λ v. IsSettled v (record { capacities = t.capacities; slots = running_in t.slots rates b m e; ended = ended_in t.slots e; resources = r; changed = changed; flow_room = t.flow_room; use_room = t.use_room })) c.self.view_is
    (is_settled s t i.pending.began.members i.pending.marked.members ended i.rated.rates.items rates changed out.refilled i.rated.changed.members i.pending.resources.members there b m e r
    (ap (λ (m : MarkSet). m.members) c.clear.ensures) (ap (λ (m : MarkSet). m.members) c.clear-2.ensures) (ap (λ (m : MarkSet). m.members) c.clear-3.ensures) (ap (λ (m : MarkSet). m.members) c.clear-4.ensures))
