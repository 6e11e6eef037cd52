use Rattle.std.proofs.Common.{◌<◌, ◌^◌, length, length-set, sym, ap, subst, ◌∙◌, arith}
use Rattle.sg_base.specs.MarkSet.{MarkSet}
use Rattle.sg_maxmin.specs.Sharing.{Sharing}
use Rattle.sg_lazy.specs.Lazily.{Lazily}
use Rattle.sg_lazy.specs.kept.Held.{IsLazy}
use Rattle.sg_lazy.specs.kept.Leveled.{AreLeveled}
use Rattle.sg_lazy.proofs.Leveled.{capacity_leveled, ready_on}
use Rattle.sg_lazy.proofs.Starting.{capacity_lazy}
use Rattle.sg_lazy.proofs.lazy.Lazy.change_capacity.Goals as goal

pub invariant_of-self : goal.invariant_of-self
invariant_of-self c =
    let i = c.self.inside in
    let s = i.system in
    let t = c.set_capacity.new.system in
    let inv = c.self.invariant in
    let below : c.args.resource < length s.capacities = omega (arith, c.requires, ap (λ (v : Lazily). length v.capacities) c.self.view_is) in
    let small : c.args.capacity < 2 ^ 64 = omega (arith, c.ranges.capacity.fits) in
    let out = c.set_capacity.ensures.offered in
    let kept = c.set_capacity.new.self in
    let caps = ap (λ (x : Sharing). length x.capacities) out ∙ length-set s.capacities c.args.resource c.args.capacity in
    let numbers = ap (λ (x : Sharing). length x.slots) out in (
      subst (IsLazy t i.rated.rates.items i.pending.began.members i.pending.marked.members i.pending.ended.members) (sym (ap (λ (m : MarkSet). m.members) c.insert.ensures))
          (capacity_lazy s t i.rated.rates.items i.pending.began.members i.pending.marked.members i.pending.ended.members i.pending.resources.members c.args.resource c.args.capacity inv.0 out c.is_sound.ensures),
      record {
        began = omega (arith, inv.1.began, numbers);
        marked = omega (arith, inv.1.marked, numbers);
        ended = omega (arith, inv.1.ended, numbers);
        resources = omega (arith, inv.1.resources, ap (λ (m : MarkSet). m.room) c.insert.ensures, caps);
        ready = ready_on i.solver.parts (length s.slots) (length s.capacities) (length t.slots) (length t.capacities) numbers caps inv.1.ready;
        rates = omega (arith, inv.1.rates, numbers);
        changed = omega (arith, inv.1.changed, numbers);
      },
      subst (AreLeveled t kept i.rated.rates.items i.pending.began.members i.pending.marked.members) (sym (ap (λ (m : MarkSet). m.members) c.insert.ensures))
          (capacity_leveled s t i.solver.levels kept i.rated.rates.items i.pending.began.members i.pending.marked.members i.pending.resources.members c.args.resource c.args.capacity inv.2 below small (ap (λ (x : Sharing). x.capacities) out) c.set_capacity.ensures.keeps.between c.set_capacity.ensures.keeps.changed c.set_capacity.ensures.keeps.joins),
    )
