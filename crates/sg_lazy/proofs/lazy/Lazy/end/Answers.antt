use Rattle.std.proofs.Common.{◌≡◌, IfSome, sym, ap, ap₂, subst, ◌∙◌, arith}
use Rattle.sg_base.specs.MarkSet.{MarkSet}
use Rattle.sg_lazy.specs.RunningFlow.{RunningFlow, running_at}
use Rattle.sg_lazy.specs.Lazily.{Lazily, without_flow}
use Rattle.sg_lazy.specs.kept.Held.{IsLazy, running_in, ended_in}
use Rattle.sg_lazy.proofs.Starting.{is_here, end_slots, end_lazy, ended_more}
use Rattle.sg_maxmin.proofs.Listed.{some_of}
use Rattle.sg_lazy.proofs.lazy.Lazy.end.Goals as goal

pub insert-requires : goal.insert-requires
insert-requires c =
    let i = c.self.inside in
    let r = some_of (running_at c.args.self.now.slots c.args.flow) c.requires in
    let here = is_here i.system.slots i.rated.rates.items i.pending.began.members i.pending.marked.members i.pending.ended.members c.args.flow r.0 (ap (λ (v : Lazily). running_at v.slots c.args.flow) c.self.view_is ∙ r.1) in
    omega (arith, here.below, c.self.invariant.1.ended)

pub invariant_of-self : goal.invariant_of-self
invariant_of-self c =
    let i = c.self.inside in
    let s = i.system in
    let inv = c.self.invariant in
    let r = some_of (running_at c.args.self.now.slots c.args.flow) c.requires in
    let e = ap (λ (m : MarkSet). m.members) c.insert.ensures in (
      subst (λ gone. IsLazy s i.rated.rates.items i.pending.began.members i.pending.marked.members gone i.pending.resources.members) (sym e)
          (end_lazy s i.rated.rates.items i.pending.began.members i.pending.marked.members i.pending.ended.members i.pending.resources.members c.args.flow r.0 inv.0 (ap (λ (v : Lazily). running_at v.slots c.args.flow) c.self.view_is ∙ r.1)),
      record {
        began = inv.1.began;
        marked = inv.1.marked;
        ended = omega (arith, inv.1.ended, ap (λ (m : MarkSet). m.room) c.insert.ensures);
        resources = inv.1.resources;
        ready = inv.1.ready;
        rates = inv.1.rates;
        changed = inv.1.changed;
      },
      inv.2,
    )

pub returns : goal.returns
returns c =
    let i = c.self.inside in
    let s = i.system in
    let r = some_of (running_at c.args.self.now.slots c.args.flow) c.requires in
    let at = ap (λ (v : Lazily). running_at v.slots c.args.flow) c.self.view_is ∙ r.1 in
    let here = is_here s.slots i.rated.rates.items i.pending.began.members i.pending.marked.members i.pending.ended.members c.args.flow r.0 at in
    let e = ap (λ (m : MarkSet). m.members) c.insert.ensures in
    subst (λ o. IfSome o (λ (running : RunningFlow). record { capacities = s.capacities; slots = running_in s.slots i.rated.rates.items i.pending.began.members i.pending.marked.members c.insert.new.self.members; ended = ended_in s.slots c.insert.new.self.members; resources = i.pending.resources.members; changed = i.rated.changed.members; flow_room = s.flow_room; use_room = s.use_room } ≡ without_flow c.args.self.now c.args.flow running.flow)) (sym r.1)
    (ap₂ (λ x y. record { capacities = s.capacities; slots = x; ended = y; resources = i.pending.resources.members; changed = i.rated.changed.members; flow_room = s.flow_room; use_room = s.use_room })
    (ap (running_in s.slots i.rated.rates.items i.pending.began.members i.pending.marked.members) e ∙ end_slots s.slots i.rated.rates.items i.pending.began.members i.pending.marked.members i.pending.ended.members c.args.flow here.below)
    (ap (ended_in s.slots) e ∙ ended_more s.slots i.pending.ended.members c.args.flow r.0.flow here.off here.held)
    ∙ ap (λ (v : Lazily). without_flow v c.args.flow r.0.flow) c.self.view_is)
