use Rattle.std.proofs.Common.{Some, IsSome, option_map, length, set, length-set, refl, sym, ap, ap₂, subst, ◌∙◌, arith}
use Rattle.sg_base.specs.MarkSet.{MarkSet}
use Rattle.sg_maxmin.specs.Sharing.{Sharing}
use Rattle.sg_lazy.specs.RunningFlow.{bounded_by, running_at}
use Rattle.sg_lazy.specs.Lazily.{Lazily, with_other_bound}
use Rattle.sg_lazy.specs.kept.Held.{IsLazy, running_in, ended_in}
use Rattle.sg_lazy.specs.kept.Leveled.{AreLeveled}
use Rattle.sg_lazy.proofs.Leveled.{bound_leveled, ready_on}
use Rattle.sg_lazy.proofs.Starting.{bound_lazy, bound_slots, bound_told, ended_same, is_here, written}
use Rattle.sg_maxmin.proofs.Listed.{some_of}
use Rattle.sg_lazy.proofs.lazy.Lazy.change_bound.Goals as goal

pub set_bound-requires : goal.set_bound-requires
set_bound-requires c =
    let i = c.self.inside in
    let r = some_of (running_at c.args.self.now.slots c.args.flow) c.requires in
    let here = is_here i.system.slots i.rated.rates.items i.pending.began.members i.pending.marked.members i.pending.ended.members c.args.flow r.0 (ap (λ (v : Lazily). running_at v.slots c.args.flow) c.self.view_is ∙ r.1) in
    record { between = c.self.invariant.2.between; held = subst IsSome (sym here.held) refl }

pub insert-requires : goal.insert-requires
insert-requires c =
    let i = c.self.inside in
    let r = some_of (running_at c.args.self.now.slots c.args.flow) c.requires in
    let here = is_here i.system.slots i.rated.rates.items i.pending.began.members i.pending.marked.members i.pending.ended.members c.args.flow r.0 (ap (λ (v : Lazily). running_at v.slots c.args.flow) c.self.view_is ∙ r.1) in
    omega (arith, here.below, c.self.invariant.1.marked)

pub invariant_of-self : goal.invariant_of-self
invariant_of-self c =
    let i = c.self.inside in
    let s = i.system in
    let t = c.set_bound.new.system in
    let inv = c.self.invariant in
    let r = some_of (running_at c.args.self.now.slots c.args.flow) c.requires in
    let at = ap (λ (v : Lazily). running_at v.slots c.args.flow) c.self.view_is ∙ r.1 in
    let here = is_here s.slots i.rated.rates.items i.pending.began.members i.pending.marked.members i.pending.ended.members c.args.flow r.0 at in
    let bound = c.args.bound in
    let out = bound_told s t c.args.flow bound r.0.flow here.held c.set_bound.ensures.bounded in
    let slots = ap (λ (x : Sharing). x.slots) out in
    let numbers = ap length slots ∙ length-set s.slots c.args.flow (Some (record r.0.flow { bound = Some bound })) in
    let caps = ap (λ (x : Sharing). length x.capacities) out in (
      subst (λ m. IsLazy t i.rated.rates.items i.pending.began.members m i.pending.ended.members i.pending.resources.members) (sym (ap (λ (m : MarkSet). m.members) c.insert.ensures))
          (bound_lazy s t i.rated.rates.items i.pending.began.members i.pending.marked.members i.pending.ended.members i.pending.resources.members c.args.flow bound r.0 inv.0 at
          (written s.slots t.slots c.args.flow (Some (record r.0.flow { bound = Some bound })) here.below slots) numbers (ap (λ (x : Sharing). x.capacities) out) c.is_sound.ensures),
      record {
        began = omega (arith, inv.1.began, numbers);
        marked = omega (arith, inv.1.marked, numbers, ap (λ (m : MarkSet). m.room) c.insert.ensures);
        ended = omega (arith, inv.1.ended, numbers);
        resources = omega (arith, inv.1.resources, caps);
        ready = ready_on i.solver.parts (length s.slots) (length s.capacities) (length t.slots) (length t.capacities) numbers caps inv.1.ready;
        rates = omega (arith, inv.1.rates, numbers);
        changed = omega (arith, inv.1.changed, numbers);
      },
      subst (λ m. AreLeveled t c.set_bound.new.self i.rated.rates.items i.pending.began.members m i.pending.resources.members) (sym (ap (λ (m : MarkSet). m.members) c.insert.ensures))
          (bound_leveled s t i.solver.levels c.set_bound.new.self i.rated.rates.items i.pending.began.members i.pending.marked.members i.pending.resources.members c.args.flow inv.2 (ap (λ (x : Sharing). x.capacities) out) c.set_bound.ensures.keeps.between c.set_bound.ensures.keeps.changed c.set_bound.ensures.keeps.joins),
    )

pub returns : goal.returns
returns c =
    let i = c.self.inside in
    let s = i.system in
    let t = c.set_bound.new.system in
    let rates = i.rated.rates.items in
    let began = i.pending.began.members in
    let marked = i.pending.marked.members in
    let ended = i.pending.ended.members in
    let resources = i.pending.resources.members in
    let changed = i.rated.changed.members in
    let noted = c.insert.new.self.members in
    let id = c.args.flow in
    let bound = c.args.bound in
    let r = some_of (running_at c.args.self.now.slots id) c.requires in
    let at = ap (λ (v : Lazily). running_at v.slots id) c.self.view_is ∙ r.1 in
    let here = is_here s.slots rates began marked ended id r.0 at in
    let out = bound_told s t id bound r.0.flow here.held c.set_bound.ensures.bounded in
    let same = ap (λ (x : Sharing). x.slots) out in
    let its = Some (record r.0.flow { bound = Some bound }) in
    let changes = written s.slots t.slots id its here.below same in
    let runs = running_in s.slots rates began marked ended in
    let slots = ap (λ m. running_in t.slots rates began m ended) (ap (λ (m : MarkSet). m.members) c.insert.ensures)
    ∙ bound_slots s.slots t.slots rates began marked ended id bound r.0 here changes (ap length same ∙ length-set s.slots id its)
    ∙ ap (λ o. set runs id o) (sym (ap (option_map (bounded_by bound)) at)) in
    ap (λ (x : Sharing). record { capacities = x.capacities; slots = running_in t.slots rates began noted ended; ended = ended_in t.slots ended; resources = resources; changed = changed; flow_room = x.flow_room; use_room = x.use_room }) out
    ∙ ap₂ (λ x y. record { capacities = s.capacities; slots = x; ended = y; resources = resources; changed = changed; flow_room = s.flow_room; use_room = s.use_room }) slots (ended_same s.slots t.slots ended id its changes here.off)
    ∙ ap (λ (v : Lazily). with_other_bound v id bound) c.self.view_is
