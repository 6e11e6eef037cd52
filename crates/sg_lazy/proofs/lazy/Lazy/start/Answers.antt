use Rattle.std.proofs.Common.{◌≡◌, ◌-◌, true, None, Some, length, set, length-set, refl, sym, ap, ap₂, subst, ◌∙◌, arith}
use Rattle.sg_base.specs.MarkSet.{MarkSet, with_mark}
use Rattle.sg_maxmin.specs.Fill.{flow}
use Rattle.sg_lazy.specs.RunningFlow.{running_at}
use Rattle.sg_lazy.specs.Lazily.{Lazily, with_flow}
use Rattle.sg_lazy.specs.kept.Held.{IsLazy, running_of, running_in, ended_in}
use Rattle.sg_lazy.specs.kept.Leveled.{AreLeveled}
use Rattle.sg_lazy.proofs.Leveled.{ready_on, start_leveled}
use Rattle.sg_lazy.proofs.Listed.{at_listed, length_listed}
use Rattle.sg_lazy.proofs.Starting.{start_slots, start_lazy, ended_same, free_not_ended}
use Rattle.sg_lazy.proofs.lazy.Lazy.start.Goals as goal

pub invariant_of-self : goal.invariant_of-self
invariant_of-self c =
    let i = c.self.inside in
    let s = i.system in
    let t = c.start-number.new.system in
    let inv = c.self.invariant in
    let out = c.start-number.ensures.started in
    let id = c.start-number.result in
    let its = flow c.args.uses.now c.args.weight c.args.bound in
    let m = c.insert.ensures in
    let n = c.insert-2.ensures in
    let len = out.numbers in
    let caps = ap length out.capacities in (
      subst (λ b. IsLazy t (set i.rated.rates.items id 0) b c.insert-2.new.self.members i.pending.ended.members i.pending.resources.members) (sym (ap (λ (m : MarkSet). m.members) m))
          (subst (λ b. IsLazy t (set i.rated.rates.items id 0) (with_mark id i.pending.began.members) b i.pending.ended.members i.pending.resources.members) (sym (ap (λ (m : MarkSet). m.members) n))
          (start_lazy s t i.rated.rates.items i.pending.began.members i.pending.marked.members i.pending.ended.members i.pending.resources.members id its inv.0 out.free out.in_range (omega (arith, out.in_range, inv.1.rates)) out.added len out.capacities c.is_sound.ensures)),
      record {
        began = omega (arith, inv.1.began, len, ap (λ (m : MarkSet). m.room) m);
        marked = omega (arith, inv.1.marked, len, ap (λ (m : MarkSet). m.room) n);
        ended = omega (arith, inv.1.ended, len);
        resources = omega (arith, inv.1.resources, caps);
        ready = ready_on i.solver.parts (length s.slots) (length s.capacities) (length t.slots) (length t.capacities) len caps inv.1.ready;
        rates = omega (arith, inv.1.rates, len, length-set i.rated.rates.items id 0);
        changed = omega (arith, inv.1.changed, len);
      },
      subst (λ b. AreLeveled t c.start-number.new.self (set i.rated.rates.items id 0) b c.insert-2.new.self.members i.pending.resources.members) (sym (ap (λ (m : MarkSet). m.members) m))
          (subst (λ b. AreLeveled t c.start-number.new.self (set i.rated.rates.items id 0) (with_mark id i.pending.began.members) b i.pending.resources.members) (sym (ap (λ (m : MarkSet). m.members) n))
          (start_leveled s t i.solver.levels c.start-number.new.self i.rated.rates.items i.pending.began.members i.pending.marked.members i.pending.resources.members id its inv.2 out c.start-number.ensures.keeps.between c.start-number.ensures.keeps.changed c.start-number.ensures.keeps.joins)),
    )

pub returns-clause-free : goal.returns-clause-free
returns-clause-free c =
    let i = c.self.inside in
    let s = i.system in
    let id = c.start-number.result in
    let off = free_not_ended s.slots i.pending.ended.members id c.self.invariant.0.ended_are c.start-number.ensures.started.free in
    sym (ap (λ (v : Lazily). running_at v.slots id) c.self.view_is) ∙ at_listed (length s.slots) (running_of s.slots i.rated.rates.items i.pending.began.members i.pending.marked.members i.pending.ended.members) id None c.start-number.ensures.started.in_range ∙ rw (off, c.start-number.ensures.started.free) refl

pub returns-clause-in_range : goal.returns-clause-in_range
returns-clause-in_range c =
    let i = c.self.inside in
    let s = i.system in
    omega (arith, c.start-number.ensures.started.in_range, ap (λ (v : Lazily). length v.slots) c.self.view_is, length_listed (length s.slots) (running_of s.slots i.rated.rates.items i.pending.began.members i.pending.marked.members i.pending.ended.members))

pub returns-clause-starts : goal.returns-clause-starts
returns-clause-starts c =
    let i = c.self.inside in
    let s = i.system in
    let t = c.start-number.new.system in
    let inv = c.self.invariant in
    let id = c.start-number.result in
    let out = c.start-number.ensures.started in
    let its = flow c.args.uses.now c.args.weight c.args.bound in
    let rates = set i.rated.rates.items id 0 in
    let off = free_not_ended s.slots i.pending.ended.members id inv.0.ended_are out.free in
    let slots = ap₂ (λ b m. running_in t.slots rates b m i.pending.ended.members) (ap (λ (m : MarkSet). m.members) c.insert.ensures) (ap (λ (m : MarkSet). m.members) c.insert-2.ensures)
    ∙ start_slots s.slots t.slots i.rated.rates.items i.pending.began.members i.pending.marked.members i.pending.ended.members id its out.added out.numbers out.in_range (omega (arith, out.in_range, inv.1.rates)) off in
    let rooms : (t.flow_room ≡ s.flow_room - 1) × (t.use_room ≡ s.use_room - length c.args.uses.now) = (omega (arith, out.flow_room), omega (arith, out.use_room)) in
    ap₂ (λ x y. record { capacities = t.capacities; slots = x; ended = y; resources = i.pending.resources.members; changed = i.rated.changed.members; flow_room = t.flow_room; use_room = t.use_room }) slots (ended_same s.slots t.slots i.pending.ended.members id (Some its) out.added off)
    ∙ ap₂ (λ f u. record { capacities = t.capacities; slots = set (running_in s.slots i.rated.rates.items i.pending.began.members i.pending.marked.members i.pending.ended.members) id (Some (record { flow = its; rate = 0; began = true; marked = true })); ended = ended_in s.slots i.pending.ended.members; resources = i.pending.resources.members; changed = i.rated.changed.members; flow_room = f; use_room = u }) rooms.0 rooms.1
    ∙ ap (λ k. record { capacities = k; slots = set (running_in s.slots i.rated.rates.items i.pending.began.members i.pending.marked.members i.pending.ended.members) id (Some (record { flow = its; rate = 0; began = true; marked = true })); ended = ended_in s.slots i.pending.ended.members; resources = i.pending.resources.members; changed = i.rated.changed.members; flow_room = s.flow_room - 1; use_room = s.use_room - length c.args.uses.now }) out.capacities
    ∙ ap (λ (v : Lazily). with_flow v id its) c.self.view_is
