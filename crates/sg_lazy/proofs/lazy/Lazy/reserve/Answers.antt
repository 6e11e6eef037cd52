use Rattle.std.proofs.Common.{◌≤◌, length, refl, sym, ap, ap₂, subst, ◌∙◌, arith}
use Rattle.sg_base.specs.MarkSet.{MarkSet}
use Rattle.sg_lazy.specs.RunningFlow.{running_at}
use Rattle.sg_lazy.specs.Lazily.{Lazily}
use Rattle.sg_lazy.specs.kept.Held.{IsLazy, running_in, running_of, ended_in}
use Rattle.sg_lazy.proofs.Listed.{length_listed}
use Rattle.sg_lazy.proofs.Leveled.{notes_none, ready_less, roomier_leveled}
use Rattle.sg_lazy.proofs.Whole.{roomier_lazy, gone_same, runs_same}
use Rattle.sg_lazy.proofs.lazy.Lazy.reserve.Goals as goal

pub invariant_of-self-2 : goal.invariant_of-self-2
invariant_of-self-2 c =
    let i = c.self.inside in
    let s = i.system in
    let t = c.reserve-reserved.new.system in
    let inv = c.self.invariant in
    let marks = c.grow_marks.ensures in
    let rates = c.grow_rates.new.rates.items in
    let out = c.reserve-reserved.ensures in
    let n : length t.slots ≤ c.in-Some.n = omega (arith, out.slots.few, c.numbers.ensures, c.in-Some.ensures, c.saturating_sub-more.ensures, c.spare.ensures) in
    let caps = ap length out.capacities in
    let same = ap (λ (m : MarkSet). m.members) marks.resources in (
      subst (λ r. IsLazy t rates c.grow_marks.new.pending.began.members c.grow_marks.new.pending.marked.members c.grow_marks.new.pending.ended.members r) (sym same)
          (roomier_lazy s t i.rated.rates.items rates i.pending.began.members c.grow_marks.new.pending.began.members i.pending.marked.members c.grow_marks.new.pending.marked.members i.pending.ended.members c.grow_marks.new.pending.ended.members i.pending.resources.members inv.0
          c.is_sound.ensures out.slots.same out.slots.longer out.capacities c.grow_rates.ensures.same marks.began.members marks.marked.members marks.ended.members),
      record {
        began = omega (arith, n, c.in_ok-grow_marks.ensures.room.began);
        marked = omega (arith, n, c.in_ok-grow_marks.ensures.room.marked);
        ended = omega (arith, n, c.in_ok-grow_marks.ensures.room.ended);
        resources = omega (arith, inv.1.resources, ap (λ (m : MarkSet). m.room) marks.resources, caps);
        ready = ready_less c.reserve.new.self c.in-Some.n (length t.slots) (length s.capacities) (length t.capacities) n caps (c.in_ok-reserve.ensures.room (length s.slots) (length s.capacities) inv.1.ready);
        rates = omega (arith, n, c.in_ok-grow_rates.ensures.room);
        changed = omega (arith, n, c.in_ok-grow_marks.ensures.room.rates);
      },
      roomier_leveled s t i.solver.levels c.reserve-reserved.new.self i.rated.rates.items rates i.pending.began.members c.grow_marks.new.pending.began.members i.pending.marked.members c.grow_marks.new.pending.marked.members i.pending.resources.members c.grow_marks.new.pending.resources.members inv.2
          out.capacities out.between out.changed out.within c.grow_rates.ensures.same marks.began.members marks.marked.members same,
    )

pub invariant_of-self-in_err-reserve : goal.invariant_of-self-in_err-reserve
invariant_of-self-in_err-reserve c =
    let i = c.self.inside in
    let s = i.system in
    let inv = c.self.invariant in
    let marks = c.grow_marks.ensures in
    let pending = c.grow_marks.new.pending in
    let rates = c.grow_rates.new.rates.items in
    let same = ap (λ (m : MarkSet). m.members) marks.resources in (
      subst (λ r. IsLazy s rates pending.began.members pending.marked.members pending.ended.members r) (sym same)
          (roomier_lazy s s i.rated.rates.items rates i.pending.began.members pending.began.members i.pending.marked.members pending.marked.members i.pending.ended.members pending.ended.members i.pending.resources.members inv.0
          inv.0.sound (λ id. refl) (omega arith) refl c.grow_rates.ensures.same marks.began.members marks.marked.members marks.ended.members),
      record {
        began = omega (arith, inv.1.began, marks.began.room);
        marked = omega (arith, inv.1.marked, marks.marked.room);
        ended = omega (arith, inv.1.ended, marks.ended.room);
        resources = omega (arith, inv.1.resources, ap (λ (m : MarkSet). m.room) marks.resources);
        ready = c.reserve.ensures.kept (length s.slots) (length s.capacities) inv.1.ready;
        rates = omega (arith, inv.1.rates, c.grow_rates.ensures.grow);
        changed = omega (arith, inv.1.changed, marks.changed.room);
      },
      roomier_leveled s s i.solver.levels i.solver.levels i.rated.rates.items rates i.pending.began.members pending.began.members i.pending.marked.members pending.marked.members i.pending.resources.members pending.resources.members inv.2
          refl inv.2.between (notes_none s i.solver.levels) (λ p q w. w) c.grow_rates.ensures.same marks.began.members marks.marked.members same,
    )

pub returns-clause-kept : goal.returns-clause-kept
returns-clause-kept c =
    let i = c.self.inside in
    let s = i.system in
    let t = c.reserve-reserved.new.system in
    let marks = c.grow_marks.ensures in
    let out = c.reserve-reserved.ensures in
    record {
      capacities = out.capacities ∙ ap (λ (v : Lazily). v.capacities) c.self.view_is;
      runs = λ id.
          ap (λ b. running_at (running_in t.slots c.grow_rates.new.rates.items b c.grow_marks.new.pending.marked.members c.grow_marks.new.pending.ended.members) id) marks.began.members
          ∙ ap₂ (λ m d. running_at (running_in t.slots c.grow_rates.new.rates.items i.pending.began.members m d) id) marks.marked.members marks.ended.members
          ∙ runs_same s.slots t.slots i.rated.rates.items c.grow_rates.new.rates.items i.pending.began.members i.pending.marked.members i.pending.ended.members out.slots.same c.grow_rates.ensures.same out.slots.longer id
          ∙ ap (λ (v : Lazily). running_at v.slots id) c.self.view_is;
      ended = ap (ended_in t.slots) marks.ended.members ∙ gone_same s.slots t.slots i.pending.ended.members out.slots.same ∙ ap (λ (v : Lazily). v.ended) c.self.view_is;
      resources = ap (λ (m : MarkSet). m.members) marks.resources ∙ ap (λ (v : Lazily). v.resources) c.self.view_is;
      changed = marks.changed.members ∙ ap (λ (v : Lazily). v.changed) c.self.view_is;
      flow_room = omega (arith, ap (λ (v : Lazily). v.flow_room) c.self.view_is, out.grows.0);
      use_room = omega (arith, ap (λ (v : Lazily). v.use_room) c.self.view_is, out.grows.1);
    }

pub returns-clause-few : goal.returns-clause-few
returns-clause-few c =
    let i = c.self.inside in
    let s = i.system in
    let t = c.reserve-reserved.new.system in
    omega (
      arith,
      c.reserve-reserved.ensures.slots.few,
      ap (λ (v : Lazily). v.flow_room) c.self.view_is,
      ap (λ (v : Lazily). length v.slots) c.self.view_is,
      length_listed (length s.slots) (running_of s.slots i.rated.rates.items i.pending.began.members i.pending.marked.members i.pending.ended.members),
      length_listed (length t.slots) (running_of t.slots c.grow_rates.new.rates.items c.grow_marks.new.pending.began.members c.grow_marks.new.pending.marked.members c.grow_marks.new.pending.ended.members),
    )
