use Rattle.std.proofs.Common.{◌≡◌, ◌<◌, ◌^◌, List, length, get_or, ap, sym, subst, arith}
use Rattle.sg_maxmin_levels.specs.Kept.{IsFresh}
use Rattle.sg_lazy.specs.kept.Held.{ended_in}
use Rattle.sg_lazy.proofs.Leveled.{fresh_leveled, ready_on}
use Rattle.sg_lazy.proofs.Whole.{fresh_lazy, nothing_runs}
use Rattle.sg_lazy.proofs.lazy.Lazy.new.Goals as goal

pub invariant_of-result : goal.invariant_of-result
invariant_of-result c =
    let s = c.in_ok-empty.empty in
    let nothing = c.in_ok-pending.ensures in
    let solver = c.in_ok-solver.ensures in
    let none = ap (λ (xs : List _). length xs) c.in_ok-empty.ensures.empty in
    let caps = ap length c.in_ok-empty.ensures.capacities in
    let kept = c.in_ok-solver.solver.levels in (
      fresh_lazy s c.new-4.result.items c.in_ok-pending.pending.began.members c.in_ok-pending.pending.marked.members c.in_ok-pending.pending.ended.members c.in_ok-pending.pending.resources.members c.is_sound.ensures c.in_ok-empty.ensures.empty nothing.began nothing.marked nothing.ended nothing.changed,
      record {
        began = omega (arith, none);
        marked = omega (arith, none);
        ended = omega (arith, none);
        resources = omega (arith, nothing.room, caps);
        ready = ready_on c.in_ok-solver.solver.parts 0 (length c.capacities-capacities.result.now) (length s.slots) (length s.capacities) none caps solver.ready;
        rates = omega (arith, none);
        changed = omega (arith, none);
      },
      fresh_leveled s kept c.new-4.result.items c.in_ok-pending.pending.began.members c.in_ok-pending.pending.marked.members c.in_ok-pending.pending.resources.members c.is_sound.ensures c.in_ok-empty.ensures.empty
          (subst (λ n. IsFresh n kept) (sym caps) solver.fresh) solver.nothing (λ k. subst (λ xs. get_or xs k 0 < 2 ^ 64) (sym c.in_ok-empty.ensures.capacities) (c.all_fit.ensures k)) nothing.began nothing.marked nothing.changed,
    )

pub returns : goal.returns
returns c =
    let s = c.in_ok-empty.empty in
    let nothing = c.in_ok-pending.ensures in
    record {
      capacities_are = subst (λ caps. c.in_ok-empty.empty.capacities ≡ caps) c.capacities-capacities.ensures c.in_ok-empty.ensures.capacities;
      slots = nothing_runs s.slots c.new-4.result.items c.in_ok-pending.pending.began.members c.in_ok-pending.pending.marked.members c.in_ok-pending.pending.ended.members c.in_ok-empty.ensures.empty;
      ended = ap (ended_in s.slots) nothing.ended;
      resources = nothing.changed;
      changed = c.new-5.ensures.members;
    }
