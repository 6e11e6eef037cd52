use Rattle.std.proofs.Common.{◌≡◌, ◌≢◌, ◌<◌, ◌+◌, ◌*◌, ◌-◌, ◌≤◌, ℕ, Bool, cond, eqb, true, inl, inr, suc, false, length, get_or, take, below_more, refl, sym, ap, subst, ◌∙◌, arith, true≢false}
use Rattle.std.proofs.lemmas.List.Elements.{All-get_or}
use Rattle.sg_base.specs.MarkSet.{is_in}
use Rattle.sg_maxmin.specs.Chained.{times}
use Rattle.sg_maxmin.specs.Sharing.{uses_at}
use Rattle.sg_maxmin.specs.Walk.{next_of_flow, resource_of}
use Rattle.sg_maxmin_levels.specs.Settling.{is_active}
use Rattle.sg_maxmin_levels.specs.Kept.{Lessens, Shifts}
use Rattle.sg_maxmin.proofs.Listed.{at_in, bool_cases, off_one, take_all, in_at, one_off}
use Rattle.sg_maxmin.proofs.Users.{rows_exist}
use Rattle.sg_maxmin.proofs.Walked.{can_look, looked, walk_from, walk_on, nearer, walked}
use Rattle.sg_maxmin_levels.proofs.Shifting.{less_more, shift_fits, shift_more, shift_some}
use Rattle.sg_maxmin_levels.proofs.settling.visit_uses.Goals as goal

no_times : (b : Bool) → cond {A = ℕ} b 0 0 ≡ 0
no_times true = refl
no_times false = refl

pub loop-at-init : goal.loop-at-init
loop-at-init g c =
    let s = c.args.system.now in
    let row = uses_at s.slots c.args.flow in (
      0,
      record {
        walk = walk_from next_of_flow resource_of s.uses row c.first_of-at.result c.first_of-at.ensures.leads c.first_of-at.ensures.few;
        stays = λ r off. off;
        only = λ r on off. on;
        done = λ i h. absurd (omega (arith, h));
        shifts = λ x. let none : times x (take 0 row) ≡ 0 = refl in omega (arith, ap (λ n. n * c.args.before) none, ap (λ n. n * c.args.after) none);
        counts = λ n. let none : cond (eqb c.args.after 0) (times n (take 0 row)) 0 ≡ 0 = no_times (eqb c.args.after 0) in omega (arith, none);
        levels = record { levels = refl; parts = refl; moved = refl; stale = refl; longest = refl; holds = refl; demands = refl; counts = refl; active = refl };
        looks = omega arith;
      },
    )

pub look-one-requires : goal.look-one-requires
look-one-requires g c =
    let s = c.args.system.now in
    let row = uses_at s.slots c.args.flow in
    let inv = c.loop-at.invariant in
    can_look next_of_flow resource_of s.uses row inv.0 c.loop-at.at inv.1.walk c.in-Some.i c.in-Some.is

pub loop-at-smaller : goal.loop-at-smaller
loop-at-smaller g c =
    let s = c.args.system.now in
    let row = uses_at s.slots c.args.flow in
    let inv = c.loop-at.invariant in
    nearer next_of_flow resource_of s.uses row inv.0 c.loop-at.at inv.1.walk c.in-Some.i c.look-one.result c.in-Some.is c.look-one.ensures.there

pub visit-requires-clause-active : goal.visit-requires-clause-active
visit-requires-clause-active g c =
    let s = c.args.system.now in
    let row = uses_at s.slots c.args.flow in
    let inv = c.loop-at.invariant in
    let r = looked next_of_flow resource_of s.uses row inv.0 c.loop-at.at inv.1.walk c.in-Some.i c.look-one.result c.in-Some.is c.look-one.ensures.there in
    let below : get_or row inv.0 0 < length s.capacities = All-get_or (λ n. n < length s.capacities) row inv.0 0 r.less (rows_exist s c.requires.places.sound c.args.flow) in
    omega (arith, below, r.is, c.requires.places.active, inv.1.levels.active)

pub visit-requires-clause-demand : goal.visit-requires-clause-demand
visit-requires-clause-demand g c =
    let s = c.args.system.now in
    let row = uses_at s.slots c.args.flow in
    let inv = c.loop-at.invariant in
    let r = looked next_of_flow resource_of s.uses row inv.0 c.loop-at.at inv.1.walk c.in-Some.i c.look-one.result c.in-Some.is c.look-one.ensures.there in
    let below : get_or row inv.0 0 < length s.capacities = All-get_or (λ n. n < length s.capacities) row inv.0 0 r.less (rows_exist s c.requires.places.sound c.args.flow) in
    omega (arith, below, r.is, c.requires.places.demands, inv.1.levels.demands)

pub visit-requires-clause-counts : goal.visit-requires-clause-counts
visit-requires-clause-counts g c =
    let s = c.args.system.now in
    let row = uses_at s.slots c.args.flow in
    let inv = c.loop-at.invariant in
    let r = looked next_of_flow resource_of s.uses row inv.0 c.loop-at.at inv.1.walk c.in-Some.i c.look-one.result c.in-Some.is c.look-one.ensures.there in
    let below : get_or row inv.0 0 < length s.capacities = All-get_or (λ n. n < length s.capacities) row inv.0 0 r.less (rows_exist s c.requires.places.sound c.args.flow) in
    omega (arith, below, r.is, c.requires.places.counts, inv.1.levels.counts)

pub visit-requires-clause-some : goal.visit-requires-clause-some
visit-requires-clause-some g c =
    let s = c.args.system.now in
    let row = uses_at s.slots c.args.flow in
    let inv = c.loop-at.invariant in
    let r = looked next_of_flow resource_of s.uses row inv.0 c.loop-at.at inv.1.walk c.in-Some.i c.look-one.result c.in-Some.is c.look-one.ensures.there in
    shift_some c.args.before c.args.after c.args.kept.now.demands.items c.loop-at.kept.demands.items row inv.0 c.look-one.result.resource r.less r.is inv.1.shifts c.requires.shift.some

pub visit-requires-clause-fits : goal.visit-requires-clause-fits
visit-requires-clause-fits g c =
    let s = c.args.system.now in
    let row = uses_at s.slots c.args.flow in
    let inv = c.loop-at.invariant in
    let r = looked next_of_flow resource_of s.uses row inv.0 c.loop-at.at inv.1.walk c.in-Some.i c.look-one.result c.in-Some.is c.look-one.ensures.there in
    shift_fits c.args.before c.args.after c.args.kept.now.demands.items c.loop-at.kept.demands.items row inv.0 c.look-one.result.resource r.less r.is inv.1.shifts c.requires.shift.fits

pub loop-at-preserved : goal.loop-at-preserved
loop-at-preserved g c =
    let s = c.args.system.now in
    let row = uses_at s.slots c.args.flow in
    let inv = c.loop-at.invariant in
    let k = inv.0 in
    let before = c.args.before in
    let after = c.args.after in
    let one = c.look-one.result.resource in
    let first = c.args.kept.now in
    let old = c.loop-at.kept in
    let new = c.visit.new.kept in
    let out = c.visit.ensures in
    let r = looked next_of_flow resource_of s.uses row k c.loop-at.at inv.1.walk c.in-Some.i c.look-one.result c.in-Some.is c.look-one.ensures.there in
    let below : get_or row k 0 < length s.capacities = All-get_or (λ n. n < length s.capacities) row k 0 r.less (rows_exist s c.requires.places.sound c.args.flow) in
    let here : one < length old.demands.items = omega (arith, below, r.is, c.requires.places.demands, inv.1.levels.demands) in
    let counted : one < length old.counts.items = omega (arith, below, r.is, c.requires.places.counts, inv.1.levels.counts) in
    let some = shift_some before after first.demands.items old.demands.items row k one r.less r.is inv.1.shifts c.requires.shift.some in (
      suc k,
      record {
        walk = walk_on next_of_flow resource_of s.uses row k c.loop-at.at inv.1.walk c.in-Some.i c.look-one.result c.in-Some.is c.look-one.ensures.there;
        stays = λ n d. inv.1.stays n (out.activates.all n d).0;
        only = λ n on off. inv.1.only n (out.activates.only n on (one_off n one (λ e. true≢false (sym (in_at n row k r.less (sym r.is ∙ sym e)) ∙ off)))) off;
        done = λ i h. below_more (λ i. (n : ℕ) → is_active new.active.members n ≡ false → n ≢ get_or row i 0) k (λ i h n d. inv.1.done i h n (out.activates.all n d).0) (λ n d e. off_one n one (out.activates.all n d).1 (e ∙ sym r.is)) i (omega (arith, h));
        shifts = λ x. ap (λ xs. get_or xs x 0 + times x (take (suc k) row) * before) out.demands ∙ shift_more before after first.demands.items old.demands.items row k one r.less r.is inv.1.shifts some here x;
        counts = subst (λ ns. (n : ℕ) → get_or ns n 0 ≤ get_or first.counts.items n 0 - cond (eqb after 0) (times n (take (suc k) row)) 0) (sym out.counts) (less_more (eqb after 0) first.counts.items old.counts.items row k one r.less r.is counted inv.1.counts);
        levels = record {
          levels = out.levels.levels ∙ inv.1.levels.levels;
          parts = out.levels.parts ∙ inv.1.levels.parts;
          moved = out.levels.moved ∙ inv.1.levels.moved;
          stale = out.levels.stale ∙ inv.1.levels.stale;
          longest = out.levels.longest ∙ inv.1.levels.longest;
          holds = out.levels.holds ∙ inv.1.levels.holds;
          demands = out.levels.demands ∙ inv.1.levels.demands;
          counts = out.levels.counts ∙ inv.1.levels.counts;
          active = out.levels.active ∙ inv.1.levels.active;
        };
        looks = omega (arith, inv.1.looks, c.look-one.ensures.looks);
      },
    )

pub returns : goal.returns
returns g c =
    let s = c.args.system.now in
    let row = uses_at s.slots c.args.flow in
    let inv = c.loop-at.invariant in
    let end = walked next_of_flow resource_of s.uses row inv.0 c.loop-at.at inv.1.walk c.in_default.not-Some in
    let all = take_all row inv.0 end in
    record {
      activates = record {
        all = λ n d. (
          inv.1.stays n d,
          elim (bool_cases (is_in n row)) [
            | inl i ↦ let at = at_in n row i in absurd (inv.1.done at.0 (omega (arith, at.1, end)) n d (sym at.2))
            | inr off ↦ off
          ],
        );
        only = inv.1.only;
      };
      shifts = subst (λ xs. Shifts c.args.before c.args.after xs c.args.kept.now.demands.items c.loop-at.kept.demands.items) all inv.1.shifts;
      counts = subst (λ xs. Lessens c.args.after xs c.args.kept.now c.loop-at.kept) all inv.1.counts;
      levels = inv.1.levels;
      looks = omega (arith, inv.1.looks, end);
    }
