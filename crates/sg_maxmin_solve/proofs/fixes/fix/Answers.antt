use Rattle.std.proofs.Common.{◌≡◌, ◌-◌, ◌*◌, ◌^◌, ◌<◌, suc, true, min, Some, length, length-set, get_or, take, below_more, refl, sym, ap, subst, ◌∙◌, arith}
use Rattle.std.proofs.lemmas.List.Elements.{All-get_or}
use Rattle.sg_base.specs.MarkSet.{MarkSet, is_in, with_mark}
use Rattle.sg_maxmin.specs.Chained.{times}
use Rattle.sg_maxmin.specs.Walk.{next_of_flow, resource_of}
use Rattle.sg_maxmin.specs.Fill.{bounded, share_at}
use Rattle.sg_maxmin.specs.Sharing.{uses_at}
use Rattle.sg_maxmin.specs.Numbered.{flow_in, weight_at}
use Rattle.sg_maxmin_solve.specs.Component.{AllPass, Grows}
use Rattle.sg_maxmin_solve.proofs.Growing.{grows_on, grows_mark, grows_same, stays, few_mark, pass_mark}
use Rattle.sg_maxmin_solve.proofs.Walked.{take_off}
use Rattle.sg_maxmin.proofs.Walked.{can_look, looked, walk_from, walk_on, nearer, walked}
use Rattle.sg_maxmin.proofs.Listed.{mark_there, take_all}
use Rattle.sg_maxmin.proofs.Users.{bound_is, rows_exist, weight_is}
use Rattle.sg_maxmin_solve.proofs.fixes.fix.Goals as goal

pub loop-at-init : goal.loop-at-init
loop-at-init g c =
    let s = c.args.system.now in
    let f = c.args.filling.now in
    let row = uses_at s.slots c.args.flow in
    let p = c.requires.places in (
      0,
      record {
        walk = walk_from next_of_flow resource_of s.uses row c.first_of-at.result c.first_of-at.ensures.leads c.first_of-at.ensures.few;
        places = record {
          sound = p.sound;
          fixed_len = omega (arith, p.fixed_len, length-set f.fixed.items c.args.flow (Some c.args.low));
          holds_len = p.holds_len;
          left_len = p.left_len;
          waiting_len = p.waiting_len;
          levels_len = p.levels_len;
          stale_room = p.stale_room;
          slots = p.slots;
        };
        fixed = refl;
        holds = refl;
        levels = refl;
        agenda = refl;
        left = λ x. let none : times x (take 0 row) ≡ 0 = refl in omega (arith, ap (λ n. n * share_at (flow_in s.slots c.args.flow) c.args.low) none);
        waiting = λ x. let none : times x (take 0 row) ≡ 0 = refl in omega (arith, ap (λ n. n * c.weight-weight.result) none);
        grows = grows_same f.stale.members;
        room = refl;
        done = λ i h. absurd (omega (arith, h));
        few = omega arith;
        least = λ q all start. start;
        looks = omega arith;
      },
    )

pub look-one-requires : goal.look-one-requires
look-one-requires g c =
    let s = c.args.system.now in
    let inv = c.loop-at.invariant in
    can_look next_of_flow resource_of s.uses (uses_at s.slots c.args.flow) inv.0 c.loop-at.at inv.1.walk c.in-Some.i c.in-Some.is

pub loop-at-smaller : goal.loop-at-smaller
loop-at-smaller g c =
    let s = c.args.system.now in
    let inv = c.loop-at.invariant in
    nearer next_of_flow resource_of s.uses (uses_at s.slots c.args.flow) inv.0 c.loop-at.at inv.1.walk c.in-Some.i c.look-one.result c.in-Some.is c.look-one.ensures.there

pub take_use-requires-clause-left : goal.take_use-requires-clause-left
take_use-requires-clause-left g c =
    let s = c.args.system.now in
    let row = uses_at s.slots c.args.flow in
    let inv = c.loop-at.invariant in
    let r = looked next_of_flow resource_of s.uses row inv.0 c.loop-at.at inv.1.walk c.in-Some.i c.look-one.result c.in-Some.is c.look-one.ensures.there in
    let below : get_or row inv.0 0 < length s.capacities = All-get_or (λ n. n < length s.capacities) row inv.0 0 r.less (rows_exist s c.requires.places.sound c.args.flow) in
    omega (arith, below, r.is, inv.1.places.left_len)

pub take_use-requires-clause-waiting : goal.take_use-requires-clause-waiting
take_use-requires-clause-waiting g c =
    let s = c.args.system.now in
    let row = uses_at s.slots c.args.flow in
    let inv = c.loop-at.invariant in
    let r = looked next_of_flow resource_of s.uses row inv.0 c.loop-at.at inv.1.walk c.in-Some.i c.look-one.result c.in-Some.is c.look-one.ensures.there in
    let below : get_or row inv.0 0 < length s.capacities = All-get_or (λ n. n < length s.capacities) row inv.0 0 r.less (rows_exist s c.requires.places.sound c.args.flow) in
    omega (arith, below, r.is, inv.1.places.waiting_len)

pub take_use-requires-clause-stale : goal.take_use-requires-clause-stale
take_use-requires-clause-stale g c =
    let s = c.args.system.now in
    let row = uses_at s.slots c.args.flow in
    let inv = c.loop-at.invariant in
    let r = looked next_of_flow resource_of s.uses row inv.0 c.loop-at.at inv.1.walk c.in-Some.i c.look-one.result c.in-Some.is c.look-one.ensures.there in
    let below : get_or row inv.0 0 < length s.capacities = All-get_or (λ n. n < length s.capacities) row inv.0 0 r.less (rows_exist s c.requires.places.sound c.args.flow) in
    omega (arith, below, r.is, inv.1.places.stale_room)

pub loop-at-preserved : goal.loop-at-preserved
unfolding share_at
loop-at-preserved g c =
    let s = c.args.system.now in
    let row = uses_at s.slots c.args.flow in
    let inv = c.loop-at.invariant in
    let k = inv.0 in
    let p = inv.1.places in
    let one = c.look-one.result.resource in
    let first = c.args.filling.now in
    let f = c.loop-at.filling in
    let out = c.take_use.ensures in
    let weight = c.weight-weight.result in
    let share = share_at (flow_in s.slots c.args.flow) c.args.low in
    let told : bounded c.bound-bound.result (weight * c.args.low) ≡ share = ap (λ n. bounded c.bound-bound.result (n * c.args.low)) (weight_is s.slots c.args.flow weight c.requires.held c.weight-weight.ensures)
    ∙ ap (λ b. bounded b (weight_at s.slots c.args.flow * c.args.low)) (bound_is s.slots c.args.flow c.bound-bound.result c.requires.held c.bound-bound.ensures) in
    let left = out.left share (c.share_at-share.ensures.capped ∙ ap (λ n. min n (2 ^ 64 - 1)) told) in
    let r = looked next_of_flow resource_of s.uses row k c.loop-at.at inv.1.walk c.in-Some.i c.look-one.result c.in-Some.is c.look-one.ensures.there in
    let below : get_or row k 0 < length s.capacities = All-get_or (λ n. n < length s.capacities) row k 0 r.less (rows_exist s c.requires.places.sound c.args.flow) in
    let in_left : one < length f.left.items = omega (arith, below, r.is, p.left_len) in
    let in_waiting : one < length f.waiting.items = omega (arith, below, r.is, p.waiting_len) in
    let old = f.stale.members in
    let number = get_or row k 0 in
    let e : c.take_use.new.filling.stale.members ≡ with_mark number old = ap (λ (x : MarkSet). x.members) out.stale ∙ ap (λ n. with_mark n old) r.is in
    let room = ap (λ (x : MarkSet). x.room) out.stale in (
      suc k,
      record {
        walk = walk_on next_of_flow resource_of s.uses row k c.loop-at.at inv.1.walk c.in-Some.i c.look-one.result c.in-Some.is c.look-one.ensures.there;
        places = record {
          sound = p.sound;
          fixed_len = omega (arith, p.fixed_len, ap length out.kept.fixed);
          holds_len = ap length out.kept.holds ∙ p.holds_len;
          left_len = ap length left ∙ length-set f.left.items one (get_or f.left.items one 0 - share) ∙ p.left_len;
          waiting_len = ap length out.waiting ∙ length-set f.waiting.items one (get_or f.waiting.items one 0 - weight) ∙ p.waiting_len;
          levels_len = ap length out.kept.levels ∙ p.levels_len;
          stale_room = room ∙ p.stale_room;
          slots = ap length out.kept.agenda ∙ p.slots;
        };
        fixed = out.kept.fixed ∙ inv.1.fixed;
        holds = out.kept.holds ∙ inv.1.holds;
        levels = out.kept.levels ∙ inv.1.levels;
        agenda = out.kept.agenda ∙ inv.1.agenda;
        left = λ x. ap (λ xs. get_or xs x 0) left ∙ take_off f.left.items first.left.items row k one share x r.less r.is in_left inv.1.left;
        waiting = λ x. ap (λ xs. get_or xs x 0) out.waiting ∙ take_off f.waiting.items first.waiting.items row k one weight x r.less r.is in_waiting inv.1.waiting;
        grows = subst (λ xs. Grows first.stale.members xs) (sym e) (grows_on first.stale.members old (with_mark number old) inv.1.grows (grows_mark number old));
        room = room ∙ inv.1.room;
        done = λ i h. below_more _ _ (λ i h. subst (λ xs. is_in (get_or row i 0) xs ≡ true) (sym e) (stays (get_or row i 0) old (with_mark number old) (grows_mark number old) (inv.1.done i h)))
            (subst (λ xs. is_in number xs ≡ true) (sym e) (mark_there number old)) i (omega (arith, h));
        few = omega (arith, ap length e, few_mark number old, inv.1.few);
        least = λ q all start. subst (AllPass q) (sym e) (pass_mark q number old (all k r.less) (inv.1.least q all start));
        looks = omega (arith, inv.1.looks, c.look-one.ensures.looks);
      },
    )

pub returns : goal.returns
returns g c =
    let s = c.args.system.now in
    let row = uses_at s.slots c.args.flow in
    let f = c.args.filling.now in
    let inv = c.loop-at.invariant.1 in
    let k = c.loop-at.invariant.0 in
    let end = walked next_of_flow resource_of s.uses row k c.loop-at.at inv.walk c.in_default.not-Some in
    let all = take_all row k end in
    let weight = weight_is s.slots c.args.flow c.weight-weight.result c.requires.held c.weight-weight.ensures in
    record {
      places = inv.places;
      levels = inv.levels;
      agenda = inv.agenda;
      holds = inv.holds;
      fixed = inv.fixed;
      left = λ x.
          let old = get_or f.left.items x 0 in
          inv.left x ∙ ap (λ xs. old - times x xs * share_at (flow_in s.slots c.args.flow) c.args.low) all;
      waiting = λ x.
          let old = get_or f.waiting.items x 0 in
          inv.waiting x ∙ ap (λ xs. old - times x xs * c.weight-weight.result) all ∙ ap (λ n. old - times x row * n) weight;
      stale = record {
        grows = inv.grows;
        marked = λ i h. inv.done i (omega (arith, h, end));
        room = inv.room;
        few = omega (arith, inv.few, end);
        least = inv.least;
      };
      looks = omega (arith, inv.looks, end);
    }
