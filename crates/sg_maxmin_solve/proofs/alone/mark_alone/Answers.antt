use Rattle.std.proofs.Common.{◌≡◌, ◌++◌, ◌/◌, ◌<◌, ℕ, suc, true, Option, None, Some, IfSome, option_map, option_to_list, [], ◌∷◌, length, get_or, take, below_more, refl, sym, ap, ap₂, subst, ◌∙◌, arith}
use Rattle.std.proofs.lemmas.List.Elements.{All-get_or}
use Rattle.sg_base.specs.MarkSet.{MarkSet, is_in, with_mark}
use Rattle.sg_maxmin.specs.Chained.{users_on}
use Rattle.sg_maxmin.specs.Walk.{next_of_flow, resource_of}
use Rattle.sg_maxmin.specs.Fill.{bound_level}
use Rattle.sg_maxmin.specs.Sharing.{uses_at}
use Rattle.sg_maxmin.specs.Numbered.{bound_at}
use Rattle.sg_maxmin.proofs.Walked.{can_look, looked, walk_from, walk_on, nearer, walked}
use Rattle.sg_maxmin_solve.specs.Alone.{IsAlone, alone_limits, whole_level}
use Rattle.sg_maxmin_solve.specs.Component.{AllPass, Grows}
use Rattle.sg_maxmin.specs.Step.{IsLeast, least_with}
use Rattle.sg_maxmin_solve.specs.Filling.{bound_limit}
use Rattle.sg_maxmin_solve.proofs.OneFlow.{in_single, least_list}
use Rattle.sg_maxmin_solve.proofs.Growing.{grows_on, grows_mark, grows_same, stays, few_mark, pass_mark}
use Rattle.sg_maxmin_solve.proofs.Walked.{limits_next}
use Rattle.sg_maxmin.proofs.Listed.{at_in, in_at, mark_there, same_in, take_all}
use Rattle.sg_maxmin.proofs.Users.{bound_is, rows_exist, weighs, weight_is}
use Rattle.sg_maxmin_solve.proofs.alone.mark_alone.Goals as goal

pub level_of_bound-least-requires : goal.level_of_bound-least-requires
level_of_bound-least-requires g c =
    let s = c.args.system.now in
    omega (arith, weight_is s.slots c.args.flow c.weight-weight.result c.requires.held.held c.weight-weight.ensures, (weighs s c.requires.held.sound c.args.flow).0)

pub loop-at-init : goal.loop-at-init
loop-at-init g c =
    let s = c.args.system.now in
    let row = uses_at s.slots c.args.flow in
    let e : bound_limit s.slots c.args.flow ≡ c.level_of_bound-least.result =
    ap (λ w. option_map (bound_level w) (bound_at s.slots c.args.flow)) (sym (weight_is s.slots c.args.flow c.weight-weight.result c.requires.held.held c.weight-weight.ensures))
    ∙ ap (λ b. option_map (bound_level c.weight-weight.result) b) (sym (bound_is s.slots c.args.flow c.bound.result c.requires.held.held c.bound.ensures)) ∙ sym c.level_of_bound-least.ensures in (
      0,
      record {
        walk = walk_from next_of_flow resource_of s.uses row c.first_of-at.result c.first_of-at.ensures.leads c.first_of-at.ensures.few;
        grows = grows_same c.args.reached.now.members;
        room = refl;
        done = λ i h. absurd (omega (arith, h));
        few = omega arith;
        pass = λ q all start. start;
        limits = subst (λ o. IsLeast c.level_of_bound-least.result (option_to_list o ++ [])) (sym e) (least_list c.level_of_bound-least.result);
        only = λ t i h. absurd (omega (arith, h));
        looks = omega arith;
      },
    )

pub look-one-requires : goal.look-one-requires
look-one-requires g c =
    let s = c.args.system.now in
    let inv = c.loop-at.invariant in
    can_look next_of_flow resource_of s.uses (uses_at s.slots c.args.flow) inv.0 c.loop-at.at inv.1.walk c.in-Some.i c.in-Some.is

pub is_only-alone-requires-clause-resource : goal.is_only-alone-requires-clause-resource
is_only-alone-requires-clause-resource g c =
    let s = c.args.system.now in
    let row = uses_at s.slots c.args.flow in
    let inv = c.loop-at.invariant in
    let r = looked next_of_flow resource_of s.uses row inv.0 c.loop-at.at inv.1.walk c.in-Some.i c.look-one.result c.in-Some.is c.look-one.ensures.there in
    let below : get_or row inv.0 0 < length s.capacities = All-get_or (λ n. n < length s.capacities) row inv.0 0 r.less (rows_exist s c.requires.held.sound c.args.flow) in
    omega (arith, below, r.is)

pub capacity-requires : goal.capacity-requires
capacity-requires g c =
    let s = c.args.system.now in
    let row = uses_at s.slots c.args.flow in
    let inv = c.loop-at.invariant in
    let r = looked next_of_flow resource_of s.uses row inv.0 c.loop-at.at inv.1.walk c.in-Some.i c.look-one.result c.in-Some.is c.look-one.ensures.there in
    let below : get_or row inv.0 0 < length s.capacities = All-get_or (λ n. n < length s.capacities) row inv.0 0 r.less (rows_exist s c.requires.held.sound c.args.flow) in
    omega (arith, below, r.is)

pub insert-requires : goal.insert-requires
insert-requires g c =
    let s = c.args.system.now in
    let row = uses_at s.slots c.args.flow in
    let inv = c.loop-at.invariant in
    let r = looked next_of_flow resource_of s.uses row inv.0 c.loop-at.at inv.1.walk c.in-Some.i c.look-one.result c.in-Some.is c.look-one.ensures.there in
    let below : get_or row inv.0 0 < length s.capacities = All-get_or (λ n. n < length s.capacities) row inv.0 0 r.less (rows_exist s c.requires.held.sound c.args.flow) in
    omega (arith, below, r.is, inv.1.room, c.requires.room)

pub loop-at-smaller : goal.loop-at-smaller
loop-at-smaller g c =
    let s = c.args.system.now in
    let inv = c.loop-at.invariant in
    nearer next_of_flow resource_of s.uses (uses_at s.slots c.args.flow) inv.0 c.loop-at.at inv.1.walk c.in-Some.i c.look-one.result c.in-Some.is c.look-one.ensures.there

pub loop-at-preserved : goal.loop-at-preserved
loop-at-preserved g c =
    let s = c.args.system.now in
    let flow = c.args.flow in
    let row = uses_at s.slots flow in
    let inv = c.loop-at.invariant in
    let k = inv.0 in
    let one = c.look-one.result in
    let r = looked next_of_flow resource_of s.uses row k c.loop-at.at inv.1.walk c.in-Some.i one c.in-Some.is c.look-one.ensures.there in
    let old = c.loop-at.reached.members in
    let number = get_or row k 0 in
    let e : c.insert.new.self.members ≡ with_mark number old = ap (λ (x : MarkSet). x.members) c.insert.ensures ∙ ap (λ n. with_mark n old) r.is in
    let weight = weight_is s.slots flow c.weight-weight.result c.requires.held.held c.weight-weight.ensures in
    let at : c.level_of.result ≡ whole_level s flow one.resource = c.level_of.ensures ∙ ap₂ (λ a b. a / b) c.capacity.ensures weight in
    let its : c.is_only-alone.result ≡ true → users_on s.users number ≡ flow ∷ [] = λ t.
    let row' = c.is_only-alone.ensures.only t in
    let user = same_in number flow row (users_on s.users number) (sym (c.requires.held.sound.both flow number)) (in_at number row k r.less refl) in
    let only : users_on s.users number ≡ one.flow ∷ [] = subst (λ n. users_on s.users n ≡ one.flow ∷ []) r.is row' in
    only ∙ ap (λ n. n ∷ []) (sym (in_single flow one.flow (subst (λ xs. is_in flow xs ≡ true) only user))) in (
      suc k,
      record {
        walk = walk_on next_of_flow resource_of s.uses row k c.loop-at.at inv.1.walk c.in-Some.i one c.in-Some.is c.look-one.ensures.there;
        grows = subst (λ xs. Grows c.args.reached.now.members xs) (sym e) (grows_on c.args.reached.now.members old (with_mark number old) inv.1.grows (grows_mark number old));
        room = ap (λ (x : MarkSet). x.room) c.insert.ensures ∙ inv.1.room;
        done = λ i h. below_more _ _ (λ i h. subst (λ xs. is_in (get_or row i 0) xs ≡ true) (sym e) (stays (get_or row i 0) old (with_mark number old) (grows_mark number old) (inv.1.done i h)))
            (subst (λ xs. is_in number xs ≡ true) (sym e) (mark_there number old)) i (omega (arith, h));
        few = omega (arith, ap length e, few_mark number old, inv.1.few);
        pass = λ q all start. subst (AllPass q) (sym e) (pass_mark q number old (all k r.less) (inv.1.pass q all start));
        limits = subst (λ o. IsLeast o (alone_limits s flow (take (suc k) row))) (ap (λ l. Some (least_with c.loop-at.least l)) (sym at) ∙ sym c.smaller-least.ensures)
            (limits_next c.loop-at.least (option_to_list (bound_limit s.slots flow)) row (whole_level s flow) k one.resource r.less r.is inv.1.limits);
        only = λ t i h. below_more _ _ (inv.1.only (c.is_only-alone.ensures.before t)) (its t) i (omega (arith, h));
        looks = omega (arith, inv.1.looks, c.look-one.ensures.looks);
      },
    )

pub returns-clause-reaches : goal.returns-clause-reaches
returns-clause-reaches g c =
    let s = c.args.system.now in
    let inv = c.loop-at.invariant in
    let end = walked next_of_flow resource_of s.uses (uses_at s.slots c.args.flow) inv.0 c.loop-at.at inv.1.walk c.in_default.not-Some in
    record {
      marks = record {
        grows = inv.1.grows;
        marked = λ i h. inv.1.done i (omega (arith, h, end));
        room = inv.1.room;
        few = omega (arith, inv.1.few, end);
        least = inv.1.pass;
      };
      looks = omega (arith, inv.1.looks, end);
    }

pub returns-clause-alone : goal.returns-clause-alone
returns-clause-alone g c = from c.if_alone.result refl c.if_alone.ensures
  where
    from : (o : Option ℕ) → c.if_alone.result ≡ o → IfSome o (λ low. (c.loop-at.alone ≡ true) × (c.loop-at.least ≡ Some low)) → IfSome o (IsAlone c.args.system.now c.args.flow)
    from None e h = tt
    from (Some low) e h =
        let s = c.args.system.now in
        let row = uses_at s.slots c.args.flow in
        let inv = c.loop-at.invariant in
        let end = walked next_of_flow resource_of s.uses row inv.0 c.loop-at.at inv.1.walk c.in_default.not-Some in
        record {
          only = λ r i. let at = at_in r row i in subst (λ n. users_on s.users n ≡ c.args.flow ∷ []) at.2 (inv.1.only h.0 at.0 (omega (arith, at.1, end)));
          least = subst (λ xs. IsLeast (Some low) (alone_limits s c.args.flow xs)) (take_all row inv.0 end) (subst (λ o. IsLeast o (alone_limits s c.args.flow (take inv.0 row))) h.1 inv.1.limits);
        }
