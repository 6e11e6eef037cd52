use Rattle.std.proofs.Common.{slice_index, subst, arith}
use Rattle.sg_maxmin.specs.Chained.{users_on}
use Rattle.sg_maxmin.specs.Held.{IsHold}
use Rattle.sg_maxmin_levels.proofs.levels.Levels.look_at.Goals as goal

pub put_to_rest-requires-clause-none : goal.put_to_rest-requires-clause-none
put_to_rest-requires-clause-none g c =
    let s = c.args.system.now in
    let cap = slice_index s.capacities c.args.resource in
    let row = users_on s.users c.args.resource in
    let levels = c.args.self.now.levels.items in
    record {
      at = c.requires.at;
      hold_is = subst (IsHold cap s.slots levels row) (c.are_none.ensures c.if-are_none.true).1 (subst (λ ls. IsHold cap s.slots ls row c.in_ok-found.found.hold) c.deref.ensures.value c.in_ok-found.ensures.hold);
    }

pub write_hold-times-requires : goal.write_hold-times-requires
write_hold-times-requires g c =
    let s = c.args.system.now in
    record {
      at = c.requires.at;
      hold_is = subst (λ ls. IsHold (slice_index s.capacities c.args.resource) s.slots ls (users_on s.users c.args.resource) c.in_ok-found.found.hold) c.deref.ensures.value c.in_ok-found.ensures.hold;
    }

pub after_walk-requires-clause-few : goal.after_walk-requires-clause-few
after_walk-requires-clause-few g c = omega (arith, c.write_hold-times.ensures.few, c.in_ok-found.ensures.users, c.requires.first.pass.all)

pub returns-clause-spent : goal.returns-clause-spent
returns-clause-spent g c = omega (arith, c.write_hold-times.ensures.looks, c.in_ok-found.ensures.spent, c.after_walk.ensures, c.in_ok-found.ensures.users, c.requires.first.pass.all)

pub returns-clause-looks : goal.returns-clause-looks
returns-clause-looks g c = omega (arith, c.write_hold-times.ensures.looks, c.in_ok-found.ensures.spent, c.after_walk.ensures, c.in_ok-found.ensures.users, c.requires.first.pass.all)
