use Rattle.std.proofs.Common.{◌≡◌, ◌+◌, ◌<◌, ◌≤◌, Option, Some, IfSome, length, slice_index, refl, sym, subst, ◌∙◌, arith}
use Rattle.sg_maxmin.specs.Chained.{users_on}
use Rattle.sg_maxmin.specs.Held.{IsHold}
use Rattle.sg_maxmin.specs.Numbered.{below_at, row_level, row_waiting}
use Rattle.sg_maxmin.proofs.Walked.{none_of}
use Rattle.sg_maxmin_levels.proofs.RowRise.{IsOnWay, way_starts, way_on, way_none, level_le}
use Rattle.sg_maxmin_levels.proofs.Passes.{IsNext, first_pass, next_pass, shifted, way_last}
use Rattle.sg_maxmin_levels.specs.declared.hold.Above.{Above}
use Rattle.sg_maxmin.proofs.Listed.{none_some}
use Rattle.sg_maxmin_levels.proofs.hold.hold_of.Goals as goal

pub loop-next-init : goal.loop-next-init
loop-next-init g c =
    let s = c.args.system.now in
    let row = users_on s.users c.args.resource in
    let users = c.args.first.users in
    let n = length row in
    let few : users ≤ c.args.looks = c.requires.first.pass.few in
    record {
      way = way_starts (slice_index s.capacities c.args.resource) s.slots c.args.levels.now row;
      found = first_pass s c.args.resource c.args.levels.now c.args.looks c.args.steps.now (c.args.steps.now + users) (Some c.args.first) c.requires.first.level_is c.requires.first.least_is c.requires.first.pass refl (omega (arith, few)) (λ e. absurd (none_some (sym e)));
      users = c.requires.first.pass.all;
    }

pub loop-next-smaller : goal.loop-next-smaller
loop-next-smaller g c =
    let s = c.args.system.now in
    let row = users_on s.users c.args.resource in
    let cap = slice_index s.capacities c.args.resource in
    let inv = c.loop-next.invariant in
    let fixed = below_at c.args.levels.now c.loop-next.low in
    let found = subst (IsNext s c.args.resource c.args.levels.now c.loop-next.low c.loop-next.left c.args.looks c.args.steps.now (c.loop-next.steps + c.args.first.users)) c.in-Some.is inv.found in
    let some = subst (λ o. IfSome o (λ x. (0 < row_waiting s.slots fixed row) × (x ≡ row_level cap s.slots fixed row))) c.in-Some-level.is found.level.some in
    let most : row_level cap s.slots fixed row ≤ cap = level_le cap s.slots fixed row in
    omega (arith, some.1, most, inv.way.reached some.0, c.if-level-low.false)

pub loop-next-preserved : goal.loop-next-preserved
loop-next-preserved g c =
    let s = c.args.system.now in
    let row = users_on s.users c.args.resource in
    let cap = slice_index s.capacities c.args.resource in
    let levels = c.args.levels.now in
    let low = c.loop-next.low in
    let inv = c.loop-next.invariant in
    let out = c.level_above-next.ensures in
    let found = subst (IsNext s c.args.resource levels low c.loop-next.left c.args.looks c.args.steps.now (c.loop-next.steps + c.args.first.users)) c.in-Some.is inv.found in
    let fixed = below_at levels low in
    let some = subst (λ o. IfSome o (λ x. (0 < row_waiting s.slots fixed row) × (x ≡ row_level cap s.slots fixed row))) c.in-Some-level.is found.level.some in
    let shift : (o : Option Above) → IfSome o (λ b. c.level_above-next.new.steps ≡ c.loop-next.steps + b.users) → IfSome o (λ b. c.level_above-next.new.steps + c.args.first.users ≡ c.loop-next.steps + c.args.first.users + b.users) = λ o told. shifted c.level_above-next.new.steps c.loop-next.steps c.args.first.users o told in
    record {
      way = subst (IsOnWay cap s.slots levels row) (sym some.1) (way_on cap s.slots levels row low some.0 inv.way);
      found = next_pass s c.args.resource levels c.args.looks c.args.steps.now low c.loop-next.left (c.loop-next.steps + c.args.first.users) (c.level_above-next.new.steps + c.args.first.users) c.in-Some-level.level c.in-Some.above found c.in-Some-level.is c.if-level-low.false inv.way
          c.level_above-next.result out.level out.least out.users (shift c.level_above-next.result out.spent) (omega (arith, out.looks)) out.enough;
      users = inv.users;
    }

pub returns-in_default-level-clause-hold : goal.returns-in_default-level-clause-hold
returns-in_default-level-clause-hold g c =
    let s = c.args.system.now in
    let inv = c.loop-next.invariant in
    let found = subst (IsNext s c.args.resource c.args.levels.now c.loop-next.low c.loop-next.left c.args.looks c.args.steps.now (c.loop-next.steps + c.args.first.users)) c.in-Some.is inv.found in
    way_none (slice_index s.capacities c.args.resource) s.slots c.args.levels.now (users_on s.users c.args.resource) c.loop-next.low inv.way (found.level.none (none_of c.in-Some.above.level c.in_default-level.not-Some))

pub returns-in_default-level-clause-users : goal.returns-in_default-level-clause-users
returns-in_default-level-clause-users g c =
    let found = subst (IsNext c.args.system.now c.args.resource c.args.levels.now c.loop-next.low c.loop-next.left c.args.looks c.args.steps.now (c.loop-next.steps + c.args.first.users)) c.in-Some.is c.loop-next.invariant.found in
    found.users.all ∙ sym c.requires.first.pass.all

pub returns-then-level-low-clause-users : goal.returns-then-level-low-clause-users
returns-then-level-low-clause-users g c =
    let found = subst (IsNext c.args.system.now c.args.resource c.args.levels.now c.loop-next.low c.loop-next.left c.args.looks c.args.steps.now (c.loop-next.steps + c.args.first.users)) c.in-Some.is c.loop-next.invariant.found in
    found.users.all ∙ sym c.requires.first.pass.all

pub returns-then-level-above-clause-hold : goal.returns-then-level-above-clause-hold
returns-then-level-above-clause-hold g c =
    let s = c.args.system.now in
    let row = users_on s.users c.args.resource in
    let cap = slice_index s.capacities c.args.resource in
    let levels = c.args.levels.now in
    let low = c.loop-next.low in
    let inv = c.loop-next.invariant in
    let found = subst (IsNext s c.args.resource levels low c.loop-next.left c.args.looks c.args.steps.now (c.loop-next.steps + c.args.first.users)) c.in-Some.is inv.found in
    let fixed = below_at levels low in
    let some = subst (λ o. IfSome o (λ x. (0 < row_waiting s.slots fixed row) × (x ≡ row_level cap s.slots fixed row))) c.in-Some-level.is found.level.some in
    subst (λ x. IsHold cap s.slots levels row (Some x)) (sym some.1) (way_last cap s.slots levels row low c.in-Some.above.least inv.way some.0 (omega (arith, some.1, c.if-level-above.true)) found.least)

pub returns-then-level-above-clause-users : goal.returns-then-level-above-clause-users
returns-then-level-above-clause-users g c =
    let found = subst (IsNext c.args.system.now c.args.resource c.args.levels.now c.loop-next.low c.loop-next.left c.args.looks c.args.steps.now (c.loop-next.steps + c.args.first.users)) c.in-Some.is c.loop-next.invariant.found in
    found.users.all ∙ sym c.requires.first.pass.all
