use Rattle.std.proofs.Common.{◌≡◌, ◌<◌, Some, cond, eq-eqb, length, length-set, get_or, sym, ap, ◌∙◌, arith}
use Rattle.sg_maxmin.specs.Chained.{users_on}
use Rattle.sg_maxmin_solve.specs.Holds.{users_at}
use Rattle.sg_maxmin_solve.proofs.Rows.{any_default}
use Rattle.sg_maxmin_solve.proofs.fixes.fix_on.Goals as goal

pub fix_users-requires-clause-on : goal.fix_users-requires-clause-on
fix_users-requires-clause-on g c =
    let p = c.requires.places in
    record {
      places = record {
        sound = p.sound;
        fixed_len = p.fixed_len;
        holds_len = length-set c.args.filling.now.holds.items c.args.resource (Some c.args.low) ∙ p.holds_len;
        left_len = p.left_len;
        waiting_len = p.waiting_len;
        levels_len = p.levels_len;
        stale_room = p.stale_room;
        slots = p.slots;
      };
      exists = c.requires.exists;
      above = c.requires.above;
    }

pub returns-then-index-low-clause-count : goal.returns-then-index-low-clause-count
returns-then-index-low-clause-count g c = λ touched once there.
    let s = c.args.system.now in
    let f = c.args.filling.now in
    let row = users_on s.users c.args.resource in
    let below : c.args.resource < length f.levels.items = omega (arith, c.requires.exists, c.requires.places.levels_len) in
    let at : get_or f.levels.items c.args.resource 0 ≡ c.args.low = any_default f.levels.items c.args.resource 0 c.index.result.now below ∙ sym c.index.ensures ∙ c.if-index-low.true in
    let all : users_at s c.args.low c.args.resource f ≡ length row = ap (λ b. cond b (length row) 0) (eq-eqb (get_or f.levels.items c.args.resource 0) c.args.low at) in
    let out = c.fix_users.ensures.count touched once there in
    record { counted = λ reached h. out.counted reached h; looks = omega (arith, out.looks, all) }

pub returns-else-index-low-clause-count : goal.returns-else-index-low-clause-count
returns-else-index-low-clause-count g c = λ touched once there. record { counted = λ reached h. h; looks = omega arith }
