use Rattle.std.proofs.Common.{◌≡◌, ◌-◌, get_or, length, arith}
use Rattle.sg_units.proofs.Digits.{rest_at, first_digit, other_digits, read_next, bound_next, next_within, few_fit}
use Rattle.sg_units.proofs.scale.read_few.Goals as goal

pub overflow_mul-value : goal.overflow_mul-value
overflow_mul-value c =
    let digits = c.args.digits.now in
    let i = c.loop-b.b-index in
    let rest = rest_at digits i c.loop-b-test.true in
    let small = first_digit _ _ _ rest c.loop-b.invariant.digits in
    omega (arith, next_within _ _ _ _ _ rest small c.loop-b.invariant.bound, few_fit (length digits) c.requires.few)

pub overflow_add-value : goal.overflow_add-value
overflow_add-value c =
    let digits = c.args.digits.now in
    let i = c.loop-b.b-index in
    let rest = rest_at digits i c.loop-b-test.true in
    let small = first_digit _ _ _ rest c.loop-b.invariant.digits in
    let d : c.from.result ≡ get_or digits i 0 - 48 = c.from.ensures in
    omega (arith, next_within _ _ _ _ _ rest small c.loop-b.invariant.bound, few_fit (length digits) c.requires.few)

pub loop-b-preserved : goal.loop-b-preserved
loop-b-preserved c =
    let digits = c.args.digits.now in
    let i = c.loop-b.b-index in
    let rest = rest_at digits i c.loop-b-test.true in
    let small = first_digit _ _ _ rest c.loop-b.invariant.digits in
    let d : c.from.result ≡ get_or digits i 0 - 48 = c.from.ensures in
    record {
      digits = other_digits _ _ _ rest c.loop-b.invariant.digits;
      read = rw d (read_next _ _ _ _ _ rest small c.loop-b.invariant.read);
      bound = rw d (bound_next _ _ _ _ _ rest small c.loop-b.invariant.bound);
    }
