use Rattle.std.proofs.Common.{◌≡◌, ◌-◌, ◌∙◌, sym, get_or, length, arith}
use Rattle.sg_units.proofs.Digits.{rest_at, read_next, bound_next, next_within, few_fit, value_from_test}
use Rattle.sg_units.proofs.plain.plain_number.Goals as goal

pub overflow_mul-value : goal.overflow_mul-value
overflow_mul-value c =
    let text = c.args.text.now in
    let i = c.loop-b.b-index in
    let rest = rest_at text i c.loop-b-test.true in
    let small = value_from_test (get_or text i 0) (sym c.is_ascii_digit.ensures.value ∙ c.if-not-is_ascii_digit.false) in
    omega (arith, next_within _ _ _ _ _ rest small c.loop-b.invariant.bound, few_fit (length text) c.loop-b.invariant.few)

pub overflow_add-value : goal.overflow_add-value
overflow_add-value c =
    let text = c.args.text.now in
    let i = c.loop-b.b-index in
    let rest = rest_at text i c.loop-b-test.true in
    let small = value_from_test (get_or text i 0) (sym c.is_ascii_digit.ensures.value ∙ c.if-not-is_ascii_digit.false) in
    let d : c.from.result ≡ get_or text i 0 - 48 = c.from.ensures in
    omega (arith, next_within _ _ _ _ _ rest small c.loop-b.invariant.bound, few_fit (length text) c.loop-b.invariant.few)

pub loop-b-preserved : goal.loop-b-preserved
loop-b-preserved c =
    let text = c.args.text.now in
    let i = c.loop-b.b-index in
    let rest = rest_at text i c.loop-b-test.true in
    let small = value_from_test (get_or text i 0) (sym c.is_ascii_digit.ensures.value ∙ c.if-not-is_ascii_digit.false) in
    let d : c.from.result ≡ get_or text i 0 - 48 = c.from.ensures in
    record {
      some = c.loop-b.invariant.some;
      few = c.loop-b.invariant.few;
      digits = λ behind. c.loop-b.invariant.digits (rw rest (small, behind));
      read = rw d (read_next _ _ _ _ _ rest small c.loop-b.invariant.read);
      bound = rw d (bound_next _ _ _ _ _ rest small c.loop-b.invariant.bound);
    }
