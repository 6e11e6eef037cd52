use Rattle.std.proofs.Common.{◌<◌, ◌≤◌, ◌∙◌, sym, ap, subst, ℕ, List, length, arith, rules}
use Rattle.std.specs.Str.Parse.{digits_value}
use Rattle.sg_units.proofs.Digits.{few_fit}
use Rattle.sg_units.proofs.PlainNumbers.{front_number}
use Rattle.sg_units.proofs.plain.plain_front.Goals as goal

pub returns : goal.returns
returns c =
    let are = c.split_digits.ensures.digits in
    let some : 0 < length c.split_digits.result.0.now = search rules in
    let few : length c.split_digits.result.0.now ≤ 18 = omega arith in
    record {
      some = subst (λ (l : List ℕ). 0 < length l) are some;
      few = subst (λ (l : List ℕ). length l ≤ 18) are few;
      number = front_number c.args.text.now c.split_digits.result.1.now c.split_digits.ensures.after (sym c.begins_part.ensures ∙ c.if-begins_part.false);
      value = ap (digits_value 10) (sym are) ∙ sym c.read_few.ensures.value;
      bound = omega (arith, c.read_few.ensures.bound, few_fit (length c.split_digits.result.0.now) few);
    }
