use Rattle.std.proofs.Common.{◌∙◌, sym, ap, take, subst}
use Rattle.std.specs.Str.Parse.{AllDigits}
use Rattle.sg_units.proofs.Digits.{all_digits, digits_by_length}
use Rattle.sg_units.proofs.number.split_digits.Goals as goal

pub returns-clause-all : goal.returns-clause-all
returns-clause-all c = subst (AllDigits 10) (sym (c.split_at.ensures.front ∙ ap (λ n. take n c.args.text.now) c.digit_count.ensures ∙ digits_by_length c.args.text.now)) (all_digits c.args.text.now)
