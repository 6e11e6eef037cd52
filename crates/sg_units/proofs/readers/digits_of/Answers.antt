use Rattle.std.proofs.Common.{◌∙◌, ap, sym, arith}
use Rattle.std.specs.Str.Parse.{digits_value_after}
use Rattle.sg_units.specs.kept.Shown.{parts_of}
use Rattle.sg_units.proofs.Values.{after_append, two_parts, few_in_all}
use Rattle.sg_units.proofs.readers.digits_of.Goals as goal

pub read_after-requires-2-clause-bound : goal.read_after-requires-2-clause-bound
read_after-requires-2-clause-bound c = omega (arith, two_parts _ _ _ c.read_after.ensures.bound (few_in_all (parts_of c.args.number.now) c.requires.short))

pub returns-clause-value : goal.returns-clause-value
returns-clause-value c =
    let number = c.args.number.now in
    c.read_after-2.ensures.value ∙ ap (λ n. digits_value_after 10 n number.fraction.now) c.read_after.ensures.value ∙ sym (after_append 0 number.whole.now number.fraction.now)

pub returns-clause-bound : goal.returns-clause-bound
returns-clause-bound c = omega (arith, c.read_after-2.ensures.bound, two_parts _ _ _ c.read_after.ensures.bound (few_in_all (parts_of c.args.number.now) c.requires.short))
