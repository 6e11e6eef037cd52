use Rattle.std.proofs.Common.{◌<◌, Some, length, sym, subst, ◌∙◌, arith}
use Rattle.std.proofs.lemmas.Grind.{get_or_default_zero}
use Rattle.sg_heap.specs.Agenda.{Key}
use Rattle.sg_maxmin.specs.Step.{IsLeast}
use Rattle.sg_maxmin_solve.specs.Filling.{waited_levels}
use Rattle.sg_maxmin_solve.proofs.Keyed.{are_right, first_least, key_within, there_some}
use Rattle.sg_maxmin_solve.proofs.limits.least_level.Goals as goal

pub returns-in-Some-clause-level : goal.returns-in-Some-clause-level
returns-in-Some-clause-level c =
    let reached = c.args.reached.now in
    let f = c.args.filling.now in
    let x = c.in-Some.c in
    let first = c.in-Some.ensures.first in
    let key : Key = record { date = c.in-Some.field-0-1; serial = c.in-Some.field-0-2.0 } in
    let some = there_some f.agenda x key first.there in
    let below : x < length f.levels.items = omega (arith, key_within f.agenda x some, c.requires.slots) in
    subst (λ n. IsLeast (Some n) (waited_levels f.waiting.items f.levels.items reached)) (sym (c.index.ensures ∙ get_or_default_zero f.levels.items x c.index.result.now below))
    (first_least reached f c.requires.dated.quiet (are_right reached f c.requires.dated (x, some)) x key first)

pub returns-in-Some-clause-at : goal.returns-in-Some-clause-at
returns-in-Some-clause-at c = record { order = omega arith; few = omega arith; among = λ i level h w e up. (omega arith, h) }
