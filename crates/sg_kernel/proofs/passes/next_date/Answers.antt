use Rattle.std.proofs.Common.{◌≡◌, min, sym, subst, rules}
use Rattle.sg_kernel.specs.kept.Coming.{IsNextDate}
use Rattle.sg_kernel.proofs.Nexts.{entry_alone, phases_alone, sooner_of_both}
use Rattle.sg_kernel.proofs.passes.next_date.Goals as goal

pub returns-in_default : goal.returns-in_default
returns-in_default c =
    let was = c.requires.whole in
    phases_alone c.args.fields.now c.next_date.result was.sound was.dated c.in_default.ensures.next c.next_date.ensures

pub returns-in-Some-next_date : goal.returns-in-Some-next_date
returns-in-Some-next_date c =
    let was = c.requires.whole in
    let is : c.min.result ≡ min c.in-Some-next_date.phase c.in-Some.entry = search rules in
    subst (IsNextDate c.args.fields.now) (sym is) (sooner_of_both c.args.fields.now c.in-Some-next_date.phase c.in-Some.entry was.sound was.dated was.timely c.in-Some-next_date.ensures c.in-Some.ensures.next.date_is)

pub returns-in-None : goal.returns-in-None
returns-in-None c =
    let was = c.requires.whole in
    entry_alone c.args.fields.now c.in-Some.entry was.dated was.timely c.in-Some.ensures.next.date_is c.in-None.ensures
