use Rattle.sg_profile.proofs.Stepping.{first_kept}
use Rattle.sg_profile.proofs.slots.agenda_of.Goals as goal

pub returns : goal.returns
returns c = first_kept c.args.profiles.now c.args.turns.now c.enter_all.new.agenda c.requires.few c.requires.schedules c.requires.first c.enter_all.ensures.slots c.enter_all.ensures.keys
