use Rattle.std.proofs.Common.{◌∙◌}
use Rattle.sg_activity.proofs.Loaded.{load_offered, load_walked, sums_fit}
use Rattle.sg_activity.proofs.Reset.{users_below}
use Rattle.sg_activity.proofs.power.load.Goals as goal

pub sum_on-requires-clause-keys : goal.sum_on-requires-clause-keys
sum_on-requires-clause-keys c = users_below c.args.kept.now c.args.kept.now.index c.requires.tell.used c.is_both_ways.ensures c.args.host

pub sum_on-requires-clause-fits : goal.sum_on-requires-clause-fits
sum_on-requires-clause-fits c = let t = c.requires.tell in sums_fit c.args.kept.now t.sound c.args.kept.now.index t.used c.is_both_ways.ensures t.settled c.args.host c.requires.host t.hosts

pub returns-clause-load : goal.returns-clause-load
returns-clause-load c = let t = c.requires.tell in c.sum_on.ensures ∙ load_walked c.args.kept.now t.sound c.args.kept.now.index t.used c.is_both_ways.ensures t.settled c.args.host c.requires.host

pub returns-clause-fits : goal.returns-clause-fits
returns-clause-fits c =
    let t = c.requires.tell in
    load_offered c.args.kept.now t.sound c.args.kept.now.index t.used c.is_both_ways.ensures t.settled c.args.host c.requires.host c.sum_on.result
    (c.sum_on.ensures ∙ load_walked c.args.kept.now t.sound c.args.kept.now.index t.used c.is_both_ways.ensures t.settled c.args.host c.requires.host)
