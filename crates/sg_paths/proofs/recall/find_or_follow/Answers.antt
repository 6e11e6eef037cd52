-- The tree that was found is stored.
use Rattle.std.proofs.Common.{List, subst}
use Rattle.sg_paths.specs.declared.trail.Settled.{Settled}
use Rattle.sg_paths.specs.Trees.{TakeTree}
use Rattle.sg_paths.proofs.ReachLemmas.{find_on}
use Rattle.sg_paths.proofs.recall.find_or_follow.Goals as goal

pub find-requires : goal.find-requires
find-requires c = find_on c.args.routes.now c.args.arrivals.now c.args.from c.args.to c.args.reach.now c.follow.new.reach c.requires.ready c.follow.ensures.roomy

pub returns-clause-onward : goal.returns-clause-onward
returns-clause-onward c =
    let P : List Settled → Type 0 = λ l. TakeTree l c.args.to c.args.trees.now.hops.items c.keep.new.trees.hops.items in
    let take = subst P c.as_slice.ensures.value c.keep.ensures in
    take c.args.routes.now c.if-not-find.ensures.tree c.requires.onward
