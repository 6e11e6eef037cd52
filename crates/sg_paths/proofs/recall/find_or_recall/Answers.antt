-- What is stored is shortest, and stays right.
use Rattle.std.proofs.Common.{List, Option, subst, arith}
use Rattle.sg_base.specs.declared.ids.LinkId.{LinkId}
use Rattle.sg_paths.specs.declared.asked.Asked.{Asked}
use Rattle.sg_paths.specs.Asked.{AreHeld, MayHoldMore}
use Rattle.sg_paths.proofs.AskedLemmas.{held_least, more_right}
use Rattle.sg_paths.proofs.recall.find_or_recall.Goals as goal

pub returns-then-recall-clause-path : goal.returns-then-recall-clause-path
returns-then-recall-clause-path c =
    let P : List (Option Asked) → Type 0 = λ l. AreHeld l c.args.from c.args.to c.recall.new.best.items in
    let room = c.requires.ready.roomy in
    let same = c.recall.ensures.capacity in
    record {
      yes = held_least c.args.routes.now c.args.found.now.asked.items c.args.from c.args.to c.recall.new.best.items c.requires.right (subst P c.as_slice.ensures.value c.if-recall.ensures.yes);
      no = tt;
      roomy = record {
        places = room.places;
        settled = room.settled;
        ahead = room.ahead;
        short = room.short;
        best = let b = room.best in omega (arith, b, same);
        held = let b = room.held in omega (arith, b, same);
      };
    }

pub returns-clause-right : goal.returns-clause-right
returns-clause-right c =
    let P : List LinkId → Type 0 = λ l. MayHoldMore c.args.found.now.asked.items c.hold.new.asked.items c.args.from c.args.to l in
    more_right c.args.routes.now c.args.found.now.asked.items c.hold.new.asked.items c.args.from c.args.to c.find_or_follow.new.reach.best.items c.requires.right (subst P c.as_slice-2.ensures.value c.hold.ensures) c.if-not-find_or_follow.ensures.path.yes
