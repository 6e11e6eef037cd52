-- All is ready for a search.
use Rattle.std.proofs.Common.{◌*◌, ◌+◌, ◌<◌, ◌≤◌, ℕ, vec_capacity, sym, subst}
use Rattle.sg_paths.specs.Ahead.{steps_in}
use Rattle.sg_paths.specs.Reach.{IsRoomy}
use Rattle.sg_paths.specs.Trail.{AreShort}
use Rattle.sg_paths.proofs.ReachLemmas.{ready_of, within_of}
use Rattle.sg_paths.proofs.TreeLemmas.{none_onward}
use Rattle.sg_paths.proofs.paths.Paths.build.Goals as goal

pub invariant_of-result : goal.invariant_of-result
invariant_of-result c =
    let made = c.in_ok-reach.ensures in
    let few : steps_in c.args.routes.now + 1 < 18446744073709551616 = c.if-not-countable.ensures in
    let roomy : IsRoomy c.args.routes.now c.args.points c.in_ok-reach.reach = record {
      places = made.places;
      settled = made.settled;
      ahead = record { slots = made.slots; lefts = made.lefts };
      short = subst (λ (n : ℕ). AreShort n c.args.routes.now) (sym made.most) c.most_links-most.ensures;
      best = subst (λ (n : ℕ). c.args.points * n ≤ vec_capacity c.in_ok-reach.reach.best) (sym made.most) made.best;
      held = made.held;
    } in
    let ready = ready_of c.args.points c.args.routes.now c.in_ok-copied.copied.items c.in_ok-arrivals.arrivals c.in_ok-reach.reach c.in_ok-copied.ensures
    (within_of c.args.points c.args.routes.now c.requires) c.in_ok-arrivals.ensures few roomy in
    record {
      ready = ready;
      right = λ k one there. absurd (c.in_ok-asked.ensures k one there);
      onward = none_onward c.in_ok-copied.copied.items c.in_ok-trees.trees.hops.items c.in_ok-trees.ensures;
    }
