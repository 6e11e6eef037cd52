use Rattle.std.proofs.Common.{◌≡◌, ◌+◌, ◌*◌, ◌<◌, ◌≤◌, ◌++◌, List, Some, length, vec_capacity, slice_index_or, sym, subst, ap, ◌∙◌, arith, length-append}
use Rattle.std.specs.Prelude.{slice_get}
use Rattle.std.proofs.lemmas.Option.{slice_get-get_or}
use Rattle.sg_base.specs.declared.ids.LinkId.{LinkId}
use Rattle.sg_paths.specs.declared.trail.Settled.{Settled}
use Rattle.sg_paths.specs.Trail.{hop_links, links_at}
use Rattle.sg_paths.proofs.TrailLemmas.{room_on}
use Rattle.sg_paths.proofs.PathLemmas.{trail_on}
use Rattle.sg_paths.proofs.trail.write_links.Goals as goal

pub loop-at-preserved : goal.loop-at-preserved
loop-at-preserved c =
    let none : Settled = record { point = 0; route = 0; next = 0 } in
    let step : Settled = slice_index_or c.args.settled.now c.loop-at.at none in
    let there : slice_get c.args.settled.now c.loop-at.at ≡ Some step = slice_get-get_or c.args.settled.now c.loop-at.at none c.loop-at.invariant.there in
    let back : step.next < c.loop-at.at = c.requires.back.back c.loop-at.at step c.loop-at-test.true there in
    let out : c.add-in-loop-at.new.out.items ≡ c.loop-at.out.items ++ links_at c.args.routes.now step.route = c.add-in-loop-at.ensures.links ∙ ap (λ (l : List LinkId). c.loop-at.out.items ++ l) c.links_at-in-loop-at.ensures in
    let within : c.loop-at.at < length c.args.settled.now = c.loop-at.invariant.there in
    let room : length c.loop-at.out.items + length (links_at c.args.routes.now step.route) + step.next * c.args.most ≤ vec_capacity c.loop-at.out =
    room_on (length c.loop-at.out.items) (length (links_at c.args.routes.now step.route)) step.next c.loop-at.at c.args.most (vec_capacity c.loop-at.out) c.loop-at.invariant.room back (c.requires.short step.route) in
    record {
      there = omega arith;
      room = omega (arith, ap (length {A = LinkId}) out, length-append c.loop-at.out.items (links_at c.args.routes.now step.route), c.add-in-loop-at.ensures.capacity);
      capacity = c.add-in-loop-at.ensures.capacity ∙ c.loop-at.invariant.capacity;
      links = λ label trail. subst (λ (l : List LinkId). hop_links c.args.routes.now label c.args.hop ≡ l ++ label step.next) (sym out) (trail_on c.args.routes.now c.args.settled.now label c.loop-at.at step c.loop-at.out.items (hop_links c.args.routes.now label c.args.hop) trail c.loop-at-test.true there (c.loop-at.invariant.links label trail));
    }
