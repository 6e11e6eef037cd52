use Rattle.std.proofs.Common.{◌≡◌, ◌+◌, List, length, None, Option, Some, Ok, refl, sym, ap, subst, ◌∙◌}
use Rattle.sg_base.specs.declared.ids.LinkId.{LinkId}
use Rattle.sg_mailbox.specs.declared.sides.Post.{Post}
use Rattle.sg_mailbox.specs.Posts.{partner_side}
use Rattle.sg_route.specs.Route.{Route}
use Rattle.sg_kernel_calls.specs.Setup.{Setup}
use Rattle.sg_kernel_calls.specs.declared.simulation_state.Fields.{Fields}
use Rattle.sg_kernel_calls.specs.Meetings.{comes, joins_on, point_of, posted, receiver_of, sender_of, takes_part}
use Rattle.sg_kernel_calls.specs.World.{Core}
use Rattle.sg_kernel_calls.specs.Roads.{IsOver}
use Rattle.sg_kernel_calls.specs.Steps.{counted}
use Rattle.sg_kernel_calls.specs.kept.Sound.{core_of}
use Rattle.sg_kernel_calls.proofs.Mets.{comes_alone, comes_met, is_met, takes_part_on}
use Rattle.sg_kernel_calls.proofs.Replied.{counted_replies, used_replies}
use Rattle.sg_kernel_calls.proofs.Unmet.{joins_goes}
use Rattle.sg_kernel_calls.proofs.meetings.come.Goals as goal

-- ---- it is refused
pub returns-in_err-check_budget-clause-replies : goal.returns-in_err-check_budget-clause-replies
returns-in_err-check_budget-clause-replies c = used_replies (comes c.args.router.now c.args.fields.now.setup c.args.comer.now (core_of c.args.fields.now)) c.args.fields.now c.args.fields.now c.in_err-check_budget.field-0.0 c.from_residual.result c.from_residual.ensures.1 c.in_err-check_budget.ensures refl c.requires.comes.whole

pub route_to-requires-clause-other : goal.route_to-requires-clause-other
route_to-requires-clause-other c = (is_met c.args.fields.now c.args.comer.now c.in-Some.met.0 c.in-Some.met.1 (sym c.look-found.ensures.found.met ∙ c.in-Some.is) c.requires.comes.whole.limited c.requires.comes.whole.meeting).limited

-- ---- it meets its match
pub meet-requires-clause-route : goal.meet-requires-clause-route
meet-requires-clause-route c =
    let setup = c.args.fields.now.setup in
    let route : Route = record { links = c.as_slice.result.now; latency = c.in_ok-latency-in-Some.latency } in
    let way = c.in_ok-latency-in-Some.ensures.route ∙ ap (λ (l : List LinkId). Ok (record { links = l; latency = c.in_ok-latency-in-Some.latency })) (sym c.as_slice.ensures.value) in
    subst (λ (f : Fields). IsOver f.setup.links route) (sym c.count.ensures) (c.requires.roads (point_of setup (sender_of c.args.comer.now c.in-Some.met.1)) (point_of setup (receiver_of c.args.comer.now c.in-Some.met.1)) route way)

pub returns-in_ok-latency-in-Some-clause-replies : goal.returns-in_ok-latency-in-Some-clause-replies
returns-in_ok-latency-in-Some-clause-replies c =
    let old = c.args.fields.now in
    let route : Route = record { links = c.as_slice.result.now; latency = c.in_ok-latency-in-Some.latency } in
    let way = c.in_ok-latency-in-Some.ensures.route ∙ ap (λ (l : List LinkId). Ok (record { links = l; latency = c.in_ok-latency-in-Some.latency })) (sym c.as_slice.ensures.value) in
    let m = is_met c.args.fields.now c.args.comer.now c.in-Some.met.0 c.in-Some.met.1 (sym c.look-found.ensures.found.met ∙ c.in-Some.is) c.requires.comes.whole.limited c.requires.comes.whole.meeting in
    counted_replies old c.count.new.fields c.meet.new.fields (comes c.args.router.now old.setup c.args.comer.now (core_of old)) (λ (s : Setup). joins_on route s c.args.comer.now c.in-Some.met.0 c.in-Some.met.1)
    (record { left = c.in_ok-check_budget.ensures {u = tt}; counted = c.count.ensures })
    (comes_met old c.args.router.now c.args.comer.now c.in-Some.met.0 c.in-Some.met.1 (Ok route) m c.requires.comes.whole.meeting way)
    (joins_goes route old.setup c.args.comer.now c.in-Some.met.0 c.in-Some.met.1 (counted (core_of old)))
    c.meet.ensures

-- ---- or it is posted
nobody : (o : Option Post) → None ≡ partner_side o → o ≡ None
nobody None e = refl
nobody (Some post) e = absurd (cc e)

pub returns-in-None-clause-replies : goal.returns-in-None-clause-replies
returns-in-None-clause-replies c =
    let old = c.args.fields.now in
    counted_replies old c.count-in-None.new.fields c.post.new.fields (comes c.args.router.now old.setup c.args.comer.now (core_of old)) (λ (s : Setup) (core : Core). takes_part c.args.comer.now.waits c.args.comer.now (length core.under.tasks + 1) (posted c.args.comer.now core))
    (record { left = c.in_ok-check_budget.ensures {u = tt}; counted = c.count-in-None.ensures })
    (comes_alone old c.args.router.now c.args.comer.now (nobody _ (sym c.in-None.is ∙ c.look-found.ensures.found.met)) c.requires.comes.whole.meeting)
    (takes_part_on c.args.comer.now.waits c.args.comer.now _ _)
    c.post.ensures
