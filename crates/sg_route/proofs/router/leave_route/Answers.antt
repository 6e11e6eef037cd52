-- The route, its missing part, or too many links.
use Rattle.std.proofs.Common.{◌≡◌, ℕ, false, [], Ok, sym, ◌∙◌, ap, subst}
use Rattle.sg_route.specs.declared.router.RouteFault.TheVariants.{NoRoute, TooLong}
use Rattle.sg_route.specs.Route.{route_of, latency_of, LeavesRoute}
use Rattle.std.specs.Prelude.{sum_by}
use Rattle.sg_route.specs.kept.Kept.{Kept}
use Rattle.sg_route.proofs.RouteLemmas.{refused, routed_missing, routed_over, routed_kept}
use Rattle.sg_route.proofs.router.leave_route.Goals as goal

pub returns-in-Err-clause-route : goal.returns-in-Err-clause-route
returns-in-Err-clause-route c =
    let old : Kept = record { links = c.clear.new.self.items; over = false } in
    let new : Kept = record { links = c.keep_whole.new.links.items; over = c.keep_whole.new.over } in
    refused (route_of c.args.ways.now c.args.trip.from c.args.trip.to) (NoRoute c.in-Err.leg.zone c.in-Err.leg.from c.in-Err.leg.to) c.refuse.result c.refuse.new.links.items
    (routed_missing c.args.ways.now c.args.trip.from c.args.trip.to c.in-Err.leg old new c.in-Err.ensures.keeps) c.refuse.ensures.fault c.refuse.ensures.none

pub returns-then-over-clause-route : goal.returns-then-over-clause-route
returns-then-over-clause-route c =
    let old : Kept = record { links = c.clear.new.self.items; over = false } in
    let new : Kept = record { links = c.keep_whole.new.links.items; over = c.keep_whole.new.over } in
    let start : old ≡ record { links = []; over = false } = ap (λ xs. record { links = xs; over = false }) c.clear.ensures in
    refused (route_of c.args.ways.now c.args.trip.from c.args.trip.to) TooLong c.refuse-then-over.result c.refuse-then-over.new.links.items
    (routed_over c.args.ways.now c.args.trip.from c.args.trip.to old new start c.in-Ok.ensures.keeps c.if-over.true) c.refuse-then-over.ensures.fault c.refuse-then-over.ensures.none

pub returns-else-over-clause-route : goal.returns-else-over-clause-route
returns-else-over-clause-route c =
    let old : Kept = record { links = c.clear.new.self.items; over = false } in
    let new : Kept = record { links = c.keep_whole.new.links.items; over = c.keep_whole.new.over } in
    let start : old ≡ record { links = []; over = false } = ap (λ xs. record { links = xs; over = false }) c.clear.ensures in
    let e : c.latency.result ≡ sum_by (latency_of c.args.ways.now) c.keep_whole.new.links.items = c.latency.ensures ∙ ap (sum_by (latency_of c.args.ways.now)) c.as_slice.ensures.value in
    let P : ℕ → Type 0 = λ n. LeavesRoute (route_of c.args.ways.now c.args.trip.from c.args.trip.to) (Ok n) c.keep_whole.new.links.items in
    subst P (sym e) (routed_kept c.args.ways.now c.args.trip.from c.args.trip.to old new start c.in-Ok.ensures.keeps c.if-over.false)
