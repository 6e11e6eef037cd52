use Rattle.std.proofs.Common.{◌∙◌, ℕ, Result, sym, ap, ap₂, subst, rules}
use Rattle.sg_base.specs.declared.ids.PointId.{PointId}
use Rattle.sg_route.specs.declared.router.RouteFault.{RouteFault}
use Rattle.sg_route.specs.Route.{LeavesRoute, route_of}
use Rattle.sg_kernel_calls.specs.Meetings.{point_of, stop_of}
use Rattle.sg_kernel_calls.specs.World.{extent}
use Rattle.sg_kernel_calls.specs.kept.Sound.{IsSide}
use Rattle.sg_kernel_calls.proofs.Mets.{routed_err, routed_ok, sides_limited}
use Rattle.sg_kernel_calls.proofs.meetings.route_to.Goals as goal

abbrev point_numbered : ℕ → PointId
point_numbered number = record { 0 = number }

pub host-from-requires : goal.host-from-requires
host-from-requires c =
    let e = extent c.args.setup.now in
    (subst (IsSide e) (sym c.sender_of.ensures) (sides_limited e c.args.comer.now c.args.other c.requires.comer c.requires.other).0).actor

pub host-to-requires : goal.host-to-requires
host-to-requires c =
    let e = extent c.args.setup.now in
    (subst (IsSide e) (sym c.receiver_of.ensures) (sides_limited e c.args.comer.now c.args.other c.requires.comer c.requires.other).1).actor

pub returns-in-Ok : goal.returns-in-Ok
returns-in-Ok c = record {
  route =
      let setup = c.args.setup.now in
      let between = route_of c.args.router.now c.host-from.result c.host-to.result in
      let routed = subst (λ (r : Result ℕ RouteFault). LeavesRoute between r c.route.new.links.items) c.in-Ok.is c.route.ensures.route in
      let from = ap point_numbered c.host-from.ensures.is ∙ ap (point_of setup) c.sender_of.ensures in
      let to = ap point_numbered c.host-to.ensures.is ∙ ap (point_of setup) c.receiver_of.ensures in
      sym (ap₂ (route_of c.args.router.now) from to) ∙ routed_ok between c.in-Ok.latency c.route.new.links.items routed;
  apart = search rules;
  router = search rules;
}

pub returns-in-Err : goal.returns-in-Err
returns-in-Err c = record {
  route =
      let setup = c.args.setup.now in
      let between = route_of c.args.router.now c.host-from.result c.host-to.result in
      let routed = subst (λ (r : Result ℕ RouteFault). LeavesRoute between r c.route.new.links.items) c.in-Err.is c.route.ensures.route in
      let from = ap point_numbered c.host-from.ensures.is ∙ ap (point_of setup) c.sender_of.ensures in
      let to = ap point_numbered c.host-to.ensures.is ∙ ap (point_of setup) c.receiver_of.ensures in (
        c.in-Err.fault,
        sym (ap₂ (route_of c.args.router.now) from to) ∙ routed_err between c.in-Err.fault c.route.new.links.items routed,
        c.stop_of.ensures ∙ ap₂ (λ (a b : PointId). stop_of a b c.in-Err.fault) from to,
      );
  apart = search rules;
  router = search rules;
}
