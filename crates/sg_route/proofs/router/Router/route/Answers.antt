-- What follows of what is left.
use Rattle.std.proofs.Common.{◌≢◌, subst}
use Rattle.std.specs.Prelude.{IfErr}
use Rattle.sg_route.specs.Made.{IsLeastThere, IsReached, IsWithoutPath, LeavesMade}
use Rattle.sg_route.specs.Roads.{Roads}
use Rattle.sg_route.proofs.FirstsLemmas.{routed_apart}
use Rattle.sg_route.proofs.MadeLemmas.{left_least, left_none, left_reached}
use Rattle.sg_route.proofs.router.Router.route.Goals as goal

pub returns-clause-reached : goal.returns-clause-reached
returns-clause-reached c =
    let P : Roads → Type 0 = λ m. (c.args.a.0 ≢ c.args.b.0 → LeavesMade (IsReached m) m c.args.a c.args.b c.leave_route.result c.leave_route.new.links.items) in
    subst P c.self.view_is (left_reached c.self.inside.ways c.args.a c.args.b c.leave_route.result c.leave_route.new.links.items c.leave_route.ensures.route)

pub returns-clause-least : goal.returns-clause-least
returns-clause-least c =
    let P : Roads → Type 0 = λ m. (c.args.a.0 ≢ c.args.b.0 → LeavesMade (IsLeastThere m) m c.args.a c.args.b c.leave_route.result c.leave_route.new.links.items) in
    subst P c.self.view_is (left_least c.self.inside.ways c.args.a c.args.b c.leave_route.result c.leave_route.new.links.items c.leave_route.ensures.route)

pub returns-clause-none : goal.returns-clause-none
returns-clause-none c =
    let P : Roads → Type 0 = λ m. IfErr c.leave_route.result (IsWithoutPath m) in
    subst P c.self.view_is (left_none c.self.inside.ways c.args.a c.args.b c.leave_route.result c.leave_route.new.links.items c.leave_route.ensures.route)

pub returns-clause-apart : goal.returns-clause-apart
returns-clause-apart c = routed_apart c.self.inside.ways c.args.a c.args.b c.leave_route.result c.leave_route.new.links.items c.leave_route.ensures.route
