use Rattle.std.proofs.Common.{get_or, arith, sym, ap, subst, ◌∙◌}
use Rattle.sg_maxmin.specs.Sharing.{IsExtended}
use Rattle.sg_maxmin.specs.kept.Uses.{flows_of, IsKept}
use Rattle.sg_maxmin.proofs.Rows.{extended, share_kept, kept_extended, kept_room}
use Rattle.sg_maxmin.proofs.system.System.reserve.Goals as goal

pub invariant_of-self : goal.invariant_of-self
invariant_of-self c = kept_extended c.self.inside.capacities.items c.self.inside.flows c.reserve.new.self c.self.inside.chains c.self.inside.left.items c.self.inside.waiting.items c.self.invariant c.reserve.ensures.kept

pub invariant_of-self-in_err-reserve-2 : goal.invariant_of-self-in_err-reserve-2
invariant_of-self-in_err-reserve-2 c =
    let caps = c.self.inside.capacities.items in
    let rows = c.reserve.new.self in
    let left = c.self.inside.left.items in
    let waiting = c.self.inside.waiting.items in
    subst (λ chains. IsKept caps rows chains left waiting) (sym c.reserve-2.ensures.gains.kept)
    (kept_room caps rows c.self.inside.chains c.reserve-2.new.self.room left waiting (kept_extended caps c.self.inside.flows rows c.self.inside.chains left waiting c.self.invariant c.reserve.ensures.kept))

pub invariant_of-self-2 : goal.invariant_of-self-2
invariant_of-self-2 c =
    let caps = c.self.inside.capacities.items in
    let rows = c.reserve.new.self in
    let left = c.self.inside.left.items in
    let waiting = c.self.inside.waiting.items in
    subst (λ chains. IsKept caps rows chains left waiting) (sym c.reserve-2.ensures.gains.kept)
    (kept_room caps rows c.self.inside.chains c.reserve-2.new.self.room left waiting (kept_extended caps c.self.inside.flows rows c.self.inside.chains left waiting c.self.invariant c.reserve.ensures.kept))

pub returns-in_err-reserve-clause-slots : goal.returns-in_err-reserve-clause-slots
returns-in_err-reserve-clause-slots c =
    let out = c.reserve.ensures in
    subst (λ s. IsExtended s.slots (flows_of c.reserve.new.self c.self.inside.chains.uses) c.args.flows) c.self.view_is
    (extended c.self.inside.flows c.reserve.new.self c.self.inside.chains.uses c.args.flows out.kept out.longer (omega (arith, out.few)))

pub returns-in_err-reserve-clause-shares : goal.returns-in_err-reserve-clause-shares
returns-in_err-reserve-clause-shares c = λ id. share_kept c.self.inside.flows c.reserve.new.self id (c.reserve.ensures.kept id) ∙ ap (λ s. get_or s.shares id 0) c.self.view_is

pub returns-in_err-reserve-2-clause-slots : goal.returns-in_err-reserve-2-clause-slots
returns-in_err-reserve-2-clause-slots c =
    let out = c.reserve.ensures in
    subst (λ uses. IsExtended c.args.self.now.slots (flows_of c.reserve.new.self uses) c.args.flows) (sym (ap (λ s. s.uses) c.reserve-2.ensures.gains.kept))
    (subst (λ s. IsExtended s.slots (flows_of c.reserve.new.self c.self.inside.chains.uses) c.args.flows) c.self.view_is
    (extended c.self.inside.flows c.reserve.new.self c.self.inside.chains.uses c.args.flows out.kept out.longer (omega (arith, out.few))))

pub returns-in_err-reserve-2-clause-shares : goal.returns-in_err-reserve-2-clause-shares
returns-in_err-reserve-2-clause-shares c = λ id. share_kept c.self.inside.flows c.reserve.new.self id (c.reserve.ensures.kept id) ∙ ap (λ s. get_or s.shares id 0) c.self.view_is

pub returns-clause-slots : goal.returns-clause-slots
returns-clause-slots c =
    let out = c.reserve.ensures in
    subst (λ uses. IsExtended c.args.self.now.slots (flows_of c.reserve.new.self uses) c.args.flows) (sym (ap (λ s. s.uses) c.reserve-2.ensures.gains.kept))
    (subst (λ s. IsExtended s.slots (flows_of c.reserve.new.self c.self.inside.chains.uses) c.args.flows) c.self.view_is
    (extended c.self.inside.flows c.reserve.new.self c.self.inside.chains.uses c.args.flows out.kept out.longer (omega (arith, out.few))))

pub returns-clause-shares : goal.returns-clause-shares
returns-clause-shares c = λ id. share_kept c.self.inside.flows c.reserve.new.self id (c.reserve.ensures.kept id) ∙ ap (λ s. get_or s.shares id 0) c.self.view_is
