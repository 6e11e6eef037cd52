use Rattle.std.proofs.Common.{IsSome, length, refl, sym, subst, ◌∙◌, arith}
use Rattle.sg_maxmin.specs.Numbered.{flow_in}
use Rattle.sg_maxmin_levels.specs.Settling.{HasCause, at_hold}
use Rattle.sg_maxmin_levels.specs.Kept.{IsMoved}
use Rattle.sg_maxmin_levels.proofs.Steps.{held_user, user_below}
use Rattle.sg_maxmin_levels.proofs.Moving.{moved_notes, raised, skipped, stays_put, uses_it}
use Rattle.sg_maxmin_levels.proofs.Within.{moved_within}
use Rattle.sg_maxmin_levels.proofs.settling.settle_held.Goals as goal

pub level-level-requires : goal.level-level-requires
level-level-requires g c = user_below c.args.system.now c.requires.of.kept.places.sound c.args.resource c.args.flow (length c.args.kept.now.levels.items) c.requires.of.user c.requires.of.kept.places.levels

pub has_cause-requires : goal.has_cause-requires
has_cause-requires g c = record { kept = c.requires.of.kept; held = subst IsSome (sym (held_user c.args.system.now c.requires.of.kept.places.sound c.args.resource c.args.flow c.requires.of.user)) refl }

pub move_flow-requires : goal.move_flow-requires
move_flow-requires g c = record { kept = c.requires.of.kept; held = subst IsSome (sym (held_user c.args.system.now c.requires.of.kept.places.sound c.args.resource c.args.flow c.requires.of.user)) refl }

pub bound_of-requires : goal.bound_of-requires
bound_of-requires g c = record { sound = c.requires.of.kept.places.sound; held = subst IsSome (sym (held_user c.args.system.now c.requires.of.kept.places.sound c.args.resource c.args.flow c.requires.of.user)) refl }

pub returns-then-is_same : goal.returns-then-is_same
returns-then-is_same g c = λ was.
    let s = c.args.system.now in
    let n = c.args.resource in
    let f = c.args.flow in
    let of = c.requires.of in
    let sound = of.kept.places.sound in
    record {
      settles = λ todo are. skipped s sound n f of.user c.args.kept.now was todo c.requires.most (λ e. at_hold n (uses_it s sound n f of.user) (sym c.hold.ensures ∙ c.is_same.ensures.same c.if-is_same.true ∙ c.level-level.ensures)) are;
      moves = stays_put s f c.args.kept.now of.kept;
      looks = omega arith;
      few = omega arith;
    }

pub returns-then-not-has_cause : goal.returns-then-not-has_cause
returns-then-not-has_cause g c = λ was.
    let s = c.args.system.now in
    let f = c.args.flow in
    let of = c.requires.of in
    let out = c.move_flow.ensures in
    let old = c.args.kept.now in
    let new = c.move_flow.new.kept in
    record {
      settles = λ todo are. raised s of.kept.places.sound c.args.resource f of.user old new was todo of.kept (subst (IsMoved s old new f) c.bound_of.ensures out.to.moved) out.activates.all are;
      moves = record {
        kept = out.to.kept;
        moved = moved_notes s old new f c.bound_of.result out.to.moved;
        within = moved_within s old new f c.bound_of.result out.to.moved out.activates.only;
      };
      looks = omega (arith, c.has_cause.ensures.looks, out.to.looks);
      few = omega arith;
    }

pub returns-else-not-has_cause : goal.returns-else-not-has_cause
returns-else-not-has_cause g c = λ was.
    let s = c.args.system.now in
    let f = c.args.flow in
    let of = c.requires.of in
    record {
      settles = λ todo are. skipped s of.kept.places.sound c.args.resource f of.user c.args.kept.now was todo c.requires.most
          (λ e. subst (HasCause c.args.kept.now.holds.items (flow_in s.slots f)) c.level-level.ensures (c.has_cause.ensures.cause c.if-not-has_cause.false)) are;
      moves = stays_put s f c.args.kept.now of.kept;
      looks = omega (arith, c.has_cause.ensures.looks);
      few = omega arith;
    }
