use Rattle.std.proofs.Common.{◌≡◌, true, sym, subst, arith}
use Rattle.sg_base.specs.MarkSet.{MarkSet, is_in}
use Rattle.sg_maxmin.proofs.Listed.{mark_there}
use Rattle.sg_maxmin_levels.specs.Kept.{IsMoved}
use Rattle.sg_maxmin.proofs.Users.{held_below}
use Rattle.sg_maxmin_levels.proofs.Renewing.{renewed_between}
use Rattle.sg_maxmin_levels.proofs.Within.{moved_within}
use Rattle.sg_maxmin_levels.proofs.Moving.{moved_notes}
use Rattle.sg_maxmin_levels.proofs.rounds.renew.Goals as goal

pub bound_of-requires : goal.bound_of-requires
bound_of-requires g c = record { sound = c.requires.kept.places.sound; held = c.requires.held }

pub returns-clause-renewed : goal.returns-clause-renewed
returns-clause-renewed g c = λ rest before.
    let s = c.args.system.now in
    let id = c.args.flow in
    let old = c.args.kept.now in
    let below = held_below s.slots id c.requires.held in
    renewed_between s c.requires.kept.places.sound old c.move_flow.new.kept id rest (omega (arith, below, c.requires.kept.places.levels)) (omega (arith, below, c.requires.kept.places.parts))
    (subst (IsMoved s old c.move_flow.new.kept id) c.bound_of.ensures c.move_flow.ensures.to.moved) c.move_flow.ensures.activates.all c.move_flow.ensures.to.kept before

pub returns-clause-noted : goal.returns-clause-noted
returns-clause-noted g c = subst (λ (m : MarkSet). is_in c.args.flow m.members ≡ true) (sym c.move_flow.ensures.to.moved.noted) (mark_there c.args.flow c.args.kept.now.moved.members)

pub returns-clause-moves : goal.returns-clause-moves
returns-clause-moves g c =
    let out = c.move_flow.ensures in
    record {
      kept = out.to.kept;
      moved = moved_notes c.args.system.now c.args.kept.now c.move_flow.new.kept c.args.flow c.bound_of.result out.to.moved;
      within = moved_within c.args.system.now c.args.kept.now c.move_flow.new.kept c.args.flow c.bound_of.result out.to.moved out.activates.only;
    }
