use Rattle.std.proofs.Common.{◌≡◌, Some, IfSome, true≢false, length, sym, subst, ◌∙◌, arith}
use Rattle.sg_maxmin.specs.Numbered.{level_at}
use Rattle.sg_maxmin.specs.Held.{IsAtMost, IsUnder}
use Rattle.sg_maxmin_levels.proofs.Steps.{user_below}
use Rattle.sg_maxmin_levels.proofs.Moving.{lowered, moved_notes, skipped, stays_put}
use Rattle.sg_maxmin_levels.proofs.Within.{moved_within}
use Rattle.sg_maxmin_levels.proofs.settling.settle_user.Goals as goal

pub level-level-requires : goal.level-level-requires
level-level-requires g c = user_below c.args.system.now c.requires.kept.places.sound c.args.resource c.args.flow (length c.args.kept.now.levels.items) c.requires.user c.requires.kept.places.levels

pub settle_held-requires-clause-most : goal.settle_held-requires-clause-most
settle_held-requires-clause-most g c = subst (λ o. IsAtMost o (level_at c.args.kept.now.holds.items c.args.resource)) c.level-level.ensures (subst (IsAtMost c.level-level.result) c.hold.ensures (c.hold_below.ensures.none c.in-None.is))

pub returns-in-Some : goal.returns-in-Some
returns-in-Some g c =
    let s = c.args.system.now in
    let n = c.args.resource in
    let f = c.args.flow in
    let old = c.args.kept.now in
    let new = c.lower.new.kept in
    let hold = c.in-Some.hold in
    let out = c.lower.ensures in
    let told = subst (λ o. IfSome o (λ h. (c.hold.result ≡ Some h) × IsUnder h c.level-level.result)) c.in-Some.is c.hold_below.ensures.some in
    record {
      settles = λ todo are. lowered s c.requires.kept.places.sound n f c.requires.user old new c.args.was todo hold c.requires.kept out.to.moved out.activates
          (sym c.hold.ensures ∙ told.0) (subst (IsUnder hold) c.level-level.ensures told.1) are;
      moves = record {
        kept = out.to.kept;
        moved = moved_notes s old new f (Some hold) out.to.moved;
        within = moved_within s old new f (Some hold) out.to.moved out.only;
      };
      looks = omega (arith, out.to.looks);
      few = omega arith;
    }

pub returns-then-is_same : goal.returns-then-is_same
returns-then-is_same g c = c.settle_held.ensures c.args.was

pub returns-else-is_same : goal.returns-else-is_same
returns-else-is_same g c =
    let s = c.args.system.now in
    let old = c.args.kept.now in
    let most = subst (λ o. IsAtMost o (level_at old.holds.items c.args.resource)) c.level-level.ensures (subst (IsAtMost c.level-level.result) c.hold.ensures (c.hold_below.ensures.none c.in-None.is)) in
    record {
      settles = λ todo are. skipped s c.requires.kept.places.sound c.args.resource c.args.flow c.requires.user old c.args.was todo
          most (λ e. absurd (true≢false (sym (c.is_same.ensures.told (c.level-level.ensures ∙ e)) ∙ c.if-is_same.false))) are;
      moves = stays_put s c.args.flow old c.requires.kept;
      looks = omega arith;
      few = omega arith;
    }
