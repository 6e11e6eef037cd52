use Rattle.std.proofs.Common.{◌≡◌, ◌<◌, true, true≢false, All, sym, ap, subst, ◌∙◌}
use Rattle.sg_base.specs.MarkSet.{MarkSet, is_in}
use Rattle.sg_maxmin_levels.specs.Kept.{IsBetweenBut}
use Rattle.sg_maxmin_levels.proofs.Renewing.{settling_to, told_between}
use Rattle.sg_maxmin_levels.proofs.Refilling.{refilled_levels, refilled_settles, written_kept}
use Rattle.sg_maxmin_levels.proofs.levels.Levels.refill.Goals as goal

pub put_holds-requires-clause-exist : goal.put_holds-requires-clause-exist
put_holds-requires-clause-exist g c = subst (λ n. All (λ r. r < n) c.args.filled.resources.now) (sym c.requires.found.as_many) c.requires.found.exist

pub put_holds-requires-clause-holds : goal.put_holds-requires-clause-holds
put_holds-requires-clause-holds g c = c.give_all.ensures.kept.places.holds ∙ sym c.requires.found.as_many

pub returns-clause-between : goal.returns-clause-between
returns-clause-between g c =
    let s = c.args.system.now in
    let flows = c.args.filled.flows.now in
    let resources = c.args.filled.resources.now in
    let mid = c.give_all.new.kept in
    let new = c.put_holds.new.kept in
    let active = c.clear.new.self in
    let settling = refilled_settles s c.is_sound.ensures flows resources c.args.filled.levels.now c.args.filled.holds.now c.args.self.now mid new c.requires.between c.requires.joined c.requires.within c.requires.found c.give_all.ensures.given c.put_holds.ensures
    active (ap (λ (m : MarkSet). m.room) c.clear.ensures) (written_kept s mid new c.put_holds.ensures.flows c.give_all.ensures.kept) in
    subst (IsBetweenBut s _) (sym (ap (λ (m : MarkSet). m.members) c.clear-2.ensures))
    (told_between s (record new { active = active }) c.clear-2.new.self _ (ap (λ (m : MarkSet). m.room) c.clear-2.ensures) (settling_to s (record new { active = active }) settling))

pub returns-clause-levels : goal.returns-clause-levels
returns-clause-levels g c =
    refilled_levels c.args.system.now c.is_sound.ensures c.args.filled.flows.now c.args.filled.resources.now c.args.filled.levels.now c.args.filled.holds.now c.args.self.now c.give_all.new.kept c.put_holds.new.kept c.requires.between c.requires.joined c.requires.within c.requires.found c.give_all.ensures.given c.put_holds.ensures

pub returns-clause-none_active : goal.returns-clause-none_active
returns-clause-none_active g c = λ r. ap (λ (m : MarkSet). is_in r m.members) c.clear.ensures

pub returns-clause-within : goal.returns-clause-within
returns-clause-within g c = λ p q along each are.
    let mid = c.give_all.ensures.within p q along each are in
    let flows = c.put_holds.ensures.flows in
    record {
      active = λ r on. absurd (true≢false (sym on ∙ ap (λ (m : MarkSet). is_in r m.members) c.clear.ensures));
      moved = λ id i. mid.moved id (subst (λ (m : MarkSet). is_in id m.members ≡ true) flows.moved i);
      stale = λ id i. absurd (true≢false (sym i ∙ ap (λ (m : MarkSet). is_in id m.members) c.clear-2.ensures));
    }
