use Rattle.std.proofs.Common.{inl, inr, true≢false, IsSome, refl, subst, sym, ap, ◌∙◌}
use Rattle.sg_maxmin_levels.specs.Settling.{is_active}
use Rattle.sg_maxmin.proofs.Listed.{eq_cases}
use Rattle.sg_maxmin_levels.proofs.Steps.{held_user}
use Rattle.sg_maxmin_levels.proofs.settling.lower.Goals as goal

pub move_flow-requires : goal.move_flow-requires
move_flow-requires g c = record { kept = c.requires.kept; held = subst IsSome (sym (held_user c.args.system.now c.requires.kept.places.sound c.args.resource c.args.flow c.requires.user)) refl }

pub returns-then-not-was-clause-to : goal.returns-then-not-was-clause-to
returns-then-not-was-clause-to g c =
    let out = c.move_flow.ensures.to in
    let m = out.moved in
    let kept = out.kept in
    let places = kept.places in
    record {
      moved = record { level_is = m.level_is; part_is = m.part_is; noted = m.noted; stale = m.stale; holds = m.holds };
      kept = record {
        places = record {
          sound = places.sound;
          levels = places.levels;
          parts = places.parts;
          moved = places.moved;
          stale = places.stale;
          holds = places.holds;
          demands = places.demands;
          counts = places.counts;
          active = c.remove.ensures.room ∙ places.active;
        };
        demands = kept.demands;
        counts = kept.counts;
        fit = kept.fit;
        none = kept.none;
        longest = kept.longest;
      };
      looks = out.looks;
    }

pub returns-then-not-was-clause-activates : goal.returns-then-not-was-clause-activates
returns-then-not-was-clause-activates g c = λ r off.
    let n = c.args.resource in
    elim (eq_cases r n) [
      | inl e ↦ (ap (is_active c.args.kept.now.active.members) e ∙ sym c.is_active-was.ensures ∙ c.if-not-was.true, λ i. e)
      | inr ne ↦
          let step = c.move_flow.ensures.activates.all r (sym (c.remove.ensures.others r ne) ∙ off) in
          (step.0, λ i. absurd (true≢false (sym i ∙ step.1)))
    ]

pub returns-then-not-was-clause-only : goal.returns-then-not-was-clause-only
returns-then-not-was-clause-only g c = λ r on unused.
    let n = c.args.resource in
    elim (eq_cases r n) [
      | inl e ↦ absurd (true≢false (sym on ∙ ap (is_active c.remove.new.self.members) e ∙ c.remove.ensures.gone))
      | inr ne ↦ c.move_flow.ensures.activates.only r (sym (c.remove.ensures.others r ne) ∙ on) unused
    ]

pub returns-else-not-was-clause-activates : goal.returns-else-not-was-clause-activates
returns-else-not-was-clause-activates g c = λ r off.
    let step = c.move_flow.ensures.activates.all r off in
    (step.0, λ i. absurd (true≢false (sym i ∙ step.1)))
