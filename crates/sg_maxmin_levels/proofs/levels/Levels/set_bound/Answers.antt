use Rattle.std.proofs.Common.{◌≡◌, Some, IsSome, IfSome, length, slice_index, refl, sym, ap, subst, ◌∙◌, arith, inl, inr, true, IsTrue}
use Rattle.sg_base.specs.MarkSet.{MarkSet, is_in}
use Rattle.sg_maxmin.specs.Fill.{Flow}
use Rattle.sg_maxmin.proofs.Users.{uses_held}
use Rattle.sg_maxmin_levels.proofs.Between.{between_extended, notes_one, notes_same}
use Rattle.sg_maxmin_levels.proofs.Changed.{bounded_between, rebound, same_flow}
use Rattle.sg_maxmin_levels.proofs.Within.{marked_or}
use Rattle.sg_maxmin_levels.proofs.levels.Levels.set_bound.Goals as goal

pub returns-then-not-is_same-clause-keeps : goal.returns-then-not-is_same-clause-keeps
returns-then-not-is_same-clause-keeps c = record {
  between =
      let s = c.args.system.now in
      let t = c.set_bound.new.self in
      let id = c.args.flow in
      let is = rebound s t id c.args.bound c.requires.held c.set_bound.ensures in
      let kept = c.requires.between.kept in
      let places = kept.places in
      bounded_between s t c.is_sound.ensures c.is_sound-2.ensures id (uses_held t.slots id (record is.its { bound = Some c.args.bound }) is.here ∙ sym (uses_held s.slots id is.its is.was)) c.requires.held (subst IsSome (sym is.here) refl) is.others is.numbers is.capacities c.args.self.now _ c.requires.between
      (record {
        places = record {
          sound = places.sound;
          levels = places.levels;
          parts = places.parts;
          moved = omega (arith, places.moved, ap (λ (m : MarkSet). m.room) c.insert-then-not-is_same.ensures);
          stale = omega (arith, places.stale, ap (λ (m : MarkSet). m.room) c.insert.ensures);
          holds = places.holds;
          demands = places.demands;
          counts = places.counts;
          active = places.active;
        };
        demands = kept.demands;
        counts = kept.counts;
        fit = kept.fit;
        none = kept.none;
        longest = kept.longest;
      }) refl refl refl refl (ap (λ (m : MarkSet). m.members) c.insert.ensures) (ap (λ (m : MarkSet). m.members) c.insert-then-not-is_same.ensures);
  changed = notes_one c.args.system.now c.set_bound.new.self c.args.self.now _ c.args.flow (rebound c.args.system.now c.set_bound.new.self c.args.flow c.args.bound c.requires.held c.set_bound.ensures).others (λ other ne. refl) (ap (λ (m : MarkSet). m.members) c.insert-then-not-is_same.ensures);
  joins = λ p q here are. record {
    active = are.active;
    moved = λ id i. elim (marked_or id c.args.flow c.args.self.now.moved.members (subst (λ (m : MarkSet). is_in id m.members ≡ true) c.insert-then-not-is_same.ensures i)) [ inl e ↦ subst (λ n. IsTrue (p n)) (sym e) here | inr j ↦ are.moved id j ];
    stale = λ id i. elim (marked_or id c.args.flow c.args.self.now.stale.members (subst (λ (m : MarkSet). is_in id m.members ≡ true) c.insert.ensures i)) [ inl e ↦ subst (λ n. IsTrue (p n)) (sym e) here | inr j ↦ are.stale id j ];
  };
}

pub returns-else-not-is_same-clause-keeps : goal.returns-else-not-is_same-clause-keeps
returns-else-not-is_same-clause-keeps c = record {
  between =
      let s = c.args.system.now in
      let t = c.set_bound.new.self in
      let is = rebound s t c.args.flow c.args.bound c.requires.held c.set_bound.ensures in
      let told = subst (λ o. IfSome o (λ (f : Flow). c.bound-before.result ≡ f.bound)) is.was c.bound-before.ensures in
      let same = same_flow s t c.args.flow c.args.bound is (sym told ∙ c.is_same.ensures.same c.if-not-is_same.false) in
      let places = c.requires.between.kept.places in
      between_extended s t c.is_sound.ensures c.is_sound-2.ensures c.args.self.now (ap length is.capacities) (λ r. ap (λ cs. slice_index cs r) is.capacities) same
      (record {
        levels = omega (arith, is.numbers, places.levels);
        parts = omega (arith, is.numbers, places.parts);
        moved = omega (arith, is.numbers, places.moved);
        stale = omega (arith, is.numbers, places.stale);
      }) c.requires.between;
  changed =
      let s = c.args.system.now in
      let t = c.set_bound.new.self in
      let is = rebound s t c.args.flow c.args.bound c.requires.held c.set_bound.ensures in
      let told = subst (λ o. IfSome o (λ (f : Flow). c.bound-before.result ≡ f.bound)) is.was c.bound-before.ensures in
      notes_same s t c.args.self.now c.args.self.now (same_flow s t c.args.flow c.args.bound is (sym told ∙ c.is_same.ensures.same c.if-not-is_same.false)) (λ id. refl) refl;
  joins = λ p q here are. are;
}
