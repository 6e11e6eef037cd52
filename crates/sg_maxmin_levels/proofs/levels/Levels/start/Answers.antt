use Rattle.std.proofs.Common.{◌≡◌, inl, inr, true, IsTrue, refl, sym, ap, subst, ◌∙◌, arith}
use Rattle.sg_base.specs.MarkSet.{MarkSet, is_in}
use Rattle.sg_maxmin.specs.Fill.{flow}
use Rattle.sg_maxmin_levels.proofs.Keeping.{longer_kept}
use Rattle.sg_maxmin_levels.proofs.Between.{notes_one}
use Rattle.sg_maxmin_levels.proofs.Changed.{start_kept, started_between, started_users}
use Rattle.sg_maxmin_levels.proofs.Within.{marked_or}
use Rattle.sg_maxmin_levels.proofs.levels.Levels.start.Goals as goal

pub returns-clause-keeps : goal.returns-clause-keeps
returns-clause-keeps c = record {
  between =
      let s = c.args.system.now in
      let t = c.add-flow.new.self in
      let old = c.args.self.now in
      let id = c.add-flow.result in
      let out = c.add-flow.ensures in
      let its = flow c.args.uses.now c.args.weight c.args.bound in
      let before = longer_kept s old c.max-self.result (omega (arith, c.max-self.ensures)) c.requires.between.kept in
      let kept = start_kept s t c.is_sound.ensures c.is_sound-2.ensures id its out.free out.added out.numbers out.capacities _ before (omega (arith, c.max-self.ensures)) in
      let places = kept.places in
      started_between s t c.is_sound.ensures c.is_sound-2.ensures id its out.free out.added out.numbers out.capacities old _ c.requires.between
      (record {
        places = record {
          sound = places.sound;
          levels = places.levels;
          parts = places.parts;
          moved = omega (arith, places.moved, ap (λ (m : MarkSet). m.room) c.insert-2.ensures);
          stale = omega (arith, places.stale, ap (λ (m : MarkSet). m.room) c.insert.ensures);
          holds = places.holds;
          demands = places.demands;
          counts = c.count_in.ensures.places ∙ places.counts;
          active = places.active;
        };
        demands = kept.demands;
        counts = λ n. omega (arith, c.count_in.ensures.most n, c.requires.between.kept.counts n, started_users s t c.is_sound.ensures c.is_sound-2.ensures id its out.free out.added out.numbers out.capacities n);
        fit = kept.fit;
        none = kept.none;
        longest = kept.longest;
      }) refl refl refl refl (ap (λ (m : MarkSet). m.members) c.insert.ensures) (ap (λ (m : MarkSet). m.members) c.insert-2.ensures);
  changed =
      let s = c.args.system.now in
      let t = c.add-flow.new.self in
      let out = c.add-flow.ensures in
      notes_one s t c.args.self.now _ c.add-flow.result out.added.others (λ other ne. refl) (ap (λ (m : MarkSet). m.members) c.insert-2.ensures);
  joins = λ p q here are. record {
    active = are.active;
    moved = λ id i. elim (marked_or id c.add-flow.result c.args.self.now.moved.members (subst (λ (m : MarkSet). is_in id m.members ≡ true) c.insert-2.ensures i)) [ inl e ↦ subst (λ n. IsTrue (p n)) (sym e) here | inr j ↦ are.moved id j ];
    stale = λ id i. elim (marked_or id c.add-flow.result c.args.self.now.stale.members (subst (λ (m : MarkSet). is_in id m.members ≡ true) c.insert.ensures i)) [ inl e ↦ subst (λ n. IsTrue (p n)) (sym e) here | inr j ↦ are.stale id j ];
  };
}
