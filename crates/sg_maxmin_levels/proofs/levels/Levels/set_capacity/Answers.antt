use Rattle.std.proofs.Common.{◌≡◌, inl, inr, true, length, length-set, get_or-set_same, get_or-set_other, set, slice_index, refl, sym, ap, subst, ◌∙◌, arith, IsTrue}
use Rattle.sg_base.specs.MarkSet.{MarkSet, is_in}
use Rattle.sg_maxmin.specs.Sharing.{Sharing, flow_at}
use Rattle.sg_maxmin_levels.proofs.Within.{marked_or}
use Rattle.sg_maxmin.proofs.Listed.{eq_cases}
use Rattle.sg_maxmin_levels.proofs.Between.{between_extended, notes_same}
use Rattle.sg_maxmin_levels.proofs.Changed.{offered_between}
use Rattle.sg_maxmin_levels.proofs.levels.Levels.set_capacity.Goals as goal

pub returns-then-before-capacity-clause-keeps : goal.returns-then-before-capacity-clause-keeps
returns-then-before-capacity-clause-keeps c = record {
  between =
      let s = c.args.system.now in
      let n = c.args.resource in
      let cap = c.args.capacity in
      let caps = ap (λ (x : Sharing). x.capacities) c.set_capacity.ensures in
      let kept = c.requires.between.kept in
      let places = kept.places in
      offered_between s c.set_capacity.new.self c.is_sound.ensures c.is_sound-2.ensures n (ap (λ (x : Sharing). x.slots) c.set_capacity.ensures) (ap length caps ∙ length-set s.capacities n cap)
      (λ r ne. ap (λ cs. slice_index cs r) caps ∙ get_or-set_other s.capacities n r cap 0 ne) c.args.self.now _ c.requires.between
      (record {
        places = record { sound = places.sound; levels = places.levels; parts = places.parts; moved = places.moved; stale = places.stale; holds = places.holds; demands = places.demands; counts = places.counts; active = ap (λ (m : MarkSet). m.room) c.insert.ensures ∙ places.active };
        demands = kept.demands;
        counts = kept.counts;
        fit = kept.fit;
        none = kept.none;
        longest = kept.longest;
      }) refl refl refl (ap (λ (m : MarkSet). m.members) c.insert.ensures) refl refl;
  changed = notes_same c.args.system.now c.set_capacity.new.self c.args.self.now _ (λ id. ap (λ (x : Sharing). flow_at x.slots id) c.set_capacity.ensures) (λ id. refl) refl;
  joins = λ p q here are. record {
    active = λ r on. elim (marked_or r c.args.resource c.args.self.now.active.members (subst (λ (m : MarkSet). is_in r m.members ≡ true) c.insert.ensures on)) [ inl e ↦ subst (λ n. IsTrue (q n)) (sym e) here | inr j ↦ are.active r j ];
    moved = are.moved;
    stale = are.stale;
  };
}

pub returns-else-before-capacity-clause-keeps : goal.returns-else-before-capacity-clause-keeps
returns-else-before-capacity-clause-keeps c = record {
  between =
      let s = c.args.system.now in
      let n = c.args.resource in
      let cap = c.args.capacity in
      let caps = ap (λ (x : Sharing). x.capacities) c.set_capacity.ensures in
      let slots = ap (λ (x : Sharing). x.slots) c.set_capacity.ensures in
      let numbers = ap length slots in
      let places = c.requires.between.kept.places in
      between_extended s c.set_capacity.new.self c.is_sound.ensures c.is_sound-2.ensures c.args.self.now (ap length caps ∙ length-set s.capacities n cap)
      (λ r. ap (λ cs. slice_index cs r) caps ∙ elim (eq_cases r n) [
        | inl e ↦ subst (λ m. slice_index (set s.capacities n cap) m ≡ slice_index s.capacities m) (sym e) (get_or-set_same s.capacities n cap 0 c.requires.resource ∙ omega (arith, c.if-before-capacity.false, c.capacity-before.ensures))
        | inr ne ↦ get_or-set_other s.capacities n r cap 0 ne
      ])
      (λ id. ap (λ xs. flow_at xs id) slots)
      (record {
        levels = omega (arith, numbers, places.levels);
        parts = omega (arith, numbers, places.parts);
        moved = omega (arith, numbers, places.moved);
        stale = omega (arith, numbers, places.stale);
      }) c.requires.between;
  changed = notes_same c.args.system.now c.set_capacity.new.self c.args.self.now c.args.self.now (λ id. ap (λ (x : Sharing). flow_at x.slots id) c.set_capacity.ensures) (λ id. refl) refl;
  joins = λ p q here are. are;
}
