use Rattle.std.proofs.Common.{◌≡◌, inl, inr, true, ap, ◌∙◌, subst, sym, arith}
use Rattle.sg_base.specs.MarkSet.{MarkSet, is_in}
use Rattle.sg_maxmin.specs.Sharing.{uses_at}
use Rattle.sg_maxmin_solve.specs.Component.{AllPass, AreIn, Grows, lengths}
use Rattle.sg_maxmin_solve.proofs.Growing.{all_stay, grows_mark, lengths_mark, mark_cases, pass_mark}
use Rattle.sg_maxmin_solve.proofs.Listing.{new_mark}
use Rattle.sg_maxmin.proofs.Listed.{mark_there}
use Rattle.sg_maxmin.proofs.Users.{held_below}
use Rattle.sg_maxmin_solve.proofs.alone.touch_alone.Goals as goal

pub insert-requires : goal.insert-requires
insert-requires g c = omega (arith, held_below c.args.system.now.slots c.args.flow c.requires.held, c.requires.ready.touched_room)

pub mark_alone-requires-clause-held : goal.mark_alone-requires-clause-held
mark_alone-requires-clause-held g c = record { sound = c.requires.ready.sound; held = c.requires.held }

pub returns-clause-touched : goal.returns-clause-touched
returns-clause-touched g c = ap (λ (x : MarkSet). x.members) c.insert.ensures ∙ new_mark c.args.flow c.args.component.now.touched.members c.requires.untouched

pub returns-clause-from : goal.returns-clause-from
returns-clause-from g c =
    let s = c.args.system.now in
    let flow = c.args.flow in
    let old = c.args.component.now.touched.members in
    let e = ap (λ (x : MarkSet). x.members) c.insert.ensures in
    let out = c.mark_alone.ensures.reaches.marks in
    record {
      spreads = record {
        touched = subst (Grows old) (sym e) (grows_mark flow old);
        reached = out.grows;
        covers = λ id h. elim (mark_cases id flow old (subst (λ xs. is_in id xs ≡ true) e h)) [
          | inl k ↦ all_stay (uses_at s.slots id) c.args.component.now.reached.members c.mark_alone.new.reached.members out.grows (c.requires.ready.covers id k)
          | inr q ↦ subst (λ f. AreIn (uses_at s.slots f) c.mark_alone.new.reached.members) (sym q) out.marked
        ];
        touched_room = ap (λ (x : MarkSet). x.room) c.insert.ensures;
        reached_room = out.room;
        few = omega (arith, out.few, ap (lengths (uses_at s.slots)) e, lengths_mark (uses_at s.slots) flow old c.requires.untouched);
      };
      there = subst (λ xs. is_in flow xs ≡ true) (sym e) (mark_there flow old);
      least = λ p q closed here t r. (
        subst (AllPass p) (sym e) (pass_mark p flow old here t),
        out.least q (closed flow here) r,
      );
    }

pub returns-clause-looks : goal.returns-clause-looks
returns-clause-looks g c =
    let s = c.args.system.now in
    let flow = c.args.flow in
    let old = c.args.component.now.touched.members in
    omega (arith, c.mark_alone.ensures.reaches.looks, ap (lengths (uses_at s.slots)) (ap (λ (x : MarkSet). x.members) c.insert.ensures), lengths_mark (uses_at s.slots) flow old c.requires.untouched)
