use Rattle.std.proofs.Common.{◌≡◌, ◌<◌, inl, inr, true, false, All, refl, ap, ◌∙◌, subst, sym, arith}
use Rattle.sg_base.specs.MarkSet.{MarkSet, is_in}
use Rattle.sg_maxmin.specs.Sharing.{uses_at}
use Rattle.sg_maxmin_solve.specs.Component.{AreIn, AllPass, Grows, lengths}
use Rattle.sg_maxmin_solve.proofs.Growing.{all_stay, grows_mark, grows_same, lengths_mark, mark_cases, pass_mark}
use Rattle.sg_maxmin.proofs.Listed.{mark_there}
use Rattle.sg_maxmin.proofs.Users.{rows_exist}
use Rattle.sg_maxmin_solve.proofs.component.touch.Goals as goal

pub mark_uses-requires : goal.mark_uses-requires
mark_uses-requires g c =
    let s = c.args.system.now in
    subst (λ n. All (λ c. c < n) (uses_at s.slots c.args.flow)) (sym c.requires.open.reached_room) (rows_exist s c.requires.open.sound c.args.flow)

pub returns-clause-from : goal.returns-clause-from
returns-clause-from g c =
    let s = c.args.system.now in
    let flow = c.args.flow in
    let old = c.args.component.now.touched.members in
    let e = ap (λ (x : MarkSet). x.members) c.insert.ensures in
    let out = c.mark_uses.ensures.marks in
    let off : is_in flow old ≡ false = sym c.contains.ensures ∙ c.if-contains.false in
    record {
      spreads = record {
        touched = subst (Grows old) (sym e) (grows_mark flow old);
        reached = out.grows;
        covers = λ id h. elim (mark_cases id flow old (subst (λ xs. is_in id xs ≡ true) e h)) [
          | inl k ↦ all_stay (uses_at s.slots id) c.args.component.now.reached.members c.mark_uses.new.reached.members out.grows (c.requires.open.covers id k)
          | inr q ↦ subst (λ f. AreIn (uses_at s.slots f) c.mark_uses.new.reached.members) (sym q) out.marked
        ];
        touched_room = ap (λ (x : MarkSet). x.room) c.insert.ensures;
        reached_room = out.room;
        few = omega (arith, out.few, ap (lengths (uses_at s.slots)) e, lengths_mark (uses_at s.slots) flow old off);
      };
      there = subst (λ xs. is_in flow xs ≡ true) (sym e) (mark_there flow old);
      least = λ p q closed here t r. (
        subst (AllPass p) (sym e) (pass_mark p flow old here t),
        out.least q (closed flow here) r,
      );
    }

pub returns-then-contains-clause-from : goal.returns-then-contains-clause-from
returns-then-contains-clause-from g c = record {
  spreads = record {
    touched = grows_same c.args.component.now.touched.members;
    reached = grows_same c.args.component.now.reached.members;
    covers = c.requires.open.covers;
    touched_room = refl;
    reached_room = refl;
    few = omega arith;
  };
  there = sym c.contains.ensures ∙ c.if-contains.true;
  least = λ p q closed here t r. (t, r);
}
