use Rattle.std.proofs.Common.{◌≡◌, ◌*◌, ℕ, Bool, true≢false, [], get_or, refl, sym, ap, ◌∙◌, arith}
use Rattle.sg_base.specs.MarkSet.{MarkSet, is_in}
use Rattle.sg_maxmin.specs.Chained.{users_on}
use Rattle.sg_maxmin.specs.Sharing.{Sharing, uses_at}
use Rattle.sg_maxmin.specs.Found.{PassAlong}
use Rattle.sg_maxmin_solve.specs.declared.component.Component.{Component}
use Rattle.sg_maxmin_solve.specs.Component.{PassAlong as PassRows, lengths}
use Rattle.sg_maxmin_solve.proofs.Growing.{stays}
use Rattle.sg_maxmin_solve.proofs.Rows.{into}
use Rattle.sg_maxmin.proofs.Listed.{in_at}
use Rattle.sg_maxmin_solve.proofs.parts.Parts.fill.Goals as goal

-- tests that hold along with each other, row by row
by_rows : (s : Sharing) (p q : ℕ → Bool) → PassAlong s p q → PassRows s p q
by_rows s p q along = record {
  uses = λ id h i l. let row = uses_at s.slots id in along.uses id (get_or row i 0) h (in_at (get_or row i 0) row i l refl);
  users = λ r h i l. let row = users_on s.users r in along.users r (get_or row i 0) h (in_at (get_or row i 0) row i l refl);
}

pub returns-clause-joined : goal.returns-clause-joined
returns-clause-joined g c =
    let s = c.args.system.now in
    let a : Component = record { touched = c.clear.new.self; reached = c.clear-2.new.self } in
    let b : Component = c.fill_marked.new.component in
    let z : Component = c.fill_on_all.new.component in
    let closed = c.fill_on_all.ensures.on.filled.closed in
    let no_flow : a.touched.members ≡ [] = ap (λ (m : MarkSet). m.members) c.clear.ensures in
    let no_resource : a.reached.members ≡ [] = ap (λ (m : MarkSet). m.members) c.clear-2.ensures in
    record {
      along = record {
        uses = λ id r h u. into (uses_at s.slots id) z.reached.members r (closed.covers id h) u;
        users = λ r id h u. into (users_on s.users r) z.touched.members id (closed.covered r h) u;
      };
      flows_there = λ id i off. stays id b.touched.members z.touched.members c.fill_on_all.ensures.on.touched (c.fill_marked.ensures.there id i off);
      resources_there = λ r i. c.fill_on_all.ensures.there r i;
      least = λ p q along flows resources.
          let rows = by_rows s p q along in
          let one = c.fill_marked.ensures.least p q rows flows (λ id h. absurd (true≢false (sym h ∙ ap (is_in id) no_flow))) (λ r h. absurd (true≢false (sym h ∙ ap (is_in r) no_resource))) in
          c.fill_on_all.ensures.least p q rows resources one.0 one.1;
    }

pub returns-clause-looks : goal.returns-clause-looks
returns-clause-looks g c =
    let s = c.args.system.now in
    let none : 6 * lengths (uses_at s.slots) c.clear.new.self.members ≡ 0 = ap (λ (m : MarkSet). 6 * lengths (uses_at s.slots) m.members) c.clear.ensures in
    omega (arith, c.fill_marked.ensures.on.looks, c.fill_on_all.ensures.on.looks, none)
