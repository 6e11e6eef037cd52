use Rattle.std.proofs.Common.{ℕ, List, length, AllPairs, All, ◌<◌, ◌≢◌, sym, ap, subst, arith}
use Rattle.sg_base.specs.MarkSet.{MarkSet}
use Rattle.sg_base.proofs.Members.{apart, in_range, few_members}
use Rattle.sg_base.proofs.marks.Marks.members.Goals as goal

pub returns-clause-once : goal.returns-clause-once
returns-clause-once c = subst (λ (xs : List ℕ). AllPairs (λ a b. a ≢ b) xs) (sym c.as_slice.ensures.value) (apart c.self.inside.order.items c.self.inside.place.items _ c.self.invariant)

pub returns-clause-in_range : goal.returns-clause-in_range
returns-clause-in_range c = subst (λ (m : MarkSet). All (λ n. n < m.room) c.as_slice.result.now) c.self.view_is
    (subst (λ (xs : List ℕ). All (λ n. n < length c.self.inside.place.items) xs) (sym c.as_slice.ensures.value) (in_range c.self.inside.order.items c.self.inside.place.items _ c.self.invariant))

pub returns-clause-few : goal.returns-clause-few
returns-clause-few c =
    omega (arith, few_members c.self.inside.order.items c.self.inside.place.items _ c.self.invariant, ap (λ xs. length xs) c.as_slice.ensures.value, ap (λ (m : MarkSet). m.room) c.self.view_is)
