use Rattle.std.proofs.Common.{vec_capacity, subst, sym, arith}
use Rattle.sg_base.specs.kept.Sparse.{IsSparse}
use Rattle.sg_base.proofs.Members.{sparse_none}
use Rattle.sg_base.proofs.marks.Marks.clear.Goals as goal

pub invariant_of-self : goal.invariant_of-self
invariant_of-self c =
    let place = c.self.inside.place.items in
    subst (λ xs. IsSparse xs place (vec_capacity c.clear.new.self)) (sym c.clear.ensures.items)
    (sparse_none place (vec_capacity c.clear.new.self) (omega (arith, c.self.invariant.space, c.clear.ensures.capacity)) c.self.invariant.few)
