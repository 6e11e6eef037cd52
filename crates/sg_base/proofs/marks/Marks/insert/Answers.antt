use Rattle.std.proofs.Common.{◌≡◌, ◌<◌, false, ◌∷◌, [], ◌++◌, length, set, vec_capacity, ap, ◌∙◌, subst, sym, arith}
use Rattle.sg_base.specs.MarkSet.{MarkSet, is_in}
use Rattle.sg_base.specs.kept.Sparse.{IsSparse}
use Rattle.sg_base.proofs.Members.{room_for_more, sparse_more}
use Rattle.sg_base.proofs.marks.Marks.insert.Goals as goal

pub overflow_cast-len : goal.overflow_cast-len
overflow_cast-len c =
    let order = c.self.inside.order.items in
    let place = c.self.inside.place.items in
    let h : c.args.number < length place = subst (λ (m : MarkSet). c.args.number < m.room) (sym c.self.view_is) c.requires in
    let new : is_in c.args.number order ≡ false = ap (λ (m : MarkSet). is_in c.args.number m.members) c.self.view_is ∙ sym c.contains.ensures ∙ c.if-not-contains.true in
    omega (arith, room_for_more order place _ c.self.invariant c.args.number h new, c.self.invariant.few, c.len.ensures)

pub push_reserved-requires : goal.push_reserved-requires
push_reserved-requires c =
    let order = c.self.inside.order.items in
    let place = c.self.inside.place.items in
    let h : c.args.number < length place = subst (λ (m : MarkSet). c.args.number < m.room) (sym c.self.view_is) c.requires in
    let new : is_in c.args.number order ≡ false = ap (λ (m : MarkSet). is_in c.args.number m.members) c.self.view_is ∙ sym c.contains.ensures ∙ c.if-not-contains.true in
    omega (arith, room_for_more order place _ c.self.invariant c.args.number h new, c.self.invariant.space)

pub invariant_of-self : goal.invariant_of-self
invariant_of-self c =
    let order = c.self.inside.order.items in
    let place = c.self.inside.place.items in
    let h : c.args.number < length place = subst (λ (m : MarkSet). c.args.number < m.room) (sym c.self.view_is) c.requires in
    let new : is_in c.args.number order ≡ false = ap (λ (m : MarkSet). is_in c.args.number m.members) c.self.view_is ∙ sym c.contains.ensures ∙ c.if-not-contains.true in
    let long : c.len.result ≡ length order = omega (arith, c.len.ensures) in
    let more = sparse_more order place _ c.self.invariant c.args.number h new in
    subst (λ xs. IsSparse xs (set place c.args.number c.len.result) (vec_capacity c.push_reserved.new.self)) (sym c.push_reserved.ensures.items)
    (subst (λ n. IsSparse (order ++ c.args.number ∷ []) (set place c.args.number n) (vec_capacity c.push_reserved.new.self)) (sym long)
    (subst (λ n. IsSparse (order ++ c.args.number ∷ []) (set place c.args.number (length order)) n) (sym c.push_reserved.ensures.capacity) more))
