use Rattle.std.proofs.Common.{◌≡◌, ◌<◌, ◌-◌, ◌+◌, true, length, set, take, vec_capacity, ap, ◌∙◌, subst, sym, arith}
use Rattle.sg_base.specs.MarkSet.{MarkSet, is_in}
use Rattle.sg_base.specs.kept.Sparse.{IsSparse}
use Rattle.sg_base.proofs.Members.{its_place, one_gone, others_stay, read, sparse_less}
use Rattle.sg_base.proofs.marks.Marks.remove.Goals as goal

pub index_mut-requires : goal.index_mut-requires
index_mut-requires c =
    let order = c.self.inside.order.items in
    let place = c.self.inside.place.items in
    let h : c.args.number < length place = subst (λ (m : MarkSet). c.args.number < m.room) (sym c.self.view_is) c.requires in
    let is : is_in c.args.number order ≡ true = ap (λ (m : MarkSet). is_in c.args.number m.members) c.self.view_is ∙ sym c.contains.ensures ∙ c.if-contains.true in
    let at = read place c.args.number c.index.result.now h c.index.ensures in
    omega (arith, at, its_place order place _ c.self.invariant c.args.number is)

pub index_mut-requires-then-contains : goal.index_mut-requires-then-contains
index_mut-requires-then-contains c =
    let order = c.self.inside.order.items in
    let place = c.self.inside.place.items in
    let is : is_in c.args.number order ≡ true = ap (λ (m : MarkSet). is_in c.args.number m.members) c.self.view_is ∙ sym c.contains.ensures ∙ c.if-contains.true in
    let some = its_place order place _ c.self.invariant c.args.number is in
    let last_in : c.len-last.result - 1 < length order = omega (arith, c.len-last.ensures, some) in
    let other = read order (c.len-last.result - 1) c.index-other.result.now last_in c.index-other.ensures in
    let less : c.index-other.result.now < length place = subst (λ n. n < length place) (sym other) (c.self.invariant.numbers (c.len-last.result - 1) last_in) in
    omega (arith, less)

pub invariant_of-self : goal.invariant_of-self
invariant_of-self c =
    let order = c.self.inside.order.items in
    let place = c.self.inside.place.items in
    let h : c.args.number < length place = subst (λ (m : MarkSet). c.args.number < m.room) (sym c.self.view_is) c.requires in
    let is : is_in c.args.number order ≡ true = ap (λ (m : MarkSet). is_in c.args.number m.members) c.self.view_is ∙ sym c.contains.ensures ∙ c.if-contains.true in
    let at = read place c.args.number c.index.result.now h c.index.ensures in
    let some = its_place order place _ c.self.invariant c.args.number is in
    let last_in : c.len-last.result - 1 < length order = omega (arith, c.len-last.ensures, some) in
    let last : (c.len-last.result - 1) + 1 ≡ length order = omega (arith, c.len-last.ensures, some) in
    let other = read order (c.len-last.result - 1) c.index-other.result.now last_in c.index-other.ensures in
    subst (λ xs. IsSparse xs (set place c.index-other.result.now c.index.result.now) (vec_capacity c.truncate.new.self)) (sym c.truncate.ensures.items)
    (subst (λ n. IsSparse (take (c.len-last.result - 1) (set order c.index.result.now c.index-other.result.now)) (set place c.index-other.result.now c.index.result.now) n) (sym c.truncate.ensures.capacity)
    (sparse_less order place _ c.self.invariant c.args.number c.index.result.now (c.len-last.result - 1) c.index-other.result.now h at is last other))

pub returns-then-contains-clause-gone : goal.returns-then-contains-clause-gone
returns-then-contains-clause-gone c =
    let order = c.self.inside.order.items in
    let place = c.self.inside.place.items in
    let h : c.args.number < length place = subst (λ (m : MarkSet). c.args.number < m.room) (sym c.self.view_is) c.requires in
    let is : is_in c.args.number order ≡ true = ap (λ (m : MarkSet). is_in c.args.number m.members) c.self.view_is ∙ sym c.contains.ensures ∙ c.if-contains.true in
    let at = read place c.args.number c.index.result.now h c.index.ensures in
    let some = its_place order place _ c.self.invariant c.args.number is in
    let last_in : c.len-last.result - 1 < length order = omega (arith, c.len-last.ensures, some) in
    let last : (c.len-last.result - 1) + 1 ≡ length order = omega (arith, c.len-last.ensures, some) in
    let other = read order (c.len-last.result - 1) c.index-other.result.now last_in c.index-other.ensures in
    ap (is_in c.args.number) c.truncate.ensures.items
    ∙ one_gone order place _ c.self.invariant c.args.number c.index.result.now (c.len-last.result - 1) c.index-other.result.now h at is last other

pub returns-then-contains-clause-others : goal.returns-then-contains-clause-others
returns-then-contains-clause-others c = λ x ne.
    let order = c.self.inside.order.items in
    let place = c.self.inside.place.items in
    let h : c.args.number < length place = subst (λ (m : MarkSet). c.args.number < m.room) (sym c.self.view_is) c.requires in
    let is : is_in c.args.number order ≡ true = ap (λ (m : MarkSet). is_in c.args.number m.members) c.self.view_is ∙ sym c.contains.ensures ∙ c.if-contains.true in
    let at = read place c.args.number c.index.result.now h c.index.ensures in
    let some = its_place order place _ c.self.invariant c.args.number is in
    let last_in : c.len-last.result - 1 < length order = omega (arith, c.len-last.ensures, some) in
    let last : (c.len-last.result - 1) + 1 ≡ length order = omega (arith, c.len-last.ensures, some) in
    let other = read order (c.len-last.result - 1) c.index-other.result.now last_in c.index-other.ensures in
    ap (is_in x) c.truncate.ensures.items
    ∙ others_stay order place _ c.self.invariant c.args.number c.index.result.now (c.len-last.result - 1) c.index-other.result.now h at is last other x ne
    ∙ ap (λ (m : MarkSet). is_in x m.members) c.self.view_is
