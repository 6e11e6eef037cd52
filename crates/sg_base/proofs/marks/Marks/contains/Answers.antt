use Rattle.std.proofs.Common.{◌<◌, ◌&&◌, length, eqb, get_or, lt-ltb, le-ltb, ap, ◌∙◌, subst, sym, arith}
use Rattle.sg_base.specs.MarkSet.{is_in, MarkSet}
use Rattle.sg_base.proofs.Members.{is_in-place, read}
use Rattle.sg_base.proofs.marks.Marks.contains.Goals as goal

pub returns-then-at-len : goal.returns-then-at-len
returns-then-at-len c =
    let order = c.self.inside.order.items in
    let place = c.self.inside.place.items in
    let h : c.args.number < length place = subst (λ (m : MarkSet). c.args.number < m.room) (sym c.self.view_is) c.requires in
    let at = read place c.args.number c.index.result.now h c.index.ensures in
    let less : c.index.result.now < length order = omega (arith, c.if-at-len.true, c.len.ensures) in
    let there = read order c.index.result.now c.index-then-at-len.result.now less c.index-then-at-len.ensures in
    ap (λ n. eqb n c.args.number) (there ∙ ap (λ k. get_or order k 0) at)
    ∙ sym (ap (λ b. b && eqb (get_or order (get_or place c.args.number 0) 0) c.args.number) (lt-ltb (get_or place c.args.number 0) (length order) (subst (λ k. k < length order) at less)))
    ∙ sym (is_in-place order place _ c.self.invariant c.args.number) ∙ ap (λ (m : MarkSet). is_in c.args.number m.members) c.self.view_is

pub returns-else-at-len : goal.returns-else-at-len
returns-else-at-len c =
    let order = c.self.inside.order.items in
    let place = c.self.inside.place.items in
    let h : c.args.number < length place = subst (λ (m : MarkSet). c.args.number < m.room) (sym c.self.view_is) c.requires in
    let at = read place c.args.number c.index.result.now h c.index.ensures in
    let past = le-ltb (get_or place c.args.number 0) (length order) (omega (arith, at, c.if-at-len.false, c.len.ensures)) in
    le-ltb c.index.result.now c.len.result c.if-at-len.false
    ∙ sym (ap (λ b. b && eqb (get_or order (get_or place c.args.number 0) 0) c.args.number) past)
    ∙ sym (is_in-place order place _ c.self.invariant c.args.number) ∙ ap (λ (m : MarkSet). is_in c.args.number m.members) c.self.view_is
