use Rattle.std.proofs.Common.{◌≡◌, Some, is_some, option_map, sym, ap, subst, ◌∙◌}
use Rattle.std.specs.Option.{option_copied_mut}
use Rattle.slab.specs.Slab.{get, with_value}
use Rattle.sg_maxmin.specs.kept.Slots.{slot_in, slots_in}
use Rattle.sg_maxmin.specs.kept.Linked.{KeepsRoom, with_prev}
use Rattle.sg_maxmin.proofs.CellLemmas.{keeps_room, slot_at, slots_written}
use Rattle.sg_maxmin.proofs.slots.Slots.set_prev.Goals as goal

pub returns-clause-changed : goal.returns-clause-changed
returns-clause-changed c =
    let slab = c.self.inside.slab in
    let i = c.args.i in
    let cell = c.in-Some.cell.now in
    let at : get slab i ≡ Some cell = sym c.get_mut.ensures.value ∙ ap option_copied_mut c.in-Some.is in
    let written = slots_written slab i (record cell { prev_on = c.code_of.result }) (ap is_some at) in
    let was : get c.args.self.now i ≡ Some (slot_in cell) = ap (λ s. get s i) (sym c.self.view_is) ∙ slot_at slab.slots i ∙ ap (option_map slot_in) at in
    written.changed ∙ ap (λ link. Some (with_prev link (slot_in cell))) c.code_of.ensures ∙ sym (ap (option_map (with_prev c.args.prev)) was)

pub returns-clause-others : goal.returns-clause-others
returns-clause-others c =
    let slab = c.self.inside.slab in
    let i = c.args.i in
    let cell = c.in-Some.cell.now in
    let at : get slab i ≡ Some cell = sym c.get_mut.ensures.value ∙ ap option_copied_mut c.in-Some.is in
    let written = slots_written slab i (record cell { prev_on = c.code_of.result }) (ap is_some at) in
    λ other differs. written.others other differs ∙ ap (λ s. get s other) c.self.view_is

pub returns-clause-kept : goal.returns-clause-kept
returns-clause-kept c =
    let slab = c.self.inside.slab in
    let i = c.args.i in
    let cell = c.in-Some.cell.now in
    let at : get slab i ≡ Some cell = sym c.get_mut.ensures.value ∙ ap option_copied_mut c.in-Some.is in
    let next = record cell { prev_on = c.code_of.result } in
    subst (λ s. KeepsRoom s (slots_in (with_value slab i next))) c.self.view_is (keeps_room slab i next (ap is_some at))
