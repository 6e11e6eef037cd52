use Rattle.std.proofs.Common.{◌≡◌, List, Option, ◌∙◌, subst, sym, arith}
use Rattle.std.proofs.lemmas.List.{get_or_default}
use Rattle.sg_heap.specs.declared.entry.Entry.{Entry}
use Rattle.sg_heap.specs.kept.Heap.{no_entry, entry_at, key_of, keys_of}
use Rattle.sg_heap.specs.Agenda.{Key, IsLeast}
use Rattle.sg_heap.proofs.Whole.{least_is}
use Rattle.sg_heap.proofs.Slots.{least_with}
use Rattle.sg_heap.proofs.agenda.Agenda.least.Goals as goal

pub returns-clause-first : goal.returns-clause-first
returns-clause-first c =
    let first = c.index-first.result.now in
    let heap = c.self.inside.heap.items in
    let a = c.self.invariant.agenda in
    let is : first ≡ entry_at heap 0 = c.index-first.ensures ∙ get_or_default heap 0 first no_entry (omega (arith, a.within, a.placed.len)) in
    let keys = keys_of heap c.self.inside.place.items c.self.inside.count in
    subst (λ (keys : List (Option Key)). IsLeast keys first.slot (key_of first)) c.self.view_is
    (least_with c.self.inside.slots first.slot keys (key_of first) (subst (λ (e : Entry). IsLeast keys e.slot (key_of e)) (sym is) (least_is heap c.self.inside.place.items c.self.inside.count a (omega arith))))
