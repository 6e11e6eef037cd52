use Rattle.std.proofs.Common.{None, set, ap, ◌∙◌, sym}
use Rattle.std.proofs.lemmas.List.{set-get_or}
use Rattle.sg_heap.specs.kept.Heap.{keys_of}
use Rattle.sg_heap.proofs.Changes.{no_key_there}
use Rattle.sg_heap.proofs.keys.clear_key.Goals as goal

pub returns-then-at-count-clause-keys : goal.returns-then-at-count-clause-keys
returns-then-at-count-clause-keys g c =
    let old = keys_of c.args.heap.now c.args.place.now c.args.count in
    sym (ap (set old c.args.slot) (sym (no_key_there c.args.heap.now c.args.place.now c.args.count c.args.slot c.requires.slot c.if-at-count.true)) ∙ set-get_or old c.args.slot None)
