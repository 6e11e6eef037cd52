use Rattle.std.proofs.Common.{◌≡◌, ◌+◌, ◌-◌, length}
use Rattle.slab.specs.Slab.{slab_len}
use Rattle.sg_maxmin.specs.Chain.{IsChain, KeepsChains, resources}
use Rattle.sg_maxmin.specs.kept.Linked.{AreLists, uses_of}
use Rattle.sg_maxmin.proofs.ChainLemmas.{AreLosing}
use Rattle.sg_maxmin.proofs.chains.remove_uses.Given as goal

abbrev pub invariant-loop-done : goal.invariant-loop-done
invariant-loop-done l = record {
  is : IsChain l.flow (l.count - l.done) (uses_of l.slots.slots) l.at;
  kept : KeepsChains (uses_of l.fn.slots.slots) (uses_of l.slots.slots) l.flow;
  lists : AreLists l.slots.slots l.on;
  users : AreLosing l.fn.slots.slots l.slots.slots l.fn.on l.on l.flow (resources (l.count - l.done) (uses_of l.slots.slots) l.at) (resources l.count (uses_of l.fn.slots.slots) l.fn.first);
  len : slab_len l.slots + l.done ≡ slab_len l.fn.slots;
  capacity : l.slots.capacity ≡ l.fn.slots.capacity;
  on_len : length l.on ≡ length l.fn.on;
}
