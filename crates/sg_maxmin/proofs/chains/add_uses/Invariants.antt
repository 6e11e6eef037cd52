use Rattle.std.proofs.Common.{◌≡◌, ◌≤◌, ◌+◌, ◌-◌, length, drop}
use Rattle.slab.specs.Slab.{slab_len}
use Rattle.sg_maxmin.specs.Chain.{IsChain, KeepsChains, resources}
use Rattle.sg_maxmin.specs.kept.Slots.{IsSmall}
use Rattle.sg_maxmin.specs.kept.Linked.{AreGained, AreLists, uses_of}
use Rattle.sg_maxmin.proofs.chains.add_uses.Given as goal

abbrev pub invariant-loop-left : goal.invariant-loop-left
invariant-loop-left l = record {
  within : l.left ≤ length l.uses;
  is : IsChain l.flow (length l.uses - l.left) (uses_of l.slots.slots) l.first;
  over : resources (length l.uses - l.left) (uses_of l.slots.slots) l.first ≡ drop l.left l.uses;
  kept : KeepsChains (uses_of l.fn.slots.slots) (uses_of l.slots.slots) l.flow;
  lists : AreLists l.slots.slots l.on;
  users : AreGained l.fn.slots.slots l.slots.slots l.fn.on l.on l.flow (drop l.left l.uses);
  len : slab_len l.slots + l.left ≡ slab_len l.fn.slots + length l.uses;
  capacity : l.slots.capacity ≡ l.fn.slots.capacity;
  on_len : length l.on ≡ length l.fn.on;
  small : IsSmall l.first;
}

abbrev pub decreases-loop-left : goal.decreases-loop-left
decreases-loop-left l = l.left
