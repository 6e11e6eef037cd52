use Rattle.std.proofs.Common.{ap, sym, ◌∙◌, arith}
use Rattle.std.specs.Prelude.{option_map}
use Rattle.sg_queues.specs.Rings.{queue_at}
use Rattle.sg_queues.specs.Queues.{value}
use Rattle.sg_queues.proofs.Entries.{first_leaves, holds_front}
use Rattle.sg_queues.proofs.queues.Queues.pop_front.Goals as goal

pub remove-requires : goal.remove-requires
remove-requires g c = record {
  queue = c.args.queue;
  there = holds_front (queue_at c.args.self.now.queues c.args.queue) (c.in_ok-slot.slot, c.in_ok-slot.value) (sym c.front.ensures.first ∙ c.in_ok-slot.was);
}

pub returns : goal.returns
returns g c =
    let is = sym c.front.ensures.first ∙ c.in_ok-slot.was in
    record {
      first = sym (ap (option_map value) is);
      rest = c.remove.ensures.queues ∙ first_leaves c.args.self.now.queues c.args.queue (c.in_ok-slot.slot, c.in_ok-slot.value) c.front.ensures.slots c.requires is;
      room = omega (arith, c.remove.ensures.room);
    }
