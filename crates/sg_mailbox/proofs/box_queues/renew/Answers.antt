use Rattle.std.proofs.Common.{sym, ◌∙◌, arith}
use Rattle.sg_mailbox.proofs.Steps.{nobody}
use Rattle.sg_mailbox.proofs.box_queues.renew.Goals as goal

pub returns-clause-keeps : goal.returns-clause-keeps
returns-clause-keeps c = record {
  grows = omega (arith, (c.in_ok-make_room.ensures {u = tt}).room, c.requires.grows.more);
  same = λ mailbox. c.make_room.ensures.keeps.same mailbox ∙ c.in_ok-other.ensures.nobody mailbox ∙ sym (nobody c.args.kept.now c.requires.nobody mailbox);
  kept = c.make_room.ensures.keeps.kept;
}
