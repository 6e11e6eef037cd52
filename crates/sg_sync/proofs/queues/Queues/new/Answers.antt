use Rattle.std.proofs.Common.{◌≡◌, ◌++◌, ◌∷◌, [], ◌∙◌, ap, arith}
use Rattle.std.specs.Prelude.{replicate}
use Rattle.std.proofs.lemmas.List.{replicate_more}
use Rattle.sg_queues.specs.Rings.{Rings}
use Rattle.sg_sync.specs.kept.Slots.{waiting_in}
use Rattle.sg_sync.proofs.Slots.{queue_more, nobody_in}
use Rattle.sg_sync.proofs.queues.Queues.new.Goals as goal

pub loop-queue-preserved : goal.loop-queue-preserved
loop-queue-preserved c =
    let was = c.loop-queue.rings in
    let more = c.in_ok-add_queue.ensures in
    record {
      kept = queue_more c.args.actors was c.add_queue.new.self c.loop-queue.invariant.kept more.apart more.queue;
      nobody = ap (λ (r : Rings). r.queues) more.queue ∙ ap (λ l. l ++ [] ∷ []) c.loop-queue.invariant.nobody ∙ replicate_more c.loop-queue._queue [];
    }

pub returns : goal.returns
returns c =
    let end : c.loop-queue._queue ≡ c.args.queues = omega arith in
    ap (λ queues. record { actors = c.args.actors; queues = queues }) (ap waiting_in c.loop-queue.invariant.nobody ∙ nobody_in c.loop-queue._queue ∙ ap (λ n. replicate n []) end)
