use Rattle.std.proofs.Common.{sym}
use Rattle.sg_script.proofs.QueueLemmas.{pushed_view, kept_view}
use Rattle.sg_script.proofs.queues.Queues.push.Goals as goal
use Rattle.sg_script.proofs.queues.Queues.push.Goals.{in-Ok, in-Err}

pub returns : goal.returns
returns c = elim c.match-push_back.branch [
  | in-Ok w ↦ rw w.result-is (pushed_view (λ list. list.items) c.self.inside.lists.items c.args.self.now c.args.actor.0 c.index_mut.result.now c.push_back.new.self (record { operation = c.args.operation; place = 0 }) (sym c.self.view_is) c.requires c.index_mut.ensures.value w.in-Ok.ensures.items)
  | in-Err w ↦ rw w.result-is (kept_view (λ list. list.items) c.self.inside.lists.items c.args.self.now c.args.actor.0 c.index_mut.result.now c.push_back.new.self (sym c.self.view_is) c.index_mut.ensures.value w.in-Err.ensures.items)
]
