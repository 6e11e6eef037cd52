use Rattle.std.proofs.Common.{◌≡◌, subst, sym}
use Rattle.sg_script.specs.kept.Queues.{AreOperations, queue_at}
use Rattle.sg_script.proofs.QueueLemmas.{limited_at, limited_with, new_view, old_view, others_view, waits_first}
use Rattle.sg_script.proofs.queues.Queues.pop.Goals as goal

pub returns-clause-first : goal.returns-clause-first
returns-clause-first c = waits_first c.args.members.now c.args.actor.0 c.args.self.now _ _ _ c.take_first.result
    (old_view (λ list. list.items) c.self.inside.lists.items c.args.self.now c.args.actor.0 c.index_mut.result.now (sym c.self.view_is) c.requires c.index_mut.ensures.value)
    (new_view (λ list. list.items) c.self.inside.lists.items c.args.self.now c.args.actor.0 c.take_first.new.lines (sym c.self.view_is) c.requires)
    c.take_first.ensures.first

pub returns-clause-empty : goal.returns-clause-empty
returns-clause-empty c =
    let same : queue_at c.args.self.now c.args.actor.0 ≡ c.index_mut.result.now.items = old_view (λ list. list.items) c.self.inside.lists.items c.args.self.now c.args.actor.0 c.index_mut.result.now (sym c.self.view_is) c.requires c.index_mut.ensures.value in
    rw same c.take_first.ensures.empty

pub returns-clause-others : goal.returns-clause-others
returns-clause-others c = others_view (λ list. list.items) c.self.inside.lists.items c.args.self.now c.args.actor.0 c.take_first.new.lines (sym c.self.view_is) c.requires

pub returns-clause-limited : goal.returns-clause-limited
returns-clause-limited c = λ extent exist all.
    let same : queue_at c.args.self.now c.args.actor.0 ≡ c.index_mut.result.now.items = old_view (λ list. list.items) c.self.inside.lists.items c.args.self.now c.args.actor.0 c.index_mut.result.now (sym c.self.view_is) c.requires c.index_mut.ensures.value in
    let before : AreOperations extent c.index_mut.result.now.items = subst (AreOperations extent) same (limited_at extent c.args.self.now c.args.actor.0 c.requires all) in
    let both = c.take_first.ensures.limited extent exist before in (
      both.0,
      limited_with extent c.args.self.now _ c.args.actor.0
          (others_view (λ list. list.items) c.self.inside.lists.items c.args.self.now c.args.actor.0 c.take_first.new.lines (sym c.self.view_is) c.requires)
          (subst (AreOperations extent) (sym (new_view (λ list. list.items) c.self.inside.lists.items c.args.self.now c.args.actor.0 c.take_first.new.lines (sym c.self.view_is) c.requires)) both.1)
          all,
    )
