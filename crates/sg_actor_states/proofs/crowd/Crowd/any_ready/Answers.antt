use Rattle.std.proofs.Common.{nat_lt, ap, ◌∙◌}
use Rattle.std.specs.List.{list_any}
use Rattle.sg_actor_states.specs.Actors.{is_ready}
use Rattle.sg_actor_states.specs.kept.Standing.{Standing}
use Rattle.sg_actor_states.proofs.Counts.{count_any}
use Rattle.sg_actor_states.proofs.crowd.Crowd.any_ready.Goals as goal

pub returns : goal.returns
returns c =
    ap (nat_lt 0) c.self.invariant.ready_count
    ∙ count_any is_ready c.self.inside.actors.items
    ∙ ap (λ (s : Standing). list_any is_ready s.actors) c.self.view_is
