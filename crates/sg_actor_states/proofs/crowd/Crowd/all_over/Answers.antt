use Rattle.std.proofs.Common.{◌==◌, ap, ap₂, ◌∙◌}
use Rattle.std.specs.List.{list_all}
use Rattle.sg_actor_states.specs.Actors.{is_over}
use Rattle.sg_actor_states.specs.kept.Standing.{Standing}
use Rattle.sg_actor_states.proofs.Counts.{count_all}
use Rattle.sg_actor_states.proofs.crowd.Crowd.all_over.Goals as goal

pub returns : goal.returns
returns c =
    ap₂ (λ a b. a == b) c.self.invariant.over_count (c.len.ensures ∙ c.self.inside.actors.ok.0)
    ∙ count_all is_over c.self.inside.actors.items
    ∙ ap (λ (s : Standing). list_all is_over s.actors) c.self.view_is
