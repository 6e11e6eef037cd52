use Rattle.std.proofs.Common.{◌∙◌, ◌++◌, ap, List, ℕ, append_assoc}
use Rattle.sg_trace.specs.Names.{actor_label}
use Rattle.sg_trace.proofs.lines.push_last.Goals as goal

pub returns-in-Suspended-clause-bytes : goal.returns-in-Suspended-clause-bytes
returns-in-Suspended-clause-bytes g c =
    let label : List ℕ = actor_label c.args.platform.now c.args.deployment.now c.in-Suspended.actor in
    rw c.in-Suspended.is (c.push_str-in-Suspended-2.ensures.bytes
    ∙ ap (λ (l : List ℕ). l ++ _) (c.push_actor-in-Suspended.ensures.bytes ∙ ap (λ (l : List ℕ). l ++ label) c.push_str-in-Suspended.ensures.bytes)
    ∙ append_assoc (c.args.lines.now.bytes ++ _) label _
    ∙ append_assoc c.args.lines.now.bytes _ (label ++ _))
