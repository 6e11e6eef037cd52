use Rattle.std.proofs.Common.{◌≡◌, ◌∙◌, None}
use Rattle.std.specs.HashMap.{get_by_text}
use Rattle.sg_toml_tree.specs.Workers.{worker_names}
use Rattle.sg_toml_tree.proofs.NameSpaceLemmas.{numbered_from}
use Rattle.toml.specs.View.{view}
use Rattle.sg_toml_tree.proofs.workers.workers_in.Goals as goal

pub returns : goal.returns
returns c = λ q.
    let empty : get_by_text c.new-made.result q ≡ None = rw c.new-made.ensures.empty in
    c.in_ok-add_workers.ensures q ∙ rw (empty, numbered_from view worker_names 1 c.args.rows.now)
