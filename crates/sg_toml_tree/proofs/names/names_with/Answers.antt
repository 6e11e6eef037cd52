use Rattle.std.proofs.Common.{◌∙◌}
use Rattle.sg_toml_tree.proofs.NameLemmas.{collected}
use Rattle.toml.specs.View.{table_view}
use Rattle.sg_toml_tree.proofs.names.names_with.Goals as goal

pub returns : goal.returns
returns c =
    c.names_of.ensures ∙ collected (table_view c.args.tree.now) c.args.points _ _ _ _ _ (record {
      of_links = c.in_ok-ways.ensures.links;
      of_routes = c.in_ok-ways.ensures.routes;
      of_profiled = c.in_ok-profiled.ensures;
      of_actors = c.in_ok-owners.ensures.actors;
      of_locks = c.in_ok-owners.ensures.locks;
    })
