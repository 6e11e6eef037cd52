use Rattle.std.proofs.Common.{◌≡◌, ◌*◌, ◌∷◌, codes}
use Rattle.std.specs.Fn.{iterate}
use Rattle.sg_base.specs.Draw.{next_state}
use Rattle.sg_platform_churn.specs.Generated.{churn_host, link_of, link_with, rows, spoke_of}
use Rattle.sg_platform_churn.proofs.platform.rows_of.Given as goal

abbrev pub invariant-loop-row : goal.invariant-loop-row
invariant-loop-row l = record {
  state : l.state ≡ iterate next_state (3 * l.row) l.fn.seed;
  hosts : l.hosts.items ≡ rows (churn_host l.fn.seed) l.row;
  links : l.links.items ≡ link_with (codes "bb") 1000000000 1000 ∷ rows (link_of l.fn.seed) l.row;
  spokes : l.spokes.items ≡ rows spoke_of l.row;
}
