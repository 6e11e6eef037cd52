-- A flow that is alone on each resource that it uses.
use Rattle.std.specs.Prelude.{◌≡◌, ℕ, ◌/◌, true, Some, option_to_list, List, [], ◌∷◌, ◌++◌, map, slice_index}
use Rattle.sg_base.specs.MarkSet.{is_in}
use Rattle.sg_maxmin.specs.Chained.{users_on}
use Rattle.sg_maxmin.specs.Sharing.{Sharing, uses_at}
use Rattle.sg_maxmin.specs.Numbered.{weight_at}
use Rattle.sg_maxmin.specs.Step.{IsLeast}
use Rattle.sg_maxmin_solve.specs.Filling.{bound_limit}

-- the level of a resource that no other flow uses
abbrev pub whole_level : Sharing → ℕ → ℕ → ℕ
whole_level s flow c = slice_index s.capacities c / weight_at s.slots flow

-- what limits a flow that is alone on these resources
abbrev pub alone_limits : Sharing → ℕ → List ℕ → List ℕ
alone_limits s flow row = option_to_list (bound_limit s.slots flow) ++ map (whole_level s flow) row

-- no other flow uses a resource of the flow, and the level is the least of its limits
pub record IsAlone (s : Sharing) (flow level : ℕ) : Type 0 where
  pub only : (c : ℕ) → is_in c (uses_at s.slots flow) ≡ true → users_on s.users c ≡ flow ∷ []
  pub least : IsLeast (Some level) (alone_limits s flow (uses_at s.slots flow))
