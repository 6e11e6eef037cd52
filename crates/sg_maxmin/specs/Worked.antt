-- Max-min shares that were worked out by hand.
use Rattle.std.specs.Prelude.{◌≡◌, ℕ, ◌-◌, None, Some, List, [], ◌∷◌}
use Rattle.sg_maxmin.specs.Fill.{Flow, flow, fill}
use Rattle.sg_maxmin.specs.Relisted.{AreRelisted}

-- a flow of weight 1 without a bound, and one with a bound
abbrev pub free : List ℕ → Flow
free uses = flow uses 1 None

abbrev pub bounded : List ℕ → ℕ → Flow
bounded uses bound = flow uses 1 (Some bound)

-- a flow of another weight without a bound, and one with a bound
abbrev pub weighty : List ℕ → ℕ → Flow
weighty uses weight = flow uses weight None

abbrev pub both_given : List ℕ → ℕ → ℕ → Flow
both_given uses weight bound = flow uses weight (Some bound)

-- three flows on two links, one of them on both; and the same with the links in the other order
abbrev pub behind : List Flow
behind = free (0 ∷ 1 ∷ []) ∷ free (1 ∷ []) ∷ free (1 ∷ []) ∷ []

abbrev pub before : List Flow
before = free (0 ∷ 1 ∷ []) ∷ free (0 ∷ []) ∷ free (0 ∷ []) ∷ []

-- Of these capacities and these flows these are the shares.
pub record AreWorked : Type 0 where
  pub alike : fill (10 ∷ []) (bounded (0 ∷ []) 10 ∷ bounded (0 ∷ []) 10 ∷ bounded (0 ∷ []) 10 ∷ []) ≡ 3 ∷ 3 ∷ 3 ∷ []
  pub two_links : fill (5 ∷ 5 ∷ []) (free (0 ∷ []) ∷ free (0 ∷ 1 ∷ []) ∷ free (1 ∷ []) ∷ []) ≡ 2 ∷ 2 ∷ 2 ∷ []
  pub left_by_a_bound : fill (10 ∷ []) (bounded (0 ∷ []) 2 ∷ free (0 ∷ []) ∷ free (0 ∷ []) ∷ []) ≡ 2 ∷ 4 ∷ 4 ∷ []
  pub left_by_a_link : fill (2 ∷ 10 ∷ []) behind ≡ 2 ∷ 4 ∷ 4 ∷ []
  pub relisted : AreRelisted (λ resource. 1 - resource) (2 ∷ 10 ∷ []) (10 ∷ 2 ∷ []) behind before
  pub links_exchanged : fill (10 ∷ 2 ∷ []) before ≡ 2 ∷ 4 ∷ 4 ∷ []
  pub bounds_alone : fill (1 ∷ []) (bounded [] 7 ∷ bounded [] 9 ∷ bounded (0 ∷ []) 5 ∷ []) ≡ 7 ∷ 9 ∷ 1 ∷ []
  pub nothing : fill (3 ∷ []) (free (0 ∷ []) ∷ free (0 ∷ []) ∷ free (0 ∷ []) ∷ bounded (0 ∷ []) 2 ∷ []) ≡ 0 ∷ 0 ∷ 0 ∷ 0 ∷ []
  -- a host of 10, and priorities 2 and 1: the level is 3
  pub priorities : fill (10 ∷ []) (both_given (0 ∷ []) 2 10 ∷ both_given (0 ∷ []) 1 10 ∷ []) ≡ 6 ∷ 3 ∷ []
  -- 3 and 1 on a link of 10: the level is 2, and 2 units are left
  pub weights_leave : fill (10 ∷ []) (weighty (0 ∷ []) 3 ∷ weighty (0 ∷ []) 1 ∷ []) ≡ 6 ∷ 2 ∷ []
  -- a bound of 5 at weight 2 has the level 3, and what it leaves is given out
  pub bound_rounded_up : fill (20 ∷ []) (both_given (0 ∷ []) 2 5 ∷ weighty (0 ∷ []) 3 ∷ []) ≡ 5 ∷ 15 ∷ []
  -- bounds of the same level, fixed together, of which the one takes less than its level
  pub bound_within : fill (12 ∷ []) (both_given (0 ∷ []) 2 3 ∷ both_given (0 ∷ []) 1 2 ∷ weighty (0 ∷ []) 2 ∷ []) ≡ 3 ∷ 2 ∷ 4 ∷ []
