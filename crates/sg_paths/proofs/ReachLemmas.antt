-- What makes a search ready.
use Rattle.std.proofs.Common.{◌≡◌, ◌≢◌, ◌+◌, ◌<◌, ℕ, List, length, sym, subst, arith}
use Rattle.std.specs.Prelude.{All}
use Rattle.std.proofs.lemmas.Option.{slice_get_within, get_or_from_slice_get}
use Rattle.sg_paths.specs.declared.arrivals.Arrivals.{Arrivals}
use Rattle.sg_paths.specs.declared.least.Reach.{Reach}
use Rattle.sg_paths.specs.declared.recall.Found.{Found}
use Rattle.sg_paths.specs.declared.route.PathRoute.{PathRoute}
use Rattle.sg_paths.specs.Ahead.{steps_in}
use Rattle.sg_paths.specs.Arrivals.{AreArrivals}
use Rattle.sg_paths.specs.Asked.{AreRight}
use Rattle.sg_paths.specs.Crossing.{AreWithin}
use Rattle.sg_paths.specs.Reach.{CanFind, CanSearch, IsReady, IsRoomy}
use Rattle.sg_paths.specs.Trees.{AreOnward}
use Rattle.sg_paths.specs.Whole.{IsWhole}

pub within_of : (points : ℕ) (routes : List PathRoute) → All (λ route. (route.from < points) × (route.to < points)) routes → AreWithin points routes
within_of points routes all i route there =
    let P : PathRoute → Type 0 = λ r. (r.from < points) × (r.to < points) in
    subst P (get_or_from_slice_get routes i route route there) (all i route (slice_get_within routes i route there))

pub ready_of : (points : ℕ) (routes copied : List PathRoute) (arrivals : Arrivals) (reach : Reach) → copied ≡ routes → AreWithin points routes → AreArrivals points routes arrivals → steps_in routes + 1 < 18446744073709551616
    → IsRoomy routes points reach → IsReady points copied arrivals reach
ready_of points routes copied arrivals reach same within arrive steps roomy =
    let P : List PathRoute → Type 0 = λ rs. IsReady points rs arrivals reach in
    subst P (sym same) (record { search = record { within = within; arrive = arrive; steps = steps }; roomy = roomy })

-- what is whole stays so after a search
pub whole_on : (points : ℕ) (read routes : List PathRoute) (arrivals : Arrivals) (old new : Reach) (found : Found) → read ≡ routes → IsReady points routes arrivals old → IsRoomy read (length old.places.items) new
    → AreRight read found.asked.items → AreOnward read found.trees.hops.items → IsWhole points routes arrivals new found
whole_on points read routes arrivals old new found same ready roomy right onward = record {
  ready = record {
    search = ready.search;
    roomy = subst (λ (n : ℕ). IsRoomy routes n new) (ready.roomy).places (subst (λ (rs : List PathRoute). IsRoomy rs (length old.places.items) new) same roomy);
  };
  right = subst (λ (rs : List PathRoute). AreRight rs found.asked.items) same right;
  onward = subst (λ (rs : List PathRoute). AreOnward rs found.trees.hops.items) same onward;
}

-- room that stayed, and stayed again
pub room_on : (routes : List PathRoute) (first old new : Reach) → IsRoomy routes (length first.places.items) old → IsRoomy routes (length old.places.items) new → IsRoomy routes (length first.places.items) new
room_on routes first old new was still = subst (λ (n : ℕ). IsRoomy routes n new) was.places still

-- what can be searched can still be, if the room stays
pub find_on : (routes : List PathRoute) (arrivals : Arrivals) (from to : ℕ) (old new : Reach) → CanFind routes arrivals from to old → IsRoomy routes (length old.places.items) new → CanFind routes arrivals from to new
find_on routes arrivals from to old new can still = record {
  search = subst (λ (n : ℕ). CanSearch n routes arrivals) (sym still.places) can.search;
  roomy = subst (λ (n : ℕ). IsRoomy routes n new) (sym still.places) still;
  begins = omega (arith, can.begins, still.places);
  ends = omega (arith, can.ends, still.places);
  apart = can.apart;
}

-- a network that is ready can be searched between two of its points
pub can_find : (points : ℕ) (read routes : List PathRoute) (arrivals : Arrivals) (reach : Reach) (from to : ℕ) → read ≡ routes → IsReady points routes arrivals reach → from < points → to < points → from ≢ to
    → CanFind read arrivals from to reach
can_find points read routes arrivals reach from to same ready inside_from inside_to apart =
    let places = ready.roomy.places in
    let P : List PathRoute → Type 0 = λ rs. CanFind rs arrivals from to reach in
    subst P (sym same) (record {
      search = subst (λ (n : ℕ). CanSearch n routes arrivals) (sym places) ready.search;
      roomy = subst (λ (n : ℕ). IsRoomy routes n reach) (sym places) ready.roomy;
      begins = omega (arith, inside_from, places);
      ends = omega (arith, inside_to, places);
      apart = apart;
    })
