-- The next route, and what the code reads of it.
use Rattle.std.proofs.Common.{◌≡◌, ◌<◌, ℕ, List, Some, length, get_or, sym, subst, ap, ◌∙◌, arith}
use Rattle.std.specs.Prelude.{slice_get}
use Rattle.std.proofs.lemmas.Option.{slice_get-get_or, slice_get_within}
use Rattle.sg_heap.specs.Agenda.{IsLeast, Key}
use Rattle.sg_paths.specs.declared.ahead.Ahead.{Ahead}
use Rattle.sg_paths.specs.declared.route.PathRoute.{PathRoute}
use Rattle.sg_paths.specs.declared.trail.Settled.{Settled}
use Rattle.sg_paths.specs.Crossing.{AreWithin}
use Rattle.sg_paths.specs.Trail.{HasPlaces, IsSettledAt}
use Rattle.sg_paths.proofs.AheadLemmas.{got}
use Rattle.sg_paths.proofs.StateLemmas.{IsFirst, IsUnderWay, below, first_of, inside_left, next_place, same_route}

-- the next route joins points that have places
pub record IsAtHand (routes : List PathRoute) (places : List ℕ) (old : Ahead) (i : ℕ) (key : Key) (route : PathRoute) : Type 0 where
  pub first : IsFirst old i key
  pub few : i < length routes
  pub there : slice_get routes i ≡ Some route
  pub from : route.from < length places
  pub end : route.to < length places

pub at_hand : (routes : List PathRoute) (points to : ℕ) (settled : List Settled) (places : List ℕ) (old : Ahead) (ranks i : ℕ) (key : Key) (d : PathRoute) → AreWithin points routes → length places ≡ points
    → IsUnderWay routes to settled old ranks → IsLeast old.agenda i key → IsAtHand routes places old i key (get_or routes i d)
at_hand routes points to settled places old ranks i key d within count state least = record {
  first = first;
  few = few;
  there = there;
  from = let w = both.0 in omega (arith, w, count);
  end = let w = both.1 in omega (arith, w, count);
}
  where
    first : IsFirst old i key
    first = first_of old i key least

    few : i < length routes
    few = below routes old i key state.places first.there

    there : slice_get routes i ≡ Some (get_or routes i d)
    there = slice_get-get_or routes i d few

    both : ((get_or routes i d).from < points) × ((get_or routes i d).to < points)
    both = within i (get_or routes i d) there

-- how many of its links it stands after, as it was read
pub left_read : (routes : List PathRoute) (to : ℕ) (settled : List Settled) (old : Ahead) (ranks i : ℕ) (key : Key) (read spare : ℕ) → IsUnderWay routes to settled old ranks → IsFirst old i key
    → read ≡ get_or old.left.items i spare → read ≡ get_or old.left.items i 0
left_read routes to settled old ranks i key read spare state first is = is ∙ got old.left.items i spare 0 (inside_left routes to settled old ranks i key state first)

-- the place of the point to which it leads, as it was read
pub next_read : (routes : List PathRoute) (to : ℕ) (settled : List Settled) (places : List ℕ) (old : Ahead) (ranks i : ℕ) (key : Key) (d e : PathRoute) (read spare : ℕ) → IsUnderWay routes to settled old ranks → HasPlaces settled places
    → IsAtHand routes places old i key (get_or routes i d) → read ≡ get_or places (get_or routes i e).to spare → IsSettledAt settled read (get_or routes i d).to
next_read routes to settled places old ranks i key d e read spare state has at is =
    let other : (get_or routes i e).to ≡ (get_or routes i d).to = ap (λ (r : PathRoute). r.to) (same_route routes i e d at.few) in
    let inside : (get_or routes i e).to < length places = let w = at.end in omega (arith, w, other) in
    let same : read ≡ get_or places (get_or routes i d).to 0 = is ∙ got places (get_or routes i e).to spare 0 inside ∙ ap (λ n. get_or places n 0) other in
    let P : ℕ → Type 0 = λ n. IsSettledAt settled n (get_or routes i d).to in
    subst P (sym same) (next_place routes to settled places old ranks i key (get_or routes i d) state at.first has at.there at.end)

-- a finalized point stands below the end of the list
pub below_end : (settled : List Settled) (place point : ℕ) → IsSettledAt settled place point → place < length settled
below_end settled place point at = slice_get_within settled place at.0 at.1
