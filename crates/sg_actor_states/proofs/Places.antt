-- What `partition_point` returns for a list in rising order.
use Rattle.std.proofs.Common.{◌≡◌, ℕ, ◌<◌, ◌≤◌, true, false, List, length, nat_lt, get_or, inl, inr, ap, arith}
use Rattle.std.specs.Prelude.{AllPairs}
use Rattle.std.specs.List.Sorted.{IsNonDecreasingBy, IsPartitionPoint}
use Rattle.std.proofs.lemmas.Bool.{cases_eq}
use borrow.Author.Tests.{ltb-true, ltb-false}
use Rattle.sg_actor_states.specs.kept.Places.{IsPlace}

pub rises_weakly : {X : Type 0} (key : X → ℕ) (xs : List X) → AllPairs (λ a b. key a < key b) xs → IsNonDecreasingBy key xs
rises_weakly key xs rises i j d le within = elim (cases_eq i j) [
  | inl equal ↦ omega (arith, ap (λ k. key (get_or xs k d)) equal)
  | inr apart ↦ let less : i < j = omega (arith, le, apart) in omega (arith, rises i j d less within)
]

pub place_at : {X : Type 0} (key : X → ℕ) (xs : List X) (sought i : ℕ) → i ≤ length xs → IsPartitionPoint (λ y. nat_lt (key y) sought ≡ true) (λ y. nat_lt (key y) sought ≡ false) xs i → IsPlace key xs sought i
place_at key xs sought i within found = record {
  within = within;
  below = λ k d less. ltb-true (key (get_or xs k d)) sought (found.0 k d (omega arith) less);
  above = λ k d from less. ltb-false (key (get_or xs k d)) sought (found.1 k d from less);
}
