-- What a change of a queue does to its values.
use Rattle.std.proofs.Common.{◌≡◌, ◌∙◌, ap, sym, refl, ℕ, zero, suc, List, [], ◌∷◌, ◌++◌}
use Rattle.std.specs.Prelude.{map, replicate, slice_set}
use Rattle.std.proofs.lemmas.List.{map-set, map-append}
use Rattle.sg_queues.specs.Rings.{queue_at, behind}
use Rattle.sg_queues.specs.Queues.{value, values_of, queued, shortened}
use Rattle.sg_queues.proofs.Lists.{map_at}

module _ {T : Type 0} where
  pub values_at : (queues : List (List (ℕ × T))) (queue : ℕ) → queue_at (values_of queues) queue ≡ map value (queue_at queues queue)
  values_at queues queue = map_at (map value) [] queues queue

  pub queued_values : (queues : List (List (ℕ × T))) (queue slot : ℕ) (new : T) → values_of (queued queues queue (slot, new)) ≡ slice_set (values_of queues) queue (queue_at (values_of queues) queue ++ new ∷ [])
  queued_values queues queue slot new =
      map-set (map value) queues queue (queue_at queues queue ++ (slot, new) ∷ [])
      ∙ ap (slice_set (values_of queues) queue) (map-append value (queue_at queues queue) ((slot, new) ∷ []) ∙ ap (λ (l : List T). l ++ new ∷ []) (sym (values_at queues queue)))

  behind_values : (queue : List (ℕ × T)) → map value (behind queue) ≡ behind (map value queue)
  behind_values [] = refl
  behind_values (first ∷ rest) = refl

  pub shortened_values : (queues : List (List (ℕ × T))) (queue : ℕ) → values_of (shortened queues queue) ≡ slice_set (values_of queues) queue (behind (queue_at (values_of queues) queue))
  shortened_values queues queue =
      map-set (map value) queues queue (behind (queue_at queues queue))
      ∙ ap (slice_set (values_of queues) queue) (behind_values (queue_at queues queue) ∙ ap behind (sym (values_at queues queue)))

  pub no_values : (n : ℕ) → values_of {T = T} (replicate n []) ≡ replicate n []
  no_values zero = refl
  no_values (suc n) = ap (λ (l : List (List T)). [] ∷ l) (no_values n)
