-- A reduce is the bcast backwards.
use Rattle.std.proofs.Common.{◌≡◌, ℕ, ltb, cond, [], ◌∷◌, ◌++◌, map, reverse, refl, sym, ap, ap₂, ◌∙◌}
use Rattle.std.specs.List.{flat_map}
use Rattle.std.proofs.lemmas.List.{reverse-reverse}
use Rattle.std.proofs.lemmas.List.Elements.{filter_map-append}
use Rattle.sg_collectives.specs.declared.step.Step.TheVariants.{Recv, Send, Compute}
use Rattle.sg_collectives.specs.Expansion.{reduce}
use Rattle.sg_collectives.specs.Tree.{children, parent_rank}
use Rattle.sg_collectives.specs.Together.{ReduceTakesEachOnce}
use Rattle.sg_collectives.specs.Messages.{FoldsIn, receiver_in, receivers, sender_in, senders}
use Rattle.sg_collectives.proofs.Messages.{empty_behind, first_told, map-cond, neither_told, one_silent, one_told}
use Rattle.sg_collectives.proofs.Turns.{bcast_receivers, none_above, one_above, parent_below}

reduce_senders : (bytes flops rank members : ℕ) → senders (reduce bytes flops rank members) ≡ children rank members
unfolding reduce
reduce_senders bytes flops rank members =
    filter_map-append sender_in (flat_map (λ child. Recv child ∷ Compute flops ∷ []) (children rank members)) (cond (ltb 0 rank) (Send (parent_rank rank) bytes ∷ []) [])
    ∙ ap₂ (λ xs ys. xs ++ ys) (first_told sender_in (λ from. Recv from) (λ _. Compute flops) (λ n. refl) (λ n. refl) (children rank members))
    (one_silent sender_in (ltb 0 rank) (Send (parent_rank rank) bytes) refl)
    ∙ empty_behind (children rank members)

reduce_receivers : (bytes flops rank members : ℕ) → receivers (reduce bytes flops rank members) ≡ cond (ltb 0 rank) (parent_rank rank ∷ []) []
unfolding reduce
reduce_receivers bytes flops rank members =
    filter_map-append receiver_in (flat_map (λ child. Recv child ∷ Compute flops ∷ []) (children rank members)) (cond (ltb 0 rank) (Send (parent_rank rank) bytes ∷ []) [])
    ∙ ap₂ (λ xs ys. xs ++ ys) (neither_told receiver_in (λ from. Recv from) (λ _. Compute flops) (λ n. refl) (λ n. refl) (children rank members))
    (one_told receiver_in (ltb 0 rank) (λ to. Send to bytes) (parent_rank rank) refl)

folds_in : (bytes flops rank members : ℕ) → FoldsIn bytes flops (reduce bytes flops rank members)
unfolding reduce
folds_in bytes flops rank members =
    ap₂ (λ xs ys. xs ++ ys)
    (ap (flat_map (λ from. Recv from ∷ Compute flops ∷ [])) (sym (reduce_senders bytes flops rank members)))
    (map-cond (λ to. Send to bytes) (ltb 0 rank) (parent_rank rank) ∙ ap (map (λ to. Send to bytes)) (sym (reduce_receivers bytes flops rank members)))

pub reduce_takes_each_once : ReduceTakesEachOnce
reduce_takes_each_once bytes flops members = record {
  root = reduce_receivers bytes flops 0 members ∙ none_above 0 refl;
  once = λ rank some within. (parent_rank rank, reduce_receivers bytes flops rank members ∙ one_above rank some, parent_below rank some);
  folds_in = λ rank within. folds_in bytes flops rank members;
  backwards = λ rank within.
      reduce_senders bytes flops rank members
      ∙ sym (ap reverse (bcast_receivers bytes rank members) ∙ reverse-reverse (children rank members));
}
