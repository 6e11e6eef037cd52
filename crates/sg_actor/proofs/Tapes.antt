-- The words of a master.
use Rattle.std.proofs.Common.{◌≡◌, ℕ, ◌+◌, ◌<◌, ◌^◌, List, [], ◌∷◌, ◌++◌, length, map, take, get_or, Some, refl, sym, ap, subst, ◌∙◌, append_assoc, arith}
use Prim.Native.Nat.{suc}
use Rattle.std.proofs.lemmas.List.{length-map, map_more}
use Rattle.std.proofs.lemmas.Grind.{common_steps}
use Rattle.sg_base.specs.declared.ids.ActorId.{ActorId}
use Rattle.sg_base.specs.Mind.{master, mind}
use Rattle.sg_actor.specs.Roles.{actor_number}
use Rattle.sg_actor.specs.kept.Tape.{tape_mind, IsTape, FitActorsFrom}

-- the number of one more actor
pub words_more : (words : List ℕ) (actors : List ActorId) (i : ℕ) (d : ActorId) → i < length actors
    → (words ++ map actor_number (take i actors)) ++ actor_number (get_or actors i d) ∷ [] ≡ words ++ map actor_number (take (i + 1) actors)
words_more words actors i d within =
    append_assoc words (map actor_number (take i actors)) (actor_number (get_or actors i d) ∷ []) ∙ ap (λ l. words ++ l) (sym (map_more actor_number actors i d within))

pub fit_more : (n : ℕ) (words : List ℕ) (word : ℕ) → FitActorsFrom n words → word < 2 ^ 32 → FitActorsFrom n (words ++ word ∷ [])
fit_more n words word fit small k from within = grind (arith, common_steps, fit k)

-- the words with which a master begins
pub master_tape : (tasks flops bytes : ℕ) (workers : List ActorId) (words : List ℕ)
    → words ≡ (2 ∷ tasks ∷ flops ∷ bytes ∷ 0 ∷ []) ++ map actor_number workers → FitActorsFrom 5 words
    → 0 < length workers → tasks + length workers < 2 ^ 64
    → IsTape words × (tape_mind words ≡ Some (mind master (tasks ∷ flops ∷ bytes ∷ 0 ∷ map actor_number workers)))
master_tape tasks flops bytes workers words is fit some few =
    let Begins : List ℕ → Type 0 = λ l. IsTape l × (tape_mind l ≡ Some (mind master (tasks ∷ flops ∷ bytes ∷ 0 ∷ map actor_number workers))) in
    let count : length (map actor_number workers) ≡ length workers = length-map workers actor_number in
    let fit_here : FitActorsFrom 5 (2 ∷ tasks ∷ flops ∷ bytes ∷ 0 ∷ map actor_number workers) = subst (FitActorsFrom 5) is fit in
    subst Begins (sym is) ((omega arith, (omega arith, omega arith, omega arith, λ k from within. fit_here (suc k) (omega arith) (omega arith))), refl)
