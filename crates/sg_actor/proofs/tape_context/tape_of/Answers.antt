use Rattle.std.proofs.Common.{◌≡◌, List, ℕ, rules, ◌∙◌, ap, ◌++◌, [], ◌∷◌, map, sym, subst}
use Rattle.std.specs.Prelude.{Some, vec_len}
use Rattle.sg_base.specs.declared.ids.ActorId.{ActorId}
use Rattle.sg_actor.specs.Roles.{actor_number, mind_of}
use Rattle.sg_actor.specs.declared.role.Role.{Role}
use Rattle.sg_actor.specs.kept.Tape.{tape_mind, IsTape, FitActorsFrom}
use Rattle.sg_actor.proofs.Tapes.{master_tape}
use Rattle.sg_actor.proofs.tape_context.tape_of.Goals as goal

pub returns-in_ok-push_actors-in-Master : goal.returns-in_ok-push_actors-in-Master
returns-in_ok-push_actors-in-Master c =
    let m = c.in-Master in
    let pushed = c.in_ok-push_actors-in-Master.ensures in
    let began : c.in_ok-words-in-Master.words.items ≡ 2 ∷ m.tasks ∷ m.flops ∷ m.bytes ∷ 0 ∷ [] = search rules in
    let words : c.push_actors.new.words.items ≡ (2 ∷ m.tasks ∷ m.flops ∷ m.bytes ∷ 0 ∷ []) ++ map actor_number m.workers =
    pushed.all ∙ ap (λ (l : List ℕ). l ++ map actor_number c.as_slice.result.now) began ∙ ap (λ (l : List ActorId). (2 ∷ m.tasks ∷ m.flops ∷ m.bytes ∷ 0 ∷ []) ++ map actor_number l) c.as_slice.ensures in
    let can = rw m.is at c.requires in
    let five : vec_len c.in_ok-words-in-Master.words ≡ 5 = search rules in
    let FitFrom : ℕ → Type 0 = λ n. FitActorsFrom n c.push_actors.new.words.items in
    let Begins : Role → Type 0 = λ r. IsTape c.push_actors.new.words.items × (tape_mind c.push_actors.new.words.items ≡ Some (mind_of r)) in
    subst Begins (sym m.is) (master_tape m.tasks m.flops m.bytes m.workers c.push_actors.new.words.items words (subst FitFrom five pushed.fit) can.0 can.1)
