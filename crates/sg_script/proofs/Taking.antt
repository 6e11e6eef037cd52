-- What taking the line at the front did for a fetch.
use Rattle.std.proofs.Common.{◌≡◌, ◌<◌, ◌∙◌, sym, ap, refl, ℕ, true, eqb, List, [], ◌∷◌, ◌++◌, length, None, Some, Ok, arith}
use Rattle.std.specs.Prelude.{slice_set}
use Rattle.std.proofs.lemmas.Bool.Decides.{nat_tests}
use Rattle.std.proofs.lemmas.List.{set-set, set-get_or}
use Rattle.sg_base.specs.declared.call.Action.{Action}
use Rattle.sg_base.specs.declared.ids.ActorId.{ActorId}
use Rattle.sg_script.specs.declared.line.Entry.{Entry}
use Rattle.sg_script.specs.declared.operation.Operation.TheVariants.{Alone}
use Rattle.sg_script.specs.declared.waiting.Waiting.{Waiting}
use Rattle.sg_script.specs.Known.{ScriptNames}
use Rattle.sg_script.specs.Line.{Judgement}
use Rattle.sg_script.specs.Operation.{line_actions}
use Rattle.sg_script.specs.Stands.{Kept}
use Rattle.sg_script.specs.kept.Queues.{queue_at, waits}
use Rattle.sg_script.specs.kept.Steps.{LineTells, Passes, Pops, queues_with}
use Rattle.sg_script.proofs.QueueLemmas.{said_waits}

-- none was taken of an actor for whom none waits
none_taken : (known : ScriptNames) (actor : ℕ) (kept : Kept) → waits known.members kept.queues actor ≡ [] → Pops known actor None kept kept
none_taken known actor kept empty = record {
  first_is = refl;
  empty = empty;
  others = sym (set-get_or kept.queues actor []);
  lines = refl;
  pending = refl;
}

-- a line that is passed over
pub passed_tells : (known : ScriptNames) (said : Judgement) (end actor : ℕ) (old new : Kept) → said ≡ Ok None → waits known.members old.queues actor ≡ [] → Passes old.queues end old new → LineTells known said end actor None old new
passed_tells known said end actor old new is empty passes =
    (new, (None, is, tt, passes), none_taken known actor new (ap (λ (qs : List (List Waiting)). waits known.members qs actor) passes.queued ∙ empty))

-- the actor's own line, of an action alone
own_actions : (known : ScriptNames) (a : ActorId) (action : Action) → line_actions known a.0 (Some (record { actor = a; operation = Alone action })) ≡ action ∷ []
own_actions known a action = let same : eqb a.0 a.0 ≡ true = grind (arith, nat_tests) in rw same refl

own_is : (known : ScriptNames) (entry : Entry) (action : Action) (actor : ℕ) → entry.actor.0 ≡ actor → entry.operation ≡ Alone action → line_actions known actor (Some entry) ≡ action ∷ []
own_is known entry action actor whose alone =
    ap (λ (n : ℕ). line_actions known n (Some entry)) (sym whose)
    ∙ ap (λ o. line_actions known entry.actor.0 (Some (record { actor = entry.actor; operation = o }))) alone
    ∙ own_actions known entry.actor action

pub own_tells : (known : ScriptNames) (entry : Entry) (action : Action) (end actor : ℕ) (old new : Kept) → entry.actor.0 ≡ actor → entry.operation ≡ Alone action → entry.actor.0 < length old.queues → waits known.members old.queues actor ≡ [] → Passes old.queues end old new
    → LineTells known (Ok (Some entry)) end actor (Some (Ok (Some action))) old new
own_tells known entry action end actor old new whose alone within empty passes =
    let queued : List (List Waiting) = queues_with (Some entry) old.queues in
    let mid : Kept = record { queues = queued; lines = new.lines; pending = new.pending } in
    let none : waits known.members new.queues actor ≡ [] = ap (λ (qs : List (List Waiting)). waits known.members qs actor) passes.queued ∙ empty in (
      mid,
      (Some entry, refl, within, record { queued = refl; lines = passes.lines; pending = passes.pending }),
      record {
        first_is =
            said_waits known old.queues (Some entry) actor within
            ∙ ap (λ (l : List Action). l ++ line_actions known actor (Some entry)) empty
            ∙ own_is known entry action actor whose alone
            ∙ ap (λ (l : List Action). action ∷ l) (sym none);
        empty = tt;
        others =
            passes.queued
            ∙ sym (set-get_or old.queues actor [])
            ∙ ap (λ (q : List Waiting). slice_set old.queues actor q) (ap (λ (qs : List (List Waiting)). queue_at qs actor) (sym passes.queued))
            ∙ sym (set-set old.queues actor (queue_at old.queues entry.actor.0 ++ record { operation = entry.operation; place = 0 } ∷ []) (queue_at new.queues actor))
            ∙ ap (λ (n : ℕ). slice_set (slice_set old.queues n (queue_at old.queues entry.actor.0 ++ record { operation = entry.operation; place = 0 } ∷ [])) actor (queue_at new.queues actor)) (sym whose);
        lines = refl;
        pending = refl;
      },
    )
