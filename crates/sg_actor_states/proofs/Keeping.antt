-- What always holds of the fields, as one actor's state changes.
use Rattle.std.proofs.Common.{◌≡◌, ℕ, ◌+◌, ◌-◌, ◌<◌, ◌≤◌, Bool, true, false, true≢false, cond, IsTrue, None, List, [], ◌∷◌, length, map, get_or, refl, sym, ap, subst, ◌∙◌, arith}
use Rattle.std.specs.Prelude.{All, count_by}
use Rattle.std.proofs.lemmas.List.{length-map, length-set}
use Rattle.std.proofs.lemmas.List.Elements.{All-map, All-set}
use Rattle.sg_base.specs.Limits.{Extent}
use Rattle.sg_base.specs.declared.trace_record.Record.{Record}
use Rattle.sg_actor_states.specs.declared.state.Actor.{Actor}
use Rattle.sg_actor_states.specs.declared.state.State.{State}
use Rattle.sg_actor_states.specs.declared.state.State.TheVariants.{Unstarted, Ready, Blocked, Ended}
use Rattle.sg_actor_states.specs.Actors.{first_actor, is_answered, is_blocked, joined_in, not_suspended, put_actor, state_at, IsActor}
use Rattle.sg_actor_states.specs.Records.{AreRecords}
use Rattle.sg_actor_states.specs.States.{ActorStates, KeepsLimits}
use Rattle.sg_actor_states.specs.kept.Fields.{IsKept}
use Rattle.sg_actor_states.proofs.Counts.{count-cons, count_set}

abbrev pub one_if : Bool → ℕ
one_if b = cond b 1 0

abbrev pub blocks : Actor → Bool
blocks actor = is_blocked actor.state

-- ---- what is known of an actor by its state
pub answered_idle : (s : State) → IsTrue (is_answered s) → (one_if (is_blocked s) ≡ 0) × (joined_in s ≡ None)
answered_idle Unstarted e = absurd (true≢false (sym e))
answered_idle (Ready a) e = (refl, refl)
answered_idle (Blocked c w o) e = absurd (true≢false (sym e))
answered_idle Ended e = absurd (true≢false (sym e))

-- ---- an actor becomes another, with what goes with it
pub kept_change : (states : ActorStates) (made fits now will : ℕ) (actor : ℕ) (next : Actor) (actors : List Actor) (records : List Record) (room : ℕ) (passing trimmed : Bool) → IsActor states.actors actor → actors ≡ put_actor states.actors actor next → KeepsLimits states.extent next.state → AreRecords states.extent records
    → will ≡ fits → now + room + one_if (is_blocked next.state) ≤ made + states.room + one_if (is_blocked (state_at states.actors actor))
    → IsKept states made fits → IsKept (record { extent = states.extent; actors = actors; records = records; room = room; passing = passing; trimmed = trimmed }) now will
kept_change states made fits now will actor next actors records room passing trimmed is same limited told alike less was =
    let place : actor - 1 < length states.actors = omega (arith, is.from, is.to) in
    let counted : count_by blocks actors + one_if (is_blocked (state_at states.actors actor)) ≡ count_by blocks states.actors + one_if (is_blocked next.state) =
    ap (λ xs. count_by blocks xs + one_if (is_blocked (state_at states.actors actor))) same ∙ count_set blocks states.actors (actor - 1) next (not_suspended Ended) place in
    record {
      number = ap length same ∙ (length-set states.actors (actor - 1) next ∙ was.number);
      actors_limited = subst (All (λ (a : Actor). KeepsLimits states.extent a.state)) (sym same) (All-set (λ (a : Actor). KeepsLimits states.extent a.state) states.actors (actor - 1) next limited was.actors_limited);
      records_limited = told;
      records_fit = omega (arith, less, alike, counted, was.records_fit);
    }

-- ---- at the beginning
first_limited : (extent : Extent) (b : Bool) → KeepsLimits extent (first_actor b).state
first_limited extent true = tt
first_limited extent false = tt

first_free : (b : Bool) → is_blocked (first_actor b).state ≡ false
first_free true = refl
first_free false = refl

none_blocked : (starts : List Bool) → count_by blocks (map first_actor starts) ≡ 0
none_blocked [] = refl
none_blocked (b ∷ more) = omega (arith, count-cons blocks (first_actor b) (map first_actor more), none_blocked more, ap one_if (first_free b))

pub kept_first : (extent : Extent) (starts : List Bool) (actors : List Actor) (records : List Record) (passing trimmed : Bool) (made room : ℕ) → extent.actors ≡ length starts → actors ≡ map first_actor starts → records ≡ [] → made ≡ 0
    → IsKept (record { extent = extent; actors = actors; records = records; room = 0; passing = passing; trimmed = trimmed }) made room
kept_first extent starts actors records passing trimmed made room many same none zero_made = record {
  number = ap length same ∙ (length-map starts first_actor ∙ sym many);
  actors_limited = subst (All (λ (a : Actor). KeepsLimits extent a.state)) (sym same) (All-map (λ (a : Actor). KeepsLimits extent a.state) first_actor starts (λ k d within. first_limited extent (get_or starts k d)));
  records_limited = subst (AreRecords extent) (sym none) (λ k d within. absurd (omega (arith, within)));
  records_fit = omega (arith, zero_made, ap (count_by blocks) same, none_blocked starts);
}
