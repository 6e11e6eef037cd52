-- An actor that fetched its next line is answered.
use Rattle.std.proofs.Common.{◌≡◌, ℕ, ◌+◌, ◌<◌, Option, Ok, [], refl, sym, subst, ◌∙◌}
use Rattle.sg_base.specs.declared.call.Action.{Action}
use Rattle.sg_base.specs.declared.call.Answer.{Answer}
use Rattle.sg_kernel_calls.specs.declared.simulation_state.Fields.{Fields}
use Rattle.sg_kernel_calls.specs.Calls.{answer_of_ask, told}
use Rattle.sg_kernel_calls.specs.Steps.{counted, goes_on, readied}
use Rattle.sg_kernel_calls.specs.kept.Acts.{Becomes, CountsOne, Replies}
use Rattle.sg_kernel_calls.specs.kept.Sound.{core_of, known_of, setup_in}
use Rattle.sg_kernel_calls.specs.kept.Whole.{CanConclude, IsWhole}
use Rattle.sg_actor_states.specs.Actors.{MayCall}
use Rattle.sg_kernel_calls.proofs.Each.{called_alone}
use Rattle.sg_kernel_calls.proofs.Moves.{can_conclude, can_step}
use Rattle.sg_kernel_calls.proofs.Replied.{counted_replies}

pub can_tell : (old mid : Fields) (actor : ℕ) → CountsOne old mid → IsWhole old → MayCall old.states.actors actor → 0 < old.states.room → CanConclude mid actor
can_tell old mid actor counts whole caller room =
    subst (λ (fields : Fields). CanConclude fields actor) (sym counts.counted) (can_conclude (record old { events = old.events + 1 }) actor (can_step old actor whole caller room counts.left))

pub tell_replies : (old mid new : Fields) (actor : ℕ) (action : Option Action) (answer : Answer) → answer_of_ask action ≡ answer → CountsOne old mid → Becomes (readied actor answer) mid new → Replies (told (setup_in old) (core_of old) actor action) old new (Ok tt)
tell_replies old mid new actor action answer is counts made =
    let told_so = subst (λ (a : Answer). Becomes (readied actor a) mid new) (sym is) made in
    counted_replies old mid new (goes_on (readied actor (answer_of_ask action) (counted (core_of old))) []) (λ setup core. goes_on (readied actor (answer_of_ask action) core) []) counts refl refl
    (record { known = told_so.known ∙ called_alone (known_of mid) (readied actor (answer_of_ask action) (core_of mid)); whole = told_so.whole })
