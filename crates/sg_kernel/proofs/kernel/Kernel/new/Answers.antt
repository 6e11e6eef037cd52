use Rattle.std.proofs.Common.{ℕ, List, [], length, replicate, ap, arith, ◌∙◌, refl}
use Rattle.sg_activity.specs.Doing.{Doing}
use Rattle.sg_requests.specs.Requested.{Requested}
use Rattle.sg_platform_rows.specs.declared.rows.ActorRow.{ActorRow}
use Rattle.sg_actor_states.specs.States.{ActorStates}
use Rattle.sg_kernel_calls.specs.declared.simulation_state.Fields.{Fields}
use Rattle.sg_kernel.specs.Start.{first_objects}
use Rattle.sg_kernel.specs.kept.First.{first_states}
use Rattle.sg_kernel.proofs.Firsts.{IsFirst, first_is, first_meeting, first_held, first_limited, first_roomy, first_sound, first_timely}
use Rattle.sg_kernel.proofs.kernel.Kernel.new.Goals.{After-new-5}
use Rattle.sg_kernel.proofs.kernel.Kernel.new.Goals as goal

-- what is made
abbrev made : After-new-5 → Fields
made c = record {
  setup = c.in_ok-setup.setup;
  doing = c.in_ok-doing.doing;
  states = c.in_ok-states.states;
  whose = c.new-4.result;
  boxes = c.in_ok-boxes.boxes;
  requests = c.in_ok-requests.requests;
  objects = c.in_ok-objects.objects;
  profiles = c.in_ok-profiles.profiles;
  events = 0;
}

abbrev fresh : ℕ → Requested
fresh actors = record { queues = replicate actors []; asked = 0; room = 0; awaited = [] }

first : (c : After-new-5) → IsFirst c.args.platform.now c.args.deployment.now c.args.budget (made c)
first c = record {
  setup = c.in_ok-setup.ensures;
  doing = c.in_ok-doing.ensures;
  states = c.in_ok-states.ensures ∙ ap first_states c.in_ok-setup.ensures;
  whose = c.new-4.ensures;
  boxes = c.in_ok-boxes.ensures.empty;
  requests = c.in_ok-requests.ensures ∙ ap (λ (rows : List ActorRow). fresh (length rows)) c.actors.ensures.rows;
  objects = c.in_ok-objects.ensures ∙ ap first_objects c.in_ok-setup.ensures;
  profiles = c.in_ok-profiles.ensures.table;
  events = refl;
}

pub returns : goal.returns
returns c = first_is c.args.platform.now c.args.deployment.now c.args.budget (made c) (first c)

pub invariant_of-result : goal.invariant_of-result
invariant_of-result c =
    let platform = c.args.platform.now in
    let deployed = c.args.deployment.now in
    let budget = c.args.budget in
    let fields = made c in
    let is = first c in
    record {
      sound = first_sound platform deployed budget fields is c.requires.budget;
      roomy = first_roomy platform deployed budget fields is;
      dated = omega (arith, ap (λ (d : Doing). d.under.date) is.doing);
      timely = first_timely platform deployed budget fields is c.in_ok-profiles.ensures.kept;
      limited = first_limited platform deployed budget fields is;
      meeting = first_meeting platform deployed budget fields is;
      held = first_held platform deployed budget fields is c.actors.ensures.kept;
      round = ap (λ (q : ActorStates). q.passing) is.states;
    }
