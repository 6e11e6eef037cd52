use Rattle.std.proofs.Common.{◌≡◌, ◌+◌, ◌<◌, ◌≤◌, ℕ, List, length, false, get_or}
use Rattle.sg_edge.specs.declared.files.Part.TheVariants.{Script}
use Rattle.sg_engine.specs.World.{World}
use Rattle.sg_script.specs.Known.{known_in}
use Rattle.sg_engine.specs.declared.actor_call.ActorCall.{ActorCall}
use Rattle.sg_engine.specs.kept.CallList.{calls_of}
use Rattle.sg_engine.specs.kept.Invariant.{cast_in, IsManned, TakesCrew}
use Rattle.sg_engine.specs.kept.Moments.{moment_of, Fits, IsFree, IsStretch, ReadsScript, StandsFor}
use Rattle.sg_engine.specs.Roles.{firsts_of}
use Rattle.sg_engine.specs.Run.{scene}
use Rattle.sg_engine.proofs.Calls.{rest_from}
use Rattle.sg_engine.proofs.answers.answer_calls.Given as goal

abbrev pub invariant-loop-place : goal.invariant-loop-place
invariant-loop-place g l =
    let at = scene l.fn.router l.fn.sim.kernel.setup (firsts_of l.plan.deployment.now) l.plan.script in
    let made = l.fn.sim.calls.items in
    let first = moment_of l.plan.script (g.F.Files.shows l.fn.files Script) l.fn.sim.script l.fn.sim.kernel in
    let now = moment_of l.plan.script (g.F.Files.shows l.files Script) l.sim.script l.sim.kernel in
    record {
      reached : (taken : List ℕ) (world : World) → StandsFor (known_in l.plan.deployment.now) taken (cast_in (λ b. (goal.Actor-dyn g (b.vtable, b.value)).mind b.value) l.fn.sim) first world →
          IsStretch world.work (known_in l.plan.deployment.now) (λ answers. calls_of at answers made world) (rest_from at made l.place) taken (cast_in (λ b. (goal.Actor-dyn g (b.vtable, b.value)).mind b.value) l.sim) first now;
      fits : Fits l.plan.deployment.now now;
      script : ReadsScript g.F.Files.shows l.plan.script l.fn.files l.files;
      router : l.router ≡ l.fn.router;
      setup : l.sim.kernel.setup ≡ l.fn.sim.kernel.setup;
      room : length made ≤ l.sim.kernel.room + l.place;
      calls : l.sim.calls ≡ l.fn.sim.calls;
      buffer : l.sim.buffer ≡ l.fn.sim.buffer;
      seats : length l.sim.seats.items ≡ length l.fn.sim.seats.items;
      manned : IsManned (λ b. (goal.Actor-dyn g (b.vtable, b.value)).mind b.value) l.sim;
      crew : TakesCrew false l.fn.sim l.sim;
      callers : (j : ℕ) (d : ActorCall) → l.place ≤ j → j < length made → IsFree l.sim.kernel.core (get_or made j d).actor.0;
    }
