-- In each core that a run reaches who waits for an activity takes part in it.
use Rattle.std.proofs.Common.{◌⊎◌, ◌-◌, inl, inr, [], length, refl}
use Rattle.sg_activity.specs.Links.{Capacities}
use Rattle.sg_route.specs.Roads.{Roads, roads_of}
use Rattle.sg_kernel.specs.Start.{first_core}
use Rattle.sg_kernel_calls.specs.Setup.{setup_of, Setup}
use Rattle.sg_kernel_calls.specs.World.{Core, whose_at}
use Rattle.sg_kernel_laws.proofs.failure_lemmas.Others.{none_asked, none_blocked}
use Rattle.sg_engine_laws.specs.awaits.Reached.{Reaches, Reached, here, calls, creates, asks, passes}
use Rattle.sg_engine_laws.specs.awaits.Runs.{Run, IsCoreOf}
use Rattle.sg_engine_laws.proofs.await_lemmas.Runs.{runs_are_reached}
use Rattle.sg_engine_laws.specs.changes.Theirs.{AwaitedAreDrawn, NobodyWaitsForOver, PartOf}
use Rattle.sg_engine_laws.proofs.change_lemmas.CalledParts.{awaited_belong, parts_answered, parts_created, parts_told}
use Rattle.sg_engine_laws.proofs.change_lemmas.Finished.{parts_passed}
use Rattle.sg_engine_laws.proofs.change_lemmas.Theirs.{IsAsked, IsPart, Nobody, TakePart}

first_parts : (capacities : Capacities) (setup : Setup) → TakePart Nobody (first_core capacities setup)
first_parts capacities setup = record {
  numbered = refl;
  waits = λ actor since what on from e. absurd (none_blocked setup.starts (actor - 1) since what on e);
  asked = λ actor from. none_asked (IsAsked [] actor) (length setup.homes) (actor - 1);
  posted = λ place is. refl;
}

led_parts : (roads : Roads) (setup : Setup) (start : Core) → TakePart Nobody start → {core : Core} → Reaches roads setup start core → TakePart Nobody core
led_parts roads setup start p here = p
led_parts roads setup start p (calls {core = core} led actor what may) = parts_answered roads setup core actor what may.from (led_parts roads setup start p led)
led_parts roads setup start p (creates {core = core} led given actor target may fresh) = parts_created given actor target core (led_parts roads setup start p led)
led_parts roads setup start p (asks {core = core} led actor action may) = parts_told setup core actor action (led_parts roads setup start p led)
led_parts roads setup start p (passes {core = core} led) = parts_passed setup core (led_parts roads setup start p led)

pub reached_parts : (roads : Roads) (setup : Setup) (core : Core) → Reached roads setup core → TakePart Nobody core
reached_parts roads setup core r = led_parts roads setup (first_core r.capacities setup) (first_parts r.capacities setup) r.way

pub run_parts : (run : Run) (core : Core) → IsCoreOf run core → TakePart Nobody core
run_parts run core of_run = reached_parts (roads_of run.platform) (setup_of run.platform run.deployed run.budget) core (runs_are_reached run core of_run)

pub nobody_waits_for_over : NobodyWaitsForOver
nobody_waits_for_over run core of_run actor since what on from blocked = by ((run_parts run core of_run).waits actor since what on from blocked)
  where
    by : IsPart core.whose actor on ⊎ ⊥ → PartOf actor (whose_at core on.serial.0) on.party
    by (inl is) = is.part
    by (inr none) = absurd none

pub awaited_are_drawn : AwaitedAreDrawn
awaited_are_drawn run core of_run target from k d within = (awaited_belong target.0 target core from refl (run_parts run core of_run) k d within).0
