-- The counts of fetched lines never fall.
use Rattle.std.proofs.Common.{◌≡◌, ◌≤◌, ◌∙◌, arith, ap, refl, ℕ, Bool, false, cond, Option, Some, Result, Ok, Err}
use Rattle.std.specs.Prelude.{◌==◌}
use Rattle.sg_base.specs.declared.call.Action.{Action}
use Rattle.sg_kernel_calls.specs.Setup.{Setup}
use Rattle.sg_script.specs.Fetched.{fetches_of, one_more}
use Rattle.sg_script.specs.declared.fault.ScriptFault.{ScriptFault}
use Rattle.sg_script.proofs.Counting.{one_more_rises}
use Rattle.sg_engine.specs.World.{World}
use Rattle.sg_engine.specs.Run.{Answering, answer_step, ask_step, at_world}
use Rattle.sg_engine.proofs.Runs.{Keeps}
use Rattle.sg_engine.specs.declared.ended.Ended.TheVariants as ended

-- no actor has fetched fewer lines
abbrev pub FetchesNoLess : World → World → Type 0
FetchesNoLess old new = (x : ℕ) → fetches_of old.fetched x ≤ fetches_of new.fetched x

answer_fetches : (setup : Setup) (actor : ℕ) (result : Result (Option Action) ScriptFault) (world : World) → (answer_step setup actor result world).world.fetched ≡ world.fetched
answer_fetches setup actor (Ok action) world = refl
answer_fetches setup actor (Err why) world = refl

-- a fetch that was answered or refused was made
pub fetch_made : (setup : Setup) (answers : Answering) (actor : ℕ) (world : World) → (world.core.events == setup.budget) ≡ false → (ask_step setup answers actor world).world.fetched ≡ one_more actor world.fetched
fetch_made setup answers actor world unused =
    let next : World = record world { fetched = one_more actor world.fetched } in
    ap (λ (b : Bool). (cond b (at_world (Some ended.Budget) world) (answer_step setup actor (answers actor (fetches_of world.fetched actor)) next)).world.fetched) unused
    ∙ answer_fetches setup actor (answers actor (fetches_of world.fetched actor)) next

pub fetches_rise : Keeps FetchesNoLess
fetches_rise = record {
  same = λ world x. omega arith;
  then = λ old mid new first second x. omega (arith, first x, second x);
  fetches = λ world actor x. omega (arith, one_more_rises actor world.fetched x);
  turns = λ world minds x. omega arith;
  begins = λ world minds n x. omega arith;
  steps = λ world core x. omega arith;
  works = λ world n x. omega arith;
}
