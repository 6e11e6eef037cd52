-- The setup of a setting.
use Rattle.std.specs.Prelude.{◌≡◌, ◌≢◌, ◌≤◌, ℕ, Bool, Result, Ok, Err}
use Rattle.sg_engine.specs.declared.setup.Setup.{Setup}
use Rattle.sg_platform_rows.specs.Deployment.{started_number}
use Rattle.sg_words.specs.declared.job.Job.{Job}
use Rattle.simgrid_replay.specs.PartSources.{request_of}
use Rattle.simgrid_replay.specs.Requests.{has_script}
use Rattle.simgrid_replay.specs.Settings.{Setting}
use Rattle.simgrid_replay.specs.declared.refusal.Refusal.{Refusal}
use Rattle.simgrid_replay.specs.declared.refusal.Refusal.TheVariants as refusal

abbrev pub setting_in : Setup → Setting
setting_in setup = record { platform = setup.platform; deployment = setup.deployment }

-- a setup of what is to be run, or the refusal of it, or memory ran out
abbrev pub IsSetupOf : Result Setting Refusal → Result Setup Refusal → Type 0
IsSetupOf given (Ok setup) = given ≡ Ok (setting_in setup)
IsSetupOf given (Err why) = why ≢ refusal.Memory → given ≡ Err why

-- a setup with a script or without, whose actors that begin with the run have a context each
pub record IsSetupFor (scripted : Bool) (contexts : ℕ) (setup : Setup) : Type 0 where
  pub script : setup.script ≡ scripted
  pub seated : started_number setup.deployment ≤ contexts

-- the same of a job
abbrev pub IsSetupOfJob : Job → ℕ → Setup → Type 0
IsSetupOfJob job contexts setup = IsSetupFor (has_script (request_of job)) contexts setup
