-- What the platform and the deployment are, by what their parts gave.
use Rattle.std.specs.Prelude.{◌+◌, ◌&&◌, ℕ, Bool, length, Option, None, Result, Ok, Err, if◌then◌else◌, true, nat_le, nat_lt, position}
use Rattle.std.specs.Option.{option_map_or}
use Rattle.std.specs.Result.{result_map_both}
use Rattle.sg_platform_churn.specs.Generated.{platform_of_seed, deployed_of_seed}
use Rattle.sg_edge.specs.Sources.{Source}
use Rattle.sg_kernel_calls.specs.Setup.{replays}
use Rattle.sg_platform_rows.specs.Deployment.{Deployed, started_number}
use Rattle.sg_platform.specs.DeploymentOf.{deployment_of}
use Rattle.sg_platform_rows.specs.Platform.{Platform}
use Rattle.sg_platform.specs.PlatformOf.{platform_of, greatest_text}
use Rattle.sg_toml_tree.specs.declared.fault.Fault.{Fault}
use Rattle.sg_words.specs.CommandLine as line
use Rattle.sg_words.specs.CommandLine.{Request}
use Rattle.sg_zones.specs.Faults.{zones_of}
use Rattle.simgrid_replay.specs.Requests.{has_script}
use Rattle.simgrid_replay.specs.declared.refusal.Refusal.{Refusal}
use Rattle.simgrid_replay.specs.declared.refusal.Refusal.TheVariants as refusal

-- a platform stands if its text and then its zones have no fault
abbrev pub or_platform_fault : Result Platform (Option Fault) → Result Platform Refusal
or_platform_fault (Ok platform) = result_map_both (λ tree. platform) refusal.Zones (zones_of platform)
or_platform_fault (Err fault) = Err (refusal.Platform fault)

-- a text over the limit is refused whatever follows it, else a failed read is reported, else what the text says
abbrev pub platform_given : Source → Result Platform Refusal
platform_given source =
    if source.broken && nat_le (length source.bytes) greatest_text then Err refusal.ReadPlatform else or_platform_fault (platform_of source.bytes)

-- the deployment that the bytes read describe, or the refusal: the limit first, then a failed read
abbrev pub deployment_given : Platform → Source → Result Deployed Refusal
deployment_given platform source =
    if source.broken && nat_le (length source.bytes) greatest_text then Err refusal.ReadDeployment
    else result_map_both (λ deployed. deployed) refusal.Deployment (deployment_of source.bytes platform)

-- ---- what is run
-- a platform, all its rows, those of profiles among them, and what is deployed on it
pub record Setting : Type 0 where
  pub platform : Platform
  pub deployment : Deployed

-- without a script no actor may replay, and there must be a context for each actor that begins with the run
abbrev pub fitting : Bool → ℕ → Deployed → Result Deployed Refusal
fitting script contexts d =
    option_map_or (λ row. Err (refusal.ReplayUnderRun (row + 1))) (if script then None else position replays d.actors)
    (if nat_lt contexts (started_number d) then Err (refusal.TooFewContexts (started_number d) contexts) else Ok d)

-- the platform with what is deployed on it, or the refusal of the deployment
abbrev pub on_platform : Platform → Result Deployed Refusal → Result Setting Refusal
on_platform platform = result_map_both (λ deployed. record { platform = platform; deployment = deployed }) (λ why. why)

-- what is made of what was accepted; a refusal stays
abbrev pub unless_refused : {X Y : Type 0} → (X → Result Y Refusal) → Result X Refusal → Result Y Refusal
unless_refused make (Ok accepted) = make accepted
unless_refused make (Err why) = Err why

-- what is run on a platform, by what the deployment gave
abbrev pub setting_on : Bool → ℕ → Source → Platform → Result Setting Refusal
setting_on script contexts d platform = on_platform platform (unless_refused (fitting script contexts) (deployment_given platform d))

-- what is run for a request, by what the platform and the deployment gave; the first refusal is reported
abbrev pub setting : Request → ℕ → Source → Source → Result Setting Refusal
setting (line.churn seed actors steps) contexts p d =
    on_platform (platform_of_seed seed actors) (fitting true contexts (deployed_of_seed seed actors steps))
setting request contexts p d = unless_refused (setting_on (has_script request) contexts d) (platform_given p)
