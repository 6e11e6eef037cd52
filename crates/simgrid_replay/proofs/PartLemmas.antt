-- What a part says that was read whole, and one that is too long.
use Rattle.std.proofs.Common.{◌≡◌, ◌<◌, ◌≤◌, ◌∙◌, sym, ap, ap₂, subst, refl, ℕ, Bool, List, [], length, Option, Some, None, true, false, Result, Ok, arith}
use Rattle.std.proofs.Common as C
use Rattle.std.proofs.lemmas.Bool.Decides.{nat_tests}
use Rattle.std.specs.Prelude.{◌≢◌, IfSome}
use Rattle.std.specs.Result.{result_map_both}
use Rattle.sg_edge.specs.Files.{PartView, IsNamed, Only, TakesUpTo, before}
use Rattle.sg_edge.specs.Sources.{Source}
use Rattle.sg_edge.specs.declared.files.Part.{Part}
use Rattle.sg_edge.specs.declared.files.Part.TheVariants as part
use Rattle.sg_words.specs.CommandLine.{Request}
use Rattle.simgrid_replay.specs.PartSources.{IsNamedBy, source_name}
use Rattle.sg_engine.specs.declared.setup.Setup.{Setup}
use Rattle.sg_platform_rows.specs.Deployment.{Deployed}
use Rattle.sg_platform.specs.DeploymentOf.{deployment_of}
use Rattle.sg_platform_rows.specs.Platform.{Platform}
use Rattle.sg_platform.specs.PlatformOf.{platform_of, too_long}
use Rattle.simgrid_replay.specs.Settings.{platform_given, deployment_given, or_platform_fault, unless_refused, on_platform, fitting, Setting}
use Rattle.simgrid_replay.specs.kept.Setups.{setting_in}
use Rattle.simgrid_replay.specs.declared.refusal.Refusal.{Refusal}
use Rattle.simgrid_replay.specs.declared.refusal.Refusal.TheVariants as refusal

-- a part that was read whole is what its text says
pub platform_whole : (source : Source) (bytes : List ℕ) → (source.bytes ≡ bytes) × (source.broken ≡ false) × (length bytes ≤ 16777216) → or_platform_fault (platform_of bytes) ≡ platform_given source
platform_whole source bytes loaded = rw (loaded.0, loaded.1) (grind (arith, nat_tests))

pub deployment_whole : (source : Source) (bytes : List ℕ) (p : Platform) → (source.bytes ≡ bytes) × (source.broken ≡ false) × (length bytes ≤ 16777216) → result_map_both (λ deployed. deployed) refusal.Deployment (deployment_of bytes p) ≡ deployment_given p source
deployment_whole source bytes p loaded = rw (loaded.0, loaded.1) (grind (arith, nat_tests))

-- a text over the limit is refused as a whole
pub long_platform : (bytes : List ℕ) → 16777216 < length bytes → platform_of bytes ≡ C.Err (Some too_long)
unfolding platform_of
long_platform bytes long = grind (arith, nat_tests)

pub long_deployment : (bytes : List ℕ) (p : Platform) → 16777216 < length bytes → deployment_of bytes p ≡ C.Err (Some too_long)
unfolding deployment_of
long_deployment bytes p long = grind (arith, nat_tests)

pub platform_too_long : (source : Source) → 16777216 < length source.bytes → C.Err (refusal.Platform (Some too_long)) ≡ platform_given source
platform_too_long source long =
    let is : platform_of source.bytes ≡ C.Err (Some too_long) = long_platform source.bytes long in
    rw is (grind (arith, nat_tests))

pub deployment_too_long : (source : Source) (p : Platform) → 16777216 < length source.bytes → C.Err (refusal.Deployment (Some too_long)) ≡ deployment_given p source
deployment_too_long source p long =
    let is : deployment_of source.bytes p ≡ C.Err (Some too_long) = long_deployment source.bytes p long in
    rw is (grind (arith, nat_tests))

-- what is deployed suits its run, so it is the setting
pub settled_on : (p q : Platform) (script : Bool) (contexts : ℕ) (d : Source) (deployed fit : Deployed) (setup : Setup) → q ≡ p → Ok deployed ≡ deployment_given q d → Ok fit ≡ fitting script contexts deployed →
    setup.platform ≡ p → setup.deployment ≡ fit → on_platform p (unless_refused (fitting script contexts) (deployment_given p d)) ≡ Ok (setting_in setup)
settled_on p q script contexts d deployed fit setup same is suits on with =
    let known : deployment_given p d ≡ Ok deployed = ap (λ (x : Platform). deployment_given x d) (sym same) ∙ sym is in
    let made : Platform → Deployed → Result Setting Refusal = λ a b. Ok (record { platform = a; deployment = b }) in
    ap (λ (r : Result Deployed Refusal). on_platform p (unless_refused (fitting script contexts) r)) known ∙ ap (on_platform p) (sym suits) ∙ ap₂ made (sym on) (sym with)

-- a part that has no name is named as one likes
pub nameless : (name : List ℕ) (view : PartView) → view.name ≡ None → IsNamed name view
nameless name view is = subst (λ (told : Option (List ℕ)). IfSome told (λ n. n ≡ name)) (sym is) tt

-- of a part to which nothing was done nothing was taken
pub takes_none : (most : ℕ) (old new : PartView) → new ≡ old → TakesUpTo most old new
takes_none most old new same = subst (λ (v : PartView). TakesUpTo most old v) (sym same) (record { bytes = []; left = sym (before-nil old.left); few = grind (arith, nat_tests) })
  where
    before-nil : (left : Option (List ℕ)) → before [] left ≡ left
    before-nil None = refl
    before-nil (Some rest) = refl

-- the platform and the deployment are the parts that aren't the script
pub bounded_parts : (most : ℕ) (old new : Part → PartView) → TakesUpTo most (old part.Platform) (new part.Platform) → TakesUpTo most (old part.Deployment) (new part.Deployment)
    → (which : Part) → which ≢ part.Script → TakesUpTo most (old which) (new which)
bounded_parts most old new p d part.Platform other = p
bounded_parts most old new p d part.Deployment other = d
bounded_parts most old new p d part.Script other = absurd (other refl)

-- nothing was done after the platform
pub only_platform : (old new : Part → PartView) → new part.Deployment ≡ old part.Deployment → new part.Script ≡ old part.Script → Only part.Platform old new
only_platform old new d s part.Platform other = absurd (other refl)
only_platform old new d s part.Deployment other = d
only_platform old new d s part.Script other = s

pub nameless_by : (request : Request) (part : Part) (view : PartView) → view.name ≡ None → IsNamedBy request part view
nameless_by request part view is = by_name (source_name request part)
  where
    by_name : (name : Option (List ℕ)) → IfSome name (λ n. IsNamed n view)
    by_name None = tt
    by_name (Some n) = nameless n view is

-- a part that keeps its name is named as before
pub named_on : (request : Request) (part : Part) (old new : PartView) → new.name ≡ old.name → IsNamedBy request part old → IsNamedBy request part new
named_on request part old new same named = subst (λ (told : Option (List ℕ)). IfSome (source_name request part) (λ name. IfSome told (λ n. n ≡ name))) (sym same) named

-- each part is one of the three
pub named_parts : (request : Request) (views : Part → PartView) → IsNamedBy request part.Platform (views part.Platform) → IsNamedBy request part.Deployment (views part.Deployment) → IsNamedBy request part.Script (views part.Script)
    → (which : Part) → IsNamedBy request which (views which)
named_parts request views p d s part.Platform = p
named_parts request views p d s part.Deployment = d
named_parts request views p d s part.Script = s
