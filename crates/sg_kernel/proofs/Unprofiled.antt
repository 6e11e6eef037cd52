-- Calls don't depend on profiles.
use Rattle.std.proofs.Common.{◌≡◌, ℕ, Option, None, Some, Result, Ok, Err, List, refl, ap, ◌∙◌}
use Rattle.sg_base.specs.declared.call.Call.{Call}
use Rattle.sg_base.specs.declared.call.Call.TheVariants as call
use Rattle.sg_mailbox.specs.declared.sides.Post.{Post}
use Rattle.sg_mailbox.specs.Posts.{partner}
use Rattle.sg_profile.specs.declared.profile.Profile.{Profile}
use Rattle.sg_route.specs.Roads.{Roads}
use Rattle.sg_kernel_calls.specs.declared.meetings.Comer.{Comer}
use Rattle.sg_kernel_calls.specs.declared.stop.Stop.{Stop}
use Rattle.sg_kernel_calls.specs.Calls.{acts, answered}
use Rattle.sg_kernel_calls.specs.Meetings.{Meeting, arrives, comer_of, meeting_by, meeting_of, posts_at, unless_unrouted}
use Rattle.sg_kernel_calls.specs.Setup.{Setup}
use Rattle.sg_kernel_calls.specs.Steps.{Step, counted, unless_used}
use Rattle.sg_kernel_calls.specs.World.{Core}

module _ (setup : Setup) (profiles : List Profile) where
  found_same : (found : Option Post) (roads : Roads) (comer : Comer) → meeting_by found roads (record setup { profiles = profiles }) comer ≡ meeting_by found roads setup comer
  found_same None roads comer = refl
  found_same (Some post) roads comer = refl

  meeting_same : (one : Option Comer) (roads : Roads) (core : Core) → meeting_of roads (record setup { profiles = profiles }) core one ≡ meeting_of roads setup core one
  meeting_same None roads core = refl
  meeting_same (Some comer) roads core = found_same (partner comer.sends (posts_at comer.mailbox core)) roads comer

  arrives_same : (meeting : Option Meeting) (comer : Comer) (core : Core) → arrives meeting (record setup { profiles = profiles }) comer core ≡ arrives meeting setup comer core
  arrives_same None comer core = refl
  arrives_same (Some meeting) comer core = refl

  acts_same : (meeting : Option Meeting) (actor : ℕ) (what : Call) (core : Core) → acts meeting (record setup { profiles = profiles }) actor what core ≡ acts meeting setup actor what core
  acts_same meeting actor call.Ask core = refl
  acts_same meeting actor (call.Compute flops priority) core = refl
  acts_same meeting actor (call.Sleep ns) core = refl
  acts_same meeting actor (call.Send mailbox bytes msg rate) core = arrives_same meeting _ core
  acts_same meeting actor (call.Recv mailbox) core = arrives_same meeting _ core
  acts_same meeting actor (call.ISend mailbox bytes msg rate) core = arrives_same meeting _ core
  acts_same meeting actor (call.IRecv mailbox) core = arrives_same meeting _ core
  acts_same meeting actor call.Wait core = refl
  acts_same meeting actor (call.Lock mutex) core = refl
  acts_same meeting actor (call.Unlock mutex) core = refl
  acts_same meeting actor (call.Acquire semaphore) core = refl
  acts_same meeting actor (call.Release semaphore) core = refl
  acts_same meeting actor call.Barrier core = refl
  acts_same meeting actor (call.Create target) core = refl
  acts_same meeting actor (call.Join target) core = refl
  acts_same meeting actor (call.Kill target) core = refl
  acts_same meeting actor (call.Suspend target) core = refl
  acts_same meeting actor (call.Resume target) core = refl
  acts_same meeting actor call.Yield core = refl
  acts_same meeting actor call.Exit core = refl

  routed_same : (meeting : Result (Option Meeting) Stop) (actor : ℕ) (what : Call) (core : Core) →
      unless_unrouted meeting core (λ meeting. acts meeting (record setup { profiles = profiles }) actor what (counted core)) ≡ unless_unrouted meeting core (λ meeting. acts meeting setup actor what (counted core))
  routed_same (Err why) actor what core = refl
  routed_same (Ok meeting) actor what core = acts_same meeting actor what (counted core)

  pub answered_same : (roads : Roads) (core : Core) (actor : ℕ) (what : Call) → answered roads (record setup { profiles = profiles }) core actor what ≡ answered roads setup core actor what
  answered_same roads core actor what =
      ap (λ (step : Step). unless_used setup.budget core step)
      (ap (λ (m : Result (Option Meeting) Stop). unless_unrouted m core (λ meeting. acts meeting (record setup { profiles = profiles }) actor what (counted core))) (meeting_same (comer_of actor what) roads core)
      ∙ routed_same (meeting_of roads setup core (comer_of actor what)) actor what core)
