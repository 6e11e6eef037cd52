-- What the fetches of a script, their answers, and its collectives keep to.
use Rattle.std.specs.Prelude.{◌≡◌, ◌==◌, ◌≤◌, ◌+◌, ◌++◌, ℕ, Bool, false, List, count_by, Err}
use Rattle.sg_base.specs.declared.call.Action.{Action}
use Rattle.sg_base.specs.declared.call.Action.TheVariants.{ISend, IRecv, Recv, Send}
use Rattle.sg_collectives.specs.declared.collective.Collective.{Collective}
use Rattle.sg_edge.specs.Files.{PartView}
use Rattle.sg_edge.specs.Sources.{Source}
use Rattle.sg_platform_rows.specs.Deployment.{Deployed, members_among}
use Rattle.sg_script.specs.Answer.{answer_of}
use Rattle.sg_script.specs.Fetched.{fetches_of, one_more}
use Rattle.sg_script.specs.Known.{ScriptNames}
use Rattle.sg_script.specs.Needed.{needed_by}
use Rattle.sg_script.specs.declared.operation.Operation.TheVariants.{Together}
use Rattle.sg_script.specs.Operation.{actions_for}
use Rattle.sg_script.specs.Stands.{AreNeeded, IsNearNeed, IsWithinNeed, Reads}
use Rattle.sg_script.specs.declared.fault.ScriptFault.{ScriptFault}

-- a fault is reported again to each later fetch
abbrev pub FaultsRepeat : Type 0
FaultsRepeat = (known : ScriptNames) (source : Source) (actor earlier later : ℕ) (fault : ScriptFault) →
    earlier ≤ later → answer_of known source actor earlier ≡ Err fault →
    answer_of known source actor later ≡ Err fault

-- If less than a piece more was taken than the fetches of a run need, and the next fetch takes
-- less than a piece more than it needs, so it is with that fetch.
abbrev pub NeedsAddUp : Type 0
NeedsAddUp = (known : ScriptNames) (taken piece fetched : List ℕ) (actor : ℕ)
    (old new : PartView) → Reads piece old new → AreNeeded known taken old.stage fetched →
    IsNearNeed known taken piece new.stage actor (fetches_of fetched actor) →
    AreNeeded known (taken ++ piece) new.stage (one_more actor fetched)

-- bytes that are less than a piece more than one of the fetches needs are less than a piece more
-- than all of them need
abbrev pub NeedIsMost : Type 0
NeedIsMost = (known : ScriptNames) (source : Source) (fetched : List ℕ) (count : ℕ) →
    IsWithinNeed known source fetched count → count ≤ needed_by known source fetched + 4095

-- ---- collectives
-- whether an action sends to an actor, with or without waiting, and whether it receives from one
abbrev pub sends_to : ℕ → Action → Bool
sends_to to (Send peer bytes rate) = peer.0 == to
sends_to to (ISend peer bytes rate) = peer.0 == to
sends_to to other = false

abbrev pub receives_from : ℕ → Action → Bool
receives_from from (Recv peer) = peer.0 == from
receives_from from (IRecv peer) = peer.0 == from
receives_from from other = false

-- for every collective of a deployment and every two actors, the one sends to the other as often as
-- that one receives from it
abbrev pub CollectivesMeet : Type 0
CollectivesMeet = (deployed : Deployed) (collective : Collective) (a b : ℕ) →
    count_by (sends_to b) (actions_for (members_among deployed.actors) a (Together collective))
    ≡ count_by (receives_from a) (actions_for (members_among deployed.actors) b (Together collective))
