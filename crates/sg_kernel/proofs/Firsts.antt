-- All that is kept holds when a simulation begins.
use Rattle.std.proofs.Common.{◌≡◌, ◌≤◌, ◌+◌, ◌^◌, ℕ, ◌-◌, zero, suc, Bool, true≢false, Option, None, Some, option_map, List, [], ◌∷◌, length, map, replicate, get_or, sym, ap, subst, ◌∙◌, arith, true, false}
use Rattle.std.specs.Prelude.{All, IfSome}
use Rattle.std.specs.List.{flat_map}
use Rattle.std.proofs.lemmas.List.{length-map, length-replicate}
use Rattle.std.proofs.Math.Nat.{mul-le-mul_left}
use Rattle.std.proofs.lemmas.List.Elements.{All-nil, All-cons, All-append, All-map, All-replicate}
use Rattle.sg_base.specs.declared.ids.ActorId.{ActorId}
use Rattle.sg_base.specs.declared.ids.BoxId.{BoxId}
use Rattle.sg_base.specs.Limits.{Extent}
use Rattle.sg_activity.specs.Doing.{Doing, idle_on}
use Rattle.sg_activity.specs.Hosts.{IsPower}
use Rattle.sg_activity.specs.Links.{IsLink}
use Rattle.sg_mailbox.specs.Posts.{waiters}
use Rattle.sg_profile.specs.Profiles.{AreProfiles, Timetable, first_table, profiles_in}
use Rattle.sg_profile.proofs.Ahead.{ahead_at_first}
use Rattle.sg_platform_rows.specs.Deployment.{Deployed, IsDeployment, starts}
use Rattle.sg_platform_rows.specs.Ends.{link_ends}
use Rattle.sg_platform_rows.specs.Network.{IsNetwork, bandwidth_over}
use Rattle.sg_platform_rows.specs.Platform.{Platform, IsLinkRow, counts_of}
use Rattle.sg_platform_rows.specs.Platform.{IsPower as IsPowerRow}
use Rattle.sg_platform_rows.specs.declared.rows.Power as rows
use Rattle.sg_platform_rows.specs.declared.network.Network.{Network}
use Rattle.sg_platform_rows.specs.declared.rows.LinkRow.{LinkRow}
use Rattle.sg_platform_rows.specs.declared.rows.Policy.{Policy}
use Rattle.sg_platform_rows.specs.declared.rows.Policy.TheVariants.{Shared, Fatpipe, SplitDuplex}
use Rattle.sg_base.specs.declared.awaits.Await.{Await}
use Rattle.sg_requests.specs.Requested.{Requested}
use Rattle.sg_sync.specs.Objects as sync
use Rattle.sg_sync.specs.Objects.{Objects}
use Rattle.sg_sync.proofs.Counts.{nobody_waits}
use Rattle.sg_kernel_calls.specs.declared.simulation_state.Fields.{Fields}
use Rattle.sg_actor_states.specs.declared.state.State.TheVariants.{Ended}
use Rattle.sg_actor_states.specs.Actors.{blocking_in, first_actor, not_suspended}
use Rattle.sg_mailbox.specs.declared.owners.How.TheVariants as how
use Rattle.sg_mailbox.specs.declared.owners.Whose.{Whose}
use Rattle.sg_mailbox.specs.declared.owners.Whose.TheVariants.{Over}
use Rattle.sg_kernel_calls.specs.Known.{Known}
use Rattle.sg_kernel.specs.Start.{first_known, capacities_in, first_objects}
use Rattle.sg_kernel_calls.specs.Meetings.{posts_from}
use Rattle.sg_kernel.specs.kept.First.{first_states}
use Rattle.sg_mailbox.specs.Owners.{Owned}
use Rattle.sg_kernel_calls.specs.Setup.{Setup, host_cap, power_of_row, link_cap, caps_in, caps_of, link_caps, home_of, capacity_of, setup_of}
use Rattle.sg_kernel_calls.specs.World.{extent}
use Rattle.sg_kernel_calls.specs.kept.Sound.{IsSound, HasRoom, known_of, is_idle, AwaitsMade, IsMade, IsOwner, IsTimely, IsTimetable, AreMeeting, AreHeld, AreLimited}
use Rattle.sg_actor_states.specs.States.{ActorStates}
use Rattle.sg_kernel.proofs.Over.{links_count}
use Rattle.sg_kernel_calls.proofs.Stated.{AreAwaiting}

-- ---- hosts and links keep to their limits
pub power_fits : (power : Option rows.Power) → IfSome power IsPowerRow → IfSome (option_map power_of_row power) IsPower
power_fits None fits = fits
power_fits (Some power) fits = record { idle = fits.idle; epsilon = fits.rising; all = fits.all; off = fits.off }

one_fits : (bandwidth : ℕ) → bandwidth ≤ 10 ^ 18 → All IsLink (link_cap bandwidth false ∷ [])
one_fits bandwidth fits = All-cons IsLink (link_cap bandwidth false) [] fits (All-nil IsLink)

caps_fit : (policy : Policy) (bandwidth : ℕ) → bandwidth ≤ 10 ^ 18 → All IsLink (caps_of policy bandwidth)
caps_fit Shared bandwidth fits = one_fits bandwidth fits
caps_fit Fatpipe bandwidth fits = All-cons IsLink (link_cap bandwidth true) [] fits (All-nil IsLink)
caps_fit SplitDuplex bandwidth fits = All-cons IsLink (link_cap bandwidth false) (link_cap bandwidth false ∷ []) fits (one_fits bandwidth fits)

-- a factor of 1,000 at most takes 10^15 to 10^18
bandwidth_fits : (network : Network) (bandwidth : ℕ) → IsNetwork network → bandwidth ≤ 10 ^ 15 → bandwidth_over network bandwidth ≤ 10 ^ 18
bandwidth_fits network bandwidth kept fits =
    omega (arith, fits, mul-le-mul_left bandwidth kept.bandwidth_factor)

rows_fit : (network : Network) (rows : List LinkRow) → IsNetwork network → All IsLinkRow rows → All IsLink (flat_map (caps_in network) rows)
rows_fit network [] kept fit = All-nil IsLink
rows_fit network (row ∷ rows) kept fit =
    All-append IsLink (caps_in network row) (flat_map (caps_in network) rows)
    (caps_fit row.policy (bandwidth_over network row.bandwidth) (bandwidth_fits network row.bandwidth kept (fit 0 row (omega arith)).bandwidth))
    (rows_fit network rows kept (λ k d within. fit (suc k) d (omega (arith, within))))

pub links_fit : (network : Network) (rows : List LinkRow) → IsNetwork network → All IsLinkRow rows → All IsLink (link_caps network rows)
links_fit network rows kept fit = All-append IsLink (flat_map (caps_in network) rows) (link_cap 498000000 true ∷ []) (rows_fit network rows kept fit) (All-cons IsLink (link_cap 498000000 true) [] (omega arith) (All-nil IsLink))

-- ---- the fields at first
pub record IsFirst (platform : Platform) (deployed : Deployed) (budget : ℕ) (fields : Fields) : Type 0 where
  pub setup : fields.setup ≡ record (setup_of platform deployed budget) { profiles = [] }
  pub doing : fields.doing ≡ idle_on (map host_cap platform.hosts) (link_caps platform.network platform.links)
  pub states : fields.states ≡ first_states (setup_of platform deployed budget)
  pub whose : fields.whose ≡ record { whose = []; room = 0 }
  pub boxes : (mailbox : BoxId) → waiters fields.boxes mailbox ≡ []
  pub requests : fields.requests ≡ record { queues = replicate (length deployed.actors) []; asked = 0; room = 0; awaited = [] }
  pub objects : fields.objects.objects ≡ first_objects (setup_of platform deployed budget)
  pub profiles : fields.profiles ≡ first_table (profiles_in platform)
  pub events : fields.events ≡ 0

abbrev made_of : Setup → Doing → ActorStates → List Whose → List (List Await) → Objects → Timetable → ℕ → Known
made_of setup doing states whose queues objects table events = record {
  setup = record setup { profiles = table.profiles };
  core = record { under = doing.under; turns = table.turns; actors = states.actors; whose = whose; requests = queues; objects = objects; events = events };
  records = states.records;
  room = states.room;
}

pub first_is : (platform : Platform) (deployed : Deployed) (budget : ℕ) (fields : Fields) → IsFirst platform deployed budget fields → known_of fields ≡ first_known (capacities_in platform) (setup_of platform deployed budget)
first_is platform deployed budget fields is =
    let n : length deployed.actors ≡ length (map home_of deployed.actors) = sym (length-map deployed.actors home_of) in
    let c = setup_of platform deployed budget in
    let d = idle_on (map host_cap platform.hosts) (link_caps platform.network platform.links) in
    let s = first_states c in
    let r : List (List Await) = replicate (length (map home_of deployed.actors)) [] in
    let o = first_objects c in
    let t = first_table (profiles_in platform) in
    let p = fields in
    ap (λ v. made_of v p.doing p.states p.whose.whose p.requests.queues p.objects.objects p.profiles p.events) is.setup
    ∙ ap (λ v. made_of c v p.states p.whose.whose p.requests.queues p.objects.objects p.profiles p.events) is.doing
    ∙ ap (λ v. made_of c d v p.whose.whose p.requests.queues p.objects.objects p.profiles p.events) is.states
    ∙ ap (λ (v : Owned). made_of c d s v.whose p.requests.queues p.objects.objects p.profiles p.events) is.whose
    ∙ ap (λ v. made_of c d s [] v p.objects.objects p.profiles p.events) (ap (λ (q : Requested). q.queues) is.requests ∙ ap (λ k. replicate k []) n)
    ∙ ap (λ v. made_of c d s [] r v p.profiles p.events) is.objects
    ∙ ap (λ v. made_of c d s [] r o v p.events) is.profiles
    ∙ ap (λ v. made_of c d s [] r o t v) is.events

-- all that start are ready
first_awaits : (n : ℕ) (starting : Bool) → AwaitsMade n (blocking_in (first_actor starting).state)
first_awaits n true = tt
first_awaits n false = tt

first_place : (n : ℕ) (starting : List Bool) (place : ℕ) → AwaitsMade n (blocking_in (get_or (map first_actor starting) place (not_suspended Ended)).state)
first_place n [] place = tt
first_place n (b ∷ starting) zero = first_awaits n b
first_place n (b ∷ starting) (suc place) = first_place n starting place

first_awaiting : (n : ℕ) (starting : List Bool) → AreAwaiting n (map first_actor starting)
first_awaiting n starting actor = first_place n starting (actor - 1)

pub first_meeting : (platform : Platform) (deployed : Deployed) (budget : ℕ) (fields : Fields) → IsFirst platform deployed budget fields → AreMeeting fields
unfolding posts_from
first_meeting platform deployed budget fields is = record {
  posts = λ mailbox. is.boxes mailbox ∙ sym (ap (λ (o : Owned). posts_from mailbox 1 o.whose) is.whose);
  idle = λ place posted. ap (λ (d : Doing). get_or d.under.tasks place None) is.doing;
  busy = λ place some. absurd (true≢false (sym (ap (λ (o : Owned). is_idle (get_or o.whose place (Over how.Done))) is.whose) ∙ some));
  asked =
      let made = IsMade (length fields.whose.whose) in
      subst (All (λ (queue : List Await). All made queue)) (sym (ap (λ (q : Requested). q.queues) is.requests))
      (All-replicate (λ (queue : List Await). All made queue) (length deployed.actors) [] (All-nil made));
  awaited = subst (AreAwaiting (length fields.whose.whose)) (sym (ap (λ (q : ActorStates). q.actors) is.states)) (first_awaiting (length fields.whose.whose) (map starts deployed.actors));
}

actors_first : (platform : Platform) (deployed : Deployed) (budget : ℕ) (fields : Fields) → IsFirst platform deployed budget fields → length fields.states.actors ≡ length deployed.actors
actors_first platform deployed budget fields is = ap (λ (q : ActorStates). length q.actors) is.states ∙ length-map (map starts deployed.actors) first_actor ∙ length-map deployed.actors starts

nobody : (platform : Platform) (deployed : Deployed) (budget : ℕ) (actor : ActorId) → sync.waiting (first_objects (setup_of platform deployed budget)) actor ≡ 0
nobody platform deployed budget actor = omega (arith, nobody_waits actor (length deployed.mutexes), nobody_waits actor (length (map capacity_of deployed.semaphores)))

pub first_held : (platform : Platform) (deployed : Deployed) (budget : ℕ) (fields : Fields) → IsFirst platform deployed budget fields → IsDeployment deployed → AreHeld fields
first_held platform deployed budget fields is kept =
    let none : (actor : ActorId) → sync.waiting fields.objects.objects actor ≡ 0 = λ actor. ap (λ o. sync.waiting o actor) is.objects ∙ nobody platform deployed budget actor in
    let mutexes = sym (ap (λ (s : Setup). s.mutexes) is.setup) in
    let semaphores = sym (ap (λ (s : Setup). length s.semaphores) is.setup) in
    record {
      owners = ap (λ (o : Objects). length o.owners) is.objects ∙ length-replicate (length deployed.mutexes) None ∙ mutexes;
      counts = ap (λ (o : Objects). length o.counts) is.objects ∙ semaphores;
      actors = ap (λ (o : Objects). o.actors) is.objects ∙ length-map deployed.actors home_of ∙ sym (actors_first platform deployed budget fields is);
      few = subst (All (λ count. count ≤ 10 ^ 9 + fields.events)) (sym (ap (λ (o : Objects). o.counts) is.objects)) (All-map (λ count. count ≤ 10 ^ 9 + fields.events) capacity_of deployed.semaphores (λ k x within. omega (arith, (kept.semaphores k x within).capacity)));
      once = λ actor. omega (arith, none actor);
      held = λ actor some. absurd (omega (arith, none actor, some));
      locking = ap (λ (o : Objects). length o.locking) is.objects ∙ length-replicate (length deployed.mutexes) [] ∙ mutexes;
      acquiring = ap (λ (o : Objects). length o.acquiring) is.objects ∙ length-replicate (length (map capacity_of deployed.semaphores)) [] ∙ semaphores;
    }

pub first_limited : (platform : Platform) (deployed : Deployed) (budget : ℕ) (fields : Fields) → IsFirst platform deployed budget fields → AreLimited fields
first_limited platform deployed budget fields is = subst (λ (o : Owned). All (IsOwner (extent fields.setup)) o.whose) (sym is.whose) (All-nil (IsOwner (extent fields.setup)))

abbrev extent_of : ℕ → ℕ → ℕ → Extent
extent_of actors mutexes semaphores = record { actors = actors; mutexes = mutexes; semaphores = semaphores }

first_extent : (platform : Platform) (deployed : Deployed) (budget : ℕ) (fields : Fields) → IsFirst platform deployed budget fields → fields.states.extent ≡ extent fields.setup
first_extent platform deployed budget fields is =
    ap (λ (q : ActorStates). q.extent) is.states
    ∙ ap (λ n. extent_of n (length deployed.mutexes) (length (map capacity_of deployed.semaphores))) (length-map deployed.actors starts ∙ sym (length-map deployed.actors home_of))
    ∙ sym (ap extent is.setup)

pub first_sound : (platform : Platform) (deployed : Deployed) (budget : ℕ) (fields : Fields) → IsFirst platform deployed budget fields → budget ≤ 10 ^ 9 → IsSound fields
first_sound platform deployed budget fields is most =
    let tasks : length fields.doing.under.tasks ≡ 0 = ap (λ (d : Doing). length d.under.tasks) is.doing in
    let states : length fields.states.actors ≡ length deployed.actors = actors_first platform deployed budget fields is in
    record {
      numbered = ap (λ (o : Owned). length o.whose) is.whose ∙ sym tasks;
      few = omega (arith, tasks);
      within = omega (arith, is.events);
      budgeted = omega (arith, ap (λ (s : Setup). s.budget) is.setup, most);
      hosts_counted = ap (λ (d : Doing). length d.under.capacities.hosts) is.doing ∙ length-map platform.hosts host_cap ∙ sym (ap (λ (s : Setup). s.hosts) is.setup);
      links_counted = ap (λ (d : Doing). length d.under.capacities.links) is.doing ∙ sym (links_count platform.network platform.links) ∙ sym (ap (λ (s : Setup). s.links) is.setup);
      homes_known = ap (λ (s : Setup). length s.homes) is.setup ∙ length-map deployed.actors home_of ∙ sym states;
      requests_known = ap (λ (q : Requested). length q.queues) is.requests ∙ length-replicate (length deployed.actors) [] ∙ sym states;
      requests_few = omega (arith, ap (λ (q : Requested). q.asked) is.requests);
      extent_is = first_extent platform deployed budget fields is;
    }

pub first_roomy : (platform : Platform) (deployed : Deployed) (budget : ℕ) (fields : Fields) → IsFirst platform deployed budget fields → HasRoom fields.states.room fields
first_roomy platform deployed budget fields is =
    let none : fields.states.room ≡ 0 = ap (λ (q : ActorStates). q.room) is.states in
    record { starts = omega (arith, none); owners = omega (arith, none); mailboxes = omega (arith, none); requests = omega (arith, none) }

pub first_timely : (platform : Platform) (deployed : Deployed) (budget : ℕ) (fields : Fields) → IsFirst platform deployed budget fields → AreProfiles (counts_of platform).hosts (counts_of platform).links fields.profiles.profiles → IsTimely fields
first_timely platform deployed budget fields is kept =
    let hosts = length platform.hosts in
    let links = length (link_ends platform.links) in
    let profiles = profiles_in platform in
    let date : fields.doing.under.date ≡ 0 = ap (λ (d : Doing). d.under.date) is.doing in
    let first : AreProfiles hosts links profiles = subst (λ (t : Timetable). AreProfiles hosts links t.profiles) is.profiles kept in
    let table : IsTimetable hosts links 0 (first_table profiles) = record { profiles = first; ahead = ahead_at_first hosts links profiles first } in
    subst (λ (s : Setup). IsTimetable s.hosts s.links fields.doing.under.date fields.profiles) (sym is.setup)
    (subst (λ n. IsTimetable hosts links n fields.profiles) (sym date)
    (subst (IsTimetable hosts links 0) (sym is.profiles) table))
