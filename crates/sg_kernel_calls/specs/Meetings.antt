-- How the endpoints of a communication match in a mailbox, and how an actor waits for its
-- requests.
use Rattle.std.specs.Prelude.{ℕ, ◌+◌, ◌-◌, Bool, true, false, Option, None, Some, Result, Ok, Err, if◌then◌else◌, List, [], ◌∷◌, ◌++◌, length, slice_set}
use Rattle.std.specs.Option.{option_to_list}
use Rattle.std.specs.Result.{result_map_both}
use Rattle.sg_base.specs.declared.call.Answer.{Answer}
use Rattle.sg_base.specs.declared.call.Answer.TheVariants as answer
use Rattle.sg_base.specs.declared.call.Call.{Call}
use Rattle.sg_base.specs.declared.call.Call.TheVariants as call
use Rattle.sg_base.specs.declared.ids.BoxId.{BoxId}
use Rattle.sg_base.specs.declared.ids.PointId.{PointId}
use Rattle.sg_base.specs.declared.ids.Serial.{Serial}
use Rattle.sg_activity.specs.Task.{Task, Way, comm_of, is_cut}
use Rattle.sg_activity.specs.Underway.{begun, with_next_serial}
use Rattle.sg_mailbox.specs.declared.sides.Side.{Side}
use Rattle.sg_mailbox.specs.declared.sides.Post.{Post}
use Rattle.sg_mailbox.specs.Posts.{box_eq, partner}
use Rattle.sg_base.specs.declared.awaits.Await.{Await}
use Rattle.sg_base.specs.declared.awaits.Party.{Party}
use Rattle.sg_base.specs.declared.awaits.Party.TheVariants.{Sender, Receiver}
use Rattle.sg_requests.specs.Requested.{queues_with_request, queues_without_oldest}
use Rattle.sg_route.specs.declared.router.RouteFault.{RouteFault}
use Rattle.sg_route.specs.declared.router.RouteFault.TheVariants as fault
use Rattle.sg_route.specs.Roads.{Roads}
use Rattle.sg_route.specs.Route.{Route, route_of}
use Rattle.sg_kernel_calls.specs.declared.meetings.Comer.{Comer}
use Rattle.sg_mailbox.specs.declared.owners.How.TheVariants as how
use Rattle.sg_kernel_calls.specs.declared.stop.Stop.{Stop}
use Rattle.sg_kernel_calls.specs.declared.stop.Stop.TheVariants as stop
use Rattle.sg_mailbox.specs.declared.owners.Whose.{Whose}
use Rattle.sg_mailbox.specs.declared.owners.Whose.TheVariants.{Over, Posted, Pair}
use Rattle.sg_kernel_calls.specs.Answers.{answers_side, bare_side, for_receiver, side_of, with_over}
use Rattle.sg_kernel_calls.specs.Network.{route_latency, own_bound}
use Rattle.sg_kernel_calls.specs.Setup.{Setup}
use Rattle.sg_kernel_calls.specs.World.{Core, host_of, whose_at}
use Rattle.sg_kernel_calls.specs.Steps.{Step, goes_on, stops, counted, and_then, blocked_by, at_once}

-- ---- who waits in a mailbox
-- the endpoint that an activity has waiting in this mailbox, if it is posted there
abbrev pub post_in : BoxId → ℕ → Whose → Option Post
post_in mailbox serial (Posted there sends side) =
    if box_eq mailbox there then Some (record { serial = record { 0 = serial }; sends = sends; side = side }) else None
post_in mailbox serial other = None

-- the posts of a mailbox in order of activity id, if the first activity of the list has this one
unfoldable pub posts_from : BoxId → ℕ → List Whose → List Post
posts_from mailbox serial [] = []
posts_from mailbox serial (whose ∷ rest) = option_to_list (post_in mailbox serial whose) ++ posts_from mailbox (serial + 1) rest

-- the endpoints that wait in a mailbox, in order of activity id
abbrev pub posts_at : BoxId → Core → List Post
posts_at mailbox core = posts_from mailbox 1 core.whose

-- ---- an actor takes part in a communication
-- which endpoint an actor is: the sender if it sends, else the receiver
abbrev pub party_of : Bool → Party
party_of sends = if sends then Sender else Receiver

-- what an actor waits for: the activity of this id, as its sender or its receiver
abbrev pub await : ℕ → Bool → Await
await serial sends = record { serial = record { 0 = serial }; party = party_of sends }

-- the communication becomes the actor's newest request
abbrev pub asks_for : ℕ → Await → Core → Core
asks_for actor on core = record core { requests = queues_with_request core.requests actor on }

-- a call that waits blocks its actor; any other is done at once
abbrev pub takes_part : Bool → Comer → ℕ → Core → Step
takes_part true comer serial core = goes_on (blocked_by comer.side.actor.0 comer.what (Some (await serial comer.sends)) core) []
takes_part false comer serial core =
    at_once comer.side.actor.0 comer.what comer.side.bytes answer.Done (asks_for comer.side.actor.0 (await serial comer.sends) core)

-- ---- an endpoint arrives at a mailbox
-- an arriving sender, with the message and bytes, and whether its call waits
abbrev pub sends_by : Side → Call → Bool → BoxId → Comer
sends_by side what waits mailbox =
    record { what = what; mailbox = mailbox; sends = true; waits = waits; side = side }

-- an arriving receiver, which brings no bytes and no message, and whether its call waits
abbrev pub receives_by : ℕ → Call → Bool → BoxId → Comer
receives_by actor what waits mailbox =
    record { what = what; mailbox = mailbox; sends = false; waits = waits; side = bare_side actor }

-- the endpoint that arrives by a call, if it is one of a communication
abbrev pub comer_of : ℕ → Call → Option Comer
comer_of actor (call.Send mailbox bytes message rate) =
    Some (sends_by (side_of actor bytes message rate) (call.Send mailbox bytes message rate) true mailbox)
comer_of actor (call.ISend mailbox bytes message rate) =
    Some (sends_by (side_of actor bytes message rate) (call.ISend mailbox bytes message rate) false mailbox)
comer_of actor (call.Recv mailbox) = Some (receives_by actor (call.Recv mailbox) true mailbox)
comer_of actor (call.IRecv mailbox) = Some (receives_by actor (call.IRecv mailbox) false mailbox)
comer_of actor other = None

-- the sending endpoint of a match: the arriving one or the other, whichever sends
abbrev pub sender_of : Comer → Side → Side
sender_of comer other = if comer.sends then comer.side else other

-- the receiving endpoint of a match: the arriving one or the other, whichever receives
abbrev pub receiver_of : Comer → Side → Side
receiver_of comer other = if comer.sends then other else comer.side

-- no match waits for it: it is posted, as a communication with the next id
abbrev pub posted : Comer → Core → Core
posted comer core = record core { under = with_next_serial core.under; whose = core.whose ++ Posted comer.mailbox comer.sends comer.side ∷ [] }

-- from the host of the sender over a route to that of the receiver
abbrev pub way_over : Setup → Route → Side → Side → Way
way_over setup route sender receiver = record {
  links = route.links;
  sender = host_of setup sender.actor.0;
  receiver = host_of setup receiver.actor.0;
}

-- what a sender sends over a route: the rate is the sender's alone
abbrev pub comm_over : Setup → Route → Side → Side → Task
comm_over setup route sender receiver =
    comm_of (way_over setup route sender receiver) (route_latency setup route) sender.bytes
    (own_bound setup route sender.rate)

-- both endpoints are there: the communication begins over its route
abbrev pub joined : Setup → ℕ → Route → Side → Side → Core → Core
joined setup serial route sender receiver core = record core {
  under = begun serial (comm_over setup route sender receiver) core.under;
  whose = slice_set core.whose (serial - 1) (Pair sender receiver);
}

-- the host of an endpoint's actor, as a point of the network
abbrev pub point_of : Setup → Side → PointId
point_of setup side = record { 0 = host_of setup side.actor.0 }

-- why a run stops if two hosts have no route between them, or one that is too long
abbrev pub stop_of : PointId → PointId → RouteFault → Stop
stop_of from to (fault.NoRoute zone a b) = stop.NoRoute from to zone a b
stop_of from to fault.TooLong = stop.TooLong from to

-- ---- or it fails in the call, if something that it would use is off
-- the arriving endpoint: a call that waits fails, and any other is done at once, as always
abbrev pub takes_part_failed : Bool → Comer → ℕ → ℕ → Core → Step
takes_part_failed true comer serial bytes core = at_once comer.side.actor.0 comer.what bytes answer.Failed core
takes_part_failed false comer serial bytes core = takes_part false comer serial core

-- the arriving endpoint of a communication that fails at once is answered, with the sender's bytes
abbrev pub comer_fails : Comer → ℕ → Side → Core → Step
comer_fails comer serial other core = takes_part_failed comer.waits comer serial (sender_of comer other).bytes core

-- the waiting endpoint of a communication that fails at once: its actor is answered if it is blocked
abbrev pub other_fails : Comer → ℕ → Side → Core → Step
other_fails comer serial other core =
    if comer.sends then answers_side how.Failed serial Receiver (for_receiver comer.side other) core
    else answers_side how.Failed serial Sender other core

-- the sending endpoint is answered first
abbrev pub both_fail : Comer → ℕ → Side → Core → Step
both_fail comer serial other core =
    if comer.sends then and_then (comer_fails comer serial other core) (other_fails comer serial other)
    else and_then (other_fails comer serial other core) (comer_fails comer serial other)

-- whom an arriving endpoint matches, and the route between them
pub record Meeting : Type 0 where
  pub post : Post
  pub route : Route

-- An endpoint arrives: without a match it is posted, and waits in its mailbox. Else its communication begins over the
-- route to its match; if that route or a host is off, the communication fails, and both endpoints are answered.
abbrev pub arrives : Option Meeting → Setup → Comer → Core → Step
arrives None setup comer core = takes_part comer.waits comer (length core.under.tasks + 1) (posted comer core)
arrives (Some meeting) setup comer core =
    let serial = meeting.post.serial.0 in
    let sender = sender_of comer meeting.post.side in
    let receiver = receiver_of comer meeting.post.side in
    if is_cut core.under.on (way_over setup meeting.route sender receiver)
    then both_fail comer serial meeting.post.side (with_over how.Failed serial core)
    else takes_part comer.waits comer serial (joined setup serial meeting.route sender receiver core)

-- ---- the route comes first, then the count, and then what the call leads to
-- Whom an endpoint meets, by the match that it finds: without one it needs no route. A missing or too long one stops
-- the run.
abbrev pub meeting_by : Option Post → Roads → Setup → Comer → Result (Option Meeting) Stop
meeting_by None roads setup comer = Ok None
meeting_by (Some post) roads setup comer =
    let from = point_of setup (sender_of comer post.side) in
    let to = point_of setup (receiver_of comer post.side) in
    result_map_both (λ route. Some (record { post = post; route = route })) (stop_of from to) (route_of roads from to)

-- Whom the endpoint of a call meets, if it brings one. It matches the one with the least activity id of those that wait
-- for it in its mailbox.
abbrev pub meeting_of : Roads → Setup → Core → Option Comer → Result (Option Meeting) Stop
meeting_of roads setup core None = Ok None
meeting_of roads setup core (Some comer) = meeting_by (partner comer.sends (posts_at comer.mailbox core)) roads setup comer

-- without the route that it needs, the run stops with all as it was
abbrev pub unless_unrouted : Result (Option Meeting) Stop → Core → (Option Meeting → Step) → Step
unless_unrouted (Err why) core next = stops core [] why
unless_unrouted (Ok meeting) core next = next meeting

-- ---- Wait
-- what an actor that waits for an activity is answered at once; none: it isn't over
abbrev pub answer_of_over : Whose → Option Answer
answer_of_over (Over how.Done) = Some answer.Done
answer_of_over (Over how.Failed) = Some answer.Failed
answer_of_over other = None

-- the actor is answered at once if the communication has ended, else once it ends
abbrev pub waits_until : Option Answer → ℕ → Await → Core → Step
waits_until (Some over) actor on core = at_once actor call.Wait 0 over core
waits_until None actor on core = goes_on (blocked_by actor call.Wait (Some on) core) []

-- a wait takes the oldest request of the actor away; with none it is refused
abbrev pub waits_by : Option Await → ℕ → Core → Step
waits_by None actor core = at_once actor call.Wait 0 answer.Refused core
waits_by (Some on) actor core = waits_until (answer_of_over (whose_at core on.serial.0)) actor on (record core { requests = queues_without_oldest core.requests actor })

-- ---- parts, as contracts, laws and proofs name them
-- from the host of the sender to that of the receiver
abbrev pub route_between : Roads → Setup → Side → Side → Result Route RouteFault
route_between roads setup sender receiver = route_of roads (point_of setup sender) (point_of setup receiver)

-- a communication fails in the call that would begin it, and both endpoints are answered
abbrev pub fails_with : Comer → Serial → Side → Core → Step
fails_with comer serial other core =
    both_fail comer serial.0 other (with_over how.Failed serial.0 core)

-- the route of a communication with this other endpoint
abbrev pub way_with : Route → Setup → Comer → Side → Way
way_with route setup comer other =
    way_over setup route (sender_of comer other) (receiver_of comer other)

-- the communication of a match begins over this route, and the arriving call waits for it or is done
abbrev pub joins_with : Route → Setup → Comer → Serial → Side → Core → Step
joins_with route setup comer serial other core =
    takes_part comer.waits comer serial.0
    (joined setup serial.0 route (sender_of comer other) (receiver_of comer other) core)

-- a match was found: the communication begins, or fails if its route or a host is off
abbrev pub joins_on : Route → Setup → Comer → Serial → Side → Core → Step
joins_on route setup comer serial other core =
    if is_cut core.under.on (way_with route setup comer other)
    then fails_with comer serial other core
    else joins_with route setup comer serial other core

-- what an endpoint that arrives leads to, as one event, by the route to its match
abbrev pub joins_over : Result Route RouteFault → Setup → Comer → Post → Core → Step
joins_over route setup comer post core =
    let from = point_of setup (sender_of comer post.side) in
    let to = point_of setup (receiver_of comer post.side) in
    unless_unrouted (result_map_both (λ on. Some (record { post = post; route = on })) (stop_of from to) route) core
    (λ meeting. arrives meeting setup comer (counted core))

-- what it leads to by its match, if it has one
abbrev pub comes_by : Option Post → Roads → Setup → Comer → Core → Step
comes_by found roads setup comer core =
    unless_unrouted (meeting_by found roads setup comer) core (λ meeting. arrives meeting setup comer (counted core))

-- what it leads to by the match that it finds
abbrev pub comes : Roads → Setup → Comer → Core → Step
comes roads setup comer core =
    let meeting = meeting_of roads setup core (Some comer) in
    unless_unrouted meeting core (λ meeting. arrives meeting setup comer (counted core))
