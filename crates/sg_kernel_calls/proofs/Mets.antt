-- Which endpoint matches another, and the limits of both.
use Rattle.std.proofs.Common.{◌≡◌, ℕ, ◌+◌, ◌-◌, ◌<◌, ◌≤◌, Bool, true, false, cond, Option, None, Some, Result, Ok, Err, List, length, get_or, refl, sym, ap, ap₂, subst, ◌∙◌, arith}
use Rattle.std.specs.List.{find, All}
use Rattle.std.proofs.lemmas.List.Elements.{All-same}
use Rattle.sg_base.specs.declared.ids.BoxId.{BoxId}
use Rattle.sg_base.specs.declared.ids.LinkId.{LinkId}
use Rattle.sg_base.specs.declared.ids.Serial.{Serial}
use Rattle.sg_base.specs.Limits.{Extent}
use Rattle.sg_mailbox.specs.declared.sides.Side.{Side}
use Rattle.sg_mailbox.specs.declared.sides.Post.{Post}
use Rattle.sg_mailbox.specs.Posts.{is_other, waiters, partner, partner_side}
use Rattle.sg_route.specs.declared.router.RouteFault.{RouteFault}
use Rattle.sg_route.specs.Roads.{Roads}
use Rattle.sg_route.specs.Route.{Route}
use Rattle.sg_route.specs.Route.{LeavesRoute}
use Rattle.sg_kernel_calls.specs.declared.meetings.Comer.{Comer}
use Rattle.sg_kernel_calls.specs.declared.simulation_state.Fields.{Fields}
use Rattle.sg_mailbox.specs.declared.owners.How.TheVariants as how
use Rattle.sg_mailbox.specs.declared.owners.Whose.TheVariants.{Over, Posted}
use Rattle.sg_kernel_calls.specs.Meetings.{comes, comes_by, joins_over, posted, posts_from, receiver_of, route_between, sender_of, takes_part}
use Rattle.sg_kernel_calls.specs.Steps.{counted}
use Rattle.sg_kernel_calls.specs.World.{Core, extent}
use Rattle.sg_kernel_calls.specs.kept.Sound.{core_of, is_idle, IsSide, IsOwner, IsSound, AreLimited, AreMeeting}
use Rattle.sg_kernel_calls.proofs.Postings.{FoundAt, found_post, posts_below}

-- all that wait have lower ids than the next one
pub waiting_below : (fields : Fields) (mailbox : BoxId) (next : ℕ) → next ≡ length fields.doing.under.tasks + 1 → IsSound fields → AreMeeting fields → All (λ (p : Post). p.serial.0 < next) (waiters fields.boxes mailbox)
waiting_below fields mailbox next is sound meeting =
    All-same (λ (p : Post). p.serial.0 < next) (waiters fields.boxes mailbox) (posts_from mailbox 1 fields.whose.whose) (meeting.posts mailbox) (λ k d lt. below k d (posts_below mailbox 1 fields.whose.whose k d lt))
  where
    below : (k : ℕ) (d : Post) → (get_or (posts_from mailbox 1 fields.whose.whose) k d).serial.0 < 1 + length fields.whose.whose → (get_or (posts_from mailbox 1 fields.whose.whose) k d).serial.0 < next
    below k d h = omega (arith, h, is, sound.numbered)

-- the match of an endpoint: its communication isn't running
pub record IsMet (fields : Fields) (comer : Comer) (serial : Serial) (other : Side) : Type 0 where
  pub post : Post
  pub found : partner comer.sends (waiters fields.boxes comer.mailbox) ≡ Some post
  pub serial_is : post.serial ≡ serial
  pub side_is : post.side ≡ other
  pub from : 0 < serial.0
  pub to : serial.0 ≤ length fields.whose.whose
  pub idle : get_or fields.doing.under.tasks (serial.0 - 1) None ≡ None
  pub limited : IsSide (extent fields.setup) other

some_same : {X : Type 0} {x y : X} → Some x ≡ Some y → x ≡ y
some_same e = cc e

pub is_met : (fields : Fields) (comer : Comer) (serial : Serial) (other : Side) → partner_side (partner comer.sends (waiters fields.boxes comer.mailbox)) ≡ Some (serial, other) → AreLimited fields → AreMeeting fields → IsMet fields comer serial other
is_met fields comer serial other is limited meeting = go (partner comer.sends (waiters fields.boxes comer.mailbox)) (refl) is
  where
    go : (o : Option Post) → partner comer.sends (waiters fields.boxes comer.mailbox) ≡ o → partner_side o ≡ Some (serial, other) → IsMet fields comer serial other
    go None there e = absurd (cc e)
    go (Some p) there e =
        let same = some_same e in
        let serials : p.serial ≡ serial = ap (λ (pair : Serial × Side). pair.0) same in
        let sides : p.side ≡ other = ap (λ (pair : Serial × Side). pair.1) same in
        let whose = fields.whose.whose in
        let test = is_other comer.sends in
        let at : FoundAt test comer.mailbox 1 whose p = found_post test comer.mailbox 1 whose p (ap (find test) (sym (meeting.posts comer.mailbox)) ∙ there) in
        let number : p.serial.0 ≡ serial.0 = ap (λ (s : Serial). s.0) serials in
        let place : p.serial.0 - 1 < length whose = omega (arith, at.from, at.to) in
        let posted : get_or whose (serial.0 - 1) (Over how.Done) ≡ Posted comer.mailbox p.sends p.side = ap (λ (s : Serial). get_or whose (s.0 - 1) (Over how.Done)) (sym serials) ∙ at.is in
        record {
          post = p;
          found = there;
          serial_is = serials;
          side_is = sides;
          from = omega (arith, at.from, number);
          to = omega (arith, at.to, number);
          idle = meeting.idle (serial.0 - 1) (ap is_idle posted);
          limited = subst (IsSide (extent fields.setup)) sides (subst (IsOwner (extent fields.setup)) at.is (limited (p.serial.0 - 1) (Over how.Done) place));
        }

-- both endpoints keep to their limits, whichever arrived
pub sides_limited : (e : Extent) (comer : Comer) (other : Side) → IsSide e comer.side → IsSide e other → IsSide e (sender_of comer other) × IsSide e (receiver_of comer other)
sides_limited e comer other mine theirs = go comer.sends
  where
    go : (b : Bool) → IsSide e (cond b comer.side other) × IsSide e (cond b other comer.side)
    go true = (mine, theirs)
    go false = (theirs, mine)

-- ---- how both endpoints join
pub routed_ok : (r : Result Route RouteFault) (latency : ℕ) (links : List LinkId) → LeavesRoute r (Ok latency) links → r ≡ Ok (record { links = links; latency = latency })
routed_ok (Ok route) latency links is = (let same : route.latency ≡ latency = cc is.0 in ap₂ (λ l n. Ok (record { links = l; latency = n })) (sym is.1) same)
routed_ok (Err fault) latency links is = absurd (cc is.0)

pub routed_err : (r : Result Route RouteFault) (fault : RouteFault) (links : List LinkId) → LeavesRoute r (Err fault) links → r ≡ Err fault
routed_err (Ok route) fault links is = absurd (cc is.0)
routed_err (Err why) fault links is = (let same : why ≡ fault = cc is.0 in ap (λ f. Err f) same)

-- nothing stops an actor that takes part
pub takes_part_on : (waits : Bool) (comer : Comer) (serial : ℕ) (core : Core) → (takes_part waits comer serial core).stop ≡ None
takes_part_on true comer serial core = refl
takes_part_on false comer serial core = refl

-- with an endpoint's match and the route between both, what follows is known
pub comes_met : (fields : Fields) (roads : Roads) (comer : Comer) (serial : Serial) (other : Side) (r : Result Route RouteFault) (m : IsMet fields comer serial other) → AreMeeting fields → route_between roads fields.setup (sender_of comer other) (receiver_of comer other) ≡ r →
    comes roads fields.setup comer (core_of fields) ≡ joins_over r fields.setup comer (record { serial = serial; sends = m.post.sends; side = other }) (core_of fields)
comes_met fields roads comer serial other r m meeting way =
    let setup = fields.setup in
    let core = core_of fields in
    let found : partner comer.sends (posts_from comer.mailbox 1 fields.whose.whose) ≡ Some m.post = ap (partner comer.sends) (sym (meeting.posts comer.mailbox)) ∙ m.found in
    let post : m.post ≡ record { serial = serial; sends = m.post.sends; side = other } = ap₂ (λ (s : Serial) (d : Side). record { serial = s; sends = m.post.sends; side = d }) m.serial_is m.side_is in
    ap (λ o. comes_by o roads setup comer core) (found ∙ ap (λ p. Some p) post)
    ∙ ap (λ w. joins_over w setup comer (record { serial = serial; sends = m.post.sends; side = other }) core) way

-- without one, it is posted
pub comes_alone : (fields : Fields) (roads : Roads) (comer : Comer) → partner comer.sends (waiters fields.boxes comer.mailbox) ≡ None → AreMeeting fields → comes roads fields.setup comer (core_of fields) ≡ takes_part comer.waits comer (length fields.doing.under.tasks + 1) (posted comer (counted (core_of fields)))
comes_alone fields roads comer alone meeting = ap (λ o. comes_by o roads fields.setup comer (core_of fields)) (ap (partner comer.sends) (sym (meeting.posts comer.mailbox)) ∙ alone)
