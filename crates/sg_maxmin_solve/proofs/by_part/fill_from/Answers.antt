use Rattle.std.proofs.Common.{◌≡◌, true, refl, ◌≢◌, ◌+◌, ◌-◌, ◌*◌, ◌<◌, ◌≤◌, ℕ, List, length, take, drop, All, AllPairs, sym, ap, subst, ◌∙◌, arith}
use Rattle.sg_base.specs.MarkSet.{MarkSet, is_in, with_mark}
use Rattle.sg_maxmin.specs.Chained.{users_on}
use Rattle.sg_maxmin.specs.Sharing.{uses_at}
use Rattle.sg_maxmin_solve.specs.declared.component.Component.{Component}
use Rattle.sg_maxmin_solve.specs.Component.{AreVisited, Grows, IsOpen, lengths}
use Rattle.sg_maxmin_solve.specs.Filling.{AreJoined}
use Rattle.sg_maxmin_solve.specs.Holds.{IsEnded}
use Rattle.sg_maxmin_solve.proofs.Apart.{first_of}
use Rattle.sg_maxmin_solve.proofs.Filled.{Leads, filled_on, lengths_came, part_joined, part_live, part_twice, part_used, marked_pass, rest_is, start_used, visited_on}
use Rattle.sg_maxmin_solve.proofs.Growing.{all_stay, grows_mark, grows_on, grows_same, stays}
use Rattle.sg_maxmin.proofs.Listed.{mark_there}
use Rattle.sg_maxmin_solve.proofs.by_part.fill_from.Goals as goal

pub reach-requires-clause-open : goal.reach-requires-clause-open
reach-requires-clause-open g c =
    let a : Component = c.args.component.now in
    let ready = c.requires.at.filled.ready in
    let marked : c.insert.new.self.members ≡ with_mark c.args.resource a.reached.members = ap (λ (m : MarkSet). m.members) c.insert.ensures in
    let more : Grows a.reached.members c.insert.new.self.members = subst (Grows a.reached.members) (sym marked) (grows_mark c.args.resource a.reached.members) in
    record {
      sound = ready.sound;
      touched_room = ready.touched_room;
      reached_room = ap (λ (m : MarkSet). m.room) c.insert.ensures ∙ ready.reached_room;
      covers = λ id h. all_stay (uses_at c.args.system.now.slots id) a.reached.members c.insert.new.self.members more (ready.covers id h);
    }

pub reach-requires-clause-visited : goal.reach-requires-clause-visited
reach-requires-clause-visited g c =
    let s = c.args.system.now in
    let a : Component = c.args.component.now in
    let b : Component = record { touched = a.touched; reached = c.insert.new.self } in
    let marked : b.reached.members ≡ with_mark c.args.resource a.reached.members = ap (λ (m : MarkSet). m.members) c.insert.ensures in
    let more : Grows a.reached.members b.reached.members = subst (Grows a.reached.members) (sym marked) (grows_mark c.args.resource a.reached.members) in
    subst (λ n. AreVisited s n b) (sym (ap length c.members-reached.ensures.members)) (visited_on s a b c.requires.at.filled.closed (grows_same a.touched.members) more)

pub fill-requires : goal.fill-requires
fill-requires g c =
    let s = c.args.system.now in
    let a : Component = c.args.component.now in
    let b : Component = record { touched = a.touched; reached = c.insert.new.self } in
    let z : Component = c.reach.new.component in
    let two = c.reach.ensures.spreads in
    let here = c.insert.ensures in
    let marked : b.reached.members ≡ with_mark c.args.resource a.reached.members = ap (λ (m : MarkSet). m.members) here in
    let gt : Grows a.touched.members z.touched.members = two.touched in
    let more : Grows a.reached.members b.reached.members = subst (Grows a.reached.members) (sym marked) (grows_mark c.args.resource a.reached.members) in
    let gr = grows_on a.reached.members b.reached.members z.reached.members more two.reached in
    let leads : Leads s (λ p q. q c.args.resource ≡ true) a z = λ p q along start t r. c.reach.ensures.least p q along t (marked_pass q c.args.resource a.reached.members b.reached.members marked start r) in
    let live = part_live s c.requires.at.filled.places.sound (λ p q. q c.args.resource ≡ true) a z leads refl c.requires.at.filled.held in
    let used = part_used s c.requires.at.filled.places.sound (λ p q. q c.args.resource ≡ true) a z leads (start_used s a c.args.resource c.requires.used) in
    let once = subst (AllPairs (λ a b. a ≢ b)) c.members.ensures.members c.members.ensures.once in
    let distinct = subst (AllPairs (λ a b. a ≢ b)) c.members-2.ensures.members c.members-2.ensures.once in
    let room : z.reached.room ≡ length s.capacities = two.reached_room ∙ ap (λ (m : MarkSet). m.room) here ∙ c.requires.at.filled.ready.reached_room in
    let exist = subst (λ xs. All (λ x. x < length s.capacities) xs) c.members-2.ensures.members (subst (λ (n : ℕ). All (λ x. x < n) c.members-2.result.now) room c.members-2.ensures.in_range) in
    let part : take (length c.members.result.now - length c.members-touched.result.now) (drop (length c.members-touched.result.now) c.members.result.now) ≡ drop (length a.touched.members) z.touched.members =
    rest_is (length c.members-touched.result.now) c.members.result.now ∙ ap (λ (xs : List ℕ). drop (length xs) c.members.result.now) c.members-touched.ensures.members ∙ ap (drop (length a.touched.members)) c.members.ensures.members in
    let resources : take (length c.members-2.result.now - length c.members-reached.result.now) (drop (length c.members-reached.result.now) c.members-2.result.now) ≡ drop (length a.reached.members) z.reached.members =
    rest_is (length c.members-reached.result.now) c.members-2.result.now ∙ ap (λ (xs : List ℕ). drop (length xs) c.members-2.result.now) c.members-reached.ensures.members ∙ ap (drop (length a.reached.members)) c.members-2.ensures.members in
    let joined = part_joined s c.requires.at.filled.places.sound a z c.args.filling.now c.requires.at.filled gt gr c.reach.ensures.closed live once distinct exist used in
    record {
      joined =
          subst (λ xs. AreJoined s xs (take (length c.members-2.result.now - length c.members-reached.result.now) (drop (length c.members-reached.result.now) c.members-2.result.now))) (sym part)
          (subst (λ xs. AreJoined s (drop (length a.touched.members) z.touched.members) xs) (sym resources) joined);
      places = c.requires.at.filled.places;
      idle = c.requires.at.filled.idle;
    }

pub returns : goal.returns
returns g c =
    let s = c.args.system.now in
    let a : Component = c.args.component.now in
    let b : Component = record { touched = a.touched; reached = c.insert.new.self } in
    let z : Component = c.reach.new.component in
    let two = c.reach.ensures.spreads in
    let here = c.insert.ensures in
    let marked : b.reached.members ≡ with_mark c.args.resource a.reached.members = ap (λ (m : MarkSet). m.members) here in
    let gt : Grows a.touched.members z.touched.members = two.touched in
    let more : Grows a.reached.members b.reached.members = subst (Grows a.reached.members) (sym marked) (grows_mark c.args.resource a.reached.members) in
    let gr = grows_on a.reached.members b.reached.members z.reached.members more two.reached in
    let leads : Leads s (λ p q. q c.args.resource ≡ true) a z = λ p q along start t r. c.reach.ensures.least p q along t (marked_pass q c.args.resource a.reached.members b.reached.members marked start r) in
    let live = part_live s c.requires.at.filled.places.sound (λ p q. q c.args.resource ≡ true) a z leads refl c.requires.at.filled.held in
    let used = part_used s c.requires.at.filled.places.sound (λ p q. q c.args.resource ≡ true) a z leads (start_used s a c.args.resource c.requires.used) in
    let once = subst (AllPairs (λ a b. a ≢ b)) c.members.ensures.members c.members.ensures.once in
    let distinct = subst (AllPairs (λ a b. a ≢ b)) c.members-2.ensures.members c.members-2.ensures.once in
    let room : z.reached.room ≡ length s.capacities = two.reached_room ∙ ap (λ (m : MarkSet). m.room) here ∙ c.requires.at.filled.ready.reached_room in
    let exist = subst (λ xs. All (λ x. x < length s.capacities) xs) c.members-2.ensures.members (subst (λ (n : ℕ). All (λ x. x < n) c.members-2.result.now) room c.members-2.ensures.in_range) in
    let part : take (length c.members.result.now - length c.members-touched.result.now) (drop (length c.members-touched.result.now) c.members.result.now) ≡ drop (length a.touched.members) z.touched.members =
    rest_is (length c.members-touched.result.now) c.members.result.now ∙ ap (λ (xs : List ℕ). drop (length xs) c.members.result.now) c.members-touched.ensures.members ∙ ap (drop (length a.touched.members)) c.members.ensures.members in
    let resources : take (length c.members-2.result.now - length c.members-reached.result.now) (drop (length c.members-reached.result.now) c.members-2.result.now) ≡ drop (length a.reached.members) z.reached.members =
    rest_is (length c.members-reached.result.now) c.members-2.result.now ∙ ap (λ (xs : List ℕ). drop (length xs) c.members-2.result.now) c.members-reached.ensures.members ∙ ap (drop (length a.reached.members)) c.members-2.ensures.members in
    let uses = uses_at s.slots in
    let users = users_on s.users in
    let t' = drop (length a.touched.members) z.touched.members in
    let twice = part_twice s c.requires.at.filled.places.sound a z c.args.filling.now c.requires.at.filled gt gr c.reach.ensures.closed live once distinct in
    let came = lengths_came uses a.touched.members z.touched.members gt in
    let reached = lengths_came users a.reached.members z.reached.members gr in
    let before : lengths users (take (length c.members-reached.result.now) b.reached.members) ≡ lengths users a.reached.members =
    ap (λ (xs : List ℕ). lengths users (take (length xs) b.reached.members)) c.members-reached.ensures.members ∙ ap (lengths users) (first_of a.reached.members b.reached.members more) in
    let fill = subst (λ (xs : List ℕ). c.fill.new.steps ≤ c.reach.new.steps + 4 * lengths uses xs) part c.fill.ensures.looks in
    let f = c.args.filling.now in
    let f' = c.fill.new.filling in
    let ready : IsOpen s z = record {
      sound = c.requires.at.filled.places.sound;
      touched_room = omega (arith, c.requires.at.filled.ready.touched_room, two.touched_room);
      reached_room = room;
      covers = two.covers;
    } in
    let ended = subst (λ xs. IsEnded s xs (drop (length a.reached.members) z.reached.members) f f') part (subst (λ xs. IsEnded s (take (length c.members.result.now - length c.members-touched.result.now) (drop (length c.members-touched.result.now) c.members.result.now)) xs f f') resources c.fill.ensures.ended) in
    record {
      on = record {
        filled = filled_on s c.requires.at.filled.places.sound a z f c.requires.at.filled gt gr c.reach.ensures.closed live once distinct f' ready exist used ended;
        touched = gt;
        reached = gr;
        looks = omega (arith, c.reach.ensures.looks, twice, came, reached, before, fill);
      };
      there = stays c.args.resource b.reached.members z.reached.members two.reached (ap (λ (m : MarkSet). is_in c.args.resource m.members) here ∙ mark_there c.args.resource a.reached.members);
      least = leads;
    }
