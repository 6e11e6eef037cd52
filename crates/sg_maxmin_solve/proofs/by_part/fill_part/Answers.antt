use Rattle.std.proofs.Common.{◌≡◌, true, refl, ◌≢◌, ◌+◌, ◌-◌, ◌*◌, ◌<◌, ◌≤◌, ℕ, List, [], ◌∷◌, length, take, drop, All, AllPairs, sym, ap, subst, ◌∙◌, arith}
use Rattle.sg_base.specs.MarkSet.{is_in}
use Rattle.sg_maxmin.specs.Chained.{users_on}
use Rattle.sg_maxmin.specs.Sharing.{uses_at}
use Rattle.sg_maxmin_solve.specs.declared.component.Component.{Component}
use Rattle.sg_maxmin_solve.specs.Component.{AreVisited, IsOpen, lengths}
use Rattle.sg_maxmin_solve.specs.Filling.{AreJoined}
use Rattle.sg_maxmin_solve.specs.Holds.{IsEnded}
use Rattle.sg_maxmin_solve.proofs.Apart.{first_of, in_right}
use Rattle.sg_maxmin_solve.proofs.Filled.{Leads, filled_on, lengths_came, part_joined, part_live, part_twice, part_used, rest_is, visited_on}
use Rattle.sg_maxmin_solve.proofs.Growing.{grows_on, stays}
use Rattle.sg_maxmin_solve.proofs.OneFlow.{alone_came, alone_closed, alone_once, is_here}
use Rattle.sg_maxmin_solve.proofs.by_part.fill_part.Goals as goal

pub touch_alone-requires : goal.touch_alone-requires
touch_alone-requires g c = record { ready = c.requires.filled.ready; held = c.requires.held; untouched = c.requires.untouched }

pub reach-requires-clause-visited : goal.reach-requires-clause-visited
reach-requires-clause-visited g c =
    let out = c.touch_alone.ensures.from.spreads in
    subst (λ n. AreVisited c.args.system.now n c.touch_alone.new.component) (sym (ap length c.members-reached.ensures.members)) (visited_on c.args.system.now c.args.component.now c.touch_alone.new.component c.requires.filled.closed out.touched out.reached)

pub fill-requires : goal.fill-requires
fill-requires g c =
    let s = c.args.system.now in
    let a : Component = c.args.component.now in
    let b : Component = c.touch_alone.new.component in
    let z : Component = c.reach.new.component in
    let one = c.touch_alone.ensures.from.spreads in
    let two = c.reach.ensures.spreads in
    let gt = grows_on a.touched.members b.touched.members z.touched.members one.touched two.touched in
    let gr = grows_on a.reached.members b.reached.members z.reached.members one.reached two.reached in
    let leads : Leads s (λ p q. p c.args.flow ≡ true) a z = λ p q along start t r. let m = c.touch_alone.ensures.from.least p q along.uses start t r in c.reach.ensures.least p q along m.0 m.1 in
    let live = part_live s c.requires.filled.places.sound (λ p q. p c.args.flow ≡ true) a z leads c.requires.held c.requires.filled.held in
    let used = part_used s c.requires.filled.places.sound (λ p q. p c.args.flow ≡ true) a z leads refl in
    let once = subst (AllPairs (λ a b. a ≢ b)) c.members-in-None.ensures.members c.members-in-None.ensures.once in
    let distinct = subst (AllPairs (λ a b. a ≢ b)) c.members-in-None-2.ensures.members c.members-in-None-2.ensures.once in
    let room : z.reached.room ≡ length s.capacities = two.reached_room ∙ one.reached_room ∙ c.requires.filled.ready.reached_room in
    let exist = subst (λ xs. All (λ x. x < length s.capacities) xs) c.members-in-None-2.ensures.members (subst (λ (n : ℕ). All (λ x. x < n) c.members-in-None-2.result.now) room c.members-in-None-2.ensures.in_range) in
    let part : take (length c.members-in-None.result.now - length c.members-touched.result.now) (drop (length c.members-touched.result.now) c.members-in-None.result.now) ≡ drop (length a.touched.members) z.touched.members =
    rest_is (length c.members-touched.result.now) c.members-in-None.result.now ∙ ap (λ (xs : List ℕ). drop (length xs) c.members-in-None.result.now) c.members-touched.ensures.members ∙ ap (drop (length a.touched.members)) c.members-in-None.ensures.members in
    let resources : take (length c.members-in-None-2.result.now - length c.members-reached.result.now) (drop (length c.members-reached.result.now) c.members-in-None-2.result.now) ≡ drop (length a.reached.members) z.reached.members =
    rest_is (length c.members-reached.result.now) c.members-in-None-2.result.now ∙ ap (λ (xs : List ℕ). drop (length xs) c.members-in-None-2.result.now) c.members-reached.ensures.members ∙ ap (drop (length a.reached.members)) c.members-in-None-2.ensures.members in
    let joined = part_joined s c.requires.filled.places.sound a z c.args.filling.now c.requires.filled gt gr c.reach.ensures.closed live once distinct exist used in
    record {
      joined =
          subst (λ xs. AreJoined s xs (take (length c.members-in-None-2.result.now - length c.members-reached.result.now) (drop (length c.members-reached.result.now) c.members-in-None-2.result.now))) (sym part)
          (subst (λ xs. AreJoined s (drop (length a.touched.members) z.touched.members) xs) (sym resources) joined);
      places = c.requires.filled.places;
      idle = c.requires.filled.idle;
    }

pub returns-in-None : goal.returns-in-None
returns-in-None g c =
    let s = c.args.system.now in
    let a : Component = c.args.component.now in
    let b : Component = c.touch_alone.new.component in
    let z : Component = c.reach.new.component in
    let one = c.touch_alone.ensures.from.spreads in
    let two = c.reach.ensures.spreads in
    let gt = grows_on a.touched.members b.touched.members z.touched.members one.touched two.touched in
    let gr = grows_on a.reached.members b.reached.members z.reached.members one.reached two.reached in
    let leads : Leads s (λ p q. p c.args.flow ≡ true) a z = λ p q along start t r. let m = c.touch_alone.ensures.from.least p q along.uses start t r in c.reach.ensures.least p q along m.0 m.1 in
    let live = part_live s c.requires.filled.places.sound (λ p q. p c.args.flow ≡ true) a z leads c.requires.held c.requires.filled.held in
    let used = part_used s c.requires.filled.places.sound (λ p q. p c.args.flow ≡ true) a z leads refl in
    let once = subst (AllPairs (λ a b. a ≢ b)) c.members-in-None.ensures.members c.members-in-None.ensures.once in
    let distinct = subst (AllPairs (λ a b. a ≢ b)) c.members-in-None-2.ensures.members c.members-in-None-2.ensures.once in
    let room : z.reached.room ≡ length s.capacities = two.reached_room ∙ one.reached_room ∙ c.requires.filled.ready.reached_room in
    let exist = subst (λ xs. All (λ x. x < length s.capacities) xs) c.members-in-None-2.ensures.members (subst (λ (n : ℕ). All (λ x. x < n) c.members-in-None-2.result.now) room c.members-in-None-2.ensures.in_range) in
    let part : take (length c.members-in-None.result.now - length c.members-touched.result.now) (drop (length c.members-touched.result.now) c.members-in-None.result.now) ≡ drop (length a.touched.members) z.touched.members =
    rest_is (length c.members-touched.result.now) c.members-in-None.result.now ∙ ap (λ (xs : List ℕ). drop (length xs) c.members-in-None.result.now) c.members-touched.ensures.members ∙ ap (drop (length a.touched.members)) c.members-in-None.ensures.members in
    let resources : take (length c.members-in-None-2.result.now - length c.members-reached.result.now) (drop (length c.members-reached.result.now) c.members-in-None-2.result.now) ≡ drop (length a.reached.members) z.reached.members =
    rest_is (length c.members-reached.result.now) c.members-in-None-2.result.now ∙ ap (λ (xs : List ℕ). drop (length xs) c.members-in-None-2.result.now) c.members-reached.ensures.members ∙ ap (drop (length a.reached.members)) c.members-in-None-2.ensures.members in
    let uses = uses_at s.slots in
    let users = users_on s.users in
    let t' = drop (length a.touched.members) z.touched.members in
    let twice = part_twice s c.requires.filled.places.sound a z c.args.filling.now c.requires.filled gt gr c.reach.ensures.closed live once distinct in
    let came = lengths_came uses a.touched.members z.touched.members gt in
    let reached = lengths_came users a.reached.members z.reached.members gr in
    let before : lengths users (take (length c.members-reached.result.now) b.reached.members) ≡ lengths users a.reached.members =
    ap (λ (xs : List ℕ). lengths users (take (length xs) b.reached.members)) c.members-reached.ensures.members ∙ ap (lengths users) (first_of a.reached.members b.reached.members one.reached) in
    let fill = subst (λ (xs : List ℕ). c.fill.new.steps ≤ c.reach.new.steps + 4 * lengths uses xs) part c.fill.ensures.looks in
    let f = c.args.filling.now in
    let f' = c.fill.new.filling in
    let ready : IsOpen s z = record {
      sound = c.requires.filled.places.sound;
      touched_room = omega (arith, c.requires.filled.ready.touched_room, one.touched_room, two.touched_room);
      reached_room = room;
      covers = two.covers;
    } in
    let there = subst (λ xs. is_in c.args.flow xs ≡ true) (sym c.touch_alone.ensures.touched) (in_right c.args.flow a.touched.members (c.args.flow ∷ []) (is_here c.args.flow)) in
    let ended = subst (λ xs. IsEnded s xs (drop (length a.reached.members) z.reached.members) f f') part (subst (λ xs. IsEnded s (take (length c.members-in-None.result.now - length c.members-touched.result.now) (drop (length c.members-touched.result.now) c.members-in-None.result.now)) xs f f') resources c.fill.ensures.ended) in
    record {
      on = record {
        filled = filled_on s c.requires.filled.places.sound a z f c.requires.filled gt gr c.reach.ensures.closed live once distinct f' ready exist used ended;
        touched = gt;
        reached = gr;
        looks = omega (arith, c.touch_alone.ensures.looks, c.reach.ensures.looks, twice, came, reached, before, fill);
      };
      there = stays c.args.flow b.touched.members z.touched.members two.touched there;
      least = leads;
    }

-- ---- a flow that is alone on its resources
pub fill_alone-requires-clause-can : goal.fill_alone-requires-clause-can
fill_alone-requires-clause-can g c =
    let s = c.args.system.now in
    let flow = c.args.flow in
    let a : Component = c.args.component.now in
    let z : Component = c.touch_alone.new.component in
    let f = c.args.filling.now in
    let out = c.touch_alone.ensures in
    let filled = c.requires.filled in
    let leads : Leads s (λ p q. p flow ≡ true) a z = λ p q along start t r. out.from.least p q along.uses start t r in
    let live = part_live s filled.places.sound (λ p q. p flow ≡ true) a z leads c.requires.held filled.held in
    let used = part_used s filled.places.sound (λ p q. p flow ≡ true) a z leads refl in
    let once = alone_once a.touched.members z.touched.members flow out.touched (subst (AllPairs (λ a b. a ≢ b)) c.members-touched.ensures.members c.members-touched.ensures.once) c.requires.untouched in
    let distinct = subst (AllPairs (λ a b. a ≢ b)) c.members.ensures.members c.members.ensures.once in
    let room : z.reached.room ≡ length s.capacities = out.from.spreads.reached_room ∙ filled.ready.reached_room in
    let exist = subst (λ xs. All (λ x. x < length s.capacities) xs) c.members.ensures.members (subst (λ (n : ℕ). All (λ x. x < n) c.members.result.now) room c.members.ensures.in_range) in
    let closed = alone_closed s a z flow c.in-Some.low filled.closed out.from.spreads out.marks out.touched c.in-Some.ensures.alone in
    let part = alone_came a.touched.members z.touched.members flow out.touched in
    let resources : take (length c.members.result.now - length c.members-reached.result.now) (drop (length c.members-reached.result.now) c.members.result.now) ≡ drop (length a.reached.members) z.reached.members =
    rest_is (length c.members-reached.result.now) c.members.result.now ∙ ap (λ (xs : List ℕ). drop (length xs) c.members.result.now) c.members-reached.ensures.members ∙ ap (drop (length a.reached.members)) c.members.ensures.members in
    let joined = part_joined s filled.places.sound a z f filled out.from.spreads.touched out.from.spreads.reached closed live once distinct exist used in
    record {
      joined = subst (λ xs. AreJoined s (flow ∷ []) xs) (sym resources) (subst (λ xs. AreJoined s xs (drop (length a.reached.members) z.reached.members)) part joined);
      places = filled.places;
      idle = filled.idle;
    }

pub returns-in-Some : goal.returns-in-Some
returns-in-Some g c =
    let s = c.args.system.now in
    let flow = c.args.flow in
    let a : Component = c.args.component.now in
    let z : Component = c.touch_alone.new.component in
    let f = c.args.filling.now in
    let out = c.touch_alone.ensures in
    let filled = c.requires.filled in
    let leads : Leads s (λ p q. p flow ≡ true) a z = λ p q along start t r. out.from.least p q along.uses start t r in
    let live = part_live s filled.places.sound (λ p q. p flow ≡ true) a z leads c.requires.held filled.held in
    let used = part_used s filled.places.sound (λ p q. p flow ≡ true) a z leads refl in
    let once = alone_once a.touched.members z.touched.members flow out.touched (subst (AllPairs (λ a b. a ≢ b)) c.members-touched.ensures.members c.members-touched.ensures.once) c.requires.untouched in
    let distinct = subst (AllPairs (λ a b. a ≢ b)) c.members.ensures.members c.members.ensures.once in
    let room : z.reached.room ≡ length s.capacities = out.from.spreads.reached_room ∙ filled.ready.reached_room in
    let exist = subst (λ xs. All (λ x. x < length s.capacities) xs) c.members.ensures.members (subst (λ (n : ℕ). All (λ x. x < n) c.members.result.now) room c.members.ensures.in_range) in
    let closed = alone_closed s a z flow c.in-Some.low filled.closed out.from.spreads out.marks out.touched c.in-Some.ensures.alone in
    let part = alone_came a.touched.members z.touched.members flow out.touched in
    let resources : take (length c.members.result.now - length c.members-reached.result.now) (drop (length c.members-reached.result.now) c.members.result.now) ≡ drop (length a.reached.members) z.reached.members =
    rest_is (length c.members-reached.result.now) c.members.result.now ∙ ap (λ (xs : List ℕ). drop (length xs) c.members.result.now) c.members-reached.ensures.members ∙ ap (drop (length a.reached.members)) c.members.ensures.members in
    let f' = c.fill_alone.new.filling in
    let came = lengths_came (uses_at s.slots) a.touched.members z.touched.members out.from.spreads.touched in
    let ready : IsOpen s z = record {
      sound = filled.places.sound;
      touched_room = omega (arith, filled.ready.touched_room, out.from.spreads.touched_room);
      reached_room = room;
      covers = out.from.spreads.covers;
    } in
    let ended = subst (λ xs. IsEnded s xs (drop (length a.reached.members) z.reached.members) f f') (sym part) (subst (λ xs. IsEnded s (flow ∷ []) xs f f') resources c.fill_alone.ensures) in
    record {
      on = record {
        filled = filled_on s filled.places.sound a z f filled out.from.spreads.touched out.from.spreads.reached closed live once distinct f' ready exist used ended;
        touched = out.from.spreads.touched;
        reached = out.from.spreads.reached;
        looks = omega (arith, out.looks, came);
      };
      there = subst (λ xs. is_in flow xs ≡ true) (sym out.touched) (in_right flow a.touched.members (flow ∷ []) (is_here flow));
      least = leads;
    }
