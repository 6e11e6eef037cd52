use Rattle.std.proofs.Common.{◌≡◌, ◌≢◌, ℕ, ◌+◌, ◌-◌, ◌<◌, ◌≤◌, max, All, AllPairs, Option, None, Some, List, length, refl, sym, ap, subst, ◌∙◌, arith}
use Rattle.sg_maxmin.specs.Chained.{users_on}
use Rattle.sg_maxmin_levels.specs.Joined.{spare_looks}
use Rattle.sg_maxmin_levels.specs.Allowed.{SparesLooks}
use Rattle.sg_maxmin_levels.proofs.Noted.{noted_on}
use Rattle.sg_maxmin_levels.proofs.Renewing.{filled_from}
use Rattle.sg_maxmin_levels.proofs.Joined.{spare_more}
use Rattle.sg_maxmin_levels.proofs.Allowing.{round_joined, spared, users_joined}
use Rattle.sg_maxmin_levels.proofs.levels.Levels.look_on.Goals as goal

pub refresh-requires-clause-at : goal.refresh-requires-clause-at
refresh-requires-clause-at g c = record { settling = c.loop-round.invariant.settling; resource = c.in-Some.ensures.some }

pub refresh-requires-clause-given : goal.refresh-requires-clause-given
refresh-requires-clause-given g c =
    let inv = c.loop-round.invariant in
    let given = c.loop-round.given in
    let known = c.with_flows-known.result in
    let had = c.with_flows-known.ensures in
    let k = max (max given.known c.saturating_sub-flows.result) c.in-Some.next.most_users in
    let r = max given.row c.in-Some.next.most_users in
    let more = spare_more given.known k given.row r given.ended (omega arith) (omega arith) in
    let few : known.spent ≤ spare_looks k r given.ended = omega (arith, had.spent, inv.spent, more) in
    let a = subst (λ k. known.spent ≤ spare_looks k r given.ended) (sym had.known) few in
    let b = subst (λ r. known.spent ≤ spare_looks known.known r given.ended) (sym had.row) a in
    subst (λ m. known.spent ≤ spare_looks known.known known.row m) (sym had.ended) b

pub loop-round-preserved : goal.loop-round-preserved
loop-round-preserved g c =
    let s = c.args.system.now in
    let first = c.args.self.now in
    let inv = c.loop-round.invariant in
    let now = c.loop-round.self in
    let flows = c.saturating_sub-flows.result in
    let is : flows ≡ length now.moved.members - (length first.moved.members - length first.stale.members) = omega (arith, c.saturating_sub-flows.ensures, c.saturating_sub-behind.ensures, ap (λ (xs : List ℕ). length xs) c.members.ensures.members, ap (λ (xs : List ℕ). length xs) c.members-2.ensures.members, ap (λ (xs : List ℕ). length xs) c.members-in-loop-round.ensures.members) in
    let known = round_joined s c.is_sound.ensures first now c.requires.stale inv.within inv.settling.kept c.loop-round.given flows c.in-Some.next.most_users c.in-Some.ensures.most inv.joined is (subst (AllPairs (λ a b. a ≢ b)) c.members-2.ensures.members c.members-2.ensures.once) (subst (AllPairs (λ a b. a ≢ b)) c.members-in-loop-round.ensures.members c.members-in-loop-round.ensures.once)
    (subst (All (λ number. number < first.stale.room)) c.members-2.ensures.members c.members-2.ensures.in_range) (subst (All (λ number. number < first.moved.room)) c.members.ensures.members c.members.ensures.in_range) (subst (All (λ number. number < now.moved.room)) c.members-in-loop-round.ensures.members c.members-in-loop-round.ensures.in_range) in
    let users = users_joined s c.is_sound.ensures first now inv.within c.in-Some.next.resource c.in-Some.ensures.active in
    let had = c.with_flows-known.ensures in
    let out = c.in-Some-refresh.ensures in
    let after = c.refresh.new.self in
    record {
      settling = c.refresh.ensures.settles.settling;
      moved = noted_on first.moved now.moved after.moved first.levels.items now.levels.items after.levels.items inv.moved c.refresh.ensures.settles.moved;
      within = λ p q along are. let here = inv.within p q along are in c.refresh.ensures.settles.within p q along (here.active c.in-Some.next.resource c.in-Some.ensures.active) here;
      joined = λ p q along are.
          let k = known p q along are in
          let u = users p q along are in
          (omega (arith, out.known.flows, had.known, k.0, u.0), omega (arith, out.known.row, had.row, k.1, u.1));
      ended = out.known.ended ∙ had.ended ∙ inv.ended;
      spent = out.spent.few;
      looks = omega (arith, out.spent.told, had.spent, inv.looks);
    }

-- what no `Some` is
none_left : {X : Type 0} (o : Option X) → ((x : X) → o ≡ Some x → ⊥) → o ≡ None
none_left None h = refl
none_left (Some x) h = absurd (h x refl)

pub returns-in_default-clause-levels : goal.returns-in_default-clause-levels
returns-in_default-clause-levels g c = λ t. filled_from c.args.system.now c.is_sound.ensures c.loop-round.self c.loop-round.invariant.settling (c.next_active.ensures.none (none_left c.next_active.result c.in_default.not-Some))

pub returns-in_default-clause-looks : goal.returns-in_default-clause-looks
returns-in_default-clause-looks g c =
    let inv = c.loop-round.invariant in
    let given = c.loop-round.given in
    subst (λ m. SparesLooks c.args.system.now c.args.self.now m c.args.steps.now c.loop-round.steps) inv.ended (spared c.args.system.now c.args.self.now given.known given.row given.ended c.args.steps.now c.loop-round.steps inv.joined (omega (arith, inv.looks, inv.spent)))

pub returns-clause-looks : goal.returns-clause-looks
returns-clause-looks g c =
    let inv = c.loop-round.invariant in
    let given = c.loop-round.given in
    subst (λ m. SparesLooks c.args.system.now c.args.self.now m c.args.steps.now c.loop-round.steps) inv.ended (spared c.args.system.now c.args.self.now given.known given.row given.ended c.args.steps.now c.loop-round.steps inv.joined (omega (arith, inv.looks, inv.spent)))

pub returns-then-members-gt-MOST_ACTIVE-clause-looks : goal.returns-then-members-gt-MOST_ACTIVE-clause-looks
returns-then-members-gt-MOST_ACTIVE-clause-looks g c =
    let inv = c.loop-round.invariant in
    let given = c.loop-round.given in
    subst (λ m. SparesLooks c.args.system.now c.args.self.now m c.args.steps.now c.loop-round.steps) inv.ended (spared c.args.system.now c.args.self.now given.known given.row given.ended c.args.steps.now c.loop-round.steps inv.joined (omega (arith, inv.looks, inv.spent)))

pub returns-in_default-refresh-clause-looks : goal.returns-in_default-refresh-clause-looks
returns-in_default-refresh-clause-looks g c =
    let s = c.args.system.now in
    let first = c.args.self.now in
    let inv = c.loop-round.invariant in
    let now = c.loop-round.self in
    let flows = c.saturating_sub-flows.result in
    let is : flows ≡ length now.moved.members - (length first.moved.members - length first.stale.members) = omega (arith, c.saturating_sub-flows.ensures, c.saturating_sub-behind.ensures, ap (λ (xs : List ℕ). length xs) c.members.ensures.members, ap (λ (xs : List ℕ). length xs) c.members-2.ensures.members, ap (λ (xs : List ℕ). length xs) c.members-in-loop-round.ensures.members) in
    let known = round_joined s c.is_sound.ensures first now c.requires.stale inv.within inv.settling.kept c.loop-round.given flows c.in-Some.next.most_users c.in-Some.ensures.most inv.joined is (subst (AllPairs (λ a b. a ≢ b)) c.members-2.ensures.members c.members-2.ensures.once) (subst (AllPairs (λ a b. a ≢ b)) c.members-in-loop-round.ensures.members c.members-in-loop-round.ensures.once)
    (subst (All (λ number. number < first.stale.room)) c.members-2.ensures.members c.members-2.ensures.in_range) (subst (All (λ number. number < first.moved.room)) c.members.ensures.members c.members.ensures.in_range) (subst (All (λ number. number < now.moved.room)) c.members-in-loop-round.ensures.members c.members-in-loop-round.ensures.in_range) in
    let users = users_joined s c.is_sound.ensures first now inv.within c.in-Some.next.resource c.in-Some.ensures.active in
    let had = c.with_flows-known.ensures in
    let given = c.loop-round.given in
    let row = length (users_on s.users c.in-Some.next.resource) in
    let told = c.with_flows-known.result in
    let most = c.in-Some.next.most_users in
    let a = subst (λ k. c.refresh.new.steps + told.spent ≤ c.loop-round.steps + spare_looks (max k row) (max told.row row) told.ended) had.known c.refresh.ensures.looks in
    let b = subst (λ r. c.refresh.new.steps + told.spent ≤ c.loop-round.steps + spare_looks (max (max (max given.known flows) most) row) (max r row) told.ended) had.row a in
    let d = subst (λ m. c.refresh.new.steps + told.spent ≤ c.loop-round.steps + spare_looks (max (max (max given.known flows) most) row) (max (max given.row most) row) m) had.ended b in
    subst (λ m. SparesLooks s first m c.args.steps.now c.refresh.new.steps) inv.ended
    (spared s first (max (max (max given.known flows) most) row) (max (max given.row most) row) given.ended c.args.steps.now c.refresh.new.steps (λ p q along are.
    let k = known p q along are in
    let u = users p q along are in
    (omega (arith, k.0, u.0), omega (arith, k.1, u.1))) (omega (arith, d, had.spent, inv.looks)))
