use Rattle.std.proofs.Common.{◌≡◌, ◌≢◌, ◌+◌, ◌<◌, ◌≤◌, ◌&&◌, true, false, not, cond, ℕ, Option, None, Some, is_some, IsSome, option_map, length, length-set, get_or, set, take, subst, sym, List, ap, ap₂, ◌∙◌, arith}
use Rattle.std.proofs.lemmas.List.{take_all}
use Rattle.std.specs.Option.{IfSome}
use Rattle.sg_base.specs.MarkSet.{is_in}
use Rattle.sg_heap.specs.Agenda.{key_at}
use Rattle.sg_lazy.specs.Lazily.{Lazily}
use Rattle.sg_lazy.specs.RunningFlow.{RunningFlow, running_at}
use Rattle.sg_activity_table.specs.declared.lives.Live.{Live}
use Rattle.sg_activity_table.specs.Pool.{slot_at, with_stamp}
use Rattle.sg_activity.specs.kept.Renewal.{IsKeyed, HaveKeys, restamped, is_renewed, rate_in, date_in}
use Rattle.sg_activity.specs.kept.Stamps.{left_at}
use Rattle.sg_activity.specs.kept.State.{date_of}
use Rattle.sg_activity.proofs.Listing.{some_same}
use Rattle.sg_activity.proofs.Pairing.{there_within}
use Rattle.sg_activity.proofs.Told.{member_at}
use Rattle.sg_activity.proofs.Renewed.{there_before, stamp_before, restamped_next, unmarked_next, redated_next, left_small}
use Rattle.sg_activity.proofs.renewal.restamp.Goals as goal

-- the rate that the flow was given
rate_is : (o : Option RunningFlow) (rate : ℕ) → IsSome o → IfSome o (λ running. rate ≡ running.rate) → rate ≡ rate_in o
rate_is None rate some is = absurd (cc some)
rate_is (Some running) rate some is = is

-- the activity of the flow that this turn is about
keyed_at : (slots : List (Option Live)) (by_flow : List ℕ) (lazy : Lazily) (date : ℕ) (changed : List ℕ) (i : ℕ) → HaveKeys slots by_flow lazy date → changed ≡ lazy.changed → i < length changed → IsKeyed slots by_flow lazy date (get_or changed i 0)
keyed_at slots by_flow lazy date changed i have same within = have (get_or changed i 0) (subst (λ l. is_in (get_or changed i 0) l ≡ true) same (member_at changed i within))

pub key_of-key-requires : goal.key_of-key-requires
key_of-key-requires c = (keyed_at c.args.lives.now.slots c.args.by_flow.now c.args.lazy.now c.args.date c.changed-changed.result.now c.loop-id.id-index c.requires.keys c.changed-changed.ensures c.loop-id-test.true).within

pub get-requires : goal.get-requires
get-requires c =
    let changed = c.changed-changed.result.now in
    let i = c.loop-id.id-index in
    let keyed = keyed_at c.args.lives.now.slots c.args.by_flow.now c.args.lazy.now c.args.date changed i c.requires.keys c.changed-changed.ensures c.loop-id-test.true in
    let at = there_before changed c.args.by_flow.now c.args.lazy.now c.args.date c.args.lives.now.slots c.loop-id.lives.slots i c.loop-id-test.true keyed c.loop-id.invariant.slots in
    subst (λ n. n < length c.loop-id.lives.slots) (sym c.key_of-key.ensures) (there_within c.loop-id.lives.slots (get_or c.args.by_flow.now (get_or changed i 0) 0) _ at)

pub rate-requires : goal.rate-requires
rate-requires c = (keyed_at c.args.lives.now.slots c.args.by_flow.now c.args.lazy.now c.args.date c.changed-changed.result.now c.loop-id.id-index c.requires.keys c.changed-changed.ensures c.loop-id-test.true).runs

pub unreachable-requires : goal.unreachable-requires
unreachable-requires c =
    let changed = c.changed-changed.result.now in
    let i = c.loop-id.id-index in
    let keyed = keyed_at c.args.lives.now.slots c.args.by_flow.now c.args.lazy.now c.args.date changed i c.requires.keys c.changed-changed.ensures c.loop-id-test.true in
    let at = there_before changed c.args.by_flow.now c.args.lazy.now c.args.date c.args.lives.now.slots c.loop-id.lives.slots i c.loop-id-test.true keyed c.loop-id.invariant.slots in
    none_some (sym c.in_default.is ∙ c.get.ensures ∙ ap (slot_at c.loop-id.lives.slots) c.key_of-key.ensures ∙ at)
  where
    none_some : {live : Live} → None ≡ Some live → ⊥
    none_some e = cc e

pub left_at-requires : goal.left_at-requires
left_at-requires c =
    let changed = c.changed-changed.result.now in
    let i = c.loop-id.id-index in
    let keyed = keyed_at c.args.lives.now.slots c.args.by_flow.now c.args.lazy.now c.args.date changed i c.requires.keys c.changed-changed.ensures c.loop-id-test.true in
    let at = there_before changed c.args.by_flow.now c.args.lazy.now c.args.date c.args.lives.now.slots c.loop-id.lives.slots i c.loop-id-test.true keyed c.loop-id.invariant.slots in
    let same = some_same (sym at ∙ ap (slot_at c.loop-id.lives.slots) (sym c.key_of-key.ensures) ∙ sym c.get.ensures ∙ c.in-Some.is) in
    subst (λ (l : Live). l.stamp ≤ c.args.date) same (stamp_before changed c.args.by_flow.now c.args.lazy.now c.args.date c.args.lives.now.slots c.loop-id.lives.slots i c.loop-id-test.true keyed c.loop-id.invariant.slots)

pub restamp-requires : goal.restamp-requires
restamp-requires c = ap is_some (sym c.get.ensures ∙ c.in-Some.is)

-- the activity that is dated is small
pub date_anew-requires-clause-small : goal.date_anew-requires-clause-small
date_anew-requires-clause-small c =
    let changed = c.changed-changed.result.now in
    let i = c.loop-id.id-index in
    let keyed = keyed_at c.args.lives.now.slots c.args.by_flow.now c.args.lazy.now c.args.date changed i c.requires.keys c.changed-changed.ensures c.loop-id-test.true in
    let at = ap (slot_at c.loop-id.lives.slots) (sym c.key_of-key.ensures) ∙ sym c.get.ensures ∙ c.in-Some.is in
    let left = left_small changed c.args.by_flow.now c.args.lazy.now c.args.date c.args.lives.now.slots c.loop-id.lives.slots i c.loop-id-test.true keyed c.loop-id.invariant.slots c.in-Some.live at c.requires.small.0 in
    record {
      amount = omega (arith, left, c.left_at.ensures);
      stamp = c.requires.small.1;
    }

pub loop-id-preserved : goal.loop-id-preserved
loop-id-preserved c =
    let inv = c.loop-id.invariant in
    let i = c.loop-id.id-index in
    let changed = c.changed-changed.result.now in
    let id = get_or changed i 0 in
    let by_flow = c.args.by_flow.now in
    let lazy = c.args.lazy.now in
    let date = c.args.date in
    let slots = c.args.lives.now.slots in
    let now = c.loop-id.lives.slots in
    let key = get_or by_flow id 0 in
    let keyed = keyed_at slots by_flow lazy date changed i c.requires.keys c.changed-changed.ensures c.loop-id-test.true in
    let is_key = c.key_of-key.ensures in
    let live : Live = c.in-Some.live in
    let left = c.left_at.ensures in
    let at : slot_at now key ≡ Some live = ap (slot_at now) (sym is_key) ∙ sym c.get.ensures ∙ c.in-Some.is in
    let rate = rate_is (running_at lazy.slots id) c.rate.result keyed.runs c.rate.ensures in
    let next : Live = record live { kept = left_at live.kept live.rate live.stamp date; stamp = date; rate = c.rate.result } in
    let slot = ap₂ (λ n o. option_map (with_stamp n date c.rate.result) o) left (ap (slot_at now) is_key ∙ at) in
    let new : c.restamp.new.self.slots ≡ set now key (Some next) = c.restamp.ensures.slots ∙ ap₂ (λ n o. set now n o) is_key slot in
    let dated : c.date_anew.new.agenda ≡ set c.loop-id.agenda key (date_of next) = c.date_anew.ensures ∙ ap₂ (λ n m. set c.loop-id.agenda n (date_of (record live { kept = m; stamp = date; rate = c.rate.result }))) is_key left in
    let within : key < length c.loop-id.agenda = omega (arith, there_within now key live at, inv.long, inv.dates_long, c.requires.agenda) in
    record {
      slots = subst (λ l. (k : ℕ) → slot_at l k ≡ option_map (restamped (take (i + 1) changed) lazy.slots date) (slot_at slots k)) (sym new) (restamped_next changed by_flow lazy date slots now i c.loop-id-test.true keyed inv.slots live c.rate.result at rate);
      long = ap length new ∙ length-set now key _ ∙ inv.long;
      room = c.restamp.ensures.room ∙ inv.room;
      dates = subst (λ l. (k : ℕ) → key_at l k ≡ cond (is_renewed (take (i + 1) changed) (slot_at slots k)) (date_in (slot_at c.restamp.new.self.slots k)) (key_at c.args.agenda.now k)) (sym dated)
          (subst (λ l. (k : ℕ) → key_at (set c.loop-id.agenda key (date_of next)) k ≡ cond (is_renewed (take (i + 1) changed) (slot_at slots k)) (date_in (slot_at l k)) (key_at c.args.agenda.now k)) (sym new)
          (redated_next changed by_flow lazy date slots now i c.loop-id-test.true keyed inv.slots c.args.agenda.now c.loop-id.agenda next within inv.dates));
      dates_long = ap length dated ∙ length-set c.loop-id.agenda key _ ∙ inv.dates_long;
      fresh = unmarked_next changed by_flow lazy date slots now i c.loop-id-test.true keyed inv.slots c.args.fresh.now.members c.loop-id.fresh.members c.remove.new.self.members inv.fresh
          (subst (λ n. is_in n c.remove.new.self.members ≡ false) is_key c.remove.ensures.gone)
          (subst (λ n. (k : ℕ) → k ≢ n → is_in k c.remove.new.self.members ≡ is_in k c.loop-id.fresh.members) is_key c.remove.ensures.others);
      fresh_room = c.remove.ensures.room ∙ inv.fresh_room;
    }

pub returns-clause-stamps : goal.returns-clause-stamps
returns-clause-stamps c =
    let inv = c.loop-id.invariant in
    let all = take_all c.loop-id.id-index c.changed-changed.result.now c.loop-id-test.false ∙ c.changed-changed.ensures in
    record {
      slots = subst (λ l. (k : ℕ) → slot_at c.loop-id.lives.slots k ≡ option_map (restamped l c.args.lazy.now.slots c.args.date) (slot_at c.args.lives.now.slots k)) all inv.slots;
      long = inv.long;
      room = inv.room;
    }

pub returns-clause-dates : goal.returns-clause-dates
returns-clause-dates c =
    let inv = c.loop-id.invariant in
    let all = take_all c.loop-id.id-index c.changed-changed.result.now c.loop-id-test.false ∙ c.changed-changed.ensures in
    record {
      dates = subst (λ l. (k : ℕ) → key_at c.loop-id.agenda k ≡ cond (is_renewed l (slot_at c.args.lives.now.slots k)) (date_in (slot_at c.loop-id.lives.slots k)) (key_at c.args.agenda.now k)) all inv.dates;
      long = inv.dates_long;
    }

pub returns-clause-fresh : goal.returns-clause-fresh
returns-clause-fresh c =
    let inv = c.loop-id.invariant in
    let all = take_all c.loop-id.id-index c.changed-changed.result.now c.loop-id-test.false ∙ c.changed-changed.ensures in
    record {
      members = subst (λ l. (k : ℕ) → is_in k c.loop-id.fresh.members ≡ (is_in k c.args.fresh.now.members && not (is_renewed l (slot_at c.args.lives.now.slots k)))) all inv.fresh;
      room = inv.fresh_room;
    }
