use Rattle.std.proofs.Common.{◌≡◌, ◌<◌, suc, [], ◌∷◌, ◌++◌, length, take, get_or, sym, ap, subst, ◌∙◌, arith}
use Rattle.std.proofs.Math.Seq.{take-suc}
use Rattle.std.proofs.lemmas.List.{take_all}
use Rattle.std.proofs.lemmas.List.Elements.{All-get_or}
use Rattle.sg_maxmin.specs.Chained.{users_on}
use Rattle.sg_maxmin.specs.Walk.{next_on, user_of}
use Rattle.sg_maxmin.proofs.Walked.{can_look, looked, walk_on, nearer, walked}
use Rattle.sg_activity.specs.kept.Hits.{AreLooked}
use Rattle.sg_activity.specs.kept.State.{state_of, ways_of}
use Rattle.sg_activity.proofs.Switched.{looked_on}
use Rattle.sg_activity.proofs.switches.update_hits.Goals as goal

pub look-one-requires : goal.look-one-requires
look-one-requires c =
    let i = c.args.kept.now.index in
    let inv = c.loop-at.invariant in
    can_look next_on user_of i.uses (users_on i.users c.args.thing) inv.0 c.loop-at.at inv.1.walk c.in-Some.i c.in-Some.is

pub update_hit-requires-clause-key : goal.update_hit-requires-clause-key
update_hit-requires-clause-key c =
    let i = c.args.kept.now.index in
    let inv = c.loop-at.invariant in
    let r = looked next_on user_of i.uses (users_on i.users c.args.thing) inv.0 c.loop-at.at inv.1.walk c.in-Some.i c.look-one.result c.in-Some.is c.look-one.ensures in
    let below : get_or (users_on i.users c.args.thing) inv.0 0 < length c.args.kept.now.lives.slots = All-get_or (λ n. n < length c.args.kept.now.lives.slots) (users_on i.users c.args.thing) inv.0 0 r.less c.requires.keys in
    omega (arith, below, r.is)

pub update_hit-requires-clause-look : goal.update_hit-requires-clause-look
update_hit-requires-clause-look c =
    let look = c.requires.look in
    record { used = look.used; hits = omega (arith, look.hits, c.loop-at.invariant.1.looked.long); switches = look.switches; placed = look.placed }

pub loop-at-smaller : goal.loop-at-smaller
loop-at-smaller c =
    let i = c.args.kept.now.index in
    let inv = c.loop-at.invariant in
    nearer next_on user_of i.uses (users_on i.users c.args.thing) inv.0 c.loop-at.at inv.1.walk c.in-Some.i c.look-one.result c.in-Some.is c.look-one.ensures

pub loop-at-preserved : goal.loop-at-preserved
loop-at-preserved c =
    let i = c.args.kept.now.index in
    let row = users_on i.users c.args.thing in
    let inv = c.loop-at.invariant in
    let k = inv.0 in
    let r = looked next_on user_of i.uses row k c.loop-at.at inv.1.walk c.in-Some.i c.look-one.result c.in-Some.is c.look-one.ensures in
    let more : take k row ++ c.look-one.result.flow ∷ [] ≡ take (suc k) row = ap (λ n. take k row ++ n ∷ []) r.is ∙ sym (take-suc row k 0 r.less) in
    let below : get_or row k 0 < length c.args.kept.now.lives.slots = All-get_or (λ n. n < length c.args.kept.now.lives.slots) row k 0 r.less c.requires.keys in (
      suc k,
      record {
        walk = walk_on next_on user_of i.uses row k c.loop-at.at inv.1.walk c.in-Some.i c.look-one.result c.in-Some.is c.look-one.ensures;
        looked = subst (AreLooked (state_of c.args.kept.now).on c.args.kept.now.lives.slots (ways_of c.args.kept.now) c.args.hits.now c.update_hit.new.hits) more (looked_on (state_of c.args.kept.now).on c.args.kept.now.lives.slots (ways_of c.args.kept.now) c.args.hits.now c.loop-at.hits c.update_hit.new.hits (take k row) c.look-one.result.flow inv.1.looked (omega (arith, c.requires.look.hits, inv.1.looked.long, below, r.is)) c.update_hit.ensures);
      },
    )

pub returns : goal.returns
returns c =
    let i = c.args.kept.now.index in
    let row = users_on i.users c.args.thing in
    let inv = c.loop-at.invariant in
    let end = walked next_on user_of i.uses row inv.0 c.loop-at.at inv.1.walk c.in_default.not-Some in
    subst (AreLooked (state_of c.args.kept.now).on c.args.kept.now.lives.slots (ways_of c.args.kept.now) c.args.hits.now c.loop-at.hits) (take_all inv.0 row (omega (arith, end))) inv.1.looked
