use Rattle.std.proofs.Common.{◌≡◌, ◌+◌, length, length-set, set, refl, ap, subst, ◌∙◌}
use Rattle.sg_maxmin.specs.Chained.{users_on}
use Rattle.sg_activity.specs.kept.Hits.{AreLooked}
use Rattle.sg_activity.specs.kept.State.{state_of, ways_of}
use Rattle.sg_activity.proofs.Reset.{users_below}
use Rattle.sg_activity.proofs.Switched.{all_placed, flipped_sound, link_looked}
use Rattle.sg_activity.proofs.switches.set_link_on.Goals as goal

pub update_hits-requires-clause-keys : goal.update_hits-requires-clause-keys
update_hits-requires-clause-keys c = users_below c.args.kept.now c.args.kept.now.index c.requires.can.used c.is_both_ways.ensures (c.len.result + c.args.link)

pub update_hits-requires-clause-look : goal.update_hits-requires-clause-look
update_hits-requires-clause-look c =
    let can = c.requires.can in
    record {
      used = can.used;
      hits = can.hit.long;
      switches = (can.switches.0, (length-set c.args.kept.now.links_on.items c.args.link c.args.on ∙ can.switches.1.0, can.switches.1.1));
      placed = all_placed c.args.kept.now can.sound;
    }

pub returns : goal.returns
returns c =
    let kept = c.args.kept.now in
    let index = c.args.kept.now.index in
    let thing : c.len.result + c.args.link ≡ length kept.hosts.items + c.args.link = ap (λ n. n + c.args.link) (c.len.ensures ∙ kept.hosts.ok.0) in
    let can = c.requires.can in
    record {
      flips = record { state = refl; sound = flipped_sound kept _ (record (state_of kept).on { links = set kept.links_on.items c.args.link c.args.on }) can.sound refl refl; index = refl; room = refl };
      switches = (can.switches.0, (length-set kept.links_on.items c.args.link c.args.on ∙ can.switches.1.0, can.switches.1.1));
      hit =
          link_looked kept index can.used c.is_both_ways.ensures c.args.hits.now can.hit c.args.link c.args.on c.update_hits.new.hits
          (subst (λ n. AreLooked (record (state_of kept).on { links = set kept.links_on.items c.args.link c.args.on }) kept.lives.slots (ways_of kept) c.args.hits.now c.update_hits.new.hits (users_on index.users n)) thing c.update_hits.ensures);
    }
