use Rattle.std.proofs.Common.{◌≡◌, ◌+◌, length, length-set, set, refl, ap₂, subst, ◌∙◌, arith}
use Rattle.sg_maxmin.specs.Chained.{users_on}
use Rattle.sg_activity.specs.kept.Hits.{AreLooked}
use Rattle.sg_activity.specs.kept.State.{state_of, ways_of}
use Rattle.sg_activity.proofs.Reset.{users_below}
use Rattle.sg_activity.proofs.Switched.{all_placed, flipped_sound, hosts_looked}
use Rattle.sg_activity.proofs.switches.set_host_on.Goals as goal

pub overflow_add-end-2 : goal.overflow_add-end-2
overflow_add-end-2 c =
    let kept = c.args.kept.now in
    omega (arith, c.requires.host, c.len.ensures, c.len-2.ensures, kept.hosts.ok.0, kept.links.ok.0, c.requires.can.switches.1.1.0)

pub update_hits-requires-clause-keys : goal.update_hits-requires-clause-keys
update_hits-requires-clause-keys c = users_below c.args.kept.now c.args.kept.now.index c.requires.can.used c.is_both_ways.ensures c.args.host

pub update_hits-requires-2-clause-keys : goal.update_hits-requires-2-clause-keys
update_hits-requires-2-clause-keys c = users_below c.args.kept.now c.args.kept.now.index c.requires.can.used c.is_both_ways.ensures (c.len.result + c.len-2.result + c.args.host)

pub update_hits-requires-clause-look : goal.update_hits-requires-clause-look
update_hits-requires-clause-look c =
    let can = c.requires.can in
    record {
      used = can.used;
      hits = can.hit.long;
      switches = (length-set c.args.kept.now.hosts_on.items c.args.host c.args.on ∙ can.switches.0, can.switches.1);
      placed = all_placed c.args.kept.now can.sound;
    }

pub update_hits-requires-2-clause-look : goal.update_hits-requires-2-clause-look
update_hits-requires-2-clause-look c =
    let can = c.requires.can in
    record {
      used = can.used;
      hits = omega (arith, can.hit.long, c.update_hits.ensures.long);
      switches = (length-set c.args.kept.now.hosts_on.items c.args.host c.args.on ∙ can.switches.0, can.switches.1);
      placed = all_placed c.args.kept.now can.sound;
    }

pub returns : goal.returns
returns c =
    let kept = c.args.kept.now in
    let index = c.args.kept.now.index in
    let end : c.len.result + c.len-2.result + c.args.host ≡ length kept.hosts.items + length kept.links.items + c.args.host = ap₂ (λ n m. n + m + c.args.host) (c.len.ensures ∙ kept.hosts.ok.0) (c.len-2.ensures ∙ kept.links.ok.0) in
    let can = c.requires.can in
    record {
      flips = record { state = refl; sound = flipped_sound kept _ (record (state_of kept).on { hosts = set kept.hosts_on.items c.args.host c.args.on }) can.sound refl refl; index = refl; room = refl };
      switches = (length-set kept.hosts_on.items c.args.host c.args.on ∙ can.switches.0, can.switches.1);
      hit =
          hosts_looked kept index can.used c.is_both_ways.ensures c.args.hits.now can.hit c.args.host c.args.on c.update_hits.new.hits c.update_hits-2.new.hits c.update_hits.ensures
          (subst (λ n. AreLooked (record (state_of kept).on { hosts = set kept.hosts_on.items c.args.host c.args.on }) kept.lives.slots (ways_of kept) c.update_hits.new.hits c.update_hits-2.new.hits (users_on index.users n)) end c.update_hits-2.ensures);
    }
