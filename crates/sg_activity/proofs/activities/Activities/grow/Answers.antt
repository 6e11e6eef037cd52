use Rattle.std.proofs.Common.{◌≡◌, All, length, sym, ap, subst, ◌∙◌, arith, rules}
use Rattle.sg_activity.specs.declared.activity_state.Kept.{Kept}
use Rattle.sg_activity.specs.Doing.{Doing}
use Rattle.sg_activity.specs.Hosts.{IsHost}
use Rattle.sg_activity.specs.kept.Sound.{IsSound}
use Rattle.sg_activity.specs.kept.State.{doing_of, state_of}
use Rattle.sg_activity.proofs.Grown.{sound_grown, grown_doing}
use Rattle.sg_activity.specs.kept.Hits.{AreHit, AreSwitches}
use Rattle.sg_activity.proofs.Hitting.{hits_grown, hits_wider, slots_enough}
use Rattle.sg_activity.proofs.Indexing.{used_grown}
use Rattle.sg_activity.specs.Underway.{power_at}
use Rattle.sg_activity.specs.kept.Metered.{energies, metered_in}
use Rattle.sg_activity.proofs.Metering.{metered_same}
use Rattle.sg_activity.proofs.activities.Activities.grow.Goals as goal

pub invariant_of-self : goal.invariant_of-self
invariant_of-self c =
    let is = c.self.invariant in
    record {
      sound = is.sound;
      hosts = is.hosts;
      used = is.used;
      switches = is.switches;
      hit = subst (AreHit c.self.inside.kept) (sym c.in_err-reserve.ensures.room) is.hit;
      metered = is.metered;
    }

pub invariant_of-self-in_err-grow : goal.invariant_of-self-in_err-grow
invariant_of-self-in_err-grow c =
    let kept = c.self.inside.kept in
    let new = c.grow.new.kept in
    let is = c.self.invariant.sound in
    let g = c.grow.ensures.grows in
    let same : new ≡ record new { room = kept.room; flows = kept.flows; uses = kept.uses } = ap (λ (k : Kept). record new { room = k.room; flows = k.flows; uses = k.uses }) g.rest in
    record {
      sound = subst IsSound (sym same) (sound_grown kept new kept.room kept.flows kept.uses is g is.room.flows (omega (arith, is.room.flow_room, g.flow_room)) is.room.uses (omega (arith, is.room.use_room, g.use_room)) (omega (arith, is.room.keys_free, g.keys_free)));
      hosts = subst (λ (k : Kept). All IsHost k.hosts.items) (sym g.rest) c.self.invariant.hosts;
      used = used_grown kept new new.room c.self.invariant.used g (omega (arith, c.self.invariant.used.uses_free, g.wider.room, ap (λ (k : Kept). k.room) g.rest));
      switches = subst (λ (k : Kept). AreSwitches k) (sym g.rest) c.self.invariant.switches;
      hit = hits_grown kept new c.reserve.new.self (subst (AreHit kept) (sym c.in_ok-reserve.ensures.room) (hits_wider kept c.self.inside.hits c.in-Some-checked_add-2.keys c.self.invariant.hit)) g (omega (arith, c.grow.ensures.few, c.in-Some-checked_add-2.ensures, c.numbers.ensures, slots_enough c.in-Some-checked_add-2.keys c.self.inside.hits, ap length c.in_ok-reserve.ensures.room));
      metered = metered_same kept (new) c.self.inside.meter c.self.inside.touched c.self.invariant.metered (ap (λ (k : Kept). length k.hosts.items) g.rest) (ap (λ (k : Kept). k.date) g.rest)
          (λ host. ap (λ (d : Doing). power_at d.under host) (grown_doing kept new kept.room kept.flows kept.uses is g new.room));
    }

pub returns-in_err-grow : goal.returns-in_err-grow
returns-in_err-grow c =
    let kept = c.self.inside.kept in
    let new = c.grow.new.kept in
    record {
      room = search rules;
      grows = omega (arith, ap (λ (k : Kept). k.room) c.grow.ensures.grows.rest, ap (λ (d : Doing). d.room) c.self.view_is);
      kept =
          ap (λ date. metered_in (energies date c.self.inside.meter) (doing_of (state_of new) new.room)) (ap (λ (k : Kept). k.date) c.grow.ensures.grows.rest)
          ∙ ap (metered_in (energies kept.date c.self.inside.meter)) (grown_doing kept new kept.room kept.flows kept.uses c.self.invariant.sound c.grow.ensures.grows new.room)
          ∙ ap (λ (d : Doing). record d { room = new.room }) c.self.view_is;
    }

pub invariant_of-self-2 : goal.invariant_of-self-2
invariant_of-self-2 c =
    let kept = c.self.inside.kept in
    let new = c.grow.new.kept in
    let is = c.self.invariant.sound in
    let g = c.grow.ensures.grows in
    let n = c.max-n.result in
    record {
      sound = sound_grown kept new n c.in-Some.flows c.in-Some-checked_add.uses is g (omega (arith, c.in-Some.ensures, c.max-n.ensures, is.room.flows)) c.in_ok-grow.ensures.flows (omega (arith, c.in-Some-checked_mul.ensures, c.in-Some-checked_add.ensures, c.max-n.ensures, is.room.uses)) c.in_ok-grow.ensures.uses c.in_ok-grow.ensures.keys;
      hosts = subst (λ (k : Kept). All IsHost k.hosts.items) (sym g.rest) c.self.invariant.hosts;
      used = used_grown kept new n c.self.invariant.used g c.in_ok-grow.ensures.ways;
      switches = subst (λ (k : Kept). AreSwitches k) (sym g.rest) c.self.invariant.switches;
      hit = hits_grown kept new c.reserve.new.self (subst (AreHit kept) (sym c.in_ok-reserve.ensures.room) (hits_wider kept c.self.inside.hits c.in-Some-checked_add-2.keys c.self.invariant.hit)) g (omega (arith, c.grow.ensures.few, c.in-Some-checked_add-2.ensures, c.numbers.ensures, slots_enough c.in-Some-checked_add-2.keys c.self.inside.hits, ap length c.in_ok-reserve.ensures.room));
      metered = metered_same kept (record new { room = n; flows = c.in-Some.flows; uses = c.in-Some-checked_add.uses }) c.self.inside.meter c.self.inside.touched c.self.invariant.metered (ap (λ (k : Kept). length k.hosts.items) g.rest) (ap (λ (k : Kept). k.date) g.rest)
          (λ host. ap (λ (d : Doing). power_at d.under host) (grown_doing kept new kept.room kept.flows kept.uses is g new.room));
    }

pub returns : goal.returns
returns c =
    let kept = c.self.inside.kept in
    let new = c.grow.new.kept in
    let n = c.max-n.result in
    record {
      room = omega (arith, c.max-n.ensures);
      grows = omega (arith, c.max-n.ensures, ap (λ (d : Doing). d.room) c.self.view_is);
      kept =
          ap (λ date. metered_in (energies date c.self.inside.meter) (doing_of (state_of new) n)) (ap (λ (k : Kept). k.date) c.grow.ensures.grows.rest)
          ∙ ap (metered_in (energies kept.date c.self.inside.meter)) (grown_doing kept new n c.in-Some.flows c.in-Some-checked_add.uses c.self.invariant.sound c.grow.ensures.grows n)
          ∙ ap (λ (d : Doing). record d { room = n }) c.self.view_is;
    }
