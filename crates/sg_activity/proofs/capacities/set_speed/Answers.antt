use Rattle.std.proofs.Common.{◌≡◌, ◌*◌, set, refl, ap, ◌∙◌, arith}
use Rattle.std.proofs.lemmas.List.{get_or_default}
use Rattle.sg_maxmin.specs.Chained.{users_on}
use Rattle.sg_activity_table.specs.declared.kinds.HostCap.{HostCap}
use Rattle.sg_activity.specs.Hosts.{host_at}
use Rattle.sg_activity.specs.Links.{at_speed, capacities_of, machines}
use Rattle.sg_activity.specs.kept.Sound.{place_at}
use Rattle.sg_activity.specs.kept.State.{State, state_of}
use Rattle.sg_activity.proofs.Moved.{host_users, speed_capacities, speed_moved}
use Rattle.sg_activity.proofs.Routed.{resources_are}
use Rattle.sg_activity.proofs.Reset.{flows_reset, is_user, resets, users_below}
use Rattle.sg_activity.proofs.capacities.set_speed.Goals as goal

pub update_bounds-requires-clause-keys : goal.update_bounds-requires-clause-keys
update_bounds-requires-clause-keys c = users_below c.args.kept.now c.args.kept.now.index c.requires.used c.is_both_ways.ensures c.args.host

pub update_bounds-requires-clause-flows : goal.update_bounds-requires-clause-flows
update_bounds-requires-clause-flows c =
    let kept = c.args.kept.now in
    let s : State = state_of kept in
    let host = c.args.host in
    let is : c.index-cap.result.now ≡ host_at kept.hosts.items host = c.index-cap.ensures ∙ get_or_default kept.hosts.items host _ _ c.requires.host in
    flows_reset kept _ (at_speed host c.args.speed s.capacities) host (c.args.speed * c.from.result) c.requires.sound c.requires.used (speed_moved s.capacities host c.args.speed) refl
    (ap (λ (h : HostCap). machines (set kept.hosts.items host (record h { speed = c.args.speed })) kept.links.items) is) c.set_capacity.ensures (omega (arith, c.requires.host, resources_are s.capacities))
    (ap (λ n. set (capacities_of s.capacities) host (c.args.speed * n)) (c.from.ensures ∙ ap (λ (h : HostCap). h.cores) is) ∙ speed_capacities s.capacities host c.args.speed c.requires.host)

pub returns : goal.returns
returns c =
    let kept = c.args.kept.now in
    let s : State = state_of kept in
    let host = c.args.host in
    let is : c.index-cap.result.now ≡ host_at kept.hosts.items host = c.index-cap.ensures ∙ get_or_default kept.hosts.items host _ _ c.requires.host in
    resets kept _ (at_speed host c.args.speed s.capacities) host (c.args.speed * c.from.result) c.requires.sound c.requires.used (speed_moved s.capacities host c.args.speed) refl
    (ap (λ (h : HostCap). machines (set kept.hosts.items host (record h { speed = c.args.speed })) kept.links.items) is) c.set_capacity.ensures (omega (arith, c.requires.host, resources_are s.capacities))
    (ap (λ n. set (capacities_of s.capacities) host (c.args.speed * n)) (c.from.ensures ∙ ap (λ (h : HostCap). h.cores) is) ∙ speed_capacities s.capacities host c.args.speed c.requires.host)
    c.update_bounds.new.kept (users_on c.args.kept.now.index.users host) c.update_bounds.ensures
    (λ key live at. is_user kept c.args.kept.now.index c.requires.used c.is_both_ways.ensures host key live at ∙ host_users s.capacities host c.requires.host (place_at s key live))
