use Rattle.std.proofs.Common.{◌≡◌, ◌+◌, [], length, set, refl, sym, ap, subst, ◌∙◌, arith}
use Rattle.std.proofs.lemmas.List.{get_or_default}
use Rattle.sg_base.specs.MarkSet.{is_in}
use Rattle.sg_maxmin.specs.Chained.{users_on}
use Rattle.sg_lazy.specs.Lazily.{with_capacity}
use Rattle.sg_activity_table.specs.declared.kinds.LinkCap.{LinkCap}
use Rattle.sg_activity.specs.Links.{at_bandwidth, link_at, machines}
use Rattle.sg_activity.specs.kept.Index.{used_at}
use Rattle.sg_activity.specs.kept.Bounds.{Rebounds}
use Rattle.sg_activity.specs.kept.Sound.{place_at}
use Rattle.sg_activity.specs.kept.State.{State, state_of}
use Rattle.sg_activity.proofs.Moved.{bandwidth_capacities, bandwidth_moved, fatpipe_users, shared_users}
use Rattle.sg_activity.proofs.Bounds.{rebound_none}
use Rattle.sg_activity.proofs.Routed.{resources_are}
use Rattle.sg_activity.proofs.Reset.{flows_reset, is_user, resets, users_below}
use Rattle.sg_activity.proofs.capacities.set_bandwidth.Goals as goal
use Rattle.sg_activity.proofs.capacities.set_bandwidth.Goals.{then-fatpipe, else-fatpipe}

pub update_bounds-requires-clause-keys : goal.update_bounds-requires-clause-keys
update_bounds-requires-clause-keys c = users_below c.args.kept.now c.args.kept.now.index c.requires.used c.is_both_ways.ensures (c.len.result + c.args.link)

pub update_bounds-requires-clause-flows : goal.update_bounds-requires-clause-flows
update_bounds-requires-clause-flows c =
    let kept = c.args.kept.now in
    let s : State = state_of kept in
    let link = c.args.link in
    let fat : c.index.result.now.fatpipe ≡ (link_at kept.links.items link).fatpipe = ap (λ (l : LinkCap). l.fatpipe) (c.index.ensures ∙ get_or_default kept.links.items link _ _ c.requires.link) in
    let hosts : c.len.result ≡ length kept.hosts.items = c.len.ensures ∙ kept.hosts.ok.0 in
    flows_reset kept _ (at_bandwidth link c.args.bandwidth s.capacities) (length kept.hosts.items + link) c.args.bandwidth c.requires.sound c.requires.used (bandwidth_moved s.capacities link c.args.bandwidth c.requires.link) refl
    (ap (λ b. machines kept.hosts.items (set kept.links.items link (record { bandwidth = c.args.bandwidth; fatpipe = b }))) fat) (c.set_capacity.ensures ∙ ap (λ n. with_capacity kept.lazy (n + link) c.args.bandwidth) hosts) (omega (arith, c.requires.link, resources_are s.capacities))
    (bandwidth_capacities s.capacities link c.args.bandwidth)

pub returns : goal.returns
returns c =
    let kept = c.args.kept.now in
    let s : State = state_of kept in
    let link = c.args.link in
    let new = c.if-fatpipe.kept in
    let index = c.args.kept.now.index in
    let fat : c.index.result.now.fatpipe ≡ (link_at kept.links.items link).fatpipe = ap (λ (l : LinkCap). l.fatpipe) (c.index.ensures ∙ get_or_default kept.links.items link _ _ c.requires.link) in
    let hosts : c.len.result ≡ length kept.hosts.items = c.len.ensures ∙ kept.hosts.ok.0 in
    let capacities = ap (λ b. machines kept.hosts.items (set kept.links.items link (record { bandwidth = c.args.bandwidth; fatpipe = b }))) fat in
    let lazy = c.set_capacity.ensures ∙ ap (λ n. with_capacity kept.lazy (n + link) c.args.bandwidth) hosts in
    elim c.if-fatpipe.branch [
      | then-fatpipe w ↦
          resets kept _ (at_bandwidth link c.args.bandwidth s.capacities) (length kept.hosts.items + link) c.args.bandwidth c.requires.sound c.requires.used (bandwidth_moved s.capacities link c.args.bandwidth c.requires.link) refl capacities lazy (omega (arith, c.requires.link, resources_are s.capacities))
          (bandwidth_capacities s.capacities link c.args.bandwidth) new (users_on index.users (c.len.result + link)) (subst (λ k. Rebounds _ k (users_on index.users (c.len.result + link))) (sym w.kept-is) w.update_bounds.ensures)
          (λ key live at. is_user kept index c.requires.used c.is_both_ways.ensures (c.len.result + link) key live at ∙ ap (λ n. is_in (n + link) (used_at (length kept.hosts.items) (length kept.links.items) (place_at s key live))) hosts
          ∙ fatpipe_users s.capacities link c.args.bandwidth c.requires.link (sym fat ∙ w.if-fatpipe.true) (place_at s key live))
      | else-fatpipe w ↦
          resets kept _ (at_bandwidth link c.args.bandwidth s.capacities) (length kept.hosts.items + link) c.args.bandwidth c.requires.sound c.requires.used (bandwidth_moved s.capacities link c.args.bandwidth c.requires.link) refl capacities lazy (omega (arith, c.requires.link, resources_are s.capacities))
          (bandwidth_capacities s.capacities link c.args.bandwidth) new [] (rebound_none _ new w.kept-is)
          (λ key live at. sym (shared_users s.capacities link c.args.bandwidth c.requires.link (sym fat ∙ w.if-fatpipe.false) (place_at s key live) (c.requires.sound.are.each key live at).placed))
    ]
