use Rattle.std.proofs.Common.{◌+◌, ◌*◌, arith, refl}
use Rattle.sg_platform_churn.proofs.Draws.{drawn_here, host_drawn, link_drawn, next_drawn}
use Rattle.sg_platform_churn.proofs.GoodRows.{backbone}
use Rattle.sg_platform_churn.proofs.NumberedRows.{pushed, pushed_behind}
use Rattle.sg_platform_churn.specs.Generated.{churn_host, link_of, spoke_of}
use Rattle.sg_platform_churn.proofs.platform.rows_of.Goals as goal

pub loop-row-init : goal.loop-row-init
loop-row-init c = record {
  state = refl;
  hosts = c.new-hosts.ensures.items;
  links = rw (c.in_ok-push.ensures.items, c.new-links.ensures.items, c.in_ok-backbone.ensures);
  spokes = c.new-spokes.ensures.items;
}

pub loop-row-preserved : goal.loop-row-preserved
loop-row-preserved c =
    let seed = c.args.seed in
    let row = c.loop-row.row in
    let first = c.loop-row.invariant.state in
    let second = next_drawn seed (3 * row) (3 * row + 1) _ _ (omega arith) first c.draw-speed.ensures.state in
    let third = next_drawn seed (3 * row + 1) (3 * row + 2) _ _ (omega arith) second c.draw-bandwidth.ensures.state in
    let speed = drawn_here seed (3 * row) 8 _ _ first c.draw-speed.ensures.number in
    let bandwidth = drawn_here seed (3 * row + 1) 8 _ _ second c.draw-bandwidth.ensures.number in
    let latency = drawn_here seed (3 * row + 2) 100 _ _ third c.draw-latency.ensures.number in
    record {
      state = next_drawn seed (3 * row + 2) (3 * (row + 1)) _ _ (omega arith) third c.draw-latency.ensures.state;
      hosts = pushed (churn_host seed) row _ _ _ c.loop-row.invariant.hosts (host_drawn seed row _ _ c.in_ok-host_row.ensures speed) c.in_ok-push-2.ensures.items;
      links = pushed_behind backbone (link_of seed) row _ _ _ c.loop-row.invariant.links (link_drawn seed row _ _ _ c.in_ok-link_row.ensures bandwidth latency) c.in_ok-push-3.ensures.items;
      spokes = pushed spoke_of row _ _ _ c.loop-row.invariant.spokes c.in_ok-spoke_row.ensures c.in_ok-push-4.ensures.items;
    }
