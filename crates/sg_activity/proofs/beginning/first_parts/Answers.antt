use Rattle.std.proofs.Common.{◌≡◌, ◌≤◌, ◌^◌, ◌+◌, ◌++◌, length, map, sum_by, sym, ap, ap₂, ◌∙◌, arith}
use Rattle.sg_activity_table.specs.declared.kinds.LinkCap.{LinkCap}
use Rattle.sg_activity.specs.Hosts.{offer_of}
use Rattle.sg_activity.specs.Links.{machines}
use Rattle.sg_activity.specs.Doing.{idle_on}
use Rattle.sg_activity.specs.kept.Sound.{slot_ahead, slot_uses}
use Rattle.sg_activity.proofs.Routed.{resources_are}
use Rattle.sg_activity.proofs.First.{all_true, first_kept, first_told}
use Rattle.std.proofs.Common.{ℕ, List, All, refl, replicate, subst}
use Rattle.sg_base.specs.declared.ids.LinkId.{LinkId}
use Rattle.sg_activity.specs.Hosts.{IsHost}
use Rattle.sg_heap.specs.Agenda.{key_at}
use Rattle.sg_activity.specs.kept.Hits.{hit_in}
use Rattle.sg_activity.specs.kept.Index.{used_by}
use Rattle.sg_activity.specs.kept.Rows.{row_at, way_in}
use Rattle.sg_activity_table.specs.Pool.{slot_at}
use Rattle.sg_activity.specs.kept.State.{links_at}
use Rattle.sg_activity.proofs.beginning.first_parts.Goals as goal

pub returns : goal.returns
returns c =
    let lazy = c.in_ok-lazy.ensures in
    let all = c.in_ok-machines.machines in
    let are = c.in_ok-machines.ensures in
    let items : c.in_ok-capacities.capacities.items ≡ map offer_of all.hosts.items ++ map (λ (link : LinkCap). link.bandwidth) all.links.items =
    c.in_ok-capacities.ensures ∙ ap₂ (λ h l. map offer_of h ++ map (λ (link : LinkCap). link.bandwidth) l) (sym are.hosts) (sym are.links) in
    let count : c.len.result ≡ length all.hosts.items + length all.links.items = c.len.ensures ∙ c.in_ok-capacities.capacities.ok.0 ∙ ap length items
    ∙ resources_are (machines all.hosts.items all.links.items) in
    let few : length c.args.links.now ≤ 2 ^ 32 = omega (arith, c.if-links.false) in
    let ways : ℕ → List LinkId = (λ key. way_in (length all.hosts.items) (row_at c.in_ok-index.index.rows key)) in
    let capacities = lazy.capacities_are ∙ c.in_ok-system.ensures.capacities ∙ c.deref.ensures.value ∙ items in
    record {
      sound = record {
        are = first_kept _ c.new-4.ensures.slots c.in_ok-agenda.ensures.first lazy.slots c.new-6.ensures.members;
        room = record {
          capacities = capacities;
          few = omega arith;
          early = omega arith;
          flows = omega (arith, ap (sum_by slot_ahead) c.new-4.ensures.slots);
          flow_room = omega arith;
          uses = omega (arith, ap (sum_by slot_uses) c.new-4.ensures.slots);
          use_room = omega arith;
          keys_free = omega arith;
          rows_long = omega (arith, ap length c.new-4.ensures.slots);
          agenda_long = omega (arith, ap length c.new-4.ensures.slots);
          fresh_room = omega (arith, ap length c.new-4.ensures.slots);
          by_flow_long = omega (arith, ap length lazy.slots);
        };
      };
      are_hosts = subst (All IsHost) (sym are.hosts) c.requires.hosts;
      used = record {
        rows = λ key. ap (λ l. row_at l key) c.in_ok-index.ensures.rows ∙ sym (ap (λ l. used_by (length all.hosts.items) (length all.links.items) (links_at ways key) (slot_at l key)) c.new-4.ensures.slots);
        long = omega (arith, ap length c.new-4.ensures.slots);
        things = c.in_ok-index.ensures.things ∙ ap₂ (λ n m. n + m) count (ap length (sym are.hosts));
        uses_free = omega arith;
      };
      switches = (are.hosts_long ∙ ap length (sym are.hosts), (are.links_long ∙ ap length (sym are.links), (omega (arith, count, c.len.ensures, c.in_ok-capacities.capacities.ok.0, c.in_ok-capacities.capacities.small), omega (arith, few, ap length are.links))));
      hit = record { each = λ key. ap (λ l. key_at l key) c.in_ok-agenda.ensures.second ∙ sym (ap (λ l. hit_in (record { hosts = all.hosts_on.items; links = all.links_on.items }) (links_at ways key) (slot_at l key)) c.new-4.ensures.slots); long = omega (arith, ap length c.new-4.ensures.slots) };
      hosts_are = are.hosts;
      date = refl;
      told =
          first_told all.hosts.items all.links.items c.new-4.result.slots ways c.in_ok-agenda.agenda c.in_ok-lazy.lazy.slots c.new-5.result.items c.new-6.result.members c.in_ok-lazy.lazy.ended c.in_ok-lazy.lazy.resources (record { hosts = all.hosts_on.items; links = all.links_on.items }) (replicate (length c.args.hosts.now) 0) c.in_ok-lazy.ensures.ended c.in_ok-lazy.ensures.resources
          (ap₂ (λ h l. record { hosts = h; links = l }) (all_true all.hosts_on.items all.hosts.items (are.hosts_long ∙ ap length (sym are.hosts)) are.hosts_on)
          (all_true all.links_on.items all.links.items (are.links_long ∙ ap length (sym are.links)) are.links_on))
          (ap (λ l. replicate (length l) 0) (sym are.hosts))
          ∙ ap₂ idle_on are.hosts are.links;
    }
