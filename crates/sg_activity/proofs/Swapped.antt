-- An activity replaces one at the same place: the same is used, and hit.
use Rattle.std.proofs.Common.{◌≡◌, ℕ, ◌≤◌, inl, inr, Option, Some, List, length, length-set, set, sym, ap, ◌∙◌}
use Rattle.sg_base.specs.declared.ids.LinkId.{LinkId}
use Rattle.sg_heap.specs.Agenda.{Key}
use Rattle.sg_activity_table.specs.declared.lives.Live.{Live}
use Rattle.sg_activity.specs.Links.{Capacities, Switches}
use Rattle.sg_activity.specs.kept.Hits.{AreHits, hit_in}
use Rattle.sg_activity.specs.kept.Index.{IsIndexed, used_by}
use Rattle.sg_activity.specs.kept.Rows.{Indexed}
use Rattle.sg_activity_table.specs.Pool.{slot_at}
use Rattle.sg_activity.specs.kept.State.{links_at}
use Rattle.sg_activity.proofs.Hitting.{hits_still}
use Rattle.sg_activity.proofs.Indexing.{used_still}
use Rattle.sg_activity.proofs.Listing.{eq_cases}
use Rattle.sg_activity.proofs.Pairing.{there_within}
use Rattle.sg_activity.proofs.Starts.{set_here, set_there}

module _ (slots others : List (Option Live)) (key : ℕ) (old live : Live) (at : slot_at slots key ≡ Some old) (swapped : others ≡ set slots key (Some live)) where
  -- the value for each slot is the same
  alike : {Y : Type 0} (tell : ℕ → Option Live → Y) → tell key (Some live) ≡ tell key (Some old) → (k : ℕ) → tell k (slot_at others k) ≡ tell k (slot_at slots k)
  alike tell same k = elim (eq_cases k key) [
    | inl e ↦
        ap (λ n. tell n (slot_at others n)) e
        ∙ ap (tell key) (ap (λ l. slot_at l key) swapped ∙ set_here slots key (Some live) (there_within slots key old at)) ∙ same
        ∙ sym (ap (λ n. tell n (slot_at slots n)) e ∙ ap (tell key) at)
    | inr ne ↦ ap (tell k) (ap (λ l. slot_at l k) swapped ∙ set_there slots key k (Some live) ne)
  ]

  long : length others ≡ length slots
  long = ap length swapped ∙ length-set slots key (Some live)

  pub used_swapped : (c : Capacities) (ways : ℕ → List LinkId) (room more : ℕ) (index : Indexed) → IsIndexed c slots ways room index → used_by (length c.hosts) (length c.links) (links_at ways key) (Some live) ≡ used_by (length c.hosts) (length c.links) (links_at ways key) (Some old) → more ≤ room →
      IsIndexed c others ways more index
  used_swapped c ways room more index is same fewer = used_still c slots ways room index is others ways more (alike (λ k o. used_by (length c.hosts) (length c.links) (links_at ways k) o) same) long fewer

  pub hits_swapped : (on : Switches) (ways : ℕ → List LinkId) (hits : List (Option Key)) → AreHits on slots ways hits → hit_in on (links_at ways key) (Some live) ≡ hit_in on (links_at ways key) (Some old) → AreHits on others ways hits
  hits_swapped on ways hits is same = hits_still on slots ways hits is others ways (alike (λ k o. hit_in on (links_at ways k) o) same) long
