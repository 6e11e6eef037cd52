-- Which activities use something that is off, as these come and go.
use Rattle.std.proofs.Common.{◌≡◌, ◌≢◌, ℕ, zero, suc, ◌-◌, ◌<◌, ◌≤◌, inl, inr, Bool, true, false, cond, Option, None, Some, option_map, List, [], ◌∷◌, ◌++◌, length, length-set, length-append, set, replicate, refl, sym, ap, ap₂, subst, ◌∙◌, arith}
use Rattle.sg_base.specs.declared.ids.LinkId.{LinkId}
use Rattle.sg_heap.specs.Agenda.{Key, key_at, with_slots}
use Rattle.sg_lazy.specs.Lazily.{Lazily}
use Rattle.sg_lazy.specs.RunningFlow.{RunningFlow, running_at}
use Rattle.sg_activity.specs.declared.activity_state.Kept.{Kept}
use Rattle.sg_activity_table.specs.declared.lives.Live.{Live}
use Rattle.sg_activity.specs.Links.{Switches}
use Rattle.sg_activity.specs.Task.{uses_off}
use Rattle.sg_activity.specs.kept.Grows.{Grows}
use Rattle.sg_activity.specs.kept.Hits.{AreHit, AreHits, hit_in, noted}
use Rattle.sg_activity_table.specs.Pool.{slot_at}
use Rattle.sg_activity.specs.kept.Rows.{Indexed, IsRow, way_in}
use Rattle.sg_activity.specs.kept.Renewal.{is_among, rate_in, restamped}
use Rattle.sg_activity.specs.kept.Stamps.{left_at}
use Rattle.sg_activity.specs.kept.State.{links_at, place_of, state_of, ways_of}
use Rattle.sg_activity.proofs.Indexing.{ways_grown}
use Rattle.sg_activity.proofs.Listing.{eq_cases}
use Rattle.sg_activity.proofs.Pairing.{there_within}
use Rattle.sg_activity.proofs.Starts.{set_here, set_there}

module _ (on : Switches) (slots : List (Option Live)) (ways : ℕ → List LinkId) (hits : List (Option Key)) (is : AreHits on slots ways hits) where
  -- the same are hit
  pub hits_still : (others : List (Option Live)) (paths : ℕ → List LinkId) → ((key : ℕ) → hit_in on (links_at paths key) (slot_at others key) ≡ hit_in on (links_at ways key) (slot_at slots key)) → length others ≡ length slots → AreHits on others paths hits
  hits_still others paths same long = record {
    each = λ key. is.each key ∙ sym (same key);
    long = omega (arith, is.long, long);
  }

  -- one that was idle begins, and is hit or not
  pub hits_more : (key : ℕ) (live : Live) (others : List (Option Live)) (paths : ℕ → List LinkId) (off : Bool) → slot_at slots key ≡ None → key < length slots → uses_off on (place_of live.place (links_at paths key)) ≡ off → others ≡ set slots key (Some live) → ((k : ℕ) → k ≢ key → links_at paths k ≡ links_at ways k) →
      AreHits on others paths (noted off key live.serial hits)
  hits_more key live others paths false free within off others_are same = hits_still others paths (λ k. elim (eq_cases k key) [
    | inl e ↦
        ap (λ n. hit_in on (links_at paths n) (slot_at others n)) e ∙ ap (hit_in on (links_at paths key)) (ap (λ l. slot_at l key) others_are ∙ set_here slots key (Some live) within)
        ∙ ap (λ b. cond b (Some (record { date = 0; serial = live.serial })) None) off
        ∙ sym (ap (λ n. hit_in on (links_at ways n) (slot_at slots n)) e ∙ ap (hit_in on (links_at ways key)) free)
    | inr ne ↦ ap₂ (hit_in on) (same k ne) (ap (λ l. slot_at l k) others_are ∙ set_there slots key k (Some live) ne)
  ]) (ap length others_are ∙ length-set slots key (Some live))
  hits_more key live others paths true free within off others_are same =
      let hit : Option Key = Some (record { date = 0; serial = live.serial }) in
      record {
        each = λ k. elim (eq_cases k key) [
          | inl e ↦
              ap (key_at (set hits key hit)) e ∙ set_here hits key hit (omega (arith, within, is.long))
              ∙ sym (ap (λ n. hit_in on (links_at paths n) (slot_at others n)) e ∙ ap (hit_in on (links_at paths key)) (ap (λ l. slot_at l key) others_are ∙ set_here slots key (Some live) within)
              ∙ ap (λ b. cond b hit None) off)
          | inr ne ↦ set_there hits key k hit ne ∙ is.each k ∙ sym (ap₂ (hit_in on) (same k ne) (ap (λ l. slot_at l k) others_are ∙ set_there slots key k (Some live) ne))
        ];
        long = omega (arith, is.long, ap length others_are, length-set slots key (Some live), length-set hits key hit);
      }

  -- one goes
  pub hits_gone : (key : ℕ) (others : List (Option Live)) (paths : ℕ → List LinkId) → key < length slots → others ≡ set slots key None → ((k : ℕ) → k ≢ key → links_at paths k ≡ links_at ways k) → AreHits on others paths (set hits key None)
  hits_gone key others paths within others_are same = record {
    each = λ k. elim (eq_cases k key) [
      | inl e ↦
          ap (key_at (set hits key None)) e ∙ set_here hits key None (omega (arith, within, is.long))
          ∙ sym (ap (λ n. hit_in on (links_at paths n) (slot_at others n)) e ∙ ap (hit_in on (links_at paths key)) (ap (λ l. slot_at l key) others_are ∙ set_here slots key None within))
      | inr ne ↦ set_there hits key k None ne ∙ is.each k ∙ sym (ap₂ (hit_in on) (same k ne) (ap (λ l. slot_at l k) others_are ∙ set_there slots key k None ne))
    ];
    long = omega (arith, is.long, ap length others_are, length-set slots key None, length-set hits key None);
  }

no_more : (n key : ℕ) → key_at (replicate n None) key ≡ None
no_more zero key = refl
no_more (suc n) zero = refl
no_more (suc n) (suc key) = no_more n key

same_keys : (keys : List (Option Key)) (n key : ℕ) → key_at (keys ++ replicate n None) key ≡ key_at keys key
same_keys [] n key = no_more n key
same_keys (k ∷ keys) n zero = refl
same_keys (k ∷ keys) n (suc key) = same_keys keys n key

pub slots_enough : (n : ℕ) (keys : List (Option Key)) → n ≤ length (with_slots n keys)
slots_enough n keys = omega (arith, length-append keys (replicate (n - length keys) None), length-replicate (n - length keys))
  where
    length-replicate : (m : ℕ) → length {A = Option Key} (replicate m None) ≡ m
    length-replicate zero = refl
    length-replicate (suc m) = ap suc (length-replicate m)

-- there are more slots
pub hits_wider : (kept : Kept) (hits : List (Option Key)) (n : ℕ) → AreHit kept hits → AreHit kept (with_slots n hits)
hits_wider kept hits n is = record {
  each = λ key. same_keys hits (n - length hits) key ∙ is.each key;
  long = omega (arith, is.long, length-append hits (replicate (n - length hits) None));
}

-- there is room for more
pub hits_grown : (kept new : Kept) (hits : List (Option Key)) → AreHit kept hits → Grows kept new → length new.lives.slots ≤ length hits → AreHit new hits
hits_grown kept new hits is g long = subst (λ o. AreHits o new.lives.slots (ways_of new) hits) (sym (ap (λ (k : Kept). (state_of k).on) g.rest)) (record {
  each = λ key. is.each key ∙ ap₂ (hit_in (state_of kept).on) (sym (ways_grown kept new g key)) (sym (g.slots key));
  long = long;
})

-- nothing of it changes as rates do
pub hit_stamped : (on : Switches) (links : List LinkId) (flows : List ℕ) (runs : List (Option RunningFlow)) (date : ℕ) (o : Option Live) → hit_in on links (option_map (restamped flows runs date) o) ≡ hit_in on links o
hit_stamped on links flows runs date None = refl
hit_stamped on links flows runs date (Some live) = go (is_among flows live)
  where
    go : (b : Bool) → hit_in on links (Some (cond b (record live { kept = left_at live.kept live.rate live.stamp date; stamp = date; rate = rate_in (running_at runs live.flow) }) live)) ≡ hit_in on links (Some live)
    go true = refl
    go false = refl

-- an activity is done, and isn't hit any more
pub hits_left : (kept mid : Kept) (lazy : Lazily) (index : Indexed) (slots : List (Option Live)) (hits : List (Option Key)) (key : ℕ) (live : Live) → AreHit kept hits → slot_at kept.lives.slots key ≡ Some live → mid ≡ record kept { lazy = lazy } → slots ≡ set mid.lives.slots key None → IsRow mid.index.rows index.rows key [] →
    AreHits (state_of mid).on slots (ways_of (record mid { index = index })) (set hits key None)
hits_left kept mid lazy index slots hits key live is at e slots_are row =
    let rows = subst (λ (m : Kept). IsRow m.index.rows index.rows key []) e row in
    subst (λ (m : Kept). AreHits (state_of m).on slots (ways_of (record m { index = index })) (set hits key None)) (sym e)
    (hits_gone (state_of kept).on kept.lives.slots (ways_of kept) hits is key slots (ways_of (record kept { index = index })) (there_within kept.lives.slots key live at) (slots_are ∙ ap (λ (m : Kept). set m.lives.slots key None) e)
    (λ k ne. ap (way_in (length kept.hosts.items)) (rows.others k ne)))
