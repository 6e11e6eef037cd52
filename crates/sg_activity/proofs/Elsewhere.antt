-- What the changes of one host, and of links, leave of the other hosts.
use Rattle.std.proofs.Common.{◌≡◌, ◌≢◌, ℕ, zero, suc, ◌-◌, ◌==◌, Bool, true, false, cond, not, ◌&&◌, Option, None, Some, option_map, List, [], ◌∷◌, ◌++◌, map, set, get_or, get_or-set_other, filter_map, refl, sym, ap, ap₂, ◌∙◌, arith}
use Rattle.std.specs.List.{cons_option}
use Rattle.sg_maxmin.specs.Fill.{flow}
use Rattle.sg_activity_table.specs.declared.kinds.HostCap.{HostCap}
use Rattle.sg_activity.specs.Hosts.{host_at}
use Rattle.sg_activity.specs.Laws.{IsSameHost, asked_of, asked_on}
use Rattle.sg_activity.specs.Links.{Capacities}
use Rattle.sg_activity.specs.Power.{is_there, loads}
use Rattle.sg_activity_table.specs.Slots.{passes, sooner}
use Rattle.sg_activity_table.specs.Kinds.{takes_share}
use Rattle.sg_activity.specs.Task.{Place, nowhere, on_host, over, Task, flow_at, flow_of, task_at}
use Rattle.sg_activity.specs.Underway.{Underway, with_next_serial, later, passed, with_rates_updated, started, with_bandwidth, with_host_on, with_link_on, with_speed, with_task}

-- what a phase that takes no share of the host asks of it
not_asked : (c : Capacities) (host : ℕ) (o : Option Task) → passes (loads host) o ≡ false → asked_on c host o ≡ None
not_asked c host None e = refl
not_asked c host (Some t) e = ap (λ b. cond b (Some (flow_of c t)) None) e

module _ {X Y : Type 0} (f : X → Option Y) where
  -- one more at the end that adds nothing
  filter_map_push : (xs : List X) (x : X) → f x ≡ None → filter_map f (xs ++ x ∷ []) ≡ filter_map f xs
  filter_map_push [] x e = ap (λ o. cons_option o []) e
  filter_map_push (y ∷ xs) x e = ap (cons_option (f y)) (filter_map_push xs x e)

  -- another in place of one, which adds the same
  filter_map_set : (xs : List X) (i : ℕ) (x d : X) → f (get_or xs i d) ≡ f x → filter_map f (set xs i x) ≡ filter_map f xs
  filter_map_set [] i x d e = refl
  filter_map_set (y ∷ xs) zero x d e = ap (λ o. cons_option o (filter_map f xs)) (sym e)
  filter_map_set (y ∷ xs) (suc i) x d e = ap (cons_option (f y)) (filter_map_set xs i x d e)

filter_map_alike : {X Y : Type 0} (f g : X → Option Y) (xs : List X) → ((x : X) → f x ≡ g x) → filter_map f xs ≡ filter_map g xs
filter_map_alike f g [] same = refl
filter_map_alike f g (x ∷ xs) same = ap₂ cons_option (same x) (filter_map_alike f g xs same)

filter_map_mapped : {X Y : Type 0} (f : X → Option Y) (h : X → X) (xs : List X) → ((x : X) → f (h x) ≡ f x) → filter_map f (map h xs) ≡ filter_map f xs
filter_map_mapped f h [] same = refl
filter_map_mapped f h (x ∷ xs) same = ap₂ cons_option (same x) (filter_map_mapped f h xs same)

module _ (under : Underway) (host : ℕ) where
  pub same_drawn : IsSameHost under (with_next_serial under) host
  unfolding asked_of
  same_drawn = record {
    offers = refl;
    on = refl;
    asked = filter_map_push (asked_on under.capacities host) under.tasks None refl;
  }

  pub same_started : (task : Task) → loads host task ≡ false → IsSameHost under (started task under) host
  unfolding asked_of
  same_started task not = record {
    offers = refl;
    on = refl;
    asked = filter_map_push (asked_on under.capacities host) under.tasks (Some task) (not_asked under.capacities host (Some task) not);
  }

  -- neither the phase that was running takes a share of the host nor the one in its place
  pub same_task : (serial : ℕ) (after : Option Task) → passes (loads host) (task_at under.tasks serial) ≡ false → passes (loads host) after ≡ false → IsSameHost under (with_task serial after under) host
  unfolding asked_of
  same_task serial after was not = record {
    offers = refl;
    on = refl;
    asked = filter_map_set (asked_on under.capacities host) under.tasks (serial - 1) after None (not_asked under.capacities host (task_at under.tasks serial) was ∙ sym (not_asked under.capacities host after not));
  }

  -- what an execution asks for follows from its host
  asked_at : (new : Capacities) → host_at new.hosts host ≡ host_at under.capacities.hosts host → (o : Option Task) → asked_on new host o ≡ asked_on under.capacities host o
  asked_at new same None = refl
  asked_at new same (Some t) = go (takes_share t.kind) t.place
    where
      eqb_is : (a b : ℕ) → (a == b) ≡ true → a ≡ b
      eqb_is a b e = grind arith

      there : (k : ℕ) (b : Bool) → (k == host) ≡ b → cond b (Some (flow_at new t (on_host k))) None ≡ cond b (Some (flow_at under.capacities t (on_host k))) None
      there k false e = refl
      there k true e =
          let here = eqb_is k host e in
          ap (λ n. Some (flow_at new t (on_host n))) here
          ∙ ap (λ (h : HostCap). Some (flow (host ∷ []) t.weight (sooner (Some h.speed) t.bound))) same
          ∙ sym (ap (λ n. Some (flow_at under.capacities t (on_host n))) here)

      go : (full : Bool) (place : Place) → cond (full && is_there host place) (Some (flow_at new t place)) None ≡ cond (full && is_there host place) (Some (flow_at under.capacities t place)) None
      go false place = refl
      go true nowhere = refl
      go true (on_host k) = there k (k == host) refl
      go true (over way) = refl

  pub same_speed : (other speed : ℕ) → host ≢ other → IsSameHost under (with_speed other speed under) host
  unfolding asked_of
  same_speed other speed ne =
      let was = host_at under.capacities.hosts other in
      let same = get_or-set_other under.capacities.hosts other host (record { speed = speed; cores = was.cores; power = was.power }) (record { speed = 0; cores = 0; power = None }) ne in
      record {
        offers = same;
        on = refl;
        asked = filter_map_alike (asked_on (with_speed other speed under).capacities host) (asked_on under.capacities host) under.tasks (asked_at (with_speed other speed under).capacities same);
      }

  pub same_bandwidth : (link bandwidth : ℕ) → IsSameHost under (with_bandwidth link bandwidth under) host
  unfolding asked_of
  same_bandwidth link bandwidth = record {
    offers = refl;
    on = refl;
    asked = filter_map_alike (asked_on (with_bandwidth link bandwidth under).capacities host) (asked_on under.capacities host) under.tasks (asked_at (with_bandwidth link bandwidth under).capacities refl);
  }

  pub same_host_on : (other : ℕ) (on : Bool) → host ≢ other → IsSameHost under (with_host_on other on under) host
  unfolding asked_of
  same_host_on other on ne = record {
    offers = refl;
    on = ap not (get_or-set_other under.on.hosts other host on true ne);
    asked = refl;
  }

  pub same_link_on : (link : ℕ) (on : Bool) → IsSameHost under (with_link_on link on under) host
  unfolding asked_of
  same_link_on link on = record { offers = refl; on = refl; asked = refl }

  pub same_settled : IsSameHost under (with_rates_updated under) host
  unfolding asked_of
  same_settled = record { offers = refl; on = refl; asked = refl }

  passed_same : (span : ℕ) (o : Option Task) → asked_on under.capacities host (option_map (passed under span) o) ≡ asked_on under.capacities host o
  passed_same span None = refl
  passed_same span (Some t) = refl

  pub same_later : (span : ℕ) → IsSameHost under (later span under) host
  unfolding asked_of
  same_later span = record {
    offers = refl;
    on = refl;
    asked = filter_map_mapped (asked_on under.capacities host) (option_map (passed under span)) under.tasks (passed_same span);
  }
