-- What a change of a capacity changes of the bounds.
use Rattle.std.proofs.Common.{◌≡◌, ◌≢◌, ℕ, zero, suc, ◌+◌, ◌*◌, ◌==◌, ◌<◌, inl, inr, Bool, true, false, cond, not, ◌||◌, ◌&&◌, true≢false, Option, None, Some, IsSome, List, [], ◌∷◌, ◌++◌, filter, map, length, length-set, set, get_or, get_or-set_same, get_or-set_other, All, refl, sym, ap, ap₂, subst, ◌∙◌, arith}
use Rattle.std.specs.List.{list_any}
use Rattle.std.proofs.lemmas.List.Folds.{list_any-append}
use Rattle.sg_base.specs.declared.ids.LinkId.{LinkId}
use Rattle.sg_base.specs.MarkSet.{is_in, with_mark}
use Rattle.sg_maxmin.specs.Chained.{times}
use Rattle.sg_activity_table.specs.declared.kinds.HostCap.{HostCap}
use Rattle.sg_activity_table.specs.declared.kinds.LinkCap.{LinkCap}
use Rattle.sg_activity.specs.Hosts.{offer_of, host_at}
use Rattle.sg_activity.specs.Links.{Capacities, at_bandwidth, at_speed, bound_of_link, capacities_of, link_at, route_bound, shared_of}
use Rattle.sg_activity_table.specs.Slots.{sooner}
use Rattle.sg_activity.specs.Task.{Place, nowhere, on_host, over, Task, flow_at}
use Rattle.sg_activity.specs.kept.Bounds.{is_rebound_at}
use Rattle.sg_activity.specs.kept.Index.{used_at}
use Rattle.sg_activity.specs.kept.Sound.{IsPlace}
use Rattle.sg_activity.proofs.Listing.{bool_cases, eq_cases}
use Rattle.sg_activity.proofs.Routed.{sooner_some}
use Rattle.sg_activity.proofs.Works.{any_counts, any_mapped, any_same}

-- ---- tests
or_true : (b : Bool) → (b || true) ≡ true
or_true true = refl
or_true false = refl

pub or_false : (b : Bool) → (b || false) ≡ b
or_false true = refl
or_false false = refl

and_or : (a b c : Bool) → (a && (b || c)) ≡ ((a && b) || (a && c))
and_or true b c = refl
and_or false b c = refl

or_swap : (a b c d : Bool) → ((a || b) || (c || d)) ≡ ((a || c) || (b || d))
or_swap true b c d = refl
or_swap false true c d = sym (or_true c)
or_swap false false c d = refl

any_or : {X : Type 0} (p q : X → Bool) (xs : List X) → list_any (λ x. p x || q x) xs ≡ (list_any p xs || list_any q xs)
any_or p q [] = refl
any_or p q (x ∷ xs) = ap (λ b. (p x || q x) || b) (any_or p q xs) ∙ or_swap (p x) (q x) (list_any p xs) (list_any q xs)

any_false : {X : Type 0} (p : X → Bool) (xs : List X) → ((k : ℕ) (d : X) → k < length xs → p (get_or xs k d) ≡ false) → list_any p xs ≡ false
any_false p [] h = refl
any_false p (x ∷ xs) h = ap (λ b. b || list_any p xs) (h 0 x (omega arith)) ∙ any_false p xs (λ k d within. h (suc k) d (omega (arith, within)))

filter_same : {X : Type 0} (p q : X → Bool) (xs : List X) → ((x : X) → p x ≡ q x) → filter p xs ≡ filter q xs
filter_same p q [] h = refl
filter_same p q (x ∷ xs) h = ap₂ (λ b l. cond b (x ∷ l) l) (h x) (filter_same p q xs h)

eqb_no : (a b : ℕ) → a ≢ b → (a == b) ≡ false
eqb_no a b ne = grind arith

eqb_yes : (a b : ℕ) → a ≡ b → (a == b) ≡ true
eqb_yes a b e = grind arith

pub eqb_swap : (a b : ℕ) → (a == b) ≡ (b == a)
eqb_swap a b = grind arith

-- one more is marked
pub in_mark : (n number : ℕ) (xs : List ℕ) → is_in n (with_mark number xs) ≡ (is_in n (number ∷ []) || is_in n xs)
in_mark n number xs = elim (bool_cases (is_in number xs)) [
  | inl there ↦ ap (λ b. is_in n (cond b xs (xs ++ number ∷ []))) there ∙ elim (eq_cases number n) [
    | inl e ↦ ap (λ m. is_in m xs) (sym e) ∙ there ∙ sym (ap (λ b. (b || false) || is_in n xs) (eqb_yes number n e))
    | inr ne ↦ sym (ap (λ b. (b || false) || is_in n xs) (eqb_no number n ne))
  ]
  | inr away ↦ ap (λ b. is_in n (cond b xs (xs ++ number ∷ []))) away ∙ list_any-append (λ member. member == n) xs (number ∷ []) ∙ swap (is_in n xs) (is_in n (number ∷ []))
]
  where
    swap : (a b : Bool) → (a || b) ≡ (b || a)
    swap true b = sym (or_true b)
    swap false b = sym (or_false b)

-- a number stands in a list if it stands there more than 0 times
pub in_times : (a b : ℕ) (xs ys : List ℕ) → times a xs ≡ times b ys → is_in a xs ≡ is_in b ys
in_times a b xs ys e =
    any_counts (λ m. m == a) xs ∙ ap (λ n. not (n == 0)) e ∙ sym (any_counts (λ m. m == b) ys)

-- ---- bounds
-- what a place bounds its phases to
abbrev pub bound_at : Capacities → Place → Option ℕ
bound_at capacities nowhere = None
bound_at capacities (on_host host) = Some (host_at capacities.hosts host).speed
bound_at capacities (over way) = route_bound capacities.links way.links

pub flow_bound : (c : Capacities) (task : Task) (place : Place) → (flow_at c task place).bound ≡ sooner (bound_at c place) task.bound
flow_bound c task nowhere = refl
flow_bound c task (on_host host) = refl
flow_bound c task (over way) = refl

rebound_route : (c : Capacities) (resources : List ℕ) (links : List LinkId) → list_any (λ (link : LinkId). (link_at c.links link.0).fatpipe && is_in (length c.hosts + link.0) resources) links ≡ true → IsSome (route_bound c.links links)
unfolding route_bound
rebound_route c resources [] e = absurd (true≢false (sym e))
rebound_route c resources (link ∷ links) e = cases (link_at c.links link.0).fatpipe (rebound_route c resources links) e
  where
    later : (one other : Option ℕ) → IsSome other → IsSome (sooner one other)
    later None other some = some
    later (Some n) other some = sooner_some n other

    any : Bool
    any = list_any (λ (l : LinkId). (link_at c.links l.0).fatpipe && is_in (length c.hosts + l.0) resources) links

    cases : (b : Bool) → (any ≡ true → IsSome (route_bound c.links links)) → ((b && is_in (length c.hosts + link.0) resources) || any) ≡ true → IsSome (sooner (cond b (Some (link_at c.links link.0).bandwidth) None) (route_bound c.links links))
    cases true rest z = sooner_some (link_at c.links link.0).bandwidth (route_bound c.links links)
    cases false rest z = later None (route_bound c.links links) (rest z)

-- what may be bound anew has a bound
pub rebound_some : (c : Capacities) (resources : List ℕ) (place : Place) → is_rebound_at c resources place ≡ true → IsSome (bound_at c place)
rebound_some c resources nowhere e = absurd (true≢false (sym e))
rebound_some c resources (on_host host) e = refl
rebound_some c resources (over way) e = rebound_route c resources way.links e

-- ---- the capacities after a change of that of one resource
pub record IsMoved (c new : Capacities) (resource : ℕ) : Type 0 where
  pub hosts : length new.hosts ≡ length c.hosts
  pub links : length new.links ≡ length c.links
  pub fatpipes : (link : LinkId) → (link_at new.links link.0).fatpipe ≡ (link_at c.links link.0).fatpipe
  pub bounds : (place : Place) → is_rebound_at c (resource ∷ []) place ≡ false → bound_at new place ≡ bound_at c place

module _ (c new : Capacities) (resource : ℕ) (moved : IsMoved c new resource) where
  pub place_moved : (place : Place) → IsPlace c place → IsPlace new place
  place_moved nowhere is = tt
  place_moved (on_host host) is = omega (arith, is, moved.hosts)
  place_moved (over way) is = record {
    links = record {
      some = is.links.some;
      apart = is.links.apart;
      exist = subst (λ n. All (λ (link : LinkId). link.0 < n) way.links) (sym moved.links) is.links.exist;
      few = is.links.few;
      small = omega (arith, is.links.small, moved.links);
    };
    sender = omega (arith, is.sender, moved.hosts);
    receiver = omega (arith, is.receiver, moved.hosts);
  }

  pub rebound_moved : (resources : List ℕ) (place : Place) → is_rebound_at new resources place ≡ is_rebound_at c resources place
  rebound_moved resources nowhere = refl
  rebound_moved resources (on_host host) = refl
  rebound_moved resources (over way) =
      any_same (λ (link : LinkId). (link_at new.links link.0).fatpipe && is_in (length new.hosts + link.0) resources) (λ (link : LinkId). (link_at c.links link.0).fatpipe && is_in (length c.hosts + link.0) resources) way.links
      (λ link. ap₂ (λ b n. b && is_in (n + link.0) resources) (moved.fatpipes link) moved.hosts)

  pub uses_moved : (task : Task) (place : Place) → (flow_at new task place).uses ≡ (flow_at c task place).uses
  uses_moved task nowhere = refl
  uses_moved task (on_host host) = refl
  uses_moved task (over way) =
      ap (λ n. shared_of n new.links way.links) moved.hosts
      ∙ ap (map (λ (link : LinkId). length c.hosts + link.0)) (filter_same (λ (link : LinkId). not (link_at new.links link.0).fatpipe) (λ (link : LinkId). not (link_at c.links link.0).fatpipe) way.links (λ link. ap not (moved.fatpipes link)))

  pub weight_moved : (task : Task) (place : Place) → (flow_at new task place).weight ≡ (flow_at c task place).weight
  weight_moved task nowhere = refl
  weight_moved task (on_host host) = refl
  weight_moved task (over way) = refl

  pub bound_moved : (task : Task) (place : Place) → is_rebound_at c (resource ∷ []) place ≡ false → (flow_at new task place).bound ≡ (flow_at c task place).bound
  bound_moved task place e = flow_bound new task place ∙ ap (λ b. sooner b task.bound) (moved.bounds place e) ∙ sym (flow_bound c task place)

-- ---- a speed
pub speed_moved : (c : Capacities) (host speed : ℕ) → IsMoved c (at_speed host speed c) host
speed_moved c host speed = record {
  hosts = length-set c.hosts host (record (host_at c.hosts host) { speed = speed });
  links = refl;
  fatpipes = λ link. refl;
  bounds = bounds;
}
  where
    away : (k : ℕ) → is_in k (host ∷ []) ≡ false → k ≢ host
    away k e same = true≢false (sym (ap (λ b. b || false) (eqb_yes host k (sym same))) ∙ e)

    bounds : (place : Place) → is_rebound_at c (host ∷ []) place ≡ false → bound_at (at_speed host speed c) place ≡ bound_at c place
    bounds nowhere e = refl
    bounds (on_host k) e = ap (λ (h : HostCap). Some h.speed) (get_or-set_other c.hosts host k (record (host_at c.hosts host) { speed = speed }) (record { speed = 0; cores = 0; power = None }) (away k e))
    bounds (over way) e = refl

set_offer : (hosts : List HostCap) (rest : List ℕ) (host : ℕ) (cap : HostCap) → host < length hosts → set (map offer_of hosts ++ rest) host (offer_of cap) ≡ map offer_of (set hosts host cap) ++ rest
set_offer [] rest host cap within = absurd (omega (arith, within))
set_offer (h ∷ hosts) rest zero cap within = refl
set_offer (h ∷ hosts) rest (suc host) cap within = ap (λ l. offer_of h ∷ l) (set_offer hosts rest host cap (omega (arith, within)))

pub speed_capacities : (c : Capacities) (host speed : ℕ) → host < length c.hosts → set (capacities_of c) host (speed * (host_at c.hosts host).cores) ≡ capacities_of (at_speed host speed c)
speed_capacities c host speed within = set_offer c.hosts (map (λ (link : LinkCap). link.bandwidth) c.links) host (record (host_at c.hosts host) { speed = speed }) within

-- ---- a bandwidth
module _ (c : Capacities) (number bandwidth : ℕ) (within : number < length c.links) where
  abbrev new_cap : LinkCap
  new_cap = record { bandwidth = bandwidth; fatpipe = (link_at c.links number).fatpipe }

  abbrev no_cap : LinkCap
  no_cap = record { bandwidth = 0; fatpipe = false }

  fatpipe_same : (link : LinkId) → (link_at (set c.links number new_cap) link.0).fatpipe ≡ (link_at c.links link.0).fatpipe
  fatpipe_same link = elim (eq_cases link.0 number) [
    | inl e ↦ ap (λ n. (link_at (set c.links number new_cap) n).fatpipe) e ∙ ap (λ (l : LinkCap). l.fatpipe) (get_or-set_same c.links number new_cap no_cap within) ∙ sym (ap (λ n. (link_at c.links n).fatpipe) e)
    | inr ne ↦ ap (λ (l : LinkCap). l.fatpipe) (get_or-set_other c.links number link.0 new_cap no_cap ne)
  ]

  -- a link that isn't this one, or is shared, bounds as before
  link_same : (link : LinkId) → ((link_at c.links link.0).fatpipe && is_in (length c.hosts + link.0) ((length c.hosts + number) ∷ [])) ≡ false → bound_of_link (link_at (set c.links number new_cap) link.0) ≡ bound_of_link (link_at c.links link.0)
  link_same link e = elim (eq_cases link.0 number) [
    | inl same ↦
        let shared : (link_at c.links link.0).fatpipe ≡ false = first (link_at c.links link.0).fatpipe (is_in (length c.hosts + link.0) ((length c.hosts + number) ∷ [])) (ap (λ b. b || false) (eqb_yes (length c.hosts + number) (length c.hosts + link.0) (omega (arith, same)))) e in
        none (link_at (set c.links number new_cap) link.0) (fatpipe_same link ∙ shared) ∙ sym (none (link_at c.links link.0) shared)
    | inr ne ↦ ap bound_of_link (get_or-set_other c.links number link.0 new_cap no_cap ne)
  ]
    where
      first : (a b : Bool) → b ≡ true → (a && b) ≡ false → a ≡ false
      first true b t f = absurd (true≢false (sym t ∙ f))
      first false b t f = refl

      none : (l : LinkCap) → l.fatpipe ≡ false → bound_of_link l ≡ None
      none l shared = ap (λ b. cond b (Some l.bandwidth) None) shared

  route_same : (links : List LinkId) → list_any (λ (link : LinkId). (link_at c.links link.0).fatpipe && is_in (length c.hosts + link.0) ((length c.hosts + number) ∷ [])) links ≡ false → route_bound (set c.links number new_cap) links ≡ route_bound c.links links
  unfolding route_bound
  route_same [] e = refl
  route_same (link ∷ links) e =
      let both = neither ((link_at c.links link.0).fatpipe && is_in (length c.hosts + link.0) ((length c.hosts + number) ∷ [])) (list_any (λ (l : LinkId). (link_at c.links l.0).fatpipe && is_in (length c.hosts + l.0) ((length c.hosts + number) ∷ [])) links) e in
      ap₂ sooner (link_same link both.0) (route_same links both.1)
    where
      neither : (a b : Bool) → (a || b) ≡ false → (a ≡ false) × (b ≡ false)
      neither true b z = absurd (true≢false z)
      neither false b z = (refl, z)

  pub bandwidth_moved : IsMoved c (at_bandwidth number bandwidth c) (length c.hosts + number)
  bandwidth_moved = record {
    hosts = refl;
    links = length-set c.links number new_cap;
    fatpipes = fatpipe_same;
    bounds = bounds;
  }
    where
      bounds : (place : Place) → is_rebound_at c ((length c.hosts + number) ∷ []) place ≡ false → bound_at (at_bandwidth number bandwidth c) place ≡ bound_at c place
      bounds nowhere e = refl
      bounds (on_host host) e = refl
      bounds (over way) e = route_same way.links e

  -- ---- who is bound anew
  -- over a FATPIPE link all that use it
  pub fatpipe_users : (link_at c.links number).fatpipe ≡ true → (place : Place) → is_in (length c.hosts + number) (used_at (length c.hosts) (length c.links) place) ≡ is_rebound_at c ((length c.hosts + number) ∷ []) place
  fatpipe_users fat nowhere = refl
  fatpipe_users fat (on_host host) = ap (λ b. b || false) (eqb_swap host (length c.hosts + number))
  fatpipe_users fat (over way) =
      ap₂ (λ a b. a || (b || is_in (length c.hosts + number) (map (λ (link : LinkId). length c.hosts + link.0) way.links))) (eqb_no (length c.hosts + length c.links + way.sender) (length c.hosts + number) (λ e. absurd (omega (arith, e, within))))
      (eqb_no (length c.hosts + length c.links + way.receiver) (length c.hosts + number) (λ e. absurd (omega (arith, e, within))))
      ∙ any_mapped (λ m. m == length c.hosts + number) (λ (link : LinkId). length c.hosts + link.0) way.links
      ∙ any_same (λ (link : LinkId). length c.hosts + link.0 == length c.hosts + number) (λ (link : LinkId). (link_at c.links link.0).fatpipe && is_in (length c.hosts + link.0) ((length c.hosts + number) ∷ [])) way.links
      (λ link. elim (eq_cases link.0 number) [
        | inl e ↦ eqb_yes (length c.hosts + link.0) (length c.hosts + number) (omega (arith, e))
            ∙ sym (ap₂ (λ a b. a && (b || false)) (ap (λ n. (link_at c.links n).fatpipe) e ∙ fat) (eqb_yes (length c.hosts + number) (length c.hosts + link.0) (omega (arith, e))))
        | inr ne ↦ eqb_no (length c.hosts + link.0) (length c.hosts + number) (λ e. ne (omega (arith, e)))
            ∙ sym (ap (λ b. (link_at c.links link.0).fatpipe && (b || false)) (eqb_no (length c.hosts + number) (length c.hosts + link.0) (λ e. ne (omega (arith, e)))) ∙ and_false (link_at c.links link.0).fatpipe)
      ])
    where
      and_false : (b : Bool) → (b && false) ≡ false
      and_false true = refl
      and_false false = refl

  -- over a shared link nobody
  pub shared_users : (link_at c.links number).fatpipe ≡ false → (place : Place) → IsPlace c place → is_rebound_at c ((length c.hosts + number) ∷ []) place ≡ false
  shared_users shared nowhere is = refl
  shared_users shared (on_host host) is = ap (λ b. b || false) (eqb_no (length c.hosts + number) host (λ e. absurd (omega (arith, e, is))))
  shared_users shared (over way) is = any_false (λ (link : LinkId). (link_at c.links link.0).fatpipe && is_in (length c.hosts + link.0) ((length c.hosts + number) ∷ [])) way.links (λ k d w. each (get_or way.links k d))
    where
      and_false : (b : Bool) → (b && false) ≡ false
      and_false true = refl
      and_false false = refl

      each : (link : LinkId) → ((link_at c.links link.0).fatpipe && is_in (length c.hosts + link.0) ((length c.hosts + number) ∷ [])) ≡ false
      each link = elim (eq_cases link.0 number) [
        | inl e ↦ ap (λ b. b && is_in (length c.hosts + link.0) ((length c.hosts + number) ∷ [])) (ap (λ n. (link_at c.links n).fatpipe) e ∙ shared)
        | inr ne ↦ ap (λ b. (link_at c.links link.0).fatpipe && (b || false)) (eqb_no (length c.hosts + number) (length c.hosts + link.0) (λ e. ne (omega (arith, e)))) ∙ and_false (link_at c.links link.0).fatpipe
      ]

set_last : (links : List LinkCap) (number : ℕ) (cap : LinkCap) → set (map (λ (link : LinkCap). link.bandwidth) links) number cap.bandwidth ≡ map (λ (link : LinkCap). link.bandwidth) (set links number cap)
set_last [] number cap = refl
set_last (l ∷ links) zero cap = refl
set_last (l ∷ links) (suc number) cap = ap (λ r. l.bandwidth ∷ r) (set_last links number cap)

set_behind : (hosts : List HostCap) (links : List LinkCap) (resource number : ℕ) (cap : LinkCap) → resource ≡ length hosts + number → set (map offer_of hosts ++ map (λ (link : LinkCap). link.bandwidth) links) resource cap.bandwidth ≡ map offer_of hosts ++ map (λ (link : LinkCap). link.bandwidth) (set links number cap)
set_behind [] links resource number cap e = ap (λ n. set (map (λ (link : LinkCap). link.bandwidth) links) n cap.bandwidth) (start e) ∙ set_last links number cap
  where
    start : {a b : ℕ} → a ≡ 0 + b → a ≡ b
    start z = omega (arith, z)
set_behind (h ∷ hosts) links zero number cap e = absurd (omega (arith, e))
set_behind (h ∷ hosts) links (suc resource) number cap e = ap (λ l. offer_of h ∷ l) (set_behind hosts links resource number cap (omega (arith, e)))

pub bandwidth_capacities : (c : Capacities) (number bandwidth : ℕ) → set (capacities_of c) (length c.hosts + number) bandwidth ≡ capacities_of (at_bandwidth number bandwidth c)
bandwidth_capacities c number bandwidth = set_behind c.hosts c.links (length c.hosts + number) number (record { bandwidth = bandwidth; fatpipe = (link_at c.links number).fatpipe }) refl

-- on a host all that use it
pub host_users : (c : Capacities) (host : ℕ) → host < length c.hosts → (place : Place) → is_in host (used_at (length c.hosts) (length c.links) place) ≡ is_rebound_at c (host ∷ []) place
host_users c host within nowhere = refl
host_users c host within (on_host k) = ap (λ b. b || false) (eqb_swap k host)
host_users c host within (over way) =
    ap₂ (λ a b. a || (b || is_in host (map (λ (link : LinkId). length c.hosts + link.0) way.links))) (eqb_no (length c.hosts + length c.links + way.sender) host (λ e. absurd (omega (arith, e, within)))) (eqb_no (length c.hosts + length c.links + way.receiver) host (λ e. absurd (omega (arith, e, within))))
    ∙ any_mapped (λ m. m == host) (λ (link : LinkId). length c.hosts + link.0) way.links
    ∙ any_same (λ (link : LinkId). length c.hosts + link.0 == host) (λ (link : LinkId). (link_at c.links link.0).fatpipe && is_in (length c.hosts + link.0) (host ∷ [])) way.links
    (λ link. eqb_no (length c.hosts + link.0) host (λ e. absurd (omega (arith, e, within)))
    ∙ sym (ap (λ b. (link_at c.links link.0).fatpipe && (b || false)) (eqb_no host (length c.hosts + link.0) (λ e. absurd (omega (arith, e, within)))) ∙ and_false (link_at c.links link.0).fatpipe))
  where
    and_false : (b : Bool) → (b && false) ≡ false
    and_false true = refl
    and_false false = refl
