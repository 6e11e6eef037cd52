-- The flow of a route may be in the system.
use Rattle.std.proofs.Common.{◌≡◌, ◌≢◌, ℕ, zero, suc, ◌+◌, ◌<◌, ◌≤◌, Bool, true, false, cond, not, Option, None, Some, IsSome, All, AllPairs, List, [], ◌∷◌, drop, filter, map, length, get_or, refl, sym, ap, ◌∙◌, arith}
use Rattle.std.proofs.lemmas.List.{at_drop_more, length-append, length-map}
use Rattle.std.proofs.lemmas.List.Kept.{AllPairs-cons}
use Rattle.sg_base.specs.declared.ids.LinkId.{LinkId}
use Rattle.sg_base.specs.Limits.{IsPriority}
use Rattle.sg_maxmin.specs.Fill.{flow}
use Rattle.sg_maxmin.specs.Sharing.{IsFlow}
use Rattle.sg_activity_table.specs.declared.kinds.LinkCap.{LinkCap}
use Rattle.sg_activity_table.specs.Slots.{sooner}
use Rattle.sg_activity.specs.Hosts.{offer_of}
use Rattle.sg_activity.specs.Links.{Capacities, capacities_of, bound_of_link, link_at, route_bound, shared_of}
use Rattle.sg_activity.specs.kept.Sound.{IsWay}
use Rattle.sg_activity.proofs.Times.{sooner_assoc, sooner_never}

-- ---- the bound, as a loop continues
pub bound_more : (links : List LinkCap) (bound : Option ℕ) (route : List LinkId) (i : ℕ) (d : LinkId) → i < length route →
    sooner bound (route_bound links (drop i route)) ≡ sooner (sooner bound (bound_of_link (link_at links (get_or route i d).0))) (route_bound links (drop (i + 1) route))
unfolding route_bound
bound_more links bound route i d within =
    at_drop_more (λ l. sooner bound (route_bound links l)) route i d within
    ∙ sym (sooner_assoc bound (bound_of_link (link_at links (get_or route i d).0)) (route_bound links (drop (i + 1) route)))

pub bound_done : (links : List LinkCap) (bound : Option ℕ) → sooner bound (route_bound links []) ≡ bound
unfolding route_bound
bound_done links bound = sooner_never bound

-- ---- of each element
all_tail : {X : Type 0} (P : X → Type 0) (x : X) (xs : List X) → All P (x ∷ xs) → All P xs
all_tail P x xs h k d within = h (suc k) d (omega (arith, within))

pub all_cons : {X : Type 0} (P : X → Type 0) (x : X) (xs : List X) → P x → All P xs → All P (x ∷ xs)
all_cons P x xs p h zero d within = p
all_cons P x xs p h (suc k) d within = h k d (omega (arith, within))

pairs_head : {X : Type 0} (R : X → X → Type 0) (x : X) (xs : List X) → AllPairs R (x ∷ xs) → All (R x) xs
pairs_head R x xs h k d within = h 0 (suc k) d (omega arith) (omega (arith, within))

pairs_tail : {X : Type 0} (R : X → X → Type 0) (x : X) (xs : List X) → AllPairs R (x ∷ xs) → AllPairs R xs
pairs_tail R x xs h i j d less within = h (suc i) (suc j) d (omega (arith, less)) (omega (arith, within))

-- ---- the resources
shared_exist : (hosts most : ℕ) (links : List LinkCap) (route : List LinkId) → hosts + length links ≤ most → All (λ (link : LinkId). link.0 < length links) route → All (λ resource. resource < most) (shared_of hosts links route)
shared_exist hosts most links [] le exist = λ k d within. absurd (omega (arith, within))
shared_exist hosts most links (link ∷ route) le exist = cases (link_at links link.0).fatpipe (shared_exist hosts most links route le (all_tail (λ (l : LinkId). l.0 < length links) link route exist))
  where
    head : link.0 < length links
    head = exist 0 link (omega arith)

    rest : List LinkId
    rest = filter (λ l. not (link_at links l.0).fatpipe) route

    cases : (b : Bool) → All (λ resource. resource < most) (shared_of hosts links route) → All (λ resource. resource < most) (map (λ (l : LinkId). hosts + l.0) (cond (not b) (link ∷ rest) rest))
    cases true more = more
    cases false more = all_cons (λ resource. resource < most) (hosts + link.0) (shared_of hosts links route) (omega (arith, le, head)) more

shared_other : (hosts : ℕ) (links : List LinkCap) (link : LinkId) (route : List LinkId) → All (λ l. link ≢ l) route → All (λ resource. hosts + link.0 ≢ resource) (shared_of hosts links route)
shared_other hosts links link [] other = λ k d within. absurd (omega (arith, within))
shared_other hosts links link (l ∷ route) other = cases (link_at links l.0).fatpipe (shared_other hosts links link route (all_tail (λ m. link ≢ m) l route other))
  where
    rest : List LinkId
    rest = filter (λ m. not (link_at links m.0).fatpipe) route

    apart : hosts + link.0 ≢ hosts + l.0
    apart same = other 0 l (omega arith) (let e : link.0 ≡ l.0 = omega (arith, same) in ap (λ n. record { 0 = n }) e)

    cases : (b : Bool) → All (λ resource. hosts + link.0 ≢ resource) (shared_of hosts links route) → All (λ resource. hosts + link.0 ≢ resource) (map (λ (m : LinkId). hosts + m.0) (cond (not b) (l ∷ rest) rest))
    cases true more = more
    cases false more = all_cons (λ resource. hosts + link.0 ≢ resource) (hosts + l.0) (shared_of hosts links route) apart more

shared_once : (hosts : ℕ) (links : List LinkCap) (route : List LinkId) → AllPairs (λ a b. a ≢ b) route → AllPairs (λ a b. a ≢ b) (shared_of hosts links route)
shared_once hosts links [] once = λ i j d less within. absurd (omega (arith, within))
shared_once hosts links (link ∷ route) once = cases (link_at links link.0).fatpipe (shared_once hosts links route (pairs_tail (λ a b. a ≢ b) link route once))
  where
    rest : List LinkId
    rest = filter (λ l. not (link_at links l.0).fatpipe) route

    cases : (b : Bool) → AllPairs (λ a c. a ≢ c) (shared_of hosts links route) → AllPairs (λ a c. a ≢ c) (map (λ (l : LinkId). hosts + l.0) (cond (not b) (link ∷ rest) rest))
    cases true more = more
    cases false more = AllPairs-cons (λ a c. a ≢ c) (hosts + link.0) (shared_of hosts links route) (shared_other hosts links link route (pairs_head (λ a c. a ≢ c) link route once)) more

-- as many as links at most
pub shared_few : (hosts : ℕ) (links : List LinkCap) (route : List LinkId) → length (shared_of hosts links route) ≤ length route
shared_few hosts links [] = omega arith
shared_few hosts links (link ∷ route) = cases (link_at links link.0).fatpipe (shared_few hosts links route)
  where
    rest : List LinkId
    rest = filter (λ l. not (link_at links l.0).fatpipe) route

    cases : (b : Bool) → length (shared_of hosts links route) ≤ length route → length (map (λ (l : LinkId). hosts + l.0) (cond (not b) (link ∷ rest) rest)) ≤ suc (length route)
    cases true fewer = omega (arith, fewer)
    cases false fewer = omega (arith, fewer)

pub sooner_some : (n : ℕ) (o : Option ℕ) → IsSome (sooner (Some n) o)
sooner_some n None = refl
sooner_some n (Some m) = refl

-- over FATPIPE links alone there is a bound
bounded : (hosts : ℕ) (links : List LinkCap) (route : List LinkId) → route ≢ [] → shared_of hosts links route ≡ [] → IsSome (route_bound links route)
unfolding route_bound
bounded hosts links [] some none = absurd (some refl)
bounded hosts links (link ∷ route) some none = cases (link_at links link.0).fatpipe none
  where
    cases : (b : Bool) → map (λ (l : LinkId). hosts + l.0) (cond (not b) (link ∷ filter (λ l. not (link_at links l.0).fatpipe) route) (filter (λ l. not (link_at links l.0).fatpipe) route)) ≡ [] → IsSome (sooner (cond b (Some (link_at links link.0).bandwidth) None) (route_bound links route))
    cases true e = sooner_some (link_at links link.0).bandwidth (route_bound links route)
    cases false e = absurd (cc e)

pub resources_are : (capacities : Capacities) → length (capacities_of capacities) ≡ length capacities.hosts + length capacities.links
resources_are capacities =
    length-append (map offer_of capacities.hosts) (map (λ (link : LinkCap). link.bandwidth) capacities.links)
    ∙ ap (λ n. n + length (map (λ (link : LinkCap). link.bandwidth) capacities.links)) (length-map capacities.hosts offer_of)
    ∙ ap (λ n. length capacities.hosts + n) (length-map capacities.links (λ (link : LinkCap). link.bandwidth))

-- a second bound changes nothing of that there is one
pub sooner_more : (one other : Option ℕ) → IsSome one → IsSome (sooner one other)
sooner_more None other some = absurd (cc some)
sooner_more (Some n) other some = sooner_some n other

-- a flow over a route may be in the system
pub way_is_flow : (capacities : Capacities) (route : List LinkId) (weight : ℕ) (bound : Option ℕ) → IsWay capacities route → IsPriority weight →
    IsFlow (capacities_of capacities) (flow (shared_of (length capacities.hosts) capacities.links route) weight (sooner (route_bound capacities.links route) bound))
way_is_flow capacities route weight bound is weighs = record {
  exist = shared_exist (length capacities.hosts) (length (capacities_of capacities)) capacities.links route (omega (arith, resources_are capacities)) is.exist;
  once = shared_once (length capacities.hosts) capacities.links route is.apart;
  light = omega (arith, weighs);
  limit = record { weighs = weighs.0; bounds = λ none. sooner_more (route_bound capacities.links route) bound (bounded (length capacities.hosts) capacities.links route is.some none) };
}

pub host_is_flow : (capacities : Capacities) (host weight : ℕ) (bound : Option ℕ) → host < length capacities.hosts → IsPriority weight → IsSome bound → IsFlow (capacities_of capacities) (flow (host ∷ []) weight bound)
host_is_flow capacities host weight bound within weighs some = record {
  exist = all_cons (λ resource. resource < length (capacities_of capacities)) host [] (omega (arith, within, resources_are capacities)) (λ k d w. absurd (omega (arith, w)));
  once = λ i j d less w. absurd (omega (arith, less, w));
  light = omega (arith, weighs);
  limit = record { weighs = weighs.0; bounds = λ _. some };
}
