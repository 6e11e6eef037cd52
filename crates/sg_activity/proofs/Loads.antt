-- A host's load follows from the host and its executions.
use Rattle.std.proofs.Common.{◌≡◌, ◌≢◌, ℕ, ◌+◌, ◌==◌, ◌<◌, ◌≤◌, ◌⊎◌, inl, inr, eq-eqb, ne_eqb, Bool, true, false, cond, not, ◌&&◌, ◌||◌, true≢false, Option, None, Some, List, [], ◌∷◌, length, map, filter, filter_map, sum_by, slice_index, refl, sym, ap, ap₂, subst, ◌∙◌, arith}
use Rattle.std.specs.List.{cons_option, list_any}
use Rattle.std.proofs.Math.Bool.{or-false}
use Rattle.std.proofs.lemmas.Option.{cond_some}
use Rattle.std.proofs.lemmas.List.{get_or-map, get_or_append_left, length-map}
use Rattle.sg_base.specs.declared.ids.LinkId.{LinkId}
use Rattle.sg_maxmin.specs.Fill.{Flow, is_on, share_of}
use Rattle.sg_maxmin.proofs.Members.{In, In-from_contains, contains_from_In, In-filter, In-filter_back}
use Rattle.sg_maxmin.proofs.Proved.{is_fair_lem}
use Rattle.sg_maxmin.proofs.Sums.{sum_by_same, sum_by-filter}
use Rattle.sg_lazy.specs.Touch.{touches}
use Rattle.sg_lazy.proofs.Parts.{keeps_rate_lem}
use Rattle.sg_activity_table.specs.declared.kinds.HostCap.{HostCap}
use Rattle.sg_activity_table.specs.declared.kinds.LinkCap.{LinkCap}
use Rattle.sg_activity.specs.Hosts.{host_at, offer_of}
use Rattle.sg_activity.specs.Laws.{IsHostOf, IsSameHost, LoadFits, LoadIsItsOwn, PowerIsItsOwn, asked_of, asked_on}
use Rattle.sg_activity.specs.Links.{Capacities, capacities_of, is_off, link_at}
use Rattle.sg_activity.specs.Power.{is_there, load_by, loads, part_of_load, power_in}
use Rattle.sg_activity_table.specs.Slots.{passes}
use Rattle.sg_activity.specs.Task.{Place, nowhere, on_host, over, Task, flow_at, flow_in, flow_of, flows}
use Rattle.sg_activity_table.specs.Kinds.{pace, takes_share}
use Rattle.sg_activity.specs.Underway.{Underway, load, power_at, rate}
use Rattle.sg_activity.proofs.Listing.{eq_cases, some_same}
use Rattle.sg_activity.proofs.Pairing.{part, sum_by-there}

eqb_is : (a b : ℕ) → (a == b) ≡ true → a ≡ b
eqb_is a b e = grind arith

in_cons_option : {Y : Type 0} (o : Option Y) (ys : List Y) (y : Y) → In y (cons_option o ys) → (o ≡ Some y) ⊎ In y ys
in_cons_option None ys y i = inr i
in_cons_option (Some x) ys y (inl e) = inl (ap (λ w. Some w) e)
in_cons_option (Some x) ys y (inr i) = inr i

and_true : (a b : Bool) → (a && b) ≡ true → b ≡ true
and_true true b e = e
and_true false b e = absurd (true≢false (sym e))

-- ---- what the executions of a host ask for
none_here : (host n : ℕ) (links : List LinkId) → host < n → list_any (λ used. used == host) (map (λ (link : LinkId). n + link.0) links) ≡ false
none_here host n [] less = refl
none_here host n (link ∷ links) less = ap₂ (λ a b. a || b) (ne_eqb (n + link.0) host (λ e. absurd (omega (arith, e, less)))) (none_here host n links less)

module _ (c : Capacities) (host : ℕ) where
  abbrev pub asked : List (Option Task) → List Flow
  asked tasks = filter_map (asked_on c host) tasks

  uses_there : (t : Task) (place : Place) → is_there host place ≡ true → (flow_at c t place).uses ≡ host ∷ []
  uses_there t nowhere e = absurd (true≢false (sym e))
  uses_there t (on_host k) e = ap (λ n. n ∷ []) (eqb_is k host e)
  uses_there t (over way) e = absurd (true≢false (sym e))

  -- each uses the host alone
  pub asked_uses : (tasks : List (Option Task)) (f : Flow) → In f (asked tasks) → f.uses ≡ host ∷ []
  asked_uses [] f i = absurd i
  asked_uses (None ∷ tasks) f i = asked_uses tasks f i
  asked_uses (Some t ∷ tasks) f i = elim (in_cons_option (asked_on c host (Some t)) (asked tasks) f i) [
    | inl e ↦
        let both = cond_some (loads host t) (flow_of c t) f e in
        ap (λ (g : Flow). g.uses) (sym both.1) ∙ uses_there t t.place (and_true (takes_share t.kind) (is_there host t.place) both.0)
    | inr j ↦ asked_uses tasks f j
  ]

  module _ (exists : host < length c.hosts) where
    on_place : (t : Task) (place : Place) → is_on host (flow_at c t place) ≡ is_there host place
    on_place t nowhere = refl
    on_place t (on_host k) = or-false (k == host)
    on_place t (over way) = none_here host (length c.hosts) (filter (λ link. not (link_at c.links link.0).fatpipe) way.links) exists

    -- nothing else uses the host
    pub asked_filter : (tasks : List (Option Task)) → filter (is_on host) (flows c tasks) ≡ asked tasks
    unfolding flows
    asked_filter [] = refl
    asked_filter (None ∷ tasks) = asked_filter tasks
    asked_filter (Some t ∷ tasks) = go (takes_share t.kind) (is_there host t.place) (on_place t t.place) (asked_filter tasks)
      where
        go : (full there : Bool) → is_on host (flow_of c t) ≡ there → filter (is_on host) (filter_map (flow_in c) tasks) ≡ asked tasks → filter (is_on host) (cons_option (cond full (Some (flow_of c t)) None) (filter_map (flow_in c) tasks)) ≡ cons_option (cond (full && there) (Some (flow_of c t)) None) (asked tasks)
        go false there e rest = rest
        go true true e rest =
            ap (λ b. cond b (flow_of c t ∷ filter (is_on host) (filter_map (flow_in c) tasks)) (filter (is_on host) (filter_map (flow_in c) tasks))) e
            ∙ ap (λ l. flow_of c t ∷ l) rest
        go true false e rest =
            ap (λ b. cond b (flow_of c t ∷ filter (is_on host) (filter_map (flow_in c) tasks)) (filter (is_on host) (filter_map (flow_in c) tasks))) e
            ∙ rest

    -- a sum over those that use the host
    pub asked_sum : (tasks : List (Option Task)) (amount : Flow → ℕ) → sum_by (λ f. cond (is_on host f) (amount f) 0) (flows c tasks) ≡ sum_by amount (asked tasks)
    asked_sum tasks amount =
        let here : Flow → ℕ = λ (f : Flow). cond (is_on host f) (amount f) 0 in
        sym (sum_by-filter here (is_on host) (flows c tasks) (λ f i off. ap (λ b. cond b (amount f) 0) off))
        ∙ sum_by_same here amount (filter (is_on host) (flows c tasks)) (λ f i. ap (λ b. cond b (amount f) 0) (In-filter_back (is_on host) (flows c tasks) f i).1)
        ∙ ap (sum_by amount) (asked_filter tasks)

    pub asked_in : (tasks : List (Option Task)) (f : Flow) → In f (asked tasks) → In f (flows c tasks)
    asked_in tasks f i = (In-filter_back (is_on host) (flows c tasks) f (subst (In f) (sym (asked_filter tasks)) i)).0

    pub in_asked : (tasks : List (Option Task)) (f : Flow) → In f (flows c tasks) → is_on host f ≡ true → In f (asked tasks)
    in_asked tasks f i on = subst (In f) (asked_filter tasks) (In-filter (is_on host) (flows c tasks) f i on)

    pub offer_there : slice_index (capacities_of c) host ≡ offer_of (host_at c.hosts host)
    offer_there =
        get_or_append_left (map offer_of c.hosts) (map (λ (link : LinkCap). link.bandwidth) c.links) 0 host (omega (arith, exists, length-map c.hosts offer_of))
        ∙ get_or-map offer_of c.hosts host (record { speed = 0; cores = 0; power = None }) 0 exists

-- ---- the load by what they ask for
-- the sum over all; none: there are none
abbrev pub of_all : (Flow → ℕ) → List Flow → Option ℕ
of_all amount [] = None
of_all amount (f ∷ flows) = Some (sum_by amount (f ∷ flows))

abbrev pub has_some : List Flow → Bool
has_some [] = false
has_some (f ∷ flows) = true

of_some : (amount : Flow → ℕ) (flows : List Flow) → cond (has_some flows) (Some (sum_by amount flows)) None ≡ of_all amount flows
of_some amount [] = refl
of_some amount (f ∷ flows) = refl

of_all_same : (amount other : Flow → ℕ) (flows : List Flow) → ((f : Flow) → In f flows → amount f ≡ other f) → of_all amount flows ≡ of_all other flows
of_all_same amount other [] same = refl
of_all_same amount other (f ∷ flows) same = ap (λ n. Some n) (sum_by_same amount other (f ∷ flows) same)

abbrev pub shares : Underway → Flow → ℕ
shares under flow = share_of (capacities_of under.capacities) (flows under.capacities under.tasks) flow

some_load : (c : Capacities) (host : ℕ) (tasks : List (Option Task)) → list_any (passes (loads host)) tasks ≡ has_some (filter_map (asked_on c host) tasks)
some_load c host [] = refl
some_load c host (None ∷ tasks) = some_load c host tasks
some_load c host (Some t ∷ tasks) = go (loads host t) (some_load c host tasks)
  where
    go : (b : Bool) → list_any (passes (loads host)) tasks ≡ has_some (filter_map (asked_on c host) tasks) → (b || list_any (passes (loads host)) tasks) ≡ has_some (cons_option (cond b (Some (flow_of c t)) None) (filter_map (asked_on c host) tasks))
    go true rest = refl
    go false rest = rest

part_told : (under : Underway) (host : ℕ) (o : Option Task) → part_of_load (rate under) host o ≡ part (shares under) (asked_on under.capacities host o)
unfolding rate
part_told under host None = refl
part_told under host (Some t) = go (takes_share t.kind) (is_there host t.place) refl
  where
    rates : Bool → ℕ
    rates b = cond b (shares under (flow_of under.capacities t)) (pace t.kind)

    go : (full there : Bool) → takes_share t.kind ≡ full → cond (full && there) (cond (takes_share t.kind) (shares under (flow_of under.capacities t)) (pace t.kind)) 0 ≡ part (shares under) (cond (full && there) (Some (flow_of under.capacities t)) None)
    go false there e = refl
    go true false e = refl
    go true true e = ap (λ b. cond b (shares under (flow_of under.capacities t)) (pace t.kind)) e

pub load_told : (under : Underway) (host : ℕ) → load under host ≡ of_all (shares under) (asked_of under host)
unfolding load_by asked_of
load_told under host =
    let c = under.capacities in
    let sum : sum_by (part_of_load (rate under) host) under.tasks ≡ sum_by (shares under) (filter_map (asked_on c host) under.tasks) =
    sum_by_same (part_of_load (rate under) host) (λ o. part (shares under) (asked_on c host o)) under.tasks (λ o i. part_told under host o)
    ∙ sym (sum_by-there (shares under) (asked_on c host) under.tasks) in
    ap₂ (λ b n. cond b (Some n) None) (some_load c host under.tasks) sum
    ∙ of_some (shares under) (filter_map (asked_on c host) under.tasks)

-- ---- the law
elsewhere : ℕ → ℕ → Bool
elsewhere host resource = not (resource == host)

here_not : (host : ℕ) → elsewhere host host ≡ false
unfolding elsewhere
here_not host = ap not (eq-eqb host host refl)

away : (host resource : ℕ) → resource ≢ host → elsewhere host resource ≡ true
unfolding elsewhere
away host resource ne = ap not (ne_eqb resource host ne)

not_away : (host resource : ℕ) → elsewhere host resource ≡ false → resource ≡ host
not_away host resource e = elim (eq_cases resource host) [
  | inl same ↦ same
  | inr ne ↦ absurd (true≢false (sym (away host resource ne) ∙ e))
]

untouched : (host : ℕ) (f : Flow) → f.uses ≡ host ∷ [] → touches (elsewhere host) f ≡ false
untouched host f e = ap (list_any (elsewhere host)) e ∙ ap (λ b. b || false) (here_not host)

used_here : (host : ℕ) (uses : List ℕ) → list_any (λ resource. true) uses ≡ true → list_any (elsewhere host) uses ≡ false → list_any (λ used. used == host) uses ≡ true
used_here host [] some free = absurd (true≢false (sym some))
used_here host (u ∷ uses) some free = ap (λ b. b || list_any (λ used. used == host) uses) (eq-eqb u host (not_away host u (first (elsewhere host u) (list_any (elsewhere host) uses) free)))
  where
    first : (a b : Bool) → (a || b) ≡ false → a ≡ false
    first true b e = absurd (true≢false e)
    first false b e = refl

module _ (past under : Underway) (host : ℕ) (was : IsHostOf past host) (is : IsHostOf under host) (same : IsSameHost past under host) where
  abbrev now : List Flow
  now = flows under.capacities under.tasks

  abbrev before : List Flow
  before = flows past.capacities past.tasks

  asked_same : asked under.capacities host under.tasks ≡ asked past.capacities host past.tasks
  unfolding asked_of
  asked_same = same.asked

  share_same : (f : Flow) → In f (asked past.capacities host past.tasks) → shares under f ≡ shares past f
  share_same f i =
      let here : In f (asked under.capacities host under.tasks) = subst (In f) (sym asked_same) i in
      let alone = asked_uses past.capacities host past.tasks f i in
      sym (keeps_rate_lem (capacities_of past.capacities) (capacities_of under.capacities) before now (elsewhere host) f was.limited is.limited
      (λ g there touched resource on. elim (eq_cases resource host) [
        | inl e ↦
            let on_it : is_on host g ≡ true = ap (λ r. is_on r g) (sym e) ∙ on in
            let uses = asked_uses under.capacities host under.tasks g (in_asked under.capacities host is.exists under.tasks g (In-from_contains now g there) on_it) in
            absurd (true≢false (sym touched ∙ untouched host g uses))
        | inr ne ↦ away host resource ne
      ])
      (record {
        same_capacities = λ resource e.
            ap (slice_index (capacities_of past.capacities)) (not_away host resource e) ∙ offer_there past.capacities host was.exists
            ∙ sym (ap (slice_index (capacities_of under.capacities)) (not_away host resource e) ∙ offer_there under.capacities host is.exists ∙ ap offer_of same.offers);
        same_flows = λ resource e amount.
            ap (λ r. sum_by (λ (g : Flow). cond (is_on r g) (amount g) 0) before) (not_away host resource e)
            ∙ asked_sum past.capacities host was.exists past.tasks amount
            ∙ ap (sum_by amount) (sym asked_same)
            ∙ sym (asked_sum under.capacities host is.exists under.tasks amount)
            ∙ sym (ap (λ r. sum_by (λ (g : Flow). cond (is_on r g) (amount g) 0) now) (not_away host resource e));
      })
      (λ g there some free.
      contains_from_In before g (asked_in past.capacities host was.exists past.tasks g (subst (In g) asked_same
      (in_asked under.capacities host is.exists under.tasks g (In-from_contains now g there) (used_here host g.uses some free)))))
      (contains_from_In now f (asked_in under.capacities host is.exists under.tasks f here))
      (ap (list_any (λ resource. true)) alone) (untouched host f alone))

  pub load_same : load under host ≡ load past host
  unfolding asked_of
  load_same =
      load_told under host ∙ ap (of_all (shares under)) asked_same
      ∙ of_all_same (shares under) (shares past) (asked past.capacities host past.tasks) share_same
      ∙ sym (load_told past host)

  pub power_same : power_at under host ≡ power_at past host
  power_same =
      ap₂ (λ (h : HostCap) b. power_in h.power b (offer_of h) (load under host)) same.offers same.on
      ∙ ap (power_in (host_at past.capacities.hosts host).power (is_off past.on.hosts host) (offer_of (host_at past.capacities.hosts host))) load_same

pub load_is_its_own_lem : LoadIsItsOwn
load_is_its_own_lem past under host was is same = load_same past under host was is same

pub power_is_its_own_lem : PowerIsItsOwn
power_is_its_own_lem past under host was is same = power_same past under host was is same

pub load_fits_lem : LoadFits
unfolding asked_of
load_fits_lem under host sum is e =
    let c = under.capacities in
    go (filter_map (asked_on c host) under.tasks) (sym (load_told under host) ∙ e) (asked_sum c host is.exists under.tasks (shares under))
  where
    go : (list : List Flow) → of_all (shares under) list ≡ Some sum → sum_by (λ (f : Flow). cond (is_on host f) (shares under f) 0) (flows under.capacities under.tasks) ≡ sum_by (shares under) list → sum ≤ offer_of (host_at under.capacities.hosts host)
    go [] some total = absurd (cc some)
    go (f ∷ list) some total =
        omega (arith, some_same some, total, (is_fair_lem (capacities_of under.capacities) (flows under.capacities under.tasks) is.limited).within host, offer_there under.capacities host is.exists)
