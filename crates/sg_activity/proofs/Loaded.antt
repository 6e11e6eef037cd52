-- The load of a host is the sum over those that the index has there.
use Rattle.std.proofs.Common.{◌≡◌, ℕ, zero, suc, ◌+◌, ◌-◌, ◌*◌, ◌==◌, ◌^◌, ◌<◌, ◌≤◌, ne_eqb, Bool, true, false, cond, not, ◌&&◌, Option, None, Some, List, [], ◌∷◌, ◌++◌, All, IfSome, IsTrue, length, map, take, get_or, sum_by, unwrap_or, refl, sym, ap, ap₂, ◌∙◌, arith}
use Rattle.std.specs.List.{cons_option}
use Rattle.std.proofs.Math.Nat.{mul-le-mul}
use Rattle.std.proofs.lemmas.List.Sums.{sum_by-cons}
use Rattle.sg_base.specs.declared.ids.LinkId.{LinkId}
use Rattle.sg_maxmin.specs.Chained.{times, users_on}
use Rattle.sg_activity.specs.declared.activity_state.Kept.{Kept}
use Rattle.sg_activity_table.specs.declared.kinds.HostCap.{HostCap}
use Rattle.sg_activity_table.specs.declared.kinds.Place.{Place as LivePlace}
use Rattle.sg_activity_table.specs.declared.kinds.Place.TheVariants as place_is
use Rattle.sg_activity_table.specs.declared.lives.Live.{Live}
use Rattle.sg_activity.specs.Hosts.{IsHost, host_at, offer_of}
use Rattle.sg_activity.specs.Laws.{IsHostOf}
use Rattle.sg_activity.specs.Power.{is_there, load_by, loads, part_of_load}
use Rattle.sg_activity_table.specs.Slots.{passes}
use Rattle.sg_activity.specs.Task.{Task}
use Rattle.sg_activity_table.specs.Kinds.{takes_share}
use Rattle.sg_activity.specs.Underway.{load, rate}
use Rattle.sg_activity.specs.kept.Index.{used_at, used_by}
use Rattle.sg_activity.specs.kept.Rows.{Indexed}
use Rattle.sg_activity.specs.kept.Metered.{rate_of, rates_of, sum_of, total, with_one}
use Rattle.sg_activity_table.specs.Pool.{slot_at}
use Rattle.sg_activity.specs.kept.Sound.{IsKept, IsSound}
use Rattle.sg_activity.specs.kept.State.{State, links_at, place_of, serial_at, serial_in, state_of, task_of, told_at, under_of, ways_of}
use Rattle.sg_activity.specs.kept.Whole.{IsUsed}
use Rattle.sg_activity_table.proofs.Listed.{at_listed}
use Rattle.sg_activity.proofs.Loads.{load_fits_lem}
use Rattle.sg_activity.proofs.Lookup.{told_from}
use Rattle.sg_activity.proofs.Pairing.{paired_sums, part, sum_by-there, there_within}
use Rattle.sg_activity.proofs.Rates.{drawn_told, limits, rate_told, task_there}
use Rattle.sg_activity.proofs.Reset.{AreBothWays, users_below}
use Rattle.sg_activity.proofs.Summed.{sum_by_places}
use Rattle.sg_activity.proofs.Works.{any_counts}

-- ---- sums that may be none
abbrev none_at : ℕ → ℕ → Option ℕ
none_at count sum = cond (not (count == 0)) (Some sum) None

pub total_is : (rates : List ℕ) → total rates ≡ none_at (length rates) (sum_of rates)
total_is [] = refl
total_is (rate ∷ rates) = sym (ap (λ b. cond (not b) (Some (sum_of (rate ∷ rates))) None) (more (length rates)))
  where
    more : (n : ℕ) → (suc n == 0) ≡ false
    more n = grind arith

pub total_more : (rates : List ℕ) (rate : ℕ) → total (rates ++ rate ∷ []) ≡ with_one (total rates) (Some rate)
total_more [] rate = let e : sum_of (rate ∷ []) ≡ 0 + rate = omega (arith, sum_by-cons (λ (r : ℕ). r) rate []) in ap (λ n. Some n) e
total_more (r ∷ rates) rate = ap (λ n. Some n) (sum_more (r ∷ rates))
  where
    sum_more : (list : List ℕ) → sum_of (list ++ rate ∷ []) ≡ sum_of list + rate
    sum_more [] = omega (arith, sum_by-cons (λ (r : ℕ). r) rate [])
    sum_more (x ∷ list) = omega (arith, sum_by-cons (λ (r : ℕ). r) x (list ++ rate ∷ []), sum_by-cons (λ (r : ℕ). r) x list, sum_more list)

pub sum_told : (rates : List ℕ) → unwrap_or (total rates) 0 ≡ sum_of rates
sum_told [] = refl
sum_told (rate ∷ rates) = refl

module _ (slots : List (Option Live)) where
  rates_append : (keys : List ℕ) (key : ℕ) → rates_of slots (keys ++ key ∷ []) ≡ rates_of slots keys ++ rates_of slots (key ∷ [])
  rates_append [] key = refl
  rates_append (k ∷ keys) key = go (rate_of (slot_at slots k)) (rates_append keys key)
    where
      go : (o : Option ℕ) → rates_of slots (keys ++ key ∷ []) ≡ rates_of slots keys ++ rates_of slots (key ∷ []) → cons_option o (rates_of slots (keys ++ key ∷ [])) ≡ cons_option o (rates_of slots keys) ++ rates_of slots (key ∷ [])
      go None rest = rest
      go (Some r) rest = ap (λ l. r ∷ l) rest

  append_none : (list : List ℕ) → list ++ [] ≡ list
  append_none [] = refl
  append_none (x ∷ list) = ap (λ l. x ∷ l) (append_none list)

  -- one more key
  pub total_on : (keys : List ℕ) (key : ℕ) → total (rates_of slots (keys ++ key ∷ [])) ≡ with_one (total (rates_of slots keys)) (rate_of (slot_at slots key))
  total_on keys key = ap total (rates_append keys key) ∙ go (rate_of (slot_at slots key))
    where
      go : (o : Option ℕ) → total (rates_of slots keys ++ cons_option o []) ≡ with_one (total (rates_of slots keys)) o
      go None = ap total (append_none (rates_of slots keys))
      go (Some r) = total_more (rates_of slots keys) r

  sum_on : (keys : List ℕ) → sum_of (rates_of slots keys) ≡ sum_by (λ key. unwrap_or (rate_of (slot_at slots key)) 0) keys
  sum_on [] = refl
  sum_on (k ∷ keys) = go (rate_of (slot_at slots k)) (sum_on keys)
    where
      w : ℕ → ℕ
      w key = unwrap_or (rate_of (slot_at slots key)) 0

      go : (o : Option ℕ) → sum_of (rates_of slots keys) ≡ sum_by (λ key. unwrap_or (rate_of (slot_at slots key)) 0) keys → sum_of (cons_option (rate_of (slot_at slots k)) (rates_of slots keys)) ≡ sum_by (λ key. unwrap_or (rate_of (slot_at slots key)) 0) (k ∷ keys)
      go o rest = head (rate_of (slot_at slots k)) ∙ sym (sum_by-cons (λ key. unwrap_or (rate_of (slot_at slots key)) 0) k keys ∙ ap (λ n. unwrap_or (rate_of (slot_at slots k)) 0 + n) (sym rest))
        where
          head : (o : Option ℕ) → sum_of (cons_option o (rates_of slots keys)) ≡ unwrap_or o 0 + sum_of (rates_of slots keys)
          head None = omega arith
          head (Some r) = sum_by-cons (λ (x : ℕ). x) r (rates_of slots keys)

  -- the sum so far and the next one are no more than all together
  pub sum_within : (keys : List ℕ) (k : ℕ) → k < length keys → unwrap_or (total (rates_of slots (take k keys))) 0 + unwrap_or (rate_of (slot_at slots (get_or keys k 0))) 0 ≤ sum_of (rates_of slots keys)
  sum_within keys k less =
      omega (arith, sum_told (rates_of slots (take k keys)), sum_on (take k keys), sum_on keys, part_within (λ key. unwrap_or (rate_of (slot_at slots key)) 0) keys k less)
    where
      part_within : (f : ℕ → ℕ) (xs : List ℕ) (i : ℕ) → i < length xs → sum_by f (take i xs) + f (get_or xs i 0) ≤ sum_by f xs
      part_within f [] i less = absurd (omega (arith, less))
      part_within f (x ∷ xs) zero less = omega (arith, sum_by-cons f x xs)
      part_within f (x ∷ xs) (suc i) less = omega (arith, sum_by-cons f x (take i xs), sum_by-cons f x xs, part_within f xs i (omega (arith, less)))

-- ---- what an activity adds
away : (host n : ℕ) (links : List LinkId) → host < n → times host (map (λ (link : LinkId). n + link.0) links) ≡ 0
away host n [] less = refl
away host n (link ∷ links) less =
    sum_by-cons (λ other. cond (other == host) 1 0) (n + link.0) (map (λ (link : LinkId). n + link.0) links)
    ∙ ap₂ (λ (b : Bool) m. cond b 1 0 + m) (ne_eqb (n + link.0) host (λ e. absurd (omega (arith, e, less)))) (away host n links less)

module _ (s : State) (is : IsKept s) (set : IsTrue s.settled) (host : ℕ) where
  added : (ℕ → ℕ) → Live → ℕ
  added amount live = cond (takes_share live.kind && is_there host (place_of live.place [])) (amount live.rate) 0

  task_adds : (ℕ → ℕ) → Task → ℕ
  task_adds amount task = cond (loads host task) (amount (rate (under_of s) task)) 0

  there_over : (place : LivePlace) (links : List LinkId) → is_there host (place_of place []) ≡ is_there host (place_of place links)
  there_over place_is.Nowhere links = refl
  there_over (place_is.OnHost h) links = refl
  there_over (place_is.Over sender receiver count) links = refl

  abbrev place : ℕ → ℕ
  place key = serial_at s.slots key - 1

  as_much : (amount : ℕ → ℕ) (key : ℕ) (live : Live) → slot_at s.slots key ≡ Some live → added amount live ≡ task_adds amount (task_of s key live)
  unfolding added task_adds
  as_much amount key live at =
      ap₂ (λ b r. cond (takes_share live.kind && b) (amount r) 0) (there_over live.place (links_at s.ways key)) (sym (rate_told s is set key live at))

  slots_sum : (amount : ℕ → ℕ) → sum_by (part (added amount)) s.slots ≡ sum_by (part (task_adds amount)) (under_of s).tasks
  slots_sum amount = paired_sums (added amount) (task_adds amount) s.slots (under_of s).tasks place (record {
    to = λ key live at. (task_of s key live, ap (λ o. get_or (under_of s).tasks (serial_in o - 1) None) at ∙ task_there s is key live at, as_much amount key live at);
    own = λ i j one other a b e.
        let h = is.each i one a in
        let k = is.each j other b in
        is.apart i j one other a b (omega (arith, e, ap serial_in a, ap serial_in b, h.from, k.from));
    from = λ j task e.
        let less : j < s.drawn = omega (arith, there_within (under_of s).tasks j task e, drawn_told s is) in
        let told = told_from (task_of s) s.slots (j + 1) task is.apart (sym (at_listed s.drawn (λ i. told_at (task_of s) s.slots (i + 1)) j None less) ∙ e) in
        (told.0.key, told.0.live, told.0.at, omega (arith, ap serial_in told.0.at, told.0.is));
  })

  module _ (hosts links : ℕ) (exists : host < hosts) where
    -- where it isn't
    none_adds : (amount : ℕ → ℕ) (full : Bool) (r n : ℕ) → n ≡ 0 → n * part amount (cond full (Some r) None) ≡ cond (full && false) (amount r) 0
    none_adds amount true r n none = ap (λ m. m * amount r) none ∙ nothing (amount r)
      where
        nothing : (m : ℕ) → 0 * m ≡ 0
        nothing m = omega arith
    none_adds amount false r n none = ap (λ m. m * 0) none

    place_adds : (amount : ℕ → ℕ) (full : Bool) (place : LivePlace) (r : ℕ) (way : List LinkId) →
        times host (used_at hosts links (place_of place way)) * part amount (cond full (Some r) None) ≡ cond (full && is_there host (place_of place [])) (amount r) 0
    place_adds amount full place_is.Nowhere r way = none_adds amount full r 0 refl
    place_adds amount full (place_is.Over sender receiver count) r way = none_adds amount full r (times host ((hosts + links + sender.0) ∷ (hosts + links + receiver.0) ∷ map (λ (link : LinkId). hosts + link.0) way)) none
      where
        none : times host ((hosts + links + sender.0) ∷ (hosts + links + receiver.0) ∷ map (λ (link : LinkId). hosts + link.0) way) ≡ 0
        none =
            sum_by-cons (λ other. cond (other == host) 1 0) (hosts + links + sender.0) ((hosts + links + receiver.0) ∷ map (λ (link : LinkId). hosts + link.0) way)
            ∙ ap₂ (λ (b : Bool) m. cond b 1 0 + m) (ne_eqb (hosts + links + sender.0) host (λ e. absurd (omega (arith, e, exists))))
            (sum_by-cons (λ other. cond (other == host) 1 0) (hosts + links + receiver.0) (map (λ (link : LinkId). hosts + link.0) way)
            ∙ ap₂ (λ (b : Bool) m. cond b 1 0 + m) (ne_eqb (hosts + links + receiver.0) host (λ e. absurd (omega (arith, e, exists)))) (away host hosts way exists))
    place_adds amount true (place_is.OnHost h) r way = ap (λ n. n * amount r) (sum_by-cons (λ other. cond (other == host) 1 0) h.0 []) ∙ go (h.0 == host) (amount r)
      where
        go : (b : Bool) (n : ℕ) → (cond b 1 0 + 0) * n ≡ cond b n 0
        go true n = omega arith
        go false n = omega arith
    place_adds amount false (place_is.OnHost h) r way = nothing (times host (h.0 ∷ []))
      where
        nothing : (n : ℕ) → n * 0 ≡ 0
        nothing n = omega arith

-- what all cores offer
bounded_product : (a b : ℕ) → a ≤ 10 ^ 15 → b ≤ 1024 → a * b ≤ 1024 * 10 ^ 15
bounded_product a b p q = let e = mul-le-mul p q in omega (arith, e)

pub offer_small : (hosts : List HostCap) (host : ℕ) → All IsHost hosts → offer_of (host_at hosts host) ≤ 1024 * 10 ^ 15
offer_small [] host are = omega arith
offer_small (cap ∷ hosts) zero are = let h = are 0 cap (omega arith) in bounded_product cap.speed cap.cores h.speed h.cores
offer_small (cap ∷ hosts) (suc host) are = offer_small hosts host (λ k d within. are (suc k) d (omega (arith, within)))

-- ---- the load
module _ (kept : Kept) (sound : IsSound kept) (index : Indexed) (used : IsUsed kept index) (both : AreBothWays index) (set : IsTrue kept.settled) (host : ℕ) (exists : host < length kept.hosts.items) where
  abbrev s : State
  s = state_of kept

  abbrev users : List ℕ
  users = users_on index.users host

  -- by the index as much as by the slots
  users_sum : (amount : ℕ → ℕ) → sum_by (λ key. part amount (rate_of (slot_at kept.lives.slots key))) users ≡ sum_by (part (added s sound.are set host amount)) kept.lives.slots
  unfolding added
  users_sum amount = sum_by_places (λ key. part amount (rate_of (slot_at kept.lives.slots key))) (part (added s sound.are set host amount)) users kept.lives.slots None (users_below kept index used both host) (λ key. go key (slot_at kept.lives.slots key) refl)
    where
      nothing : (n : ℕ) → n * 0 ≡ 0
      nothing n = omega arith

      go : (key : ℕ) (o : Option Live) → slot_at kept.lives.slots key ≡ o → times key users * part amount (rate_of (slot_at kept.lives.slots key)) ≡ part (added s sound.are set host amount) (slot_at kept.lives.slots key)
      go key None at =
          ap (λ o. times key users * part amount (rate_of o)) at ∙ nothing (times key users) ∙ sym (ap (part (added s sound.are set host amount)) at)
      go key (Some live) at =
          ap₂ (λ n o. n * part amount (rate_of o)) (both key host ∙ ap (times host) (used.rows key ∙ ap (used_by (length kept.hosts.items) (length kept.links.items) (links_at (ways_of kept) key)) at)) at
          ∙ place_adds s sound.are set host (length kept.hosts.items) (length kept.links.items) exists amount (takes_share live.kind) live.place live.rate (links_at (ways_of kept) key)
          ∙ sym (ap (part (added s sound.are set host amount)) at)

  all_sum : (amount : ℕ → ℕ) → sum_by amount (rates_of kept.lives.slots users) ≡ sum_by (part (task_adds s sound.are set host amount)) (under_of s).tasks
  all_sum amount = sum_by-there amount (λ key. rate_of (slot_at kept.lives.slots key)) users ∙ users_sum amount ∙ slots_sum s sound.are set host amount

  ones : (rates : List ℕ) → sum_by (λ (r : ℕ). 1) rates ≡ length rates
  ones [] = refl
  ones (r ∷ rates) = omega (arith, sum_by-cons (λ (x : ℕ). 1) r rates, ones rates)

  one_each : (o : Option Task) → cond (passes (loads host) o) 1 0 ≡ part (task_adds s sound.are set host (λ r. 1)) o
  unfolding task_adds
  one_each None = refl
  one_each (Some t) = refl

  rate_each : (o : Option Task) → part_of_load (rate (under_of s)) host o ≡ part (task_adds s sound.are set host (λ r. r)) o
  unfolding task_adds
  rate_each None = refl
  rate_each (Some t) = refl

  sum_alike : {X : Type 0} (f g : X → ℕ) (xs : List X) → ((x : X) → f x ≡ g x) → sum_by f xs ≡ sum_by g xs
  sum_alike f g [] e = refl
  sum_alike f g (x ∷ xs) e = omega (arith, sum_by-cons f x xs, sum_by-cons g x xs, e x, sum_alike f g xs e)

  pub load_walked : total (rates_of kept.lives.slots users) ≡ load (under_of s) host
  unfolding load_by
  load_walked =
      let tasks = (under_of s).tasks in
      let count : length (rates_of kept.lives.slots users) ≡ sum_by (λ o. cond (passes (loads host) o) 1 0) tasks =
      sym (ones (rates_of kept.lives.slots users)) ∙ all_sum (λ r. 1) ∙ sym (sum_alike (λ o. cond (passes (loads host) o) 1 0) (part (task_adds s sound.are set host (λ r. 1))) tasks one_each) in
      let sum : sum_of (rates_of kept.lives.slots users) ≡ sum_by (part_of_load (rate (under_of s)) host) tasks =
      all_sum (λ r. r) ∙ sym (sum_alike (part_of_load (rate (under_of s)) host) (part (task_adds s sound.are set host (λ r. r))) tasks rate_each) in
      total_is (rates_of kept.lives.slots users)
      ∙ ap₂ none_at count sum
      ∙ sym (ap (λ b. cond b (Some (sum_by (part_of_load (rate (under_of s)) host) tasks)) None) (any_counts (passes (loads host)) tasks))

  pub host_is : IsHostOf (under_of s) host
  host_is = record { exists = exists; limited = limits s sound.are }

  -- no more than all cores offer
  pub load_offered : (o : Option ℕ) → o ≡ load (under_of s) host → IfSome o (λ sum. sum ≤ offer_of (host_at kept.hosts.items host))
  load_offered None e = tt
  load_offered (Some sum) e = load_fits_lem (under_of s) host sum host_is (sym e)

  pub sums_fit : All IsHost kept.hosts.items → sum_of (rates_of kept.lives.slots users) < 2 ^ 64
  sums_fit hosts = go (rates_of kept.lives.slots users) (load_offered (total (rates_of kept.lives.slots users)) load_walked)
    where
      go : (rates : List ℕ) → IfSome (total rates) (λ sum. sum ≤ offer_of (host_at kept.hosts.items host)) → sum_of rates < 2 ^ 64
      go [] fits = omega arith
      go (r ∷ rates) fits = omega (arith, fits, offer_small kept.hosts.items host hosts)
