-- Chains of uses.
use Rattle.std.proofs.Common.{◌≡◌, ◌≢◌, ℕ, zero, suc, ◌+◌, ◌-◌, ◌<◌, ◌≤◌, ◌==◌, ◌⊎◌, inl, inr, cond, Bool, true, false, le_trans, Option, None, Some, is_some, option_map, List, [], ◌∷◌, length, count_by, replicate, get_or, set, get_or-set_other, drop, drop-cons, refl, sym, ap, ap₂, subst, ◌∙◌, arith}
use Rattle.std.proofs.lemmas.List.Sums.{sum_by-set, sum_by-cons, count_by-le-length}
use Rattle.sg_maxmin.specs.declared.uses.Use.{Use}
use Rattle.sg_maxmin.specs.Chain.{IsChain, IsSameChain, KeepsChains, resources, resource_at, next_at, IsOf}
use Rattle.sg_maxmin.specs.Walk.{Leads, next_of_flow, resource_of, user_of}
use Rattle.sg_maxmin.specs.Chained.{times}
use Rattle.sg_maxmin.specs.kept.Linked.{SameBut, flow_part, use_of, users_of, AreGained, GainsOne, LosesOne}
use Rattle.sg_maxmin.specs.declared.slots.Slot.{Slot}

-- ---- a use, seen from its flow, gives the flow, the resource and the next use
res_part : (o : Option Use) → resource_at (option_map flow_part o) ≡ resource_at o
res_part None = refl
res_part (Some u) = refl

next_part : (o : Option Use) → next_at (option_map flow_part o) ≡ next_at o
next_part None = refl
next_part (Some u) = refl

of_part : (id : ℕ) (o : Option Use) → IsOf id (option_map flow_part o) → IsOf id o
of_part id None h = h
of_part id (Some u) h = h

to_part : (id : ℕ) (o : Option Use) → IsOf id o → IsOf id (option_map flow_part o)
to_part id None h = h
to_part id (Some u) h = h

-- two uses that are the same to their flow
pub record AreSame (a b : Option Use) : Type 0 where
  pub same : option_map flow_part a ≡ option_map flow_part b

same_of : (id : ℕ) (a b : Option Use) → AreSame a b → IsOf id b → IsOf id a
same_of id a b h is = of_part id a (subst (λ o. IsOf id o) (sym h.same) (to_part id b is))

same_res : (a b : Option Use) → AreSame a b → resource_at a ≡ resource_at b
same_res a b h = sym (res_part a) ∙ ap resource_at h.same ∙ res_part b

same_next : (a b : Option Use) → AreSame a b → next_at a ≡ next_at b
same_next a b h = sym (next_part a) ∙ ap next_at h.same ∙ next_part b

-- the use of a chain
of_some : (id : ℕ) (o : Option Use) → IsOf id o → (u : Use) × (o ≡ Some u) × (u.flow ≡ id)
of_some id None h = absurd h
of_some id (Some u) h = (u, refl, h)

-- one more use of a chain that stays
same_more : (id n i : ℕ) (old new : List (Option Use)) → AreSame (get_or new i None) (get_or old i None) → IsOf id (get_or old i None) → IsSameChain old new id n (next_at (get_or old i None)) → IsSameChain old new id (suc n) (Some i)
unfolding IsChain resources
same_more id n i old new same is rest =
    let next = same_next (get_or new i None) (get_or old i None) same in
    record {
      chain = (same_of id (get_or new i None) (get_or old i None) same is, subst (λ w. IsChain id n new w) (sym next) rest.chain);
      over = ap₂ (λ r w. r ∷ resources n new w) (same_res (get_or new i None) (get_or old i None) same) next ∙ ap (λ l. resource_at (get_or old i None) ∷ l) rest.over;
    }

-- a chain stays if its own uses are to it what they were
pub chain_kept : (id n : ℕ) (old new : List (Option Use)) (at : Option ℕ) →
    ((i : ℕ) (u : Use) → get_or old i None ≡ Some u → u.flow ≡ id → AreSame (get_or new i None) (get_or old i None)) →
    IsChain id n old at → IsSameChain old new id n at
unfolding IsChain resources
chain_kept id zero old new at h c = record { chain = c; over = refl }
chain_kept id (suc n) old new None h c = absurd c
chain_kept id (suc n) old new (Some i) h c =
    let one = of_some id (get_or old i None) c.0 in
    same_more id n i old new (h i one.0 one.1 one.2) c.0 (chain_kept id n old new (next_at (get_or old i None)) h c.1)

-- a chain has one length
pub chain_length : (id n m : ℕ) (uses : List (Option Use)) (at : Option ℕ) → IsChain id n uses at → IsChain id m uses at → n ≡ m
unfolding IsChain
chain_length id zero zero uses at a b = refl
chain_length id zero (suc m) uses None a b = absurd b
chain_length id zero (suc m) uses (Some i) a b = cc a
chain_length id (suc n) m uses None a b = absurd a
chain_length id (suc n) zero uses (Some i) a b = cc b
chain_length id (suc n) (suc m) uses (Some i) a b = ap suc (chain_length id n m uses (next_at (get_or uses i None)) a.1 b.1)

-- the rest of a chain doesn't come back to a use that stands before it
pub chain_past : (id n m i : ℕ) (old new : List (Option Use)) (at : Option ℕ) → IsChain id (suc m) old (Some i) → n ≤ m → SameBut old new i → IsChain id n old at → IsSameChain old new id n at
unfolding IsChain resources
chain_past id zero m i old new at whole few others c = record { chain = c; over = refl }
chain_past id (suc n) m i old new None whole few others c = absurd c
chain_past id (suc n) m i old new (Some j) whole few others c =
    let apart : j ≢ i = λ e.
    let again : IsChain id (suc n) old (Some i) = subst (λ w. IsChain id (suc n) old (Some w)) e c in
    omega (arith, few, chain_length id (suc n) (suc m) old (Some i) again whole) in
    same_more id n j old new (record { same = others j apart }) c.0 (chain_past id n m i old new (next_at (get_or old j None)) whole (omega (arith, few)) others c.1)

-- ---- a new use, in front of a chain
free_apart : (old : List (Option Use)) (i j : ℕ) (u : Use) → get_or old i None ≡ None → get_or old j None ≡ Some u → j ≢ i
free_apart old i j u free there = λ z. cc (sym there ∙ ap (λ w. get_or old w None) z ∙ free)

pub chain_front : (id n i r : ℕ) (old new : List (Option Use)) (made : Use) (at : Option ℕ) → IsChain id n old at → get_or old i None ≡ None → option_map flow_part (get_or new i None) ≡ Some made → SameBut old new i →
    made.flow ≡ id → made.next_of_flow ≡ at → made.resource ≡ r → IsChain id (suc n) new (Some i) × (resources (suc n) new (Some i) ≡ r ∷ resources n old at)
unfolding IsChain resources
chain_front id n i r old new made at c free is others flow next res =
    let kept = chain_kept id n old new at (λ j u e f. record { same = others j (free_apart old i j u free e) }) c in
    let on : next_at (get_or new i None) ≡ at = sym (next_part (get_or new i None)) ∙ ap next_at is ∙ next in
    let over : resource_at (get_or new i None) ≡ r = sym (res_part (get_or new i None)) ∙ ap resource_at is ∙ res in (
      (of_part id (get_or new i None) (subst (λ o. IsOf id o) (sym is) flow), subst (λ w. IsChain id n new w) (sym on) kept.chain),
      ap₂ (λ q w. q ∷ resources n new w) over on ∙ ap (λ l. r ∷ l) kept.over,
    )

-- a use comes under a number that was free
pub keeps_free : (id i : ℕ) (first old new : List (Option Use)) → KeepsChains first old id → get_or old i None ≡ None → SameBut old new i → KeepsChains first new id
keeps_free id i first old new kept free others = λ other n at away c.
    let was = kept other n at away c in
    let now = chain_kept other n old new at (λ j u e f. record { same = others j (free_apart old i j u free e) }) was.chain in
    record { chain = now.chain; over = now.over ∙ was.over }

-- a use of this flow goes
pub keeps_gone : (id i : ℕ) (first old new : List (Option Use)) (one : Use) → KeepsChains first old id → get_or old i None ≡ Some one → one.flow ≡ id → SameBut old new i → KeepsChains first new id
keeps_gone id i first old new one kept there mine others = λ other n at away c.
    let was = kept other n at away c in
    let apart = λ (j : ℕ) (u : Use) (e : get_or old j None ≡ Some u) (f : u.flow ≡ other).
    let goal : j ≢ i = λ z. away (sym f ∙ ap (λ w. w.flow) (same_use u one (sym e ∙ ap (λ w. get_or old w None) z ∙ there)) ∙ mine) in goal in
    let now = chain_kept other n old new at (λ j u e f. record { same = others j (apart j u e f) }) was.chain in
    record { chain = now.chain; over = now.over ∙ was.over }
  where
    same_use : (a b : Use) → Some a ≡ Some b → a ≡ b
    same_use a b e = cc e

pub chain_none : (id n : ℕ) (uses : List (Option Use)) → n ≡ 0 → IsChain id n uses None × (resources n uses None ≡ [])
unfolding IsChain resources
chain_none id zero uses e = (refl, refl)
chain_none id (suc n) uses e = cc e

pub resources_none : (n : ℕ) (uses : List (Option Use)) (at : Option ℕ) → n ≡ 0 → resources n uses at ≡ []
unfolding resources
resources_none zero uses at e = refl
resources_none (suc n) uses at e = cc e

-- what is left of a list, with the element before it
pub drop_back : (xs : List ℕ) (k : ℕ) → 0 < k → k ≤ length xs → drop (k - 1) xs ≡ get_or xs (k - 1) 0 ∷ drop k xs
drop_back xs k pos in' =
    let e : suc (k - 1) ≡ k = omega arith in
    let short : k - 1 < length xs = omega arith in
    drop-cons xs (k - 1) 0 short ∙ ap (λ j. get_or xs (k - 1) 0 ∷ drop j xs) e

-- ---- a chain's first use, and what follows it
pub record Front (id n : ℕ) (uses : List (Option Use)) (i : ℕ) : Type 0 where
  pub one : Use
  pub there : get_or uses i None ≡ Some one
  pub mine : one.flow ≡ id
  pub rest : IsChain id (n - 1) uses one.next_of_flow
  pub what : resources n uses (Some i) ≡ one.resource ∷ resources (n - 1) uses one.next_of_flow

pub front_of : (id n : ℕ) (uses : List (Option Use)) (i : ℕ) → 0 < n → IsChain id n uses (Some i) → Front id n uses i
unfolding IsChain resources
front_of id zero uses i pos c = absurd (omega (arith, pos))
front_of id (suc n) uses i pos c =
    let head = of_some id (get_or uses i None) c.0 in
    let e : suc n - 1 ≡ n = omega arith in
    record {
      one = head.0;
      there = head.1;
      mine = head.2;
      rest = subst (λ m. IsChain id m uses head.0.next_of_flow) (sym e) (subst (λ o. IsChain id n uses (next_at o)) head.1 c.1);
      what = ap (λ o. resource_at o ∷ resources n uses (next_at o)) head.1 ∙ ap (λ m. head.0.resource ∷ resources m uses head.0.next_of_flow) (sym e);
    }

pub no_front : (id n : ℕ) (uses : List (Option Use)) → 0 < n → IsChain id n uses None → ⊥
unfolding IsChain
no_front id zero uses pos c = omega (arith, pos)
no_front id (suc n) uses pos c = c

-- a chain without its first use, once that is gone
pub chain_rest : (id n i : ℕ) (old new : List (Option Use)) → 0 < n → IsChain id n old (Some i) → SameBut old new i → (one : Use) → get_or old i None ≡ Some one → IsSameChain old new id (n - 1) one.next_of_flow
chain_rest id n i old new pos c others one there =
    let front = front_of id n old i pos c in
    let same : front.one ≡ one = cc (sym front.there ∙ there) in
    let whole : suc (n - 1) ≡ n = omega arith in
    chain_past id (n - 1) (n - 1) i old new one.next_of_flow (subst (λ m. IsChain id m old (Some i)) (sym whole) c) (omega arith) others (subst (λ u. IsChain id (n - 1) old u.next_of_flow) same front.rest)

pub length-resources : (id n : ℕ) (uses : List (Option Use)) (at : Option ℕ) → IsChain id n uses at → length (resources n uses at) ≡ n
unfolding IsChain resources
length-resources id zero uses at c = refl
length-resources id (suc n) uses None c = absurd c
length-resources id (suc n) uses (Some i) c = ap suc (length-resources id n uses (next_at (get_or uses i None)) c.1)

-- ---- a chain leads to its resources, and is no longer than there are uses
pub chain_leads : (id n : ℕ) (uses : List (Option Use)) (at : Option ℕ) → IsChain id n uses at → Leads next_of_flow resource_of uses at (resources n uses at)
unfolding IsChain resources Leads
chain_leads id zero uses at c = c
chain_leads id (suc n) uses None c = absurd c
chain_leads id (suc n) uses (Some i) c =
    let one = of_some id (get_or uses i None) c.0 in
    let next : next_at (get_or uses i None) ≡ one.0.next_of_flow = ap next_at one.1 in
    let rest = chain_leads id n uses (next_at (get_or uses i None)) c.1 in
    (i, one.0, refl, one.1, sym (ap resource_at one.1), subst (λ w. Leads next_of_flow resource_of uses w (resources n uses (next_at (get_or uses i None)))) next rest)

-- and it is the flow's own all along
pub chain_own : (id n : ℕ) (uses : List (Option Use)) (at : Option ℕ) → IsChain id n uses at → Leads next_of_flow user_of uses at (replicate n id)
unfolding IsChain Leads
chain_own id zero uses at c = c
chain_own id (suc n) uses None c = absurd c
chain_own id (suc n) uses (Some i) c =
    let one = of_some id (get_or uses i None) c.0 in
    let next : next_at (get_or uses i None) ≡ one.0.next_of_flow = ap next_at one.1 in
    let rest = chain_own id n uses (next_at (get_or uses i None)) c.1 in
    (i, one.0, refl, one.1, one.2, subst (λ w. Leads next_of_flow user_of uses w (replicate n id)) next rest)

chain_count : (id n : ℕ) (uses : List (Option Use)) (at : Option ℕ) → IsChain id n uses at → n ≤ count_by is_some uses
chain_count id zero uses at c = omega arith
chain_count id (suc n) uses None c = absurd (no_front id (suc n) uses (omega arith) c)
chain_count id (suc n) uses (Some i) c =
    let front = front_of id (suc n) uses i (omega arith) c in
    let gone = set uses i None in
    let others : SameBut uses gone i = λ j away. ap (option_map flow_part) (get_or-set_other uses i j None None away) in
    let rest = chain_rest id (suc n) i uses gone (omega arith) c others front.one front.there in
    let e : suc n - 1 ≡ n = omega arith in
    let less = chain_count id n gone front.one.next_of_flow (subst (λ m. IsChain id m gone front.one.next_of_flow) e rest.chain) in
    let one : ◌≡◌ {A = ℕ} (cond (is_some (get_or uses i None)) 1 0) 1 = ap {B = ℕ} (λ o. cond (is_some o) 1 0) front.there in
    omega (arith, less, one, sum_by-set (λ o. cond (is_some o) 1 0) uses i None None (within uses i front.one front.there))
  where
    within : (us : List (Option Use)) (k : ℕ) (u : Use) → get_or us k None ≡ Some u → k < length us
    within [] k u e = cc e
    within (x ∷ us) zero u e = omega arith
    within (x ∷ us) (suc k) u e = omega (arith, within us k u e)

pub chain_few : (id n : ℕ) (uses : List (Option Use)) (at : Option ℕ) → IsChain id n uses at → n ≤ length uses
chain_few id n uses at c = le_trans (chain_count id n uses at c) (count_by-le-length is_some uses)

-- ---- one more element of a list
pub times_more : (c r : ℕ) (rest : List ℕ) → times c (r ∷ rest) ≡ times c rest + cond (r == c) 1 0
times_more c r rest = omega (arith, sum_by-cons (λ d. cond (d == c) 1 0) r rest)

same_test : (a : ℕ) → (a == a) ≡ true
same_test a = grind arith

other_test : (a b : ℕ) → a ≢ b → (a == b) ≡ false
other_test a b ne = grind arith

times_here : (r : ℕ) (rest : List ℕ) → times r (r ∷ rest) ≡ times r rest + 1
times_here r rest = times_more r r rest ∙ ap (λ b. times r rest + cond b 1 0) (same_test r)

times_away : (c r : ℕ) (rest : List ℕ) → c ≢ r → times c (r ∷ rest) ≡ times c rest
times_away c r rest ne = times_more c r rest ∙ ap (λ b. times c rest + cond b 1 0) (other_test r c (λ e. ne (sym e))) ∙ plus (times c rest)
  where
    plus : (n : ℕ) → n + 0 ≡ n
    plus n = omega arith

eq_cases : (a b : ℕ) → (a ≡ b) ⊎ (a ≢ b)
eq_cases a b = grind arith

-- ---- the flows on resources, as uses come and go
gain_here : (b : Bool) (first was now t u : ℕ) → was ≡ first + cond b t 0 → now ≡ was + cond b 1 0 → u ≡ t + 1 → now ≡ first + cond b u 0
gain_here true first was now t u h k e = omega (arith, h, k, e)
gain_here false first was now t u h k e = omega (arith, h, k)

gain_away : (b : Bool) (first was now t u : ℕ) → was ≡ first + cond b t 0 → now ≡ was → u ≡ t → now ≡ first + cond b u 0
gain_away true first was now t u h k e = omega (arith, h, k, e)
gain_away false first was now t u h k e = omega (arith, h, k)

pub gained_more : (first old new : List (Option Slot)) (on₀ on on' : List (Option ℕ)) (flow r : ℕ) (list : List ℕ) → AreGained first old on₀ on flow list → GainsOne old new on on' r flow → AreGained first new on₀ on' flow (r ∷ list)
gained_more first old new on₀ on on' flow r list h g = λ f c. elim (eq_cases c r) [
  | inl e ↦ subst (λ k. times f (users_of new on' k) ≡ times f (users_of first on₀ k) + cond (f == flow) (times k (r ∷ list)) 0) (sym e)
      (gain_here (f == flow) (times f (users_of first on₀ r)) (times f (users_of old on r)) (times f (users_of new on' r)) (times r list) (times r (r ∷ list)) (h f r) (g.here f) (times_here r list))
  | inr ne ↦ gain_away (f == flow) (times f (users_of first on₀ c)) (times f (users_of old on c)) (times f (users_of new on' c)) (times c list) (times c (r ∷ list)) (h f c) (ap (times f) (g.elsewhere c ne)) (times_away c r list ne)
]

lose_here : (b : Bool) (first was now all t u : ℕ) → first + cond b t 0 ≡ was + cond b all 0 → was ≡ now + cond b 1 0 → t ≡ u + 1 → first + cond b u 0 ≡ now + cond b all 0
lose_here true first was now all t u h k e = omega (arith, h, k, e)
lose_here false first was now all t u h k e = omega (arith, h, k)

lose_away : (b : Bool) (first was now all t u : ℕ) → first + cond b t 0 ≡ was + cond b all 0 → now ≡ was → t ≡ u → first + cond b u 0 ≡ now + cond b all 0
lose_away true first was now all t u h k e = omega (arith, h, k, e)
lose_away false first was now all t u h k e = omega (arith, h, k)

-- what is still to be taken away, and what is left
abbrev pub AreLosing : List (Option Slot) → List (Option Slot) → List (Option ℕ) → List (Option ℕ) → ℕ → List ℕ → List ℕ → Type 0
AreLosing first now on₀ on flow rest all = (f c : ℕ) → times f (users_of first on₀ c) + cond (f == flow) (times c rest) 0 ≡ times f (users_of now on c) + cond (f == flow) (times c all) 0

pub losing_more : (first old new : List (Option Slot)) (on₀ on on' : List (Option ℕ)) (flow r : ℕ) (rest before all : List ℕ) → before ≡ r ∷ rest → AreLosing first old on₀ on flow before all → LosesOne old new on on' r flow → AreLosing first new on₀ on' flow rest all
losing_more first old new on₀ on on' flow r rest before all is h g = λ f c. elim (eq_cases c r) [
  | inl e ↦ subst (λ k. times f (users_of first on₀ k) + cond (f == flow) (times k rest) 0 ≡ times f (users_of new on' k) + cond (f == flow) (times k all) 0) (sym e)
      (lose_here (f == flow) (times f (users_of first on₀ r)) (times f (users_of old on r)) (times f (users_of new on' r)) (times r all) (times r before) (times r rest) (h f r) (g.here f) (ap (times r) is ∙ times_here r rest))
  | inr ne ↦ lose_away (f == flow) (times f (users_of first on₀ c)) (times f (users_of old on c)) (times f (users_of new on' c)) (times c all) (times c before) (times c rest) (h f c) (ap (times f) (g.elsewhere c ne)) (ap (times c) is ∙ times_away c r rest ne)
]

cond_same : (b : Bool) (n : ℕ) → n ≡ n + cond b 0 0
cond_same true n = omega arith
cond_same false n = omega arith

pub gained_none : (slots : List (Option Slot)) (on : List (Option ℕ)) (flow : ℕ) (list : List ℕ) → list ≡ [] → AreGained slots slots on on flow list
gained_none slots on flow list e = λ f c. cond_same (f == flow) (times f (users_of slots on c)) ∙ ap (λ l. times f (users_of slots on c) + cond (f == flow) (times c l) 0) (sym e)

pub lost_all : (first now : List (Option Slot)) (on₀ on : List (Option ℕ)) (flow : ℕ) (rest all : List ℕ) → rest ≡ [] → AreLosing first now on₀ on flow rest all → AreGained now first on on₀ flow all
lost_all first now on₀ on flow rest all e h = λ f c. cond_same (f == flow) (times f (users_of first on₀ c)) ∙ ap (λ l. times f (users_of first on₀ c) + cond (f == flow) (times c l) 0) (sym e) ∙ h f c

pub some_slot : (o : Option Slot) (u : Use) → option_map use_of o ≡ Some u → is_some o ≡ true
some_slot None u e = cc e
some_slot (Some s) u e = refl
