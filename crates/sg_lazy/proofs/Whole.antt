-- What a rate update does to a `Lazy`, and that more room changes nothing else.
use Rattle.std.proofs.Common.{◌≡◌, ◌≢◌, ℕ, zero, suc, ◌<◌, ◌≤◌, ◌⊎◌, inl, inr, ◌↔◌, Bool, true, false, true≢false, cond, ◌||◌, not, eqb, eq-eqb, ne_eqb, Option, None, Some, IsSome, option_map, List, [], ◌∷◌, length, get_or, sum_by, refl, sym, ap, ap₂, subst, ◌∙◌, arith}
use Rattle.std.proofs.lemmas.List.{get_or_past}
use Rattle.std.proofs.lemmas.List.Sums.{sum_by-cons}
use Rattle.sg_base.specs.MarkSet.{is_in}
use Rattle.sg_maxmin.specs.Fill.{Flow, is_on, share_of}
use Rattle.sg_maxmin.specs.Sharing.{Sharing, IsSound, flow_at, uses_at}
use Rattle.sg_lazy.specs.RunningFlow.{RunningFlow, running_at, flows_in}
use Rattle.sg_lazy.specs.Lazily.{IsSettled, DidChange}
use Rattle.sg_maxmin_solve.specs.Component.{lengths}
use Rattle.sg_lazy.specs.kept.Keeping.{IsUnmarked, AreKept}
use Rattle.sg_lazy.specs.kept.Held.{IsLazy, IsRefilled, listed, running_of, running_in, flow_or_none, ended_in}
use Rattle.sg_lazy.proofs.Keeps.{settle_keeps}
use Rattle.sg_maxmin_solve.proofs.Listing.{map_same}
use Rattle.sg_lazy.proofs.Listed.{at_listed, length_listed, past_listed}
use Rattle.sg_lazy.proofs.Settled.{flow_of_running, held_runs}
use Rattle.sg_lazy.proofs.Starting.{is_here}
use Rattle.sg_maxmin.proofs.Listed.{some_of, none_some, some_same}
use Rattle.sg_maxmin.proofs.Users.{flow_below, uses_held}

front : (a b : Option RunningFlow) (xs ys : List (Option RunningFlow)) → option_map (λ (r : RunningFlow). r.flow) a ≡ option_map (λ (r : RunningFlow). r.flow) b → flows_in xs ≡ flows_in ys → flows_in (a ∷ xs) ≡ flows_in (b ∷ ys)
front None None xs ys h r = r
front (Some a) (Some b) xs ys h r = ap₂ (λ f fs. f ∷ fs) (some_same a.flow b.flow h) r
front None (Some b) xs ys h r = let q : None ≡ Some b.flow = h in cc
front (Some a) None xs ys h r = let q : None ≡ Some a.flow = sym h in cc

flows_listed : (n : ℕ) (f g : ℕ → Option RunningFlow) → ((i : ℕ) → i < n → option_map (λ (r : RunningFlow). r.flow) (f i) ≡ option_map (λ (r : RunningFlow). r.flow) (g i)) → flows_in (listed n f) ≡ flows_in (listed n g)
unfolding listed
flows_listed zero f g e = refl
flows_listed (suc n) f g e = front (f 0) (g 0) (listed n (λ i. f (suc i))) (listed n (λ i. g (suc i))) (e 0 (omega arith)) (flows_listed n (λ i. f (suc i)) (λ i. g (suc i)) (λ i h. e (suc i) (omega arith)))

below_cases : (a b : ℕ) → (a < b) ⊎ (b ≤ a)
below_cases a b = grind arith

no_flow : (o : Option RunningFlow) → option_map (λ (r : RunningFlow). r.flow) o ≡ None → o ≡ None
no_flow None e = refl
no_flow (Some r) e = let q : None ≡ Some r.flow = sym e in cc

pub length-ended : (slots : List (Option Flow)) (ended : List ℕ) → length (ended_in slots ended) ≡ length ended
length-ended slots [] = refl
length-ended slots (id ∷ ended) = omega (arith, length-ended slots ended)

pub lengths-ended : (slots : List (Option Flow)) (ended : List ℕ) → ((i : ℕ) → i < length ended → IsSome (flow_at slots (get_or ended i 0))) → sum_by (λ (flow : Flow). length flow.uses) (ended_in slots ended) ≡ lengths (uses_at slots) ended
lengths-ended slots [] there = refl
lengths-ended slots (id ∷ ended) there =
    let f = some_of (flow_at slots id) (there 0 (omega arith)) in
    omega (
      arith,
      sum_by-cons (λ (flow : Flow). length flow.uses) (flow_or_none (flow_at slots id)) (ended_in slots ended),
      sum_by-cons (λ id. length (uses_at slots id)) id ended,
      ap (λ (flow : Flow). length flow.uses) (ap flow_or_none f.1),
      ap length (uses_held slots id f.0 f.1),
      lengths-ended slots ended (λ i h. there (suc i) (omega (arith, h))),
    )

-- what holds if nothing is marked holds of these, which are empty
all_empty : (P : List ℕ → List ℕ → List ℕ → List ℕ → Type 0) (b m e r : List ℕ) → b ≡ [] → m ≡ [] → e ≡ [] → r ≡ [] → P [] [] [] [] → P b m e r
all_empty P b m e r eb em ee er p = subst (λ x. P x m e r) (sym eb) (subst (λ x. P [] x e r) (sym em) (subst (λ x. P [] [] x r) (sym ee) (subst (P [] [] []) (sym er) p)))

module _ (s t : Sharing) (began marked ended rates rates' changed : List ℕ) (out : IsRefilled s t began marked ended rates rates' changed) where
  all : List Flow
  all = flows_in (running_in s.slots rates began marked ended)

  same_flow : (id : ℕ) → option_map (λ (r : RunningFlow). r.flow) (running_of t.slots rates' [] [] [] id) ≡ option_map (λ (r : RunningFlow). r.flow) (running_of s.slots rates began marked ended id)
  same_flow id = flow_of_running t.slots rates' [] [] [] id ∙ out.without.slots id ∙ sym (flow_of_running s.slots rates began marked ended id)

  pub same_all : flows_in (running_in t.slots rates' [] [] []) ≡ flows_in (running_in s.slots rates began marked ended)
  same_all =
      ap (λ n. flows_in (listed n (running_of t.slots rates' [] [] []))) out.without.slots_len
      ∙ flows_listed (length s.slots) (running_of t.slots rates' [] [] []) (running_of s.slots rates began marked ended) (λ i h. same_flow i)

  pub new_rates : (id : ℕ) (r : RunningFlow) → running_at (running_in t.slots rates' [] [] []) id ≡ Some r → r.rate ≡ share_of t.capacities (flows_in (running_in t.slots rates' [] [] [])) r.flow
  new_rates id r at =
      let here = is_here t.slots rates' [] [] [] id r at in
      here.rated ∙ out.rates_are id r.flow here.held ∙ ap (λ caps. share_of caps (flows_in (running_in s.slots rates began marked ended)) r.flow) (sym out.without.capacities) ∙ ap (λ flows. share_of t.capacities flows r.flow) (sym same_all)

  still_lazy : IsLazy t rates' [] [] [] []
  still_lazy = record {
    sound = out.sound;
    ended_are = λ id e. absurd (true≢false (sym e));
    marked_are = λ id e. absurd (true≢false (sym e));
    began_are = λ id e. absurd (true≢false (sym e));
    kept = settle_keeps t.capacities (running_in t.slots rates' [] [] []) (λ id r at. (out.sound.flows id r.flow (is_here t.slots rates' [] [] [] id r at).held).limit) new_rates;
  }

  pub settled_lazy : (b m e r : List ℕ) → b ≡ [] → m ≡ [] → e ≡ [] → r ≡ [] → IsLazy t rates' b m e r
  settled_lazy b m e r eb em ee er = all_empty (IsLazy t rates') b m e r eb em ee er still_lazy

  pub is_settled : (before resources : List ℕ) → ((i : ℕ) → i < length ended → IsSome (flow_at s.slots (get_or ended i 0))) → (b m e r : List ℕ) → b ≡ [] → m ≡ [] → e ≡ [] → r ≡ [] →
      IsSettled (record { capacities = s.capacities; slots = running_in s.slots rates began marked ended; ended = ended_in s.slots ended; resources = resources; changed = before; flow_room = s.flow_room; use_room = s.use_room })
      (record { capacities = t.capacities; slots = running_in t.slots rates' b m e; ended = ended_in t.slots e; resources = r; changed = changed; flow_room = t.flow_room; use_room = t.use_room })
  is_settled before resources there b m e r eb em ee er = all_empty (λ b m e r.
      IsSettled (record { capacities = s.capacities; slots = running_in s.slots rates began marked ended; ended = ended_in s.slots ended; resources = resources; changed = before; flow_room = s.flow_room; use_room = s.use_room })
      (record { capacities = t.capacities; slots = running_in t.slots rates' b m e; ended = ended_in t.slots e; resources = r; changed = changed; flow_room = t.flow_room; use_room = t.use_room })) b m e r eb em ee er (record {
        rates = new_rates;
        flows = λ id. elim (below_cases id (length s.slots)) [
          | inl h ↦
              ap (option_map (λ (r : RunningFlow). r.flow)) (at_listed (length t.slots) (running_of t.slots rates' [] [] []) id None (omega (arith, h, out.without.slots_len))) ∙ same_flow id ∙ sym (ap (option_map (λ (r : RunningFlow). r.flow)) (at_listed (length s.slots) (running_of s.slots rates began marked ended) id None h))
          | inr p ↦
              ap (option_map (λ (r : RunningFlow). r.flow)) (past_listed (length t.slots) (running_of t.slots rates' [] [] []) id None (omega (arith, p, out.without.slots_len))) ∙ sym (ap (option_map (λ (r : RunningFlow). r.flow)) (past_listed (length s.slots) (running_of s.slots rates began marked ended) id None p))
        ];
        settled = λ id r at. (is_here t.slots rates' [] [] [] id r at).started;
        unmarked = λ id r at. (is_here t.slots rates' [] [] [] id r at).noted;
        changes = λ id. changes id (flow_at t.slots id) refl;
        once = out.once;
        numbers = length_listed (length t.slots) (running_of t.slots rates' [] [] []) ∙ out.without.slots_len ∙ sym (length_listed (length s.slots) (running_of s.slots rates began marked ended));
        capacities_kept = out.without.capacities;
        none_ended = refl;
        no_resources = refl;
        flow_room_back = omega (arith, out.without.flow_room, length-ended s.slots ended);
        use_room_back = omega (arith, out.without.use_room, lengths-ended s.slots ended there);
      })
    where
      none_before : (id : ℕ) → flow_at t.slots id ≡ None → running_at (running_in s.slots rates began marked ended) id ≡ None
      none_before id e = elim (below_cases id (length s.slots)) [
        | inr p ↦ past_listed (length s.slots) (running_of s.slots rates began marked ended) id None p
        | inl h ↦ at_listed (length s.slots) (running_of s.slots rates began marked ended) id None h ∙ no_flow (running_of s.slots rates began marked ended id) (flow_of_running s.slots rates began marked ended id ∙ sym (out.without.slots id) ∙ e)
      ]

      new_runs : (id : ℕ) (flow : Flow) → flow_at t.slots id ≡ Some flow → running_at (running_in t.slots rates' [] [] []) id ≡ Some (record { flow = flow; rate = get_or rates' id 0; began = false; marked = false })
      new_runs id flow e = at_listed (length t.slots) (running_of t.slots rates' [] [] []) id None (flow_below t.slots id flow e) ∙ rw e refl

      parts : (b : Bool) (x y : ℕ) → (b || not (eqb x y)) ≡ true → (b ≡ true) ⊎ (y ≢ x)
      parts true x y e = inl refl
      parts false x y e = inr (λ q. true≢false (sym e ∙ ap not (eq-eqb x y (sym q))))

      whole : (b : Bool) (x y : ℕ) → (b ≡ true) ⊎ (y ≢ x) → (b || not (eqb x y)) ≡ true
      whole true x y e = refl
      whole false x y (inl e) = absurd (true≢false (sym e))
      whole false x y (inr ne) = ap not (ne_eqb x y (λ q. ne (sym q)))

      changes : (id : ℕ) (o : Option Flow) → flow_at t.slots id ≡ o → (is_in id changed ≡ true) ↔ DidChange (running_at (running_in s.slots rates began marked ended) id) (running_at (running_in t.slots rates' [] [] []) id)
      changes id None e = (
        (λ c. absurd (true≢false (sym c ∙ out.unchanged id e))),
        (λ d. absurd (subst (λ o. DidChange o (running_at (running_in t.slots rates' [] [] []) id)) (none_before id e) d)),
      )
      changes id (Some flow) e =
          let a = held_runs s t rates began marked ended out.without out.sound id flow e in
          let b = new_runs id flow e in
          subst (λ o. (is_in id changed ≡ true) ↔ DidChange o (running_at (running_in t.slots rates' [] [] []) id)) (sym a)
          (subst (λ o. (is_in id changed ≡ true) ↔ DidChange (Some (record { flow = flow; rate = get_or rates id 0; began = is_in id began; marked = is_in id marked })) o) (sym b) (
            (λ c. parts (is_in id began) (get_or rates id 0) (get_or rates' id 0) (sym (out.changed_are id flow e) ∙ c)),
            (λ d. out.changed_are id flow e ∙ whole (is_in id began) (get_or rates id 0) (get_or rates' id 0) d),
          ))

-- ---- nothing runs yet
pub nothing_runs : (slots : List (Option Flow)) (rates began marked ended : List ℕ) → slots ≡ [] → running_in slots rates began marked ended ≡ []
unfolding listed
nothing_runs slots rates began marked ended e = ap (λ xs. running_in xs rates began marked ended) e

pub fresh_lazy : (s : Sharing) (rates b m e r : List ℕ) → IsSound s → s.slots ≡ [] → b ≡ [] → m ≡ [] → e ≡ [] → r ≡ [] → IsLazy s rates b m e r
fresh_lazy s rates b m e r sound none eb em ee er = all_empty (IsLazy s rates) b m e r eb em ee er (record {
  sound = sound;
  ended_are = λ id q. absurd (true≢false (sym q));
  marked_are = λ id q. absurd (true≢false (sym q));
  began_are = λ id q. absurd (true≢false (sym q));
  kept = subst (λ xs. AreKept s.capacities xs [] []) (sym (nothing_runs s.slots rates [] [] [] none)) (settle_keeps s.capacities [] (λ id r q. absurd (none_some q)) (λ id r q. absurd (none_some q)));
})

-- ---- more room changes nothing that runs
flows_more : (n n' : ℕ) (f : ℕ → Option RunningFlow) → n ≤ n' → ((i : ℕ) → n ≤ i → f i ≡ None) → flows_in (listed n' f) ≡ flows_in (listed n f)
unfolding listed
flows_more zero zero f h none = refl
flows_more (suc n) zero f h none = absurd (omega (arith, h))
flows_more zero (suc n') f h none = front_none (f 0) (listed n' (λ i. f (suc i))) (none 0 (omega arith)) ∙ flows_more zero n' (λ i. f (suc i)) (omega arith) (λ i l. none (suc i) (omega arith))
  where
    front_none : (a : Option RunningFlow) (xs : List (Option RunningFlow)) → a ≡ None → flows_in (a ∷ xs) ≡ flows_in xs
    front_none a xs e = ap (λ o. flows_in (o ∷ xs)) e
flows_more (suc n) (suc n') f h none = front (f 0) (f 0) (listed n' (λ i. f (suc i))) (listed n (λ i. f (suc i))) refl (flows_more n n' (λ i. f (suc i)) (omega (arith, h)) (λ i l. none (suc i) (omega (arith, l))))

module _ (old new : List (Option Flow)) (rates rates' began marked ended : List ℕ) (same : (id : ℕ) → flow_at new id ≡ flow_at old id) (rates_same : (i : ℕ) → get_or rates' i 0 ≡ get_or rates i 0) (more : length old ≤ length new) where
  of_same : (id : ℕ) → running_of new rates' began marked ended id ≡ running_of old rates began marked ended id
  of_same id = rw (same id, rates_same id) refl

  none_past : (id : ℕ) → length old ≤ id → running_of old rates began marked ended id ≡ None
  none_past id h = no_flow (running_of old rates began marked ended id) (flow_of_running old rates began marked ended id ∙ ap (λ o. cond (is_in id ended) None o) (get_or_past old id None h) ∙ none_cond (is_in id ended))
    where
      none_cond : (b : Bool) → ◌≡◌ {A = Option Flow} (cond b None None) None
      none_cond true = refl
      none_cond false = refl

  pub runs_same : (id : ℕ) → running_at (running_in new rates' began marked ended) id ≡ running_at (running_in old rates began marked ended) id
  runs_same id = elim (below_cases id (length old)) [
    | inl h ↦ at_listed (length new) (running_of new rates' began marked ended) id None (omega (arith, h, more)) ∙ of_same id ∙ sym (at_listed (length old) (running_of old rates began marked ended) id None h)
    | inr p ↦ elim (below_cases id (length new)) [
      | inl h ↦ at_listed (length new) (running_of new rates' began marked ended) id None h ∙ of_same id ∙ none_past id p ∙ sym (past_listed (length old) (running_of old rates began marked ended) id None p)
      | inr q ↦ past_listed (length new) (running_of new rates' began marked ended) id None q ∙ sym (past_listed (length old) (running_of old rates began marked ended) id None p)
    ]
  ]

  more_flows : flows_in (running_in new rates' began marked ended) ≡ flows_in (running_in old rates began marked ended)
  more_flows = flows_listed (length new) (running_of new rates' began marked ended) (running_of old rates began marked ended) (λ i h. ap (option_map (λ (r : RunningFlow). r.flow)) (of_same i)) ∙ flows_more (length old) (length new) (running_of old rates began marked ended) more none_past

kept_same : (caps : List ℕ) (old new : List (Option RunningFlow)) (ended : List Flow) (resources : List ℕ) → ((id : ℕ) → running_at new id ≡ running_at old id) → flows_in new ≡ flows_in old → AreKept caps old ended resources → AreKept caps new ended resources
kept_same caps old new ended resources runs flows k = record {
  past_capacities = k.past_capacities;
  past = k.past;
  past_limits = k.past_limits;
  limits = λ id r e. k.limits id r (sym (runs id) ∙ e);
  there = λ id r e. k.there id r (sym (runs id) ∙ e);
  rates = λ id r e. k.rates id r (sym (runs id) ∙ e);
  same_capacities = λ c u. k.same_capacities c (back c u);
  same_flows = λ c u h. k.same_flows c (back c u) h ∙ ap (sum_by (λ flow. cond (is_on c flow) (h flow) 0)) (sym flows);
}
  where
    back : (c : ℕ) → IsUnmarked new ended resources c → IsUnmarked old ended resources c
    back c u = record { unused = λ id r e. u.unused id r (runs id ∙ e); gone = u.gone; same = u.same }

pub gone_same : (old new : List (Option Flow)) (ended : List ℕ) → ((id : ℕ) → flow_at new id ≡ flow_at old id) → ended_in new ended ≡ ended_in old ended
gone_same old new ended same = map_same (λ id. flow_or_none (flow_at new id)) (λ id. flow_or_none (flow_at old id)) ended (λ x i. ap flow_or_none (same x))

pub roomier_lazy : (s t : Sharing) (rates rates' began began' marked marked' ended ended' resources : List ℕ) → IsLazy s rates began marked ended resources → IsSound t → ((id : ℕ) → flow_at t.slots id ≡ flow_at s.slots id) → length s.slots ≤ length t.slots → t.capacities ≡ s.capacities →
    ((i : ℕ) → get_or rates' i 0 ≡ get_or rates i 0) → began' ≡ began → marked' ≡ marked → ended' ≡ ended → IsLazy t rates' began' marked' ended' resources
roomier_lazy s t rates rates' began began' marked marked' ended ended' resources lazy sound same more caps rs eb em ee =
    subst (λ b. IsLazy t rates' b marked' ended' resources) (sym eb)
    (subst (λ m. IsLazy t rates' began m ended' resources) (sym em)
    (subst (λ d. IsLazy t rates' began marked d resources) (sym ee) (record {
      sound = sound;
      ended_are = λ id e. subst IsSome (sym (same id)) (lazy.ended_are id e);
      marked_are = λ id e. subst IsSome (sym (same id)) (lazy.marked_are id e);
      began_are = lazy.began_are;
      kept = subst (λ c. AreKept c (running_in t.slots rates' began marked ended) (ended_in t.slots ended) resources) (sym caps) (subst (λ gone. AreKept s.capacities (running_in t.slots rates' began marked ended) gone resources) (sym (gone_same s.slots t.slots ended same))
          (kept_same s.capacities (running_in s.slots rates began marked ended) (running_in t.slots rates' began marked ended) (ended_in s.slots ended) resources
          (runs_same s.slots t.slots rates rates' began marked ended same rs more) (more_flows s.slots t.slots rates rates' began marked ended same rs more) lazy.kept));
    })))
