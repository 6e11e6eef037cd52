-- Ranks of members, and what an actor does for a collective.
use Rattle.std.proofs.Common.{◌≡◌, ℕ, zero, suc, ◌+◌, ◌<◌, ◌≤◌, inl, inr, Bool, true, false, cond, not, eqb, List, [], ◌∷◌, ◌++◌, map, length, get_or, set, Option, Some, None, refl, sym, ap, subst, ◌∙◌, eq-eqb, ne_eqb, lt-ltb, le-ltb, length-append, arith}
use Rattle.std.specs.List.{All, position, position_or_len, slice_get}
use Rattle.std.specs.Option.{option_map}
use Rattle.std.proofs.lemmas.Bool.{cases_eq}
use Rattle.std.proofs.lemmas.List.{get_or-set_other, get_or-set_same}
use Rattle.std.proofs.lemmas.List.Elements.{All-append, All-replicate, All-same, All-weaker}
use Rattle.std.proofs.lemmas.List.Folds.{position_or_len_push}
use Rattle.std.proofs.lemmas.List.Quantifiers.{position-Some}
use Rattle.std.proofs.lemmas.List.Sums.{position_or_len_is, prefix_len-le-length}
use Rattle.std.proofs.lemmas.Option.{slice_get-get_or, slice_get-map, slice_get_past, slice_get_within, same_Some}
use Rattle.sg_base.specs.declared.ids.ActorId.{ActorId}
use Rattle.sg_collectives.specs.Actions.{action_of, NamesMember}
use Rattle.sg_collectives.specs.Expansion.{expansion}
use Rattle.sg_collectives.specs.Laws.{NamesOther}
use Rattle.sg_collectives.specs.Members.{IsRanked, actions_of, rank_of}
use Rattle.sg_collectives.specs.declared.collective.Collective.{Collective}
use Rattle.sg_collectives.specs.declared.step.Step.{Step}
use Rattle.sg_collectives.specs.declared.step.Step.TheVariants.{Recv, Send, Compute, IRecv, ISend, Wait}
use Rattle.sg_collectives.proofs.Others.{peers_are_others}

-- ---- positions
none_at : {X : Type 0} (p : X → Bool) (xs : List X) → length xs ≤ position_or_len p xs → position p xs ≡ None
none_at p xs past = ap (λ b. cond b (Some (position_or_len p xs)) None) (le-ltb (position_or_len p xs) (length xs) past)

some_at : {X : Type 0} (p : X → Bool) (xs : List X) (i : ℕ) → position_or_len p xs ≡ i → i < length xs →
    position p xs ≡ Some i
some_at p xs i is less =
    ap (λ b. cond b (Some (position_or_len p xs)) None) (lt-ltb (position_or_len p xs) (length xs) (omega (arith, is)))
    ∙ ap Some is

push_other : {X : Type 0} (p : X → Bool) (xs : List X) (y : X) → p y ≡ false → position p (xs ++ y ∷ []) ≡ position p xs
push_other p xs y fails =
    let at : ℕ = position_or_len p xs in
    let long : length (xs ++ y ∷ []) ≡ length xs + 1 = length-append xs (y ∷ []) in
    elim (cases_eq at (length xs)) [
      | inl end ↦
          let behind : position_or_len p (xs ++ y ∷ []) ≡ length xs + 1 =
          position_or_len_push p xs y
          ∙ ap (λ b. cond b (length xs + cond (p y) 0 1) at) (eq-eqb at (length xs) end)
          ∙ ap (λ b. length xs + cond b 0 1) fails in
          none_at p (xs ++ y ∷ []) (omega (arith, behind, long)) ∙ sym (none_at p xs (omega (arith, end)))
      | inr before ↦
          let less : at < length xs = omega (arith, before, prefix_len-le-length (λ x. not (p x)) xs) in
          let same : position_or_len p (xs ++ y ∷ []) ≡ at =
          position_or_len_push p xs y
          ∙ ap (λ b. cond b (length xs + cond (p y) 0 1) at) (ne_eqb at (length xs) before) in
          some_at p (xs ++ y ∷ []) at same (omega (arith, less, long)) ∙ sym (some_at p xs at refl less)
    ]

push_new : {X : Type 0} (p : X → Bool) (xs : List X) (y : X) →
    ((k : ℕ) → k < length xs → p (get_or xs k y) ≡ false) → p y ≡ true → position p (xs ++ y ∷ []) ≡ Some (length xs)
push_new p xs y fails holds =
    let at : position_or_len p xs ≡ length xs = position_or_len_is p xs (length xs) y (omega arith) fails (λ less. absurd (omega (arith, less))) in
    let behind : position_or_len p (xs ++ y ∷ []) ≡ length xs =
    position_or_len_push p xs y
    ∙ ap (λ b. cond b (length xs + cond (p y) 0 1) (position_or_len p xs)) (eq-eqb (position_or_len p xs) (length xs) at)
    ∙ ap (λ b. length xs + cond b 0 1) holds ∙ omega arith in
    some_at p (xs ++ y ∷ []) (length xs) behind (omega (arith, length-append xs (y ∷ [])))

-- ---- ranks
pub ranked_none : IsRanked [] []
ranked_none actor = refl

pub padded : (ranks : List (Option ℕ)) (k : ℕ) → get_or (ranks ++ None ∷ []) k None ≡ get_or ranks k None
padded [] zero = refl
padded [] (suc k) = refl
padded (rank ∷ ranks) zero = refl
padded (rank ∷ ranks) (suc k) = padded ranks k

pub ranked_same : (members : List ActorId) (old new : List (Option ℕ)) → IsRanked members old →
    ((k : ℕ) → get_or new k None ≡ get_or old k None) → IsRanked members new
ranked_same members old new are same actor = same actor ∙ are actor

pub ranked_more : (members : List ActorId) (ranks : List (Option ℕ)) (actor : ActorId) → IsRanked members ranks →
    All (λ member. member.0 < actor.0) members → actor.0 < length ranks →
    IsRanked (members ++ actor ∷ []) (set ranks actor.0 (Some (length members)))
ranked_more members ranks actor are rising within number = elim (cases_eq number actor.0) [
  | inl same ↦
      ap (λ n. get_or (set ranks actor.0 (Some (length members))) n None) same
      ∙ get_or-set_same ranks actor.0 (Some (length members)) None within
      ∙ sym (push_new (λ member. eqb member.0 number) members actor
      (λ k less. ne_eqb (get_or members k actor).0 number (λ e. omega (arith, rising k actor less, e, same)))
      (eq-eqb actor.0 number (sym same)))
  | inr other ↦
      get_or-set_other ranks actor.0 number (Some (length members)) None other
      ∙ are number
      ∙ sym (push_other (λ member. eqb member.0 number) members actor (ne_eqb actor.0 number (λ e. other (sym e))))
]

pub rising_more : (old new : List ActorId) (actor : ActorId) (n : ℕ) → All (λ member. member.0 < n) old → actor.0 ≡ n →
    new ≡ old ++ actor ∷ [] → All (λ member. member.0 < n + 1) new
rising_more old new actor n rising is made =
    All-same (λ member. member.0 < n + 1) new (old ++ actor ∷ []) made
    (All-append (λ member. member.0 < n + 1) old (actor ∷ [])
    (All-weaker (λ member. member.0 < n) (λ member. member.0 < n + 1) (λ member less. omega (arith, less)) old rising)
    (All-replicate (λ member. member.0 < n + 1) 1 actor (omega arith)))

pub rank_below : (members : List ActorId) (actor rank : ℕ) → rank_of members actor ≡ Some rank → rank < length members
rank_below members actor rank is = (position-Some (λ member. eqb member.0 actor) members rank (record { 0 = 0 }) is).0

-- ---- actions
actions_none : (members : List ActorId) (actor : ℕ) (collective : Collective) → rank_of members actor ≡ None →
    actions_of members actor collective ≡ []
unfolding actions_of
actions_none members actor collective is = rw is refl

actions_some : (members : List ActorId) (actor rank : ℕ) (collective : Collective) → rank_of members actor ≡ Some rank →
    actions_of members actor collective ≡ map (action_of members) (expansion collective rank (length members))
unfolding actions_of
actions_some members actor rank collective is = rw is refl

pub nobody_acts : (members : List ActorId) (actor : ℕ) (collective : Collective) (place : ℕ) →
    rank_of members actor ≡ None → None ≡ slice_get (actions_of members actor collective) place
nobody_acts members actor collective place is = sym (ap (λ xs. slice_get xs place) (actions_none members actor collective is))

pub step_acts : (members : List ActorId) (actor rank : ℕ) (collective : Collective) (place : ℕ) →
    rank_of members actor ≡ Some rank →
    option_map (action_of members) (slice_get (expansion collective rank (length members)) place)
    ≡ slice_get (actions_of members actor collective) place
step_acts members actor rank collective place is =
    sym (ap (λ xs. slice_get xs place) (actions_some members actor rank collective is)
    ∙ slice_get-map (action_of members) (expansion collective rank (length members)) place)

pub past_acts : (members : List ActorId) (actor rank : ℕ) (collective : Collective) (place : ℕ) →
    rank_of members actor ≡ Some rank → length (expansion collective rank (length members)) ≤ place →
    None ≡ slice_get (actions_of members actor collective) place
past_acts members actor rank collective place is past =
    ap (option_map (action_of members)) (sym (slice_get_past (expansion collective rank (length members)) place past))
    ∙ step_acts members actor rank collective place is

pub no_step_acts : (members : List ActorId) (actor rank : ℕ) (collective : Collective) (place : ℕ) →
    rank_of members actor ≡ Some rank → slice_get (expansion collective rank (length members)) place ≡ None →
    None ≡ slice_get (actions_of members actor collective) place
no_step_acts members actor rank collective place is none =
    ap (option_map (action_of members)) (sym none) ∙ step_acts members actor rank collective place is

pub a_step_acts : (members : List ActorId) (actor rank : ℕ) (collective : Collective) (place : ℕ) (step : Step) →
    rank_of members actor ≡ Some rank → slice_get (expansion collective rank (length members)) place ≡ Some step →
    Some (action_of members step) ≡ slice_get (actions_of members actor collective) place
a_step_acts members actor rank collective place step is one =
    ap (option_map (action_of members)) (sym one) ∙ step_acts members actor rank collective place is

named : (rank members : ℕ) (step : Step) → NamesOther rank members step → NamesMember members step
named rank members (Recv peer) other = other.0
named rank members (Send peer bytes) other = other.0
named rank members (Compute flops) other = tt
named rank members (IRecv peer) other = other.0
named rank members (ISend peer bytes) other = other.0
named rank members Wait other = tt

pub step_names_member : (collective : Collective) (rank members place : ℕ) (step : Step) → rank < members →
    slice_get (expansion collective rank members) place ≡ Some step → NamesMember members step
step_names_member collective rank members place step within is =
    let steps : List Step = expansion collective rank members in
    let less : place < length steps = slice_get_within steps place step is in
    let at : get_or steps place step ≡ step = same_Some _ _ (sym (slice_get-get_or steps place step less) ∙ is) in
    subst (NamesMember members) at
    (named rank members (get_or steps place step) (peers_are_others collective rank members within place step less))
