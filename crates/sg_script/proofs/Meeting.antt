-- The members of a deployment, named by their actors, meet in each collective.
use Rattle.std.proofs.Common.{◌≡◌, ◌≢◌, ◌<◌, ◌≤◌, ◌+◌, ◌∙◌, sym, ap₂, refl, ℕ, Bool, true, false, eqb, cond, if◌then◌else◌, map, List, [], ◌∷◌, ◌++◌, length, get_or, Option, None, Some, inl, inr, arith}
use Rattle.std.specs.List.{All, AllPairs, count_by, position_or_len}
use Rattle.std.specs.Option.{option_map_or}
use Rattle.std.proofs.lemmas.Bool.{cases_Bool, cases_lt}
use Rattle.std.proofs.lemmas.Bool.Decides.{nat_tests}
use Rattle.std.proofs.lemmas.List.Elements.{All-cons, All-nil, All-tail}
use Rattle.std.proofs.lemmas.List.Kept.{AllPairs-cons}
use Rattle.std.proofs.lemmas.List.Quantifiers.{position-Some}
use Rattle.std.proofs.lemmas.List.Sums.{fails_before_first, sum_by-cons}
use Rattle.sg_base.specs.declared.call.Action.{Action}
use Rattle.sg_base.specs.declared.ids.ActorId.{ActorId}
use Rattle.sg_collectives.proofs.Matching.{sends_are_received}
use Rattle.sg_collectives.proofs.MemberLemmas.{rank_below}
use Rattle.sg_collectives.proofs.Others.{peers_are_others}
use Rattle.sg_collectives.specs.Actions.{action_of, member}
use Rattle.sg_collectives.specs.declared.collective.Collective.{Collective}
use Rattle.sg_collectives.specs.declared.step.Step.{Step}
use Rattle.sg_collectives.specs.declared.step.Step.TheVariants.{Recv, Send, Compute, IRecv, ISend, Wait}
use Rattle.sg_collectives.specs.Expansion.{expansion}
use Rattle.sg_collectives.specs.Laws.{is_irecv, is_isend, is_recv, is_send, NamesOther, receives_from as receives_at, sends_to as sends_at}
use Rattle.sg_collectives.specs.Members.{actions_of, rank_of}
use Rattle.sg_collectives.proofs.Ranges.{count_by-map}
use Rattle.sg_platform_rows.specs.declared.rows.ActorRow.{ActorRow}
use Rattle.sg_platform_rows.specs.declared.rows.Function.{Function}
use Rattle.sg_platform_rows.specs.declared.rows.Function.TheVariants.{Replay, Worker, Master, Churn}
use Rattle.sg_platform_rows.specs.Deployment.{Deployed, is_replay, member_ids, members_among}
use Rattle.sg_toml_tree.specs.Along.{along}
use Rattle.sg_script.proofs.Splits.{none_cases}
use Rattle.sg_script.specs.Laws.{CollectivesMeet, receives_from, sends_to}

-- ---- actors and ranks
-- whether a rank is this one, if there is one
abbrev is_at : Option ℕ → ℕ → Bool
is_at None peer = false
is_at (Some rank) peer = eqb peer rank

-- members differ by their numbers
abbrev Differ : List ActorId → Type 0
Differ members = (i j : ℕ) → i < length members → j < length members → (member members i).0 ≡ (member members j).0 → i ≡ j

unequal : (a b : ℕ) → a ≢ b → eqb a b ≡ false
unequal a b differs = grind (arith, nat_tests)

equal : (a b : ℕ) → eqb a b ≡ true → a ≡ b
equal a b is = grind (arith, nat_tests)

same : (n : ℕ) → eqb n n ≡ true
same n = grind (arith, nat_tests)

-- the member of a rank has this number if the rank is the number's
named : (members : List ActorId) (actor : ℕ) (rank : Option ℕ) → Differ members → rank_of members actor ≡ rank → (peer : ℕ) → peer < length members → eqb (member members peer).0 actor ≡ is_at rank peer
named members actor None differ is peer below =
    let test : ActorId → Bool = λ m. eqb m.0 actor in
    let past : length members ≤ position_or_len test members = none_cases (position_or_len test members) (length members) is in
    fails_before_first test members peer (record { 0 = 0 }) (omega (arith, below, past))
named members actor (Some rank) differ is peer below =
    let at = position-Some (λ (m : ActorId). eqb m.0 actor) members rank (record { 0 = 0 }) is in
    let there : (member members rank).0 ≡ actor = equal (member members rank).0 actor at.1 in
    elim (cases_Bool (eqb peer rank)) [
      | inl here ↦
          let one : peer ≡ rank = equal peer rank here in
          rw here (rw one at.1)
      | inr other ↦
          rw other (unequal (member members peer).0 actor (λ e.
          let one : peer ≡ rank = differ peer rank below at.0 (e ∙ sym there) in
          let yes : eqb peer rank ≡ true = rw one (same rank) in
          let clash : true ≡ false = sym yes ∙ other in
          cc))
    ]

-- ---- members of a deployment differ
abbrev IsBelow : ActorId → ActorId → Type 0
IsBelow a b = a.0 < b.0

abbrev IsAbove : ℕ → ActorId → Type 0
IsAbove place m = place < m.0

weaker : (place : ℕ) (ids : List ActorId) → All (IsAbove (place + 1)) ids → All (IsAbove place) ids
weaker place ids all = λ k d below. let it : place + 1 < (get_or ids k d).0 = all k d below in omega (arith, it)

with_row : (function : Function) (place : ℕ) (ids : List ActorId) → All (IsAbove (place + 1)) ids → All (IsAbove place) ((if is_replay function then record { 0 = place + 1 } ∷ [] else []) ++ ids)
with_row Replay place ids all = All-cons (IsAbove place) (record { 0 = place + 1 }) ids (omega arith) (weaker place ids all)
with_row Worker place ids all = weaker place ids all
with_row (Master tasks flops bytes workers) place ids all = weaker place ids all
with_row (Churn seed next prev steps) place ids all = weaker place ids all

above : (place : ℕ) (rows : List ActorRow) → All (IsAbove place) (along member_ids place rows)
above place [] = All-nil (IsAbove place)
above place (row ∷ rows) = with_row row.function place (along member_ids (place + 1) rows) (above (place + 1) rows)

rising_with : (function : Function) (place : ℕ) (ids : List ActorId) → All (IsAbove (place + 1)) ids → AllPairs IsBelow ids → AllPairs IsBelow ((if is_replay function then record { 0 = place + 1 } ∷ [] else []) ++ ids)
rising_with Replay place ids all pairs = AllPairs-cons IsBelow (record { 0 = place + 1 }) ids all pairs
rising_with Worker place ids all pairs = pairs
rising_with (Master tasks flops bytes workers) place ids all pairs = pairs
rising_with (Churn seed next prev steps) place ids all pairs = pairs

rising : (place : ℕ) (rows : List ActorRow) → AllPairs IsBelow (along member_ids place rows)
rising place [] = λ i j d before below. absurd (omega (arith, below))
rising place (row ∷ rows) = rising_with row.function place (along member_ids (place + 1) rows) (above (place + 1) rows) (rising (place + 1) rows)

differ_by : (members : List ActorId) → AllPairs IsBelow members → Differ members
differ_by members pairs i j i_below j_below is = elim (cases_lt i j) [
  | inl less ↦
      let it : (member members i).0 < (member members j).0 = pairs i j (record { 0 = 0 }) less j_below in
      absurd (omega (arith, it, is))
  | inr more ↦ elim (cases_lt j i) [
    | inl less ↦
        let it : (member members j).0 < (member members i).0 = pairs j i (record { 0 = 0 }) less i_below in
        absurd (omega (arith, it, is))
    | inr most ↦ omega (arith, more, most)
  ]
]

members_differ : (deployed : Deployed) → Differ (members_among deployed.actors)
unfolding members_among
members_differ deployed = differ_by (along member_ids 0 deployed.actors) (rising 0 deployed.actors)

-- ---- counts
-- whether a step sends to a rank that passes, or receives from one
abbrev sends_where : (ℕ → Bool) → Step → Bool
sends_where test (Send peer bytes) = test peer
sends_where test (ISend peer bytes) = test peer
sends_where test other = false

abbrev receives_where : (ℕ → Bool) → Step → Bool
receives_where test (Recv peer) = test peer
receives_where test (IRecv peer) = test peer
receives_where test other = false

count_more : (p : Step → Bool) (x : Step) (steps : List Step) → count_by p (x ∷ steps) ≡ cond (p x) 1 0 + count_by p steps
count_more p x steps = sum_by-cons (λ y. cond (p y) 1 0) x steps

counts_agree : (P : Step → Type 0) (p q : Step → Bool) → ((x : Step) → P x → p x ≡ q x) → (steps : List Step) → All P steps → count_by p steps ≡ count_by q steps
counts_agree P p q agree [] all = refl
counts_agree P p q agree (x ∷ steps) all =
    count_more p x steps
    ∙ ap₂ (λ (b : Bool) (n : ℕ). cond b 1 0 + n) (agree x (all 0 x (omega arith))) (counts_agree P p q agree steps (All-tail P x steps all))
    ∙ sym (count_more q x steps)

-- steps of two kinds that are counted together are counted apart
counts_apart : (p q r : Step → Bool) → ((x : Step) → ◌≡◌ {A = ℕ} (cond (p x) 1 0) (cond (q x) 1 0 + cond (r x) 1 0)) → (steps : List Step) → count_by p steps ≡ count_by q steps + count_by r steps
counts_apart p q r each [] = refl
counts_apart p q r each (x ∷ steps) = omega (arith, each x, counts_apart p q r each steps, count_more p x steps, count_more q x steps, count_more r x steps)

send_named : (members : List ActorId) (actor me : ℕ) (rank : Option ℕ) → Differ members → rank_of members actor ≡ rank → (step : Step) → NamesOther me (length members) step → sends_to actor (action_of members step) ≡ sends_where (is_at rank) step
send_named members actor me rank differ is (Send peer bytes) other = named members actor rank differ is peer other.0
send_named members actor me rank differ is (ISend peer bytes) other = named members actor rank differ is peer other.0
send_named members actor me rank differ is (Recv peer) other = refl
send_named members actor me rank differ is (IRecv peer) other = refl
send_named members actor me rank differ is (Compute flops) other = refl
send_named members actor me rank differ is Wait other = refl

receive_named : (members : List ActorId) (actor me : ℕ) (rank : Option ℕ) → Differ members → rank_of members actor ≡ rank → (step : Step) → NamesOther me (length members) step → receives_from actor (action_of members step) ≡ receives_where (is_at rank) step
receive_named members actor me rank differ is (Recv peer) other = named members actor rank differ is peer other.0
receive_named members actor me rank differ is (IRecv peer) other = named members actor rank differ is peer other.0
receive_named members actor me rank differ is (Send peer bytes) other = refl
receive_named members actor me rank differ is (ISend peer bytes) other = refl
receive_named members actor me rank differ is (Compute flops) other = refl
receive_named members actor me rank differ is Wait other = refl

send_kind : (rank : ℕ) (x : Step) → ◌≡◌ {A = ℕ} (cond (sends_where (is_at (Some rank)) x) 1 0) (cond (is_send rank x) 1 0 + cond (is_isend rank x) 1 0)
send_kind rank (Send peer bytes) = omega arith
send_kind rank (ISend peer bytes) = omega arith
send_kind rank (Recv peer) = omega arith
send_kind rank (IRecv peer) = omega arith
send_kind rank (Compute flops) = omega arith
send_kind rank Wait = omega arith

sends_kinds : (rank : ℕ) (steps : List Step) → count_by (sends_where (is_at (Some rank))) steps ≡ sends_at rank steps
sends_kinds rank = counts_apart (sends_where (is_at (Some rank))) (is_send rank) (is_isend rank) (send_kind rank)

receive_kind : (rank : ℕ) (x : Step) → ◌≡◌ {A = ℕ} (cond (receives_where (is_at (Some rank)) x) 1 0) (cond (is_recv rank x) 1 0 + cond (is_irecv rank x) 1 0)
receive_kind rank (Send peer bytes) = omega arith
receive_kind rank (ISend peer bytes) = omega arith
receive_kind rank (Recv peer) = omega arith
receive_kind rank (IRecv peer) = omega arith
receive_kind rank (Compute flops) = omega arith
receive_kind rank Wait = omega arith

receives_kinds : (rank : ℕ) (steps : List Step) → count_by (receives_where (is_at (Some rank))) steps ≡ receives_at rank steps
receives_kinds rank = counts_apart (receives_where (is_at (Some rank))) (is_recv rank) (is_irecv rank) (receive_kind rank)

sends_none : (steps : List Step) → count_by (sends_where (is_at None)) steps ≡ 0
sends_none [] = refl
sends_none (Send peer bytes ∷ steps) = sends_none steps
sends_none (ISend peer bytes ∷ steps) = sends_none steps
sends_none (Recv peer ∷ steps) = sends_none steps
sends_none (IRecv peer ∷ steps) = sends_none steps
sends_none (Compute flops ∷ steps) = sends_none steps
sends_none (Wait ∷ steps) = sends_none steps

receives_none : (steps : List Step) → count_by (receives_where (is_at None)) steps ≡ 0
receives_none [] = refl
receives_none (Send peer bytes ∷ steps) = receives_none steps
receives_none (ISend peer bytes ∷ steps) = receives_none steps
receives_none (Recv peer ∷ steps) = receives_none steps
receives_none (IRecv peer ∷ steps) = receives_none steps
receives_none (Compute flops ∷ steps) = receives_none steps
receives_none (Wait ∷ steps) = receives_none steps

-- ---- two actors
-- the steps of a rank, as the actions of its member
abbrev steps_at : List ActorId → Collective → ℕ → List Action
steps_at members collective rank = map (action_of members) (expansion collective rank (length members))

-- the actions of a member that meet a condition are as many as its steps that do
counted : (members : List ActorId) (collective : Collective) (me : ℕ) (p : Action → Bool) (q : Step → Bool) → me < length members → ((step : Step) → NamesOther me (length members) step → p (action_of members step) ≡ q step)
    → count_by p (steps_at members collective me) ≡ count_by q (expansion collective me (length members))
counted members collective me p q below agree =
    count_by-map p (action_of members) (expansion collective me (length members))
    ∙ counts_agree (NamesOther me (length members)) (λ step. p (action_of members step)) q agree (expansion collective me (length members)) (peers_are_others collective me (length members) below)

sent : (members : List ActorId) (collective : Collective) (me actor : ℕ) (rank : Option ℕ) → Differ members → me < length members → rank_of members actor ≡ rank
    → count_by (sends_to actor) (steps_at members collective me) ≡ count_by (sends_where (is_at rank)) (expansion collective me (length members))
sent members collective me actor rank differ below is = counted members collective me (sends_to actor) (sends_where (is_at rank)) below (send_named members actor me rank differ is)

received : (members : List ActorId) (collective : Collective) (me actor : ℕ) (rank : Option ℕ) → Differ members → me < length members → rank_of members actor ≡ rank
    → count_by (receives_from actor) (steps_at members collective me) ≡ count_by (receives_where (is_at rank)) (expansion collective me (length members))
received members collective me actor rank differ below is = counted members collective me (receives_from actor) (receives_where (is_at rank)) below (receive_named members actor me rank differ is)

by_ranks : (members : List ActorId) (collective : Collective) (a b : ℕ) (ra rb : Option ℕ) → Differ members → rank_of members a ≡ ra → rank_of members b ≡ rb
    → count_by (sends_to b) (option_map_or (steps_at members collective) ra []) ≡ count_by (receives_from a) (option_map_or (steps_at members collective) rb [])
by_ranks members collective a b None None differ a_is b_is = refl
by_ranks members collective a b (Some ra) None differ a_is b_is =
    sent members collective ra b None differ (rank_below members a ra a_is) b_is ∙ sends_none (expansion collective ra (length members))
by_ranks members collective a b None (Some rb) differ a_is b_is =
    sym (received members collective rb a None differ (rank_below members b rb b_is) a_is ∙ receives_none (expansion collective rb (length members)))
by_ranks members collective a b (Some ra) (Some rb) differ a_is b_is =
    sent members collective ra b (Some rb) differ (rank_below members a ra a_is) b_is
    ∙ sends_kinds rb (expansion collective ra (length members))
    ∙ sends_are_received collective (length members) ra rb (rank_below members a ra a_is) (rank_below members b rb b_is)
    ∙ sym (received members collective rb a (Some ra) differ (rank_below members b rb b_is) a_is ∙ receives_kinds ra (expansion collective rb (length members)))

pub meet : CollectivesMeet
unfolding actions_of
meet deployed collective a b = by_ranks (members_among deployed.actors) collective a b (rank_of (members_among deployed.actors) a) (rank_of (members_among deployed.actors) b) (members_differ deployed) refl refl
