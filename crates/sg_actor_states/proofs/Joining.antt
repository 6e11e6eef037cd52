-- Who is blocked by a join of an actor, by rising id.
use Rattle.std.proofs.Common.{◌≡◌, ℕ, zero, suc, ◌+◌, ◌-◌, ◌<◌, ◌≤◌, Bool, true, false, true≢false, cond, List, [], ◌∷◌, length, set, get_or, refl, sym, ap, ◌∙◌, arith}
use Rattle.sg_base.specs.declared.ids.ActorId.{ActorId}
use Rattle.sg_actor_states.specs.declared.state.Actor.{Actor}
use Rattle.sg_actor_states.specs.Actors.{joiners, joins, put_actor}

pick_none : (b : Bool) → b ≡ false → (xs ys : List ActorId) → cond b xs ys ≡ ys
pick_none true e xs ys = absurd (true≢false e)
pick_none false e xs ys = refl

-- nobody is
pub none_join : (target id : ℕ) (actors : List Actor) (d : Actor) → ((k : ℕ) → k < length actors → joins target (get_or actors k d).state ≡ false) → joiners target id actors ≡ []
unfolding joiners
none_join target id [] d none = refl
none_join target id (actor ∷ rest) d none =
    pick_none (joins target actor.state) (none 0 (omega arith)) (record { 0 = id } ∷ joiners target (id + 1) rest) (joiners target (id + 1) rest) ∙ none_join target (id + 1) rest d (λ k less. none (suc k) (omega (arith, less)))

-- the first one is
pub first_joins : (target id : ℕ) (actors : List Actor) (i : ℕ) (d : Actor) → i < length actors → joins target (get_or actors i d).state ≡ true → ((k : ℕ) → k < i → joins target (get_or actors k d).state ≡ false) → (rest : List ActorId) × (joiners target id actors ≡ record { 0 = id + i } ∷ rest)
unfolding joiners
first_joins target id [] i d less is none = absurd (omega (arith, less))
first_joins target id (actor ∷ rest) zero d less is none = (joiners target (id + 1) rest, cases (joins target actor.state) is)
  where
    cases : (b : Bool) → b ≡ true → cond b (record { 0 = id } ∷ joiners target (id + 1) rest) (joiners target (id + 1) rest) ≡ record { 0 = id + 0 } ∷ joiners target (id + 1) rest
    cases true e = ap (λ n. record { 0 = n } ∷ joiners target (id + 1) rest) (omega arith)
    cases false e = absurd (true≢false (sym e))
first_joins target id (actor ∷ rest) (suc i) d less is none =
    let found = first_joins target (id + 1) rest i d (omega (arith, less)) is (λ k before. none (suc k) (omega (arith, before))) in
    (found.0, cases (joins target actor.state) (none 0 (omega arith)) found.0 found.1)
  where
    cases : (b : Bool) → b ≡ false → (more : List ActorId) → joiners target (id + 1) rest ≡ record { 0 = id + 1 + i } ∷ more → cond b (record { 0 = id } ∷ joiners target (id + 1) rest) (joiners target (id + 1) rest) ≡ record { 0 = id + suc i } ∷ more
    cases true e more found = absurd (true≢false e)
    cases false e more found = found ∙ ap (λ n. record { 0 = n } ∷ more) (omega arith)

-- the ids begin with the first actor's
joins_from : (target id : ℕ) (actors : List Actor) (actor : ActorId) (rest : List ActorId) → joiners target id actors ≡ actor ∷ rest → id ≤ actor.0
unfolding joiners
joins_from target id [] actor rest is = absurd (empty_not (actor ∷ rest) is (omega arith))
  where
    empty_not : (xs : List ActorId) → [] ≡ xs → 0 < length xs → ⊥
    empty_not xs e some = omega (arith, ap length e, some)
joins_from target id (a ∷ more) actor rest is = cases (joins target a.state) is (λ e. joins_from target (id + 1) more actor rest e)
  where
    head_of : ActorId → List ActorId → ℕ
    head_of d [] = d.0
    head_of d (x ∷ xs) = x.0

    cases : (b : Bool) → cond b (record { 0 = id } ∷ joiners target (id + 1) more) (joiners target (id + 1) more) ≡ actor ∷ rest → (joiners target (id + 1) more ≡ actor ∷ rest → id + 1 ≤ actor.0) → id ≤ actor.0
    cases true e later = omega (arith, ap (head_of actor) e)
    cases false e later = omega (arith, later e)

rest_by : (target id : ℕ) (actors : List Actor) (actor : ActorId) (rest : List ActorId) (next : Actor) → joiners target id actors ≡ actor ∷ rest → joins target next.state ≡ false → joiners target id (set actors (actor.0 - id) next) ≡ rest
unfolding joiners
rest_by target id [] actor rest next is goes = absurd (omega (arith, ap length is))
rest_by target id (a ∷ more) actor rest next is goes = cases (joins target a.state) refl is (λ e. rest_by target (id + 1) more actor rest next e goes)
  where
    head_of : ActorId → List ActorId → ℕ
    head_of d [] = d.0
    head_of d (x ∷ xs) = x.0

    tail_of : List ActorId → List ActorId
    tail_of [] = []
    tail_of (x ∷ xs) = xs

    cases : (b : Bool) → joins target a.state ≡ b → cond b (record { 0 = id } ∷ joiners target (id + 1) more) (joiners target (id + 1) more) ≡ actor ∷ rest → (joiners target (id + 1) more ≡ actor ∷ rest → joiners target (id + 1) (set more (actor.0 - (id + 1)) next) ≡ rest) → joiners target id (set (a ∷ more) (actor.0 - id) next) ≡ rest
    cases true was e later =
        let here : actor.0 - id ≡ 0 = omega (arith, ap (head_of actor) e) in
        ap (λ i. joiners target id (set (a ∷ more) i next)) here
        ∙ (ap (λ b. cond b (record { 0 = id } ∷ joiners target (id + 1) more) (joiners target (id + 1) more)) goes
        ∙ ap tail_of e)
    cases false was e later =
        let past = joins_from target (id + 1) more actor rest e in
        let there : actor.0 - id ≡ suc (actor.0 - (id + 1)) = omega (arith, past) in
        let after = set more (actor.0 - (id + 1)) next in
        ap (λ i. joiners target id (set (a ∷ more) i next)) there
        ∙ (ap (λ b. cond b (record { 0 = id } ∷ joiners target (id + 1) after) (joiners target (id + 1) after)) was
        ∙ later e)

-- as the first one continues, the others remain
pub joiners_rest : (target : ℕ) (actors : List Actor) (actor : ActorId) (rest : List ActorId) (next : Actor) → joiners target 1 actors ≡ actor ∷ rest → joins target next.state ≡ false → joiners target 1 (put_actor actors actor.0 next) ≡ rest
joiners_rest target actors actor rest next is goes = rest_by target 1 actors actor rest next is goes
