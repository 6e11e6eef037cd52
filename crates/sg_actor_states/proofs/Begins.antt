-- The actors as they are made: those before a place are as they begin, and the others haven't started.
use Rattle.std.proofs.Common.{◌≡◌, ℕ, ◌+◌, ◌-◌, ◌<◌, ◌≤◌, Bool, true, false, List, length, map, set, get_or, inl, inr, refl, sym, ap, ap₂, ◌∙◌, arith}
use Rattle.std.proofs.lemmas.Bool.{cases_eq}
use Rattle.std.proofs.lemmas.List.{ext_get_or, get_or-map, get_or-set_same, get_or-set_other, length-map, length-replicate, length-set}
use Rattle.std.proofs.lemmas.List.Elements.{All-replicate}
use Rattle.sg_base.specs.declared.call.Answer.TheVariants as answer
use Rattle.sg_actor_states.specs.declared.state.Actor.{Actor}
use Rattle.sg_actor_states.specs.declared.state.State.TheVariants.{Ready, Ended}
use Rattle.sg_actor_states.specs.Actors.{first_actor, not_suspended, put_state}
use Rattle.sg_actor_states.specs.kept.Standing.{Standing}
use Rattle.sg_actor_states.proofs.Standings.{none_of}

pub record HasBegun (starts : List Bool) (i : ℕ) (crowd : Standing) : Type 0 where
  pub long : length crowd.actors ≡ length starts
  pub passing : crowd.passing ≡ false
  pub trimmed : crowd.trimmed ≡ false
  pub done : (k : ℕ) → k < i → get_or crowd.actors k (not_suspended Ended) ≡ first_actor (get_or starts k false)
  pub left : (k : ℕ) → i ≤ k → k < length starts → get_or crowd.actors k (not_suspended Ended) ≡ first_actor false

pub begun_first : (starts : List Bool) (crowd : Standing) → crowd ≡ record { actors = none_of (length starts); passing = false; trimmed = false } → HasBegun starts 0 crowd
begun_first starts crowd is =
    let long = length-replicate (length starts) (first_actor false) in
    record {
      long = ap (λ (s : Standing). length s.actors) is ∙ long;
      passing = ap (λ (s : Standing). s.passing) is;
      trimmed = ap (λ (s : Standing). s.trimmed) is;
      done = λ k less. absurd (omega (arith, less));
      left = λ k from within. ap (λ (s : Standing). get_or s.actors k (not_suspended Ended)) is ∙ All-replicate (λ (a : Actor). a ≡ first_actor false) (length starts) (first_actor false) refl k (not_suspended Ended) (omega (arith, within, long));
    }

pub begun_skip : (starts : List Bool) (i : ℕ) (crowd : Standing) → i < length starts → get_or starts i false ≡ false → HasBegun starts i crowd → HasBegun starts (i + 1) crowd
begun_skip starts i crowd within isnt was = record {
  long = was.long;
  passing = was.passing;
  trimmed = was.trimmed;
  done = λ k less. elim (cases_eq k i) [
    | inl same ↦ was.left k (omega (arith, same)) (omega (arith, same, within)) ∙ sym (ap first_actor (ap (λ n. get_or starts n false) same ∙ isnt))
    | inr apart ↦ was.done k (omega (arith, apart, less))
  ];
  left = λ k from less. was.left k (omega (arith, from)) less;
}

pub begun_start : (starts : List Bool) (i : ℕ) (crowd new : Standing) → i < length starts → get_or starts i false ≡ true → new ≡ record { actors = put_state crowd.actors (i + 1) (Ready answer.Start); passing = crowd.passing; trimmed = false } → HasBegun starts i crowd → HasBegun starts (i + 1) new
begun_start starts i crowd new within is made was =
    let next : Actor = record { state = Ready answer.Start; suspended = (get_or crowd.actors i (not_suspended Ended)).suspended } in
    let idle : next ≡ first_actor true = ap (λ (a : Actor). record { state = Ready answer.Start; suspended = a.suspended }) (was.left i (omega arith) within) in
    let back : i + 1 - 1 ≡ i = omega arith in
    let put : new.actors ≡ set crowd.actors i next = ap (λ (s : Standing). s.actors) made ∙ ap (λ n. set crowd.actors n (record { state = Ready answer.Start; suspended = (get_or crowd.actors n (not_suspended Ended)).suspended })) back in
    let at : (k : ℕ) → get_or new.actors k (not_suspended Ended) ≡ get_or (set crowd.actors i next) k (not_suspended Ended) = λ k. ap (λ xs. get_or xs k (not_suspended Ended)) put in
    record {
      long = ap length put ∙ (length-set crowd.actors i next ∙ was.long);
      passing = ap (λ (s : Standing). s.passing) made ∙ was.passing;
      trimmed = ap (λ (s : Standing). s.trimmed) made;
      done = λ k less. elim (cases_eq k i) [
        | inl same ↦
            at k ∙ (ap (λ n. get_or (set crowd.actors i next) n (not_suspended Ended)) same
            ∙ (get_or-set_same crowd.actors i next (not_suspended Ended) (omega (arith, within, was.long))
            ∙ (idle ∙ sym (ap first_actor (ap (λ n. get_or starts n false) same ∙ is)))))
        | inr apart ↦ at k ∙ (get_or-set_other crowd.actors i k next (not_suspended Ended) (λ e. apart e) ∙ was.done k (omega (arith, apart, less)))
      ];
      left = λ k from less. at k ∙ (get_or-set_other crowd.actors i k next (not_suspended Ended) (λ e. omega (arith, e, from)) ∙ was.left k (omega (arith, from)) less);
    }

pub begun_all : (starts : List Bool) (i : ℕ) (crowd : Standing) → i ≡ length starts → HasBegun starts i crowd → crowd ≡ record { actors = map first_actor starts; passing = false; trimmed = false }
begun_all starts i crowd all was =
    let same : crowd.actors ≡ map first_actor starts =
    ext_get_or (not_suspended Ended) crowd.actors (map first_actor starts) (was.long ∙ sym (length-map starts first_actor))
    (λ k less. was.done k (omega (arith, less, was.long, all)) ∙ sym (get_or-map first_actor starts k false (not_suspended Ended) (omega (arith, less, was.long)))) in
    ap (λ xs. record { actors = xs; passing = crowd.passing; trimmed = crowd.trimmed }) same
    ∙ ap₂ (λ p t. record { actors = map first_actor starts; passing = p; trimmed = t }) was.passing was.trimmed
