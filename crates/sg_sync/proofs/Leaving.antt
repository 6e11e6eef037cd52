-- An actor leaves the queues in which it waits.
use Rattle.std.proofs.Common.{◌≡◌, ◌≢◌, ◌<◌, ◌-◌, ◌∙◌, sym, refl, ℕ, Bool, false, not, eqb, List, [], ◌∷◌, length, get_or, set, inl, inr, arith}
use Rattle.std.proofs.lemmas.Bool.{cases_eq, cases_Bool, eq-eqb, ne_eqb}
use Rattle.std.proofs.lemmas.List.{length-map, length-set, get_or-set_same, get_or-set_other}
use Rattle.std.proofs.lemmas.List.Filters.{length-filter_both}
use Rattle.std.proofs.lemmas.List.Sums.{length-filter, sum_by-cons}
use Rattle.std.specs.Int.{from_bool}
use Rattle.sg_base.specs.declared.ids.ActorId.{ActorId}
use Rattle.sg_queues.proofs.Lists.{map_at}
use Rattle.sg_queues.specs.Rings.{queue_at}
use Rattle.sg_sync.specs.Queues.{Waiting, IsActor, left, times, waits, without}
use Rattle.sg_sync.specs.Objects.{Objects, waiting, after_withdrawal}
use Rattle.sg_sync.specs.kept.Arrivals.{IsCounted}
use Rattle.sg_sync.proofs.Counts.{id_same, one, one_other, times_cons}

-- who leaves a queue waits there no more, and all others as before
pub times_gone : (actor : ActorId) (queue : List ActorId) → times actor (without actor queue) ≡ 0
times_gone actor [] = refl
times_gone actor (first ∷ rest) = elim (cases_Bool (eqb first.0 actor.0)) [
  | inl is ↦ rw is (times_gone actor rest)
  | inr isnt ↦
      let apart : one actor first ≡ 0 = rw isnt refl in
      rw isnt (omega (arith, times_cons actor first (without actor rest), apart, times_gone actor rest))
]

pub times_stays : (actor other : ActorId) (queue : List ActorId) → other.0 ≢ actor.0 → times other (without actor queue) ≡ times other queue
times_stays actor other [] differs = refl
times_stays actor other (first ∷ rest) differs = elim (cases_eq first.0 actor.0) [
  | inl is ↦ rw (eq-eqb first.0 actor.0 is) (omega (arith, times_stays actor other rest differs, times_cons other first rest, one_other other first (λ e. differs (sym e ∙ is))))
  | inr isnt ↦ rw (ne_eqb first.0 actor.0 isnt) (omega (arith, times_stays actor other rest differs, times_cons other first rest, times_cons other first (without actor rest)))
]

-- the same of all queues
waits_gone : (actor : ActorId) (queues : List (List ActorId)) → waits actor (left actor queues) ≡ 0
waits_gone actor [] = refl
waits_gone actor (queue ∷ queues) = omega (arith, sum_by-cons (times actor) (without actor queue) (left actor queues), times_gone actor queue, waits_gone actor queues)

pub waits_stays : (actor other : ActorId) (queues : List (List ActorId)) → other.0 ≢ actor.0 → waits other (left actor queues) ≡ waits other queues
waits_stays actor other [] differs = refl
waits_stays actor other (queue ∷ queues) differs =
    omega (arith, sum_by-cons (times other) (without actor queue) (left actor queues), sum_by-cons (times other) queue queues, times_stays actor other queue differs, waits_stays actor other queues differs)

pub waits_nowhere : (o : Objects) (actor : ActorId) → waiting (after_withdrawal actor o) actor ≡ 0
waits_nowhere o actor = omega (arith, waits_gone actor o.locking, waits_gone actor o.acquiring, times_gone actor o.arrived)

-- who has arrived, and how many, as one leaves
pub went : (w : Waiting) (here : List Bool) (count gone : ℕ) (actor : ActorId) → IsCounted w here count → IsActor w.actors actor → gone ≡ from_bool (get_or here actor.0 false)
    → IsCounted (record w { queues = left actor w.queues }) (set here actor.0 false) (count - gone)
went w here count gone actor counted actor_is gone_is =
    let queue : List ActorId = queue_at w.queues 0 in
    let here_is : ActorId → Bool = λ (other : ActorId). eqb other.0 actor.0 in
    let within : actor.0 < length here = omega (arith, counted.places, actor_is.1) in
    let after : queue_at (left actor w.queues) 0 ≡ without actor queue = map_at (without actor) [] w.queues 0 in
    record {
      one = length-map w.queues (without actor) ∙ counted.one;
      places = length-set here actor.0 false ∙ counted.places;
      few = omega (arith, counted.few);
      len = rw after (omega (arith, counted.len, length-filter_both here_is (λ other. not (here_is other)) (λ other. refl) queue, length-filter here_is queue, counted.each actor, gone_is));
      each = λ other. rw after (elim (cases_eq other.0 actor.0) [
        | inl same ↦ rw (id_same other actor same, get_or-set_same here actor.0 false false within) (times_gone actor queue)
        | inr differs ↦ rw (get_or-set_other here actor.0 other.0 false false differs) (times_stays actor other queue differs ∙ counted.each other)
      ]);
    }
