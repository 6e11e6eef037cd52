use Rattle.std.proofs.Common.{ap, ◌∙◌, arith}
use Rattle.std.proofs.lemmas.List.{get_or_default}
use Rattle.sg_actor_states.specs.declared.joiners.Joiner.{Joiner}
use Rattle.sg_actor_states.proofs.Waits.{waiting_first, waiting_none}
use Rattle.sg_actor_states.proofs.joiners.first.Goals as goal
use Rattle.sg_actor_states.proofs.joiners.first.Goals.{else-place-list-via-then-place-list+else-list-place, else-place-list-via-else-place-list}

pub returns-then-list-place : goal.returns-then-list-place
returns-then-list-place c = λ actors few is.
    let list = c.args.list.now in
    let place = c.place_of-place.result in
    waiting_first actors list c.args.target place _ is c.place_of-place.ensures c.if-place-list.true (get_or_default list place _ _ c.if-place-list.true) c.if-list-place.true

pub returns : goal.returns
returns c = λ actors few is.
    let list = c.args.list.now in
    let place = c.place_of-place.result in
    elim c.else-place-list.branch [
      | else-place-list-via-then-place-list+else-list-place w ↦
          waiting_none actors list c.args.target place few is c.place_of-place.ensures (λ d within same. w.if-list-place.false (ap (λ (j : Joiner). j.of.0) (get_or_default list place (record { of = record { 0 = 0 }; actor = record { 0 = 0 } }) d within) ∙ same))
      | else-place-list-via-else-place-list w ↦
          waiting_none actors list c.args.target place few is c.place_of-place.ensures (λ d within same. omega (arith, within, w.if-place-list.false))
    ]
