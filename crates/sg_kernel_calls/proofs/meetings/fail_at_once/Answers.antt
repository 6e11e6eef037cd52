use Rattle.std.proofs.Common.{◌-◌, true, length, sym, ap, subst, ◌∙◌, arith, rules}
use Rattle.std.proofs.lemmas.List.{length-set}
use Rattle.sg_kernel_calls.specs.declared.simulation_state.Fields.{Fields}
use Rattle.sg_mailbox.specs.declared.owners.How.TheVariants as how
use Rattle.sg_mailbox.specs.declared.owners.Whose.TheVariants.{Over}
use Rattle.sg_kernel_calls.specs.Known.{Known, after_call}
use Rattle.sg_kernel_calls.specs.Meetings.{both_fail}
use Rattle.sg_kernel_calls.specs.World.{Core, extent}
use Rattle.sg_kernel_calls.specs.Setup.{Setup}
use Rattle.sg_mailbox.specs.Owners.{Owned}
use Rattle.sg_kernel_calls.specs.kept.Sound.{known_of, IsSide}
use Rattle.sg_kernel_calls.specs.kept.Whole.{IsWholeFor}
use Rattle.sg_kernel_calls.proofs.Mets.{is_met, waiting_below}
use Rattle.sg_kernel_calls.proofs.Unmet.{comer_first, other_first, over_is, whole_unmet}
use Rattle.sg_kernel_calls.proofs.meetings.fail_at_once.Goals as goal

pub enter-requires-clause-above : goal.enter-requires-clause-above
enter-requires-clause-above c = λ other. waiting_below c.args.fields.now other c.next_serial-next.result.0 c.next_serial-next.ensures c.requires.able.whole.sound c.requires.able.whole.meeting

pub put-requires-clause-drawn : goal.put-requires-clause-drawn
put-requires-clause-drawn c =
    let old = c.args.fields.now in
    let m = is_met old c.args.comer.now c.args.met.0 c.args.met.1 (sym c.requires.found.met ∙ c.requires.met) c.requires.able.whole.limited c.requires.able.whole.meeting in
    record { from = m.from; to = m.to }

pub fail_comer-requires-clause-other : goal.fail_comer-requires-clause-other
fail_comer-requires-clause-other c = (is_met c.args.fields.now c.args.comer.now c.args.met.0 c.args.met.1 (sym c.requires.found.met ∙ c.requires.met) c.requires.able.whole.limited c.requires.able.whole.meeting).limited

pub fail_comer-requires-clause-takes_part : goal.fail_comer-requires-clause-takes_part
fail_comer-requires-clause-takes_part c = record {
  able = search rules;
  comer = search rules;
  made =
      let m = is_met c.args.fields.now c.args.comer.now c.args.met.0 c.args.met.1 (sym c.requires.found.met ∙ c.requires.met) c.requires.able.whole.limited c.requires.able.whole.meeting in
      (m.from, omega (arith, m.to, ap (λ (o : Owned). length o.whose) c.put.ensures, length-set c.args.fields.now.whose.whose (c.args.met.0.0 - 1) (Over how.Failed)));
  room = search rules;
  few = search rules;
  whole =
      let old = c.args.fields.now in
      let comer = c.args.comer.now in
      let was = c.requires.able.whole in
      let m = is_met c.args.fields.now c.args.comer.now c.args.met.0 c.args.met.1 (sym c.requires.found.met ∙ c.requires.met) c.requires.able.whole.limited c.requires.able.whole.meeting in
      let unmet = whole_unmet old comer c.args.met.0 c.args.met.1 c.next_serial-next.result c.put.new.self c.enter.new.self m was c.put.ensures c.enter.ensures.there c.enter.ensures.elsewhere (omega (arith, was.roomy.mailboxes, c.enter.ensures.room)) in
      unmet;
}

pub fail_other-requires-clause-able : goal.fail_other-requires-clause-able
fail_other-requires-clause-able c = record { sound = c.fail_comer.ensures.whole.sound; small = search rules }

pub fail_other-requires-clause-other : goal.fail_other-requires-clause-other
fail_other-requires-clause-other c =
    let m = is_met c.args.fields.now c.args.comer.now c.args.met.0 c.args.met.1 (sym c.requires.found.met ∙ c.requires.met) c.requires.able.whole.limited c.requires.able.whole.meeting in
    subst (λ (s : Setup). IsSide (extent s) c.args.met.1) (sym (ap (λ (k : Known). k.setup) c.fail_comer.ensures.known)) m.limited

pub fail_other-requires-else-comer-clause-other : goal.fail_other-requires-else-comer-clause-other
fail_other-requires-else-comer-clause-other c = (is_met c.args.fields.now c.args.comer.now c.args.met.0 c.args.met.1 (sym c.requires.found.met ∙ c.requires.met) c.requires.able.whole.limited c.requires.able.whole.meeting).limited

pub fail_comer-requires-else-comer-clause-other : goal.fail_comer-requires-else-comer-clause-other
fail_comer-requires-else-comer-clause-other c =
    let m = is_met c.args.fields.now c.args.comer.now c.args.met.0 c.args.met.1 (sym c.requires.found.met ∙ c.requires.met) c.requires.able.whole.limited c.requires.able.whole.meeting in
    subst (λ (s : Setup). IsSide (extent s) c.args.met.1) (sym (ap (λ (k : Known). k.setup) c.fail_other-else-comer.ensures.known)) m.limited

pub fail_comer-requires-else-comer-clause-takes_part : goal.fail_comer-requires-else-comer-clause-takes_part
fail_comer-requires-else-comer-clause-takes_part c = record {
  able = search rules;
  comer = search rules;
  made =
      let m = is_met c.args.fields.now c.args.comer.now c.args.met.0 c.args.met.1 (sym c.requires.found.met ∙ c.requires.met) c.requires.able.whole.limited c.requires.able.whole.meeting in
      let long = ap (λ (f : Fields). length f.whose.whose) c.fail_other-else-comer.ensures.keeps.rest in
      (m.from, omega (arith, m.to, long, ap (λ (o : Owned). length o.whose) c.put.ensures, length-set c.args.fields.now.whose.whose (c.args.met.0.0 - 1) (Over how.Failed)));
  room = search rules;
  few = search rules;
  whole =
      let old = c.args.fields.now in
      let comer = c.args.comer.now in
      let was = c.requires.able.whole in
      let m = is_met c.args.fields.now c.args.comer.now c.args.met.0 c.args.met.1 (sym c.requires.found.met ∙ c.requires.met) c.requires.able.whole.limited c.requires.able.whole.meeting in
      let unmet = whole_unmet old comer c.args.met.0 c.args.met.1 c.next_serial-next.result c.put.new.self c.enter.new.self m was c.put.ensures c.enter.ensures.there c.enter.ensures.elsewhere (omega (arith, was.roomy.mailboxes, c.enter.ensures.room)) in
      let keeps = c.fail_other-else-comer.ensures.keeps in
      subst (λ n. IsWholeFor (n - 1) c.fail_other-else-comer.new.fields) (sym keeps.room) (keeps.whole (old.states.room - 1) unmet);
}

pub returns-then-comer : goal.returns-then-comer
returns-then-comer c = record {
  known =
      let old = c.args.fields.now in
      let m = is_met c.args.fields.now c.args.comer.now c.args.met.0 c.args.met.1 (sym c.requires.found.met ∙ c.requires.met) c.requires.able.whole.limited c.requires.able.whole.meeting in
      let serial = c.args.met.0.0 in
      let other = c.args.met.1 in
      let over = record old { whose = c.put.new.self; boxes = c.enter.new.self } in
      comer_first (known_of over) (known_of c.fail_comer.new.fields) (known_of c.fail_other.new.fields) c.args.comer.now serial other c.if-comer.true c.fail_comer.ensures.known c.fail_other.ensures.known
      ∙ ap (λ (core : Core). after_call true (both_fail c.args.comer.now serial other core) (known_of old)) (over_is old serial c.put.new.self m.idle c.put.ensures);
  whole =
      let keeps = c.fail_other.ensures.keeps in
      subst (λ n. IsWholeFor n c.fail_other.new.fields) (sym keeps.room) (keeps.whole c.fail_comer.new.fields.states.room c.fail_comer.ensures.whole);
}

pub returns-else-comer : goal.returns-else-comer
returns-else-comer c = record {
  known =
      let old = c.args.fields.now in
      let m = is_met c.args.fields.now c.args.comer.now c.args.met.0 c.args.met.1 (sym c.requires.found.met ∙ c.requires.met) c.requires.able.whole.limited c.requires.able.whole.meeting in
      let serial = c.args.met.0.0 in
      let other = c.args.met.1 in
      let over = record old { whose = c.put.new.self; boxes = c.enter.new.self } in
      other_first (known_of over) (known_of c.fail_other-else-comer.new.fields) (known_of c.fail_comer-else-comer.new.fields) c.args.comer.now serial other c.if-comer.false c.fail_other-else-comer.ensures.known c.fail_comer-else-comer.ensures.known
      ∙ ap (λ (core : Core). after_call true (both_fail c.args.comer.now serial other core) (known_of old)) (over_is old serial c.put.new.self m.idle c.put.ensures);
  whole = search rules;
}
