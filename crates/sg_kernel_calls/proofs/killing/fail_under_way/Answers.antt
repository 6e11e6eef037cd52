use Rattle.std.proofs.Common.{◌-◌, length, set, get_or, sym, ap, subst, ◌∙◌, arith}
use Rattle.std.proofs.lemmas.List.{length-set}
use Rattle.sg_activity.specs.Doing.{Doing}
use Rattle.sg_kernel_calls.specs.declared.simulation_state.Fields.{Fields}
use Rattle.sg_mailbox.specs.declared.owners.How.TheVariants as how
use Rattle.sg_mailbox.specs.declared.owners.Whose.TheVariants.{Over}
use Rattle.sg_kernel_calls.specs.Answers.{answers}
use Rattle.sg_kernel_calls.specs.Known.{after}
use Rattle.sg_kernel_calls.specs.World.{extent}
use Rattle.sg_mailbox.specs.Owners.{Owned}
use Rattle.sg_kernel_calls.specs.kept.Sound.{core_of, known_of, IsOwner}
use Rattle.sg_kernel_calls.specs.kept.Whole.{IsWholeFor}
use Rattle.sg_kernel_calls.proofs.Killed.{busy_isnt_over, whole_failed}
use Rattle.sg_kernel_calls.proofs.Limits.{date_below}
use Rattle.sg_kernel_calls.proofs.killing.fail_under_way.Goals as goal

pub give_up-requires : goal.give_up-requires
give_up-requires c = record {
  from = c.requires.made.from;
  under_way = c.requires.made.whole.meeting.busy (c.args.serial.0 - 1) c.requires.busy;
}

pub fail-whose-requires-clause-under_way : goal.fail-whose-requires-clause-under_way
fail-whose-requires-clause-under_way c = busy_isnt_over c.args.fields.now.whose.whose (c.args.serial.0 - 1) c.requires.busy

pub answer_owners-requires-clause-whose : goal.answer_owners-requires-clause-whose
answer_owners-requires-clause-whose c =
    let old = c.args.fields.now in
    subst (IsOwner (extent old.setup)) (sym c.fail-whose.ensures.was) (c.requires.made.whole.limited (c.args.serial.0 - 1) (Over how.Done) (omega (arith, c.requires.made.from, c.requires.made.to)))

pub answer_owners-requires-clause-able : goal.answer_owners-requires-clause-able
answer_owners-requires-clause-able c =
    let old = c.args.fields.now in
    record {
      sound = (whole_failed old old.states.room c.args.serial.0 c.fail-whose.new.self c.give_up.new.self c.requires.busy c.fail-whose.ensures.is c.give_up.ensures c.requires.made.whole).sound;
      small = omega (arith, ap (λ (d : Doing). d.under.date) c.give_up.ensures, date_below old c.requires.made.whole.sound c.requires.made.whole.dated);
    }

pub returns : goal.returns
returns c = record {
  known =
      let old = c.args.fields.now in
      let serial = c.args.serial.0 in
      let mid : Owned → Doing → Fields = λ whose doing. record old { whose = whose; doing = doing } in
      let failed : Owned = record old.whose { whose = set old.whose.whose (serial - 1) (Over how.Failed) } in
      c.answer_owners.ensures.known
      ∙ ap (λ w. after (answers how.Failed serial w (core_of (mid c.fail-whose.new.self c.give_up.new.self))) (known_of (mid c.fail-whose.new.self c.give_up.new.self))) c.fail-whose.ensures.was
      ∙ ap (λ o. after (answers how.Failed serial (get_or old.whose.whose (serial - 1) (Over how.Done)) (core_of (mid o c.give_up.new.self))) (known_of (mid o c.give_up.new.self))) c.fail-whose.ensures.is
      ∙ ap (λ d. after (answers how.Failed serial (get_or old.whose.whose (serial - 1) (Over how.Done)) (core_of (mid failed d))) (known_of (mid failed d))) c.give_up.ensures;
  requests = ap (λ (f : Fields). f.requests) c.answer_owners.ensures.keeps.rest;
  many =
      ap (λ (f : Fields). length f.whose.whose) c.answer_owners.ensures.keeps.rest
      ∙ ap (λ (o : Owned). length o.whose) c.fail-whose.ensures.is
      ∙ length-set c.args.fields.now.whose.whose (c.args.serial.0 - 1) (Over how.Failed);
  whole =
      let old = c.args.fields.now in
      let keeps = c.answer_owners.ensures.keeps in
      let failed = whole_failed old old.states.room c.args.serial.0 c.fail-whose.new.self c.give_up.new.self c.requires.busy c.fail-whose.ensures.is c.give_up.ensures c.requires.made.whole in
      subst (λ n. IsWholeFor n c.answer_owners.new.fields) (sym keeps.room) (keeps.whole old.states.room failed);
}
