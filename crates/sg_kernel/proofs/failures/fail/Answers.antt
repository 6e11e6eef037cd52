use Rattle.std.specs.Prelude.{is_some}
use Rattle.std.proofs.Common.{◌-◌, drop, get_or, set, sym, ap, ◌∙◌, arith, rules}
use Rattle.sg_activity.specs.Doing.{Doing}
use Rattle.sg_activity.specs.Underway.{hits}
use Rattle.sg_kernel_calls.specs.declared.simulation_state.Fields.{Fields}
use Rattle.sg_mailbox.specs.declared.owners.How.TheVariants as how
use Rattle.sg_mailbox.specs.declared.owners.Whose.TheVariants.{Over}
use Rattle.sg_kernel_calls.specs.Answers.{answers}
use Rattle.sg_kernel_calls.specs.Known.{after}
use Rattle.sg_mailbox.specs.Owners.{Owned}
use Rattle.sg_kernel_calls.specs.kept.Sound.{core_of, known_of}
use Rattle.sg_kernel.proofs.Failing.{failed_owner, failed_passing, not_over}
use Rattle.sg_kernel.proofs.Hits.{rest_is_hit}
use Rattle.sg_kernel.proofs.Leaving.{leaves_given}
use Rattle.sg_kernel.proofs.failures.fail.Goals as goal

pub fail-whose-requires-clause-drawn : goal.fail-whose-requires-clause-drawn
fail-whose-requires-clause-drawn c = record { from = c.requires.hit.from; to = omega (arith, c.requires.hit.to, c.requires.passing.sound.numbered) }

pub fail-whose-requires-clause-under_way : goal.fail-whose-requires-clause-under_way
fail-whose-requires-clause-under_way c = not_over c.args.fields.now c.args.serial.0 c.requires.hit.task c.requires.hit.at c.requires.passing.meeting

pub give_up-requires : goal.give_up-requires
give_up-requires c = record { from = c.requires.hit.from; under_way = ap is_some c.requires.hit.at }

pub answer_owners-requires-clause-whose : goal.answer_owners-requires-clause-whose
answer_owners-requires-clause-whose c = failed_owner c.args.fields.now c.args.serial.0 c.fail-whose.result c.fail-whose.ensures.was c.requires.hit c.requires.passing

pub answer_owners-requires-clause-able : goal.answer_owners-requires-clause-able
answer_owners-requires-clause-able c =
    let old = c.args.fields.now in
    let passing = failed_passing old c.args.serial.0 c.fail-whose.new.self c.give_up.new.self c.requires.hit c.fail-whose.ensures.is c.give_up.ensures c.requires.passing in
    record { sound = passing.sound; small = passing.small }

pub returns-clause-enters : goal.returns-clause-enters
returns-clause-enters c = record {
  known =
      let old = c.args.fields.now in
      let serial = c.args.serial.0 in
      let gone = c.give_up.ensures in
      let mid : Owned → Doing → Fields = λ whose doing. record old { whose = whose; doing = doing } in
      let failed : Owned = record old.whose { whose = set old.whose.whose (serial - 1) (Over how.Failed) } in
      c.answer_owners.ensures.known
      ∙ ap (λ w. after (answers how.Failed serial w (core_of (mid c.fail-whose.new.self c.give_up.new.self))) (known_of (mid c.fail-whose.new.self c.give_up.new.self))) c.fail-whose.ensures.was
      ∙ ap (λ o. after (answers how.Failed serial (get_or old.whose.whose (serial - 1) (Over how.Done)) (core_of (mid o c.give_up.new.self))) (known_of (mid o c.give_up.new.self))) c.fail-whose.ensures.is
      ∙ ap (λ d. after (answers how.Failed serial (get_or old.whose.whose (serial - 1) (Over how.Done)) (core_of (mid failed d))) (known_of (mid failed d))) gone;
  passing =
      let old = c.args.fields.now in
      c.answer_owners.ensures.keeps.passing (failed_passing old c.args.serial.0 c.fail-whose.new.self c.give_up.new.self c.requires.hit c.fail-whose.ensures.is c.give_up.ensures c.requires.passing);
  due =
      let old = c.args.fields.now in
      leaves_given old c.answer_owners.new.fields c.args.serial.0 (ap (λ (f : Fields). f.doing) c.answer_owners.ensures.keeps.rest ∙ c.give_up.ensures);
  events = search rules;
}

pub returns-clause-hits : goal.returns-clause-hits
returns-clause-hits c =
    let old = c.args.fields.now in
    let hit = c.requires.hit in
    let gone = c.give_up.ensures in
    ap (λ (d : Doing). hits d.under) (ap (λ (f : Fields). f.doing) c.answer_owners.ensures.keeps.rest ∙ gone)
    ∙ rest_is_hit old.doing.under c.args.serial.0 hit.rest hit.first
    ∙ sym (ap (drop 1) hit.first)
