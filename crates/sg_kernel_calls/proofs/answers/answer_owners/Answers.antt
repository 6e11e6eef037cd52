use Rattle.std.proofs.Common.{◌∙◌, sym, ap, arith}
use Rattle.sg_base.specs.declared.awaits.Party.TheVariants as party
use Rattle.sg_mailbox.specs.declared.sides.Side.{Side}
use Rattle.sg_kernel_calls.specs.declared.simulation_state.Fields.{Fields}
use Rattle.sg_kernel_calls.specs.Known.{Known, after}
use Rattle.sg_kernel_calls.specs.Answers.{answers, answers_side, for_receiver}
use Rattle.sg_kernel_calls.specs.kept.Sound.{core_of, known_of}
use Rattle.sg_kernel_calls.proofs.Finishes.{after_both}
use Rattle.sg_kernel_calls.proofs.Moves.{keeps_both}
use Rattle.sg_kernel_calls.proofs.answers.answer_owners.Goals as goal

pub returns-in-Pair-clause-known : goal.returns-in-Pair-clause-known
returns-in-Pair-clause-known c =
    let old = c.args.fields.now in
    let sender = c.in-Pair.sender in
    let receiver = c.in-Pair.receiver in
    c.answer_side-in-Pair-2.ensures.known
    ∙ ap (λ (given : Side). after (answers_side c.args.over c.args.serial.0 party.Receiver given (core_of c.answer_side-in-Pair.new.fields)) (known_of c.answer_side-in-Pair.new.fields)) c.for_receiver-given.ensures
    ∙ ap (λ (k : Known). after (answers_side c.args.over c.args.serial.0 party.Receiver (for_receiver sender receiver) k.core) k) c.answer_side-in-Pair.ensures.known
    ∙ after_both c.args.over c.args.serial.0 sender receiver (known_of old)
    ∙ ap (λ w. after (answers c.args.over c.args.serial.0 w (core_of old)) (known_of old)) (sym c.in-Pair.is)

pub returns-in-Pair-clause-keeps : goal.returns-in-Pair-clause-keeps
returns-in-Pair-clause-keeps c = keeps_both c.args.fields.now c.answer_side-in-Pair.new.fields c.answer_side-in-Pair-2.new.fields c.answer_side-in-Pair.ensures.keeps c.answer_side-in-Pair-2.ensures.keeps

pub answer_side-requires-in-Pair-2-clause-able : goal.answer_side-requires-in-Pair-2-clause-able
answer_side-requires-in-Pair-2-clause-able c = record { sound = c.answer_side-in-Pair.ensures.keeps.sound; small = omega (arith, c.requires.able.small, ap (λ (f : Fields). f.doing.under.date) c.answer_side-in-Pair.ensures.keeps.rest) }
