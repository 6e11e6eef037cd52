use Rattle.std.proofs.Common.{◌-◌, length, ap, ◌∙◌, rules}
use Rattle.std.proofs.lemmas.List.{length-set}
use Rattle.sg_mailbox.specs.declared.owners.How.TheVariants as how
use Rattle.sg_mailbox.specs.declared.owners.Whose.TheVariants.{Over}
use Rattle.sg_mailbox.specs.Owners.{Owned}
use Rattle.sg_kernel_calls.proofs.Killed.{posted_isnt_over, posted_known, posted_none, whole_posted}
use Rattle.sg_kernel_calls.proofs.killing.fail_posted.Goals as goal

pub fail-requires-clause-under_way : goal.fail-requires-clause-under_way
fail-requires-clause-under_way c = posted_isnt_over c.args.fields.now.whose.whose (c.args.serial.0 - 1) c.requires.posted

pub returns : goal.returns
returns c = record {
  known =
      let old = c.args.fields.now in
      posted_known old c.args.serial.0 c.fail.new.self c.requires.posted (posted_none old c.args.serial.0 c.requires.posted c.requires.made.whole) c.fail.ensures.is;
  requests = search rules;
  many = ap (λ (o : Owned). length o.whose) c.fail.ensures.is ∙ length-set c.args.fields.now.whose.whose (c.args.serial.0 - 1) (Over how.Failed);
  whole =
      let old = c.args.fields.now in
      whole_posted old old.states.room c.args.serial c.fail.new.self c.withdraw.new.self c.requires.made.from (posted_none old c.args.serial.0 c.requires.posted c.requires.made.whole) c.fail.ensures.is c.withdraw.ensures.left c.withdraw.ensures.room c.requires.made.whole;
}
