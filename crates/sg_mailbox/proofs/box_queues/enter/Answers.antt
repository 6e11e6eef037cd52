use Rattle.std.proofs.Common.{◌≡◌, ◌∙◌, ap, sym, subst}
use Rattle.std.specs.Prelude.{All}
use Rattle.sg_queues.proofs.Lists.{without_none}
use Rattle.sg_mailbox.specs.declared.sides.Post.{Post}
use Rattle.sg_mailbox.specs.Posts.{waiters, partner, posts_without, posts_by_partner}
use Rattle.sg_mailbox.specs.kept.Queues.{posts_of}
use Rattle.sg_mailbox.proofs.Lists.{met_first, none_met}
use Rattle.sg_mailbox.proofs.Steps.{nobody_met, somebody_met, ordered_in, only_there}
use Rattle.sg_mailbox.proofs.box_queues.enter.Goals as goal

pub put-requires-clause-alike : goal.put-requires-clause-alike
put-requires-clause-alike c =
    let posts = waiters (posts_of c.args.kept.now) c.args.mailbox in
    subst (All (λ (first : Post). first.sends ≡ c.args.sends)) (sym (c.queue_for-queue.ensures.same c.args.mailbox))
    (none_met c.args.sends posts (nobody_met (partner c.args.sends posts) (sym c.in-None.is ∙ c.requires.found.met)))

pub returns-in-Some-clause-there : goal.returns-in-Some-clause-there
returns-in-Some-clause-there c =
    let posts = waiters (posts_of c.args.kept.now) c.args.mailbox in
    let met = somebody_met c.in-Some.met c.in-Some.other (partner c.args.sends posts) (sym c.in-Some.is ∙ c.requires.found.met) in
    c.withdraw.ensures.left c.args.mailbox
    ∙ ap (λ s. posts_without s posts) (sym met.2)
    ∙ sym (ap (λ o. posts_by_partner o c.args.sends c.args.side c.args.serial posts) met.1 ∙ (met_first c.args.sends posts met.0 (ordered_in c.args.kept.now c.requires.able.kept.ordered c.args.mailbox) met.1).1)

pub returns-in-Some-clause-elsewhere : goal.returns-in-Some-clause-elsewhere
returns-in-Some-clause-elsewhere c = λ other apart.
    let old = c.args.kept.now in
    let posts = waiters (posts_of old) c.args.mailbox in
    let met = somebody_met c.in-Some.met c.in-Some.other (partner c.args.sends posts) (sym c.in-Some.is ∙ c.requires.found.met) in
    let first = (met_first c.args.sends posts met.0 (ordered_in old c.requires.able.kept.ordered c.args.mailbox) met.1).0 in
    c.withdraw.ensures.left other ∙ ap (λ s. posts_without s (waiters (posts_of old) other)) (sym met.2) ∙ without_none (λ (p : Post). p.serial.0) met.0.serial.0 (waiters (posts_of old) other) (only_there old c.requires.able.kept c.args.mailbox other apart met.0 first)
