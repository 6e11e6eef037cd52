use Rattle.std.proofs.Common.{◌≡◌, ◌∙◌, ap, sym, cond, Some, None}
use Rattle.std.proofs.lemmas.Bool.{not-false}
use Rattle.sg_mailbox.specs.Posts.{partner_side}
use Rattle.sg_mailbox.specs.kept.Queues.{number}
use Rattle.sg_mailbox.proofs.Steps.{front_met, rising_in}
use Rattle.sg_mailbox.proofs.box_queues.look.Goals as goal

pub returns-in_default-front-clause-found : goal.returns-in_default-front-clause-found
returns-in_default-front-clause-found c =
    let kept = c.args.kept.now in
    let first = c.in-Some-front.first in
    let has : number kept c.args.mailbox ≡ Some c.in-Some.queue = sym c.get.ensures.value ∙ sym c.copied.ensures ∙ c.in-Some.is in
    let finds = front_met kept c.requires.kept c.args.mailbox c.args.sends c.in-Some.queue (c.in-Some-front.field-0-0, first) has (sym c.front.ensures.first ∙ c.in-Some-front.is) in
    record { queue = sym has; met = sym (ap partner_side (finds ∙ ap (λ b. cond b None (Some first)) (not-false _ c.if-first-sends.false))) }

pub returns-in_default-front-clause-rising : goal.returns-in_default-front-clause-rising
returns-in_default-front-clause-rising c = rising_in c.args.kept.now c.requires.kept c.args.mailbox
