use Rattle.std.specs.Prelude.{is_ok}
use Rattle.std.proofs.Common.{◌<◌, [], true, sym, ap, subst, ◌∙◌}
use Rattle.sg_base.specs.declared.call.Answer.TheVariants as answer
use Rattle.sg_kernel_calls.specs.Calls.{answer_of_ask, told}
use Rattle.sg_kernel_calls.specs.Known.{Known, after_call}
use Rattle.sg_kernel_calls.specs.Steps.{counted, goes_on, readied, result_of}
use Rattle.sg_kernel_calls.specs.World.{MayCall}
use Rattle.sg_kernel_calls.specs.kept.Sound.{core_of}
use Rattle.sg_kernel_calls.proofs.Replied.{used_replies}
use Rattle.sg_kernel.proofs.Tells.{can_tell, tell_replies}
use Rattle.sg_kernel.proofs.kernel.Kernel.tell.Goals as goal

pub go_on-requires-clause-able : goal.go_on-requires-clause-able
go_on-requires-clause-able c = can_tell c.self.inside.fields c.event.new.fields c.args.actor.0 (c.in_ok-event.ensures {u = tt}).counts c.self.invariant (subst (λ (k : Known). MayCall k.core c.args.actor.0) (sym c.self.view_is) c.requires.caller) (subst (λ (k : Known). 0 < k.room) (sym c.self.view_is) c.requires.room)

pub go_on-requires-in-None-clause-able : goal.go_on-requires-in-None-clause-able
go_on-requires-in-None-clause-able c = can_tell c.self.inside.fields c.event.new.fields c.args.actor.0 (c.in_ok-event.ensures {u = tt}).counts c.self.invariant (subst (λ (k : Known). MayCall k.core c.args.actor.0) (sym c.self.view_is) c.requires.caller) (subst (λ (k : Known). 0 < k.room) (sym c.self.view_is) c.requires.room)

pub returns-in_err-event-clause-step : goal.returns-in_err-event-clause-step
returns-in_err-event-clause-step c =
    let old = c.self.inside.fields in
    let step = goes_on (readied c.args.actor.0 (answer_of_ask c.args.action) (counted (core_of old))) [] in
    (used_replies step old c.event.new.fields c.in_err-event.field-0.0 c.from_residual.result c.from_residual.ensures.1 c.in_err-event.ensures.counts c.in_err-event.ensures.stays c.self.invariant).known
    ∙ ap (λ (k : Known). after_call (is_ok c.from_residual.result) (told k.setup k.core c.args.actor.0 c.args.action) k) c.self.view_is

pub returns-in_err-event-clause-result : goal.returns-in_err-event-clause-result
returns-in_err-event-clause-result c =
    let old = c.self.inside.fields in
    let step = goes_on (readied c.args.actor.0 (answer_of_ask c.args.action) (counted (core_of old))) [] in
    (used_replies step old c.event.new.fields c.in_err-event.field-0.0 c.from_residual.result c.from_residual.ensures.1 c.in_err-event.ensures.counts c.in_err-event.ensures.stays c.self.invariant).result
    ∙ ap (λ (k : Known). result_of (told k.setup k.core c.args.actor.0 c.args.action).stop) c.self.view_is

pub returns-in-Some-clause-step : goal.returns-in-Some-clause-step
returns-in-Some-clause-step c =
    (tell_replies c.self.inside.fields c.event.new.fields c.go_on.new.fields c.args.actor.0 c.args.action (answer.Act c.in-Some.action) (ap answer_of_ask c.in-Some.is) (c.in_ok-event.ensures {u = tt}).counts c.go_on.ensures).known
    ∙ ap (λ (k : Known). after_call true (told k.setup k.core c.args.actor.0 c.args.action) k) c.self.view_is

pub returns-in-Some-clause-result : goal.returns-in-Some-clause-result
returns-in-Some-clause-result c =
    (tell_replies c.self.inside.fields c.event.new.fields c.go_on.new.fields c.args.actor.0 c.args.action (answer.Act c.in-Some.action) (ap answer_of_ask c.in-Some.is) (c.in_ok-event.ensures {u = tt}).counts c.go_on.ensures).result
    ∙ ap (λ (k : Known). result_of (told k.setup k.core c.args.actor.0 c.args.action).stop) c.self.view_is

pub returns-in-None-clause-step : goal.returns-in-None-clause-step
returns-in-None-clause-step c =
    (tell_replies c.self.inside.fields c.event.new.fields c.go_on-in-None.new.fields c.args.actor.0 c.args.action answer.NoMore (ap answer_of_ask c.in-None.is) (c.in_ok-event.ensures {u = tt}).counts c.go_on-in-None.ensures).known
    ∙ ap (λ (k : Known). after_call true (told k.setup k.core c.args.actor.0 c.args.action) k) c.self.view_is

pub returns-in-None-clause-result : goal.returns-in-None-clause-result
returns-in-None-clause-result c =
    (tell_replies c.self.inside.fields c.event.new.fields c.go_on-in-None.new.fields c.args.actor.0 c.args.action answer.NoMore (ap answer_of_ask c.in-None.is) (c.in_ok-event.ensures {u = tt}).counts c.go_on-in-None.ensures).result
    ∙ ap (λ (k : Known). result_of (told k.setup k.core c.args.actor.0 c.args.action).stop) c.self.view_is
