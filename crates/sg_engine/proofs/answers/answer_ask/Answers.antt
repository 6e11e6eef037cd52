use Rattle.std.proofs.Common.{◌∙◌, sym, None, Some}
use Rattle.sg_engine.specs.Run.{ended_at, ended_by}
use Rattle.sg_engine.proofs.Calls.{fetch_failed, told_to, used_up}
use Rattle.sg_engine.proofs.Uncut.{exit_is, fault_read, fault_unwritten, goes_so, stop_uncut, stops_so}
use Rattle.sg_engine.proofs.answers.answer_ask.Goals as goal

pub returns-then-is_used_up-clause-step : goal.returns-then-is_used_up-clause-step
returns-then-is_used_up-clause-step g c = λ cast taken world stands.
    used_up _ taken cast _ _ c.args.kernel.now world c.args.actor.0 c.requires.fits.begun stands (sym c.is_used_up.ensures ∙ c.if-is_used_up.true)

-- ---- the script has a fault
pub returns-in_err-action-clause-step : goal.returns-in_err-action-clause-step
returns-in_err-action-clause-step g c = λ cast taken world stands.
    let why = c.in_err-action.field-0.0 in
    fetch_failed _ taken cast _ _ _ _ c.args.kernel.now world c.args.actor.0 why c.from_residual.result (exit_is (ended_at why) c.from_residual.result c.from_residual.ensures.1)
    stands (sym c.is_used_up.ensures ∙ c.if-is_used_up.false) (c.in_err-action.ensures.fetched taken world.fetched stands.script.stands)

pub returns-in_err-action-clause-script : goal.returns-in_err-action-clause-script
returns-in_err-action-clause-script g c =
    let why = c.in_err-action.field-0.0 in
    let is = exit_is (ended_at why) c.from_residual.result c.from_residual.ensures.1 in
    record {
      others = c.in_err-action.ensures.others;
      unwritten = λ written. fault_unwritten why (cc (sym is ∙ written));
      cause = λ read. fault_read why _ c.in_err-action.ensures.read (cc (sym is ∙ read));
    }

-- ---- the kernel has passed its answer on, or stopped
pub returns-in_err-tell-clause-step : goal.returns-in_err-tell-clause-step
returns-in_err-tell-clause-step g c = λ cast taken world stands.
    let why = c.in_err-tell.field-0.0 in
    rw (exit_is (ended_by why) c.from_residual-in_err-tell.result c.from_residual-in_err-tell.ensures.1, stop_uncut why)
    (told_to _ taken cast _ _ _ _ c.args.kernel.now c.tell.new.self _ world c.args.actor.0 c.in_ok-action.action (Some (ended_by why)) stands (sym c.is_used_up.ensures ∙ c.if-is_used_up.false) (c.in_ok-action.ensures.fetched taken world.fetched stands.script.stands) c.tell.ensures.step
    (stops_so why _ c.in_err-tell.ensures.result))

pub returns-clause-step : goal.returns-clause-step
returns-clause-step g c = λ cast taken world stands.
    told_to _ taken cast _ _ _ _ c.args.kernel.now c.tell.new.self _ world c.args.actor.0 c.in_ok-action.action None stands (sym c.is_used_up.ensures ∙ c.if-is_used_up.false) (c.in_ok-action.ensures.fetched taken world.fetched stands.script.stands) c.tell.ensures.step
    (goes_so c.in_ok-tell.field-0 _ (c.in_ok-tell.ensures {u = tt}).result)
