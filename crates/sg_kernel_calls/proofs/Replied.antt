-- Replies to calls: none if the budget is used up or the route is missing, else what follows the count.
use Rattle.std.proofs.Common.{◌≡◌, ◌≢◌, true, cond, None, Result, Ok, Err, [], refl, sym, ap, subst, ◌∙◌}
use Rattle.std.specs.Prelude.{IsErrAnd}
use Rattle.sg_kernel_calls.specs.declared.simulation_state.Fields.{Fields}
use Rattle.sg_kernel_calls.specs.declared.stop.Stop.{Stop}
use Rattle.sg_kernel_calls.specs.declared.stop.Stop.TheVariants.{Budget}
use Rattle.sg_kernel_calls.specs.Setup.{Setup}
use Rattle.sg_kernel_calls.specs.Known.{after_call}
use Rattle.sg_kernel_calls.specs.Steps.{Step, counted, result_of, stops, unless_used}
use Rattle.sg_kernel_calls.specs.World.{Core}
use Rattle.sg_kernel_calls.specs.kept.Acts.{Answers, CountsOne, IsUsedUp, Replies}
use Rattle.sg_kernel_calls.specs.kept.Sound.{core_of, known_of}
use Rattle.sg_kernel_calls.specs.kept.Whole.{IsWhole}
use Rattle.sg_kernel_calls.proofs.Each.{eq_no, eq_yes, refused}

stop_replies : (fields : Fields) (why : Stop) → IsWhole fields → Replies (stops (core_of fields) [] why) fields fields (Err why)
stop_replies fields why whole = record { known = refused (known_of fields) why; result = refl; whole = whole }

pub err_is : (reply : Result Unit Stop) (why : Stop) → IsErrAnd reply (λ e. e ≡ why) → reply ≡ Err why
err_is (Ok u) why is = absurd is
err_is (Err e) why is = ap (λ s. Err s) is

-- the budget is used up
pub used_err : (fields : Fields) (why : Stop) (reply : Result Unit Stop) → IsErrAnd reply (λ e. e ≡ why) → IsUsedUp fields why → reply ≡ Err Budget
used_err fields why reply is used = err_is reply why is ∙ ap (λ s. Err s) used.stop

pub used_replies : (step : Step) (old new : Fields) (why : Stop) (reply : Result Unit Stop) → IsErrAnd reply (λ e. e ≡ why) → IsUsedUp old why → new ≡ old → IsWhole old → Replies (unless_used old.setup.budget (core_of old) step) old new reply
used_replies step old new why reply is used same whole =
    subst (λ (fields : Fields). Replies (unless_used old.setup.budget (core_of old) step) old fields reply) (sym same)
    (subst (λ r. Replies (unless_used old.setup.budget (core_of old) step) old old r) (sym (used_err old why reply is used))
    (subst (λ b. Replies (cond b (stops (core_of old) [] Budget) step) old old (Err Budget)) (sym (eq_yes old.events old.setup.budget used.used)) (stop_replies old Budget whole)))

-- it isn't, and the call is refused otherwise
pub refused_replies : (step : Step) (fields : Fields) (why : Stop) (reply : Result Unit Stop) → IsErrAnd reply (λ e. e ≡ why) → fields.events ≢ fields.setup.budget → step ≡ stops (core_of fields) [] why → IsWhole fields → Replies (unless_used fields.setup.budget (core_of fields) step) fields fields reply
refused_replies step fields why reply err left is whole =
    subst (λ r. Replies (unless_used fields.setup.budget (core_of fields) step) fields fields r) (sym (err_is reply why err))
    (subst (λ b. Replies (cond b (stops (core_of fields) [] Budget) step) fields fields (Err why)) (sym (eq_no fields.events fields.setup.budget left))
    (subst (λ (s : Step). Replies s fields fields (Err why)) (sym is) (stop_replies fields why whole)))

-- it is counted, and does what follows
pub counted_replies : (old mid new : Fields) (step : Step) (does : Setup → Core → Step) → CountsOne old mid → step ≡ does old.setup (counted (core_of old)) → (does old.setup (counted (core_of old))).stop ≡ None → Answers (does mid.setup) mid new →
    Replies (unless_used old.setup.budget (core_of old) step) old new (Ok tt)
counted_replies old mid new step does counts is goes made =
    let done = subst (λ (fields : Fields). Answers (does fields.setup) fields new) counts.counted made in
    let all : unless_used old.setup.budget (core_of old) step ≡ does old.setup (counted (core_of old)) = ap (λ b. cond b (stops (core_of old) [] Budget) step) (eq_no old.events old.setup.budget counts.left) ∙ is in
    record {
      known = done.known ∙ sym (ap (λ (s : Step). after_call true s (known_of old)) all);
      result = sym (ap (λ (s : Step). result_of s.stop) all ∙ ap result_of goes);
      whole = done.whole;
    }
