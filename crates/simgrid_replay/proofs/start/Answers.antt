use Rattle.std.proofs.Common.{◌≡◌, ◌∙◌, ℕ, subst, refl, map, Ok, Err}
use Rattle.std.specs.Prelude.{OnErr, OnOk, string_bytes}
use Rattle.std.specs.Process.{exit_status}
use Rattle.sg_base.specs.declared.status.Status.TheVariants as status
use Rattle.sg_base.specs.Status.{status_code}
use Rattle.simgrid_replay.specs.Exit.{Exits, FitsWords}
use Rattle.simgrid_replay.proofs.ExitLemmas.{call_fits, cut_fits}
use Rattle.simgrid_replay.proofs.start.Goals as goal

pub returns : goal.returns
returns g c =
    let words = map string_bytes c.args.words.now in
    let told = c.exit_of-told.ensures in
    let fits : FitsWords words 4096 told.0 = subst (λ (n : ℕ). FitsWords words n told.0) c.requires.contexts (call_fits _ _ _ _ _ _ _ _ _ _ _ _ told.0 told.2) in
    (elim c.finish.result as (λ finished. OnOk finished (exit_status c.last_code.result ≡ exit_status c.exit_of-told.result)
    → OnErr finished (exit_status c.last_code.result ≡ status_code status.WriteFault) → Exits (exit_status c.last_code.result) (FitsWords words 4096)) [
      | Ok done ↦ λ same failed. (told.0, same ∙ told.1, fits)
      | Err why ↦ λ same failed. (status.WriteFault, failed, cut_fits words 4096 status.WriteFault refl (λ e. cc))
    ]) c.last_code.ensures.written c.last_code.ensures.failed
