use Rattle.std.proofs.Common.{◌≡◌, ◌∙◌, ap, subst, refl, List, map, Ok, Err, IfErr, IfOk}
use Rattle.std.specs.Prelude.{string_bytes}
use Rattle.std.specs.Process.{exit_status}
use Rattle.sg_words.specs.Views.{Text}
use Rattle.sg_base.specs.declared.status.Status.TheVariants as status
use Rattle.sg_base.specs.Status.{status_code}
use Rattle.simgrid_replay.specs.Exit.{Exits, FitsWords, words_in}
use Rattle.simgrid_replay.proofs.ExitLemmas.{cut_fits}
use Rattle.simgrid_replay.proofs.whole.Goals as goal

pub returns-in-Ok : goal.returns-in-Ok
returns-in-Ok g c =
    let words = map string_bytes (words_in c.args.args) in
    let same : map string_bytes c.as_slice.result.now ≡ words = ap (map string_bytes) (c.as_slice.ensures.value ∙ c.in-Ok.ensures) in
    (elim c.program.result as (λ ended. IfOk ended (λ code. exit_status c.told.result ≡ exit_status code)
    → IfErr ended (λ _. exit_status c.told.result ≡ status_code status.Memory)
    → IfOk ended (λ code. Exits (exit_status code) (FitsWords (map string_bytes c.as_slice.result.now) 4096)) → Exits (exit_status c.told.result) (FitsWords words 4096)) [
      | Ok code ↦ λ told memory known. (known.0, told ∙ known.1, subst (λ (w : List Text). FitsWords w 4096 known.0) same known.2)
      | Err why ↦ λ told memory known. (status.Memory, memory, cut_fits words 4096 status.Memory refl (λ e. cc))
    ]) c.told.ensures.ended c.told.ensures.memory c.program.ensures

pub returns-in-Err : goal.returns-in-Err
returns-in-Err g c = (status.Memory, c.exit_code.ensures, cut_fits (map string_bytes (words_in c.args.args)) 4096 status.Memory refl (λ e. cc))
