-- How far an actor that churns has come.
use Rattle.std.specs.Prelude.{◌≡◌, ◌<◌, ◌≤◌, ℕ, List, length, slice_index, ⊤}
use Rattle.sg_base.specs.Mind.{Kind, Mind, replay, worker, master, churn, ended}

-- its numbers: it is in one of four phases, and has done no more steps than it has to, and fewer in the midst of one
pub record IsAtStep (numbers : List ℕ) : Type 0 where
  pub seven : length numbers ≡ 7
  pub phase : slice_index numbers 2 ≤ 3
  pub steps : slice_index numbers 1 ≤ slice_index numbers 3
  pub midst : 0 < slice_index numbers 2 → slice_index numbers 1 < slice_index numbers 3

abbrev pub IsAtStepIf : Kind → List ℕ → Type 0
IsAtStepIf churn numbers = IsAtStep numbers
IsAtStepIf replay numbers = ⊤
IsAtStepIf worker numbers = ⊤
IsAtStepIf master numbers = ⊤
IsAtStepIf ended numbers = ⊤

-- if the mind churns, its numbers are so
abbrev pub CountsSteps : Mind → Type 0
CountsSteps m = IsAtStepIf m.kind m.numbers
