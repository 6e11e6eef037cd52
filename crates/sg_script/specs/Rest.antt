-- What a source may still give.
use Rattle.std.specs.Prelude.{◌≡◌, ℕ, Bool, true, false, List, [], ◌++◌, ⊤}
use Rattle.sg_edge.specs.Sources.{Source}
use Rattle.sg_edge.specs.declared.files.Stage.{Stage}
use Rattle.sg_edge.specs.declared.files.Stage.TheVariants.{Fresh, Begun, Over, Broken as IsBroken}

-- these bytes may still come, with this mark after them
abbrev pub May : Stage → List ℕ → Bool → Type 0
May Fresh rest broken = ⊤
May Begun rest broken = ⊤
May Over rest broken = (rest ≡ []) × (broken ≡ false)
May IsBroken rest broken = (rest ≡ []) × (broken ≡ true)

-- the source continues from what was taken, by what may still come
pub record GoesOn (taken : List ℕ) (stage : Stage) (source : Source) : Type 0 where
  pub rest : List ℕ
  pub bytes : source.bytes ≡ taken ++ rest
  pub may : May stage rest source.broken
