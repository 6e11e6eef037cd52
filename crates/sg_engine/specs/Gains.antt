-- What the two streams have gained.
use Rattle.std.specs.Prelude.{◌≡◌, ◌⊎◌, ℕ, Option, List, [], ◌++◌}
use Rattle.sg_edge.specs.declared.sinks.Stream.{Stream}
use Rattle.sg_edge.specs.declared.sinks.Stream.TheVariants.{Out, Err}
use Rattle.sg_edge.specs.Sinks.{gain}

-- both texts were appended
pub record GainsAll (out err : List ℕ) (old new : Stream → Option (List ℕ)) : Type 0 where
  pub out_held : new Out ≡ gain (old Out) out
  pub err_held : new Err ≡ gain (old Err) err

-- prefixes of the texts were appended, and a byte of the second only after the whole first
pub record GainsFronts (out err : List ℕ) (old new : Stream → Option (List ℕ)) : Type 0 where
  pub out_done : List ℕ
  pub out_rest : List ℕ
  pub err_done : List ℕ
  pub err_rest : List ℕ
  pub out_split : out ≡ out_done ++ out_rest
  pub err_split : err ≡ err_done ++ err_rest
  pub late : (err_done ≡ []) ⊎ (out_rest ≡ [])
  pub out_held : new Out ≡ gain (old Out) out_done
  pub err_held : new Err ≡ gain (old Err) err_done
