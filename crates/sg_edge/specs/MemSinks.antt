-- What streams in memory hold, and when their writes fail.
use Rattle.std.specs.Prelude.{◌≡◌, ◌+◌, ◌-◌, ◌==◌, ◌||◌, ℕ, Bool, List, [], length, min, Option, Some}
use Rattle.std.specs.List.{list_any}
use Rattle.sg_edge.specs.declared.sinks.Stream.{Stream}
use Rattle.sg_edge.specs.declared.sinks.Stream.TheVariants.{Out, Err}
use Rattle.sg_edge.specs.declared.mem_stream.MemStream.{MemStream}
use Rattle.sg_edge.specs.declared.mem_sinks.MemSinks.{MemSinks}
use Rattle.sg_edge.specs.Sinks.{one_if}

abbrev pub mem_stream : MemSinks → Stream → MemStream
mem_stream m Out = m.out
mem_stream m Err = m.err

-- the bytes that were written
abbrev pub mem_text : MemSinks → Stream → List ℕ
mem_text m to = (mem_stream m to).bytes.items

abbrev pub mem_contents : MemSinks → Stream → Option (List ℕ)
mem_contents m to = Some (mem_text m to)

-- how many bytes a stream can hold
abbrev pub room_of : MemSinks → Stream → ℕ
room_of m to = (mem_stream m to).room

-- the most bytes that one write takes
abbrev pub piece_of : MemSinks → ℕ
piece_of m = m.piece

-- how many writes there were, and the numbers of those that are to fail
abbrev pub writes_of : MemSinks → ℕ
writes_of m = m.calls

abbrev pub failing_of : MemSinks → List ℕ
failing_of m = m.failing.items

-- no write follows one that failed
abbrev pub mem_faults : MemSinks → ℕ
mem_faults m = one_if m.broken

-- the next write is among those that are to fail, or its stream is full
abbrev pub write_fails : MemSinks → Stream → Bool
write_fails m to =
    list_any (λ n. n == writes_of m + 1) (failing_of m) || (room_of m to == length (mem_text m to))

-- how many bytes of a piece of so many a write takes that doesn't fail
abbrev pub most_taken : MemSinks → Stream → ℕ → ℕ
most_taken m to n = min (min n (piece_of m)) (room_of m to - length (mem_text m to))

-- nothing was written to streams of these rooms
pub record StartsEmpty (out err : ℕ) (numbers : List ℕ) (most : ℕ) (m : MemSinks) : Type 0 where
  pub out_empty : mem_text m Out ≡ []
  pub err_empty : mem_text m Err ≡ []
  pub room_out : room_of m Out ≡ out
  pub room_err : room_of m Err ≡ err
  pub failing : failing_of m ≡ numbers
  pub piece : piece_of m ≡ most
  pub writes : writes_of m ≡ 0
  pub faults : mem_faults m ≡ 0

-- one more write was made, and all that decides which writes fail, and what they take, stays
pub record CountsWrite (old new : MemSinks) : Type 0 where
  pub writes : writes_of new ≡ writes_of old + 1
  pub failing : failing_of new ≡ failing_of old
  pub room : (to : Stream) → room_of new to ≡ room_of old to
  pub piece : piece_of new ≡ piece_of old
