-- What a stream in memory takes.
use Rattle.std.specs.Prelude.{ℕ, ◌-◌, length, min}
use Rattle.sg_edge.specs.declared.mem_stream.MemStream.{MemStream}

-- how many bytes of a text of so many a write takes that doesn't fail, and takes so many at most
abbrev pub stream_taken : MemStream → ℕ → ℕ → ℕ
stream_taken m n piece = min (min n piece) (m.room - length m.bytes.items)
