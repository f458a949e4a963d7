-- Sources and sinks in memory, which say beforehand which of their calls fail.
use Rattle.std.specs.Prelude.{ℕ, ◌-◌, List, ◌++◌, length, take, drop, min}
use Rattle.pim_io.specs.Outside.{raised}

-- a source in memory: the bytes that are left, the most bytes that a call gives, the numbers of the calls that fail, the
-- number of the next call, from 0, and how many calls failed
pub record MemSourceView : Type 0 where
  pub left : List ℕ
  pub chunk : ℕ
  pub failing : List ℕ
  pub calls : ℕ
  pub faults : ℕ

-- a source after a call that gave n bytes
abbrev pub after_read : MemSourceView → ℕ → MemSourceView
after_read source n = record source { left = drop n source.left; calls = raised source.calls }

-- a source after a call that failed
abbrev pub after_failed_read : MemSourceView → MemSourceView
after_failed_read source = record source { calls = raised source.calls; faults = raised source.faults }

-- a sink in memory: the bytes that it took, how many it may take in all, the most bytes that a call takes, the numbers of
-- the calls that fail, the number of the next call, from 0, and how many calls failed
pub record MemSinkView : Type 0 where
  pub taken : List ℕ
  pub room : ℕ
  pub chunk : ℕ
  pub failing : List ℕ
  pub calls : ℕ
  pub faults : ℕ

-- how many bytes of a piece a sink takes in a call that does not fail
abbrev pub taken_len : MemSinkView → List ℕ → ℕ
taken_len sink piece = min (length piece) (min sink.chunk (sink.room - length sink.taken))

-- a sink after a call that took the first n bytes of a piece
abbrev pub after_write : MemSinkView → List ℕ → ℕ → MemSinkView
after_write sink piece n = record sink { taken = sink.taken ++ take n piece; calls = raised sink.calls }

-- a sink after a call that failed
abbrev pub after_failed_write : MemSinkView → MemSinkView
after_failed_write sink = record sink { calls = raised sink.calls; faults = raised sink.faults }
