-- Sources and sinks over readers and writers of the standard library.
use Rattle.std.specs.Prelude.{ℕ, List, Option}

-- a source over a reader: the bytes that the reader has left, where it tells them, and how many reads failed
pub record ReadSourceView : Type 0 where
  pub remaining : Option (List ℕ)
  pub faults : ℕ

-- a sink over a writer: the bytes that the writer holds, where it tells them, and how many writes failed
pub record WriteSinkView : Type 0 where
  pub contents : Option (List ℕ)
  pub faults : ℕ
