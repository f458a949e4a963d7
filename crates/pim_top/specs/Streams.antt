-- What a call saw of a source or a sink: its bytes, where it tells them, and its count of faults, before and after the call.
use Rattle.std.specs.Prelude.{◌≡◌, ◌≤◌, ℕ, ◌+◌, List, Option, length}
use Rattle.pim_io.specs.Outside.{GaveAll, GaveAtMost, GaveFirst, Rose, Told, TookAll, TookFirst}

-- the bytes that are left of a source, or that a sink took
pub record Stream : Type 0 where
  pub before : Option (List ℕ)
  pub now : Option (List ℕ)
  pub faults : ℕ
  pub faults_now : ℕ

-- the stream of an object, by what it tells and counts, before a call and after it
abbrev pub stream : {X : Type 0} → (X → Option (List ℕ)) → (X → ℕ) → X → X → Stream
stream told counted old new = record { before = told old; now = told new; faults = counted old; faults_now = counted new }

-- the two sources and the output of a call; its notes stand apart, since a command doesn't write them
pub record Seen : Type 0 where
  pub program : Stream
  pub input : Stream
  pub output : Stream

-- these three streams, as those of a call
abbrev pub seen : Stream → Stream → Stream → Seen
seen program input output = record { program = program; input = input; output = output }

-- nothing was taken, and no fault was counted
pub record IsUntouched (s : Stream) : Type 0 where
  pub same : s.now ≡ s.before
  pub steady : s.faults_now ≡ s.faults

-- a source was read to its end: these are its bytes, within the limit, and no fault was counted
pub record IsRead (s : Stream) (limit : ℕ) (bytes : List ℕ) : Type 0 where
  pub all : GaveAll s.before s.now bytes
  pub fits : length bytes ≤ limit
  pub steady : s.faults_now ≡ s.faults

-- one byte more than the limit was taken of a source, and no fault was counted
pub record IsOverrun (s : Stream) (limit : ℕ) : Type 0 where
  pub more : GaveFirst s.before s.now (limit + 1)
  pub steady : s.faults_now ≡ s.faults

-- a source failed and counted it, after it gave some bytes within the limit
pub record HasFailed (s : Stream) (limit : ℕ) : Type 0 where
  pub some : GaveAtMost s.before s.now limit
  pub rose : Rose s.faults s.faults_now

-- a sink took a text whole, and no fault was counted
pub record IsWritten (s : Stream) (text : List ℕ) : Type 0 where
  pub took : TookAll s.before s.now text
  pub steady : s.faults_now ≡ s.faults

-- a sink failed and counted it, after it took the front of a text
pub record IsCut (s : Stream) (text : List ℕ) : Type 0 where
  pub took : TookFirst s.before s.now text
  pub rose : Rose s.faults s.faults_now

-- ---- an input and an output that a command reads and writes by turns; of the input's bytes and of those left this holds
-- neither failed
pub record AreSteady (i o : Stream) (Ran : List ℕ → List ℕ → Type 0) : Type 0 where
  pub input : i.faults_now ≡ i.faults
  pub output : o.faults_now ≡ o.faults
  pub ran : Told i.before i.now Ran

-- the input failed, and the output did not
pub record IsUnread (i o : Stream) (Ran : List ℕ → List ℕ → Type 0) : Type 0 where
  pub input : Rose i.faults i.faults_now
  pub output : o.faults_now ≡ o.faults
  pub ran : Told i.before i.now Ran

-- the output failed, and the input did not
pub record IsUnwritten (i o : Stream) (Ran : List ℕ → List ℕ → Type 0) : Type 0 where
  pub input : i.faults_now ≡ i.faults
  pub output : Rose o.faults o.faults_now
  pub ran : Told i.before i.now Ran
