-- Writes that follow one another.
use Rattle.std.specs.Prelude.{ℕ, List, [], ◌++◌, Option, Result, Ok, Err}
use Rattle.pim_io.specs.declared.sink.SinkFault.{SinkFault}
use Rattle.pim_io.specs.Outside.{Wrote}

-- what a function that only writes returns
abbrev pub Written : Type 0
Written = Result (Unit {0}) SinkFault

-- no write writes no text; one write after another writes their texts, one behind the other; and a failed write took a front
-- of each text that begins with its own
pub record WritesAddUp : Type 0 where
  pub none : (taken : Option (List ℕ)) (faults : ℕ) → Wrote {E = SinkFault} (Ok (tt {0})) taken taken faults faults []
  pub both : (a b c : Option (List ℕ)) (f g h : ℕ) (result : Written) (first second : List ℕ) →
      Wrote {E = SinkFault} (Ok (tt {0})) a b f g first → Wrote result b c g h second → Wrote result a c f h (first ++ second)
  pub failed : (a b : Option (List ℕ)) (f g : ℕ) (fault : SinkFault) (first second : List ℕ) →
      Wrote {A = Unit {0}} (Err fault) a b f g first → Wrote {A = Unit {0}} (Err fault) a b f g (first ++ second)
