use Rattle.std.proofs.Common.{ℕ, List, ◌++◌, Option, Ok, Err, refl, ◌∙◌}
use Rattle.pim_io.specs.declared.sink.SinkFault.{SinkFault}
use Rattle.pim_io.specs.Outside.{Wrote}
use Rattle.pim_io.specs.Writes.{Written}
use Rattle.pim_io.proofs.Wholes.{TookAll-none, TookAll-append, TookFirst-append, TookFirst-then}
use Rattle.pim_io.proofs.writing.tell_writes.Goals as goal

both : (a b c : Option (List ℕ)) (f g h : ℕ) (result : Written) (first second : List ℕ) →
    Wrote {E = SinkFault} (Ok (tt {0})) a b f g first → Wrote result b c g h second → Wrote result a c f h (first ++ second)
both a b c f g h (Ok x) first second before now = (TookAll-append a b c first second before.0 now.0, now.1 ∙ before.1)
both a b c f g h (Err e) first second before now = (TookFirst-then a b c first second before.0 now.0, rw (← before.1) now.1)

pub returns : goal.returns
returns c = record {
  none = λ taken faults. (TookAll-none taken, refl);
  both = both;
  failed = λ a b f g fault first second wrote. (TookFirst-append a b first second wrote.0, wrote.1);
}
