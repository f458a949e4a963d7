use Rattle.std.proofs.Common.{inl, refl}
use Rattle.std.proofs.lemmas.Result.{err_from_is_err_and}
use Rattle.pim_top.specs.Programs.{program_of}
use Rattle.pim_top.specs.commands.Run.{run_by}
use Rattle.pim_top.proofs.RowsFine.{unloaded}
use Rattle.pim_top.proofs.commands.run.execute_rows.Goals as goal

pub returns-in_err-program : goal.returns-in_err-program
returns-in_err-program g c =
    let p = err_from_is_err_and c.from_residual.result c.from_residual.ensures.1 in
    rw (p.1, p.2)
    (inl (record {
      input = record { same = refl; steady = refl };
      output = record { same = refl; steady = refl };
      why = unloaded program_of (run_by c.args.fill) (λ j. refl) _ _ c.in_err-program.ensures.refused;
    }))
