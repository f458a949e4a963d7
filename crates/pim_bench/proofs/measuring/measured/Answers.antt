use Rattle.std.proofs.Common.{subst}
use Rattle.pim_isa.specs.declared.target.Target.TheVariants.{Magic, Plim}
use Rattle.pim_bench.specs.Summaries.{IsCompiled}
use Rattle.pim_bench.proofs.Summed.{summed}
use Rattle.pim_bench.proofs.measuring.measured.Goals as goal

pub returns : goal.returns
returns c =
    let net = c.in_ok-net.net in
    let tight = c.in_ok-tight.tight in
    let plim = c.in_ok-plim.plim in
    record {
      net = net;
      checked = c.in_ok-net.ensures.checked;
      is_adder = c.in_ok-net.ensures.exact;
      wide = c.in_ok-wide.wide;
      is_wide = c.in_ok-wide.ensures.compiled;
      tight = tight;
      is_tight = subst (λ cells. IsCompiled net Magic cells tight) c.in_ok-tight_cells.ensures.need c.in_ok-tight.ensures.compiled;
      plim = plim;
      is_plim = subst (λ cells. IsCompiled net Plim cells plim) c.in_ok-plim_cells.ensures.need c.in_ok-plim.ensures.compiled;
      is = summed c.args.bits c.new-text.result c.add_head.new.text c.add_program.new.text c.add_program-2.new.text c.add_program-3.new.text c.into_bytes.result.items c.in_ok-wide.wide tight plim
          c.new-text.ensures c.in_ok-add_head.ensures c.in_ok-add_program.ensures c.in_ok-add_program-2.ensures c.in_ok-add_program-3.ensures c.into_bytes.ensures;
    }
