use Rattle.std.proofs.Common.{◌∙◌, arith}
use Rattle.pim_vectors.proofs.StageLemmas.{byte_within, split_more, split_others}
use Rattle.pim_vectors.proofs.eights.split.Goals as goal

pub loop-eight-preserved : goal.loop-eight-preserved
loop-eight-preserved c =
    let before = c.loop-eight.invariant in
    record {
      done = split_more c.args.columns c.loop-eight.bytes c.args.column c.loop-eight.eight c.args.word c.byte_of.result c.requires.column
          (byte_within c.args.columns c.args.column c.loop-eight.eight _ c.requires.column (omega arith) (omega arith)) c.byte_of.ensures before.done;
      others = λ k r small apart row.
          split_others c.args.columns c.loop-eight.bytes c.args.column c.loop-eight.eight c.byte_of.result c.requires.column k r small apart ∙ before.others k r small apart row;
    }
