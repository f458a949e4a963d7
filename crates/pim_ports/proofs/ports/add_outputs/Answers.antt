use Rattle.std.proofs.Common.{◌≡◌, ◌<◌, ◌+◌, ◌++◌, List, ℕ, [], ◌∷◌, ◌∙◌, ap, length, take, arith, append_assoc}
use Rattle.std.proofs.lemmas.List.{take_more}
use Rattle.std.proofs.lemmas.Option.{get_or_from_slice_get, slice_get_within}
use Rattle.pim_ports.proofs.ports.add_outputs.Goals as goal

pub loop-k-preserved : goal.loop-k-preserved
loop-k-preserved c =
    let labels = c.args.net.now.output_labels in
    let within : c.loop-k.k < length labels = slice_get_within labels c.loop-k.k c.output_label.result.now c.output_label.ensures.label in
    let more : take (c.loop-k.k + 1) labels ≡ take c.loop-k.k labels ++ c.output_label.result.now ∷ [] =
    take_more labels c.loop-k.k [] within
    ∙ ap (λ (l : List ℕ). take c.loop-k.k labels ++ l ∷ []) (get_or_from_slice_get labels c.loop-k.k c.output_label.result.now [] c.output_label.ensures.label) in
    grind (arith, append_assoc, more)
