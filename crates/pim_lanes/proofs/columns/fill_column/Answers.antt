use Rattle.std.proofs.Common.{◌≡◌, ℕ, length, replicate, refl, sym, ap, ◌∙◌}
use Rattle.pim_lanes.proofs.ColumnLemmas.{column_in_slice, length-column_in, put_target, put_others}
use Rattle.pim_lanes.proofs.columns.fill_column.Goals as goal

-- how many words are filled
count : (c : goal.After-slice_known-2-1) → length c.fill.new.self ≡ c.args.words
count c = c.fill.ensures.len ∙ ap length (column_in_slice c.args.words c.args.buffer.now c.args.t _ refl) ∙ length-column_in c.args.words c.args.buffer.now c.args.t c.requires

pub returns-clause-target : goal.returns-clause-target
returns-clause-target c =
    put_target c.args.words c.args.t _ c.args.buffer.now c.fill.new.self refl c.requires (count c)
    ∙ c.fill.ensures.after (λ y same. same)
    ∙ ap (λ (n : ℕ). replicate n c.args.word) (sym c.fill.ensures.len ∙ count c)

pub returns-clause-others : goal.returns-clause-others
returns-clause-others c = put_others c.args.words c.args.t _ c.args.buffer.now c.fill.new.self refl c.requires (count c)
