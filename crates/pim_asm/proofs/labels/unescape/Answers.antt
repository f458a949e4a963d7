use Rattle.std.proofs.Common.{◌≡◌, ◌+◌, ◌<◌, ℕ, List, true, ◌∷◌, ap, sym, ◌∙◌, ◌++◌, [], length, option_map, arith}
use Rattle.pim_asm.specs.Labels.{is_clear, unescaped, Between}
use Rattle.pim_asm.proofs.LabelLemmas.{clear_more, escape_more}
use Rattle.pim_asm.proofs.labels.unescape.Goals as goal

pub loop-b-preserved-then-is_clear : goal.loop-b-preserved-then-is_clear
loop-b-preserved-then-is_clear c =
    let b = c.in-Some.b.now in
    let tail = c.in-Some.tail.now in
    let bytes = c.loop-b.bytes.items in
    let cut : c.loop-b.rest.now ≡ b ∷ tail = c.in-Some.ensures.cases.0 in
    let pushed : c.push.new.self.items ≡ bytes ++ b ∷ [] = c.in_ok-push.ensures.items in
    let clear : is_clear b ≡ true = sym c.is_clear.ensures ∙ c.if-is_clear.true in
    ap (λ (t : List ℕ). option_map (λ (more : List ℕ). t ++ more) (unescaped Between tail)) pushed ∙ clear_more bytes tail b clear
    ∙ ap (λ (t : List ℕ). option_map (λ (more : List ℕ). bytes ++ more) (unescaped Between t)) (sym cut) ∙ c.loop-b.invariant

pub loop-b-smaller : goal.loop-b-smaller
loop-b-smaller c =
    let tail : length c.in-Some.tail.now + 1 ≡ length c.loop-b.rest.now = c.in-Some.ensures.cases.1 in
    let behind : length c.in-Some-escape.behind.now < length c.in-Some.tail.now = c.in-Some-escape.ensures.shorter in
    let less : length c.in-Some-escape.behind.now < length c.loop-b.rest.now = omega arith in
    less

pub loop-b-preserved : goal.loop-b-preserved
loop-b-preserved c =
    let tail = c.in-Some.tail.now in
    let behind = c.in-Some-escape.behind.now in
    let byte = c.in-Some-escape.byte in
    let bytes = c.loop-b.bytes.items in
    let slash : c.in-Some.b.now ≡ 92 = c.if-b-eq92.true in
    let cut : c.loop-b.rest.now ≡ 92 ∷ tail = c.in-Some.ensures.cases.0 ∙ ap (λ (b : ℕ). b ∷ tail) slash in
    let pushed : c.push-then-b-eq92.new.self.items ≡ bytes ++ byte ∷ [] = c.in_ok-push-2.ensures.items in
    ap (λ (t : List ℕ). option_map (λ (more : List ℕ). t ++ more) (unescaped Between behind)) pushed ∙ escape_more bytes tail behind byte c.in-Some-escape.ensures.byte
    ∙ ap (λ (t : List ℕ). option_map (λ (more : List ℕ). bytes ++ more) (unescaped Between t)) (sym cut) ∙ c.loop-b.invariant
