use Rattle.std.proofs.Common.{◌≡◌, ℕ, List, ◌++◌, append_assoc}
use Rattle.pim_file.proofs.printing.push_head.Goals as goal

-- three pieces, appended one after another
three_pieces : (old a b c : List ℕ) → ((old ++ a) ++ b) ++ c ≡ old ++ ((a ++ b) ++ c)
three_pieces old a b c = simp append_assoc

pub returns : goal.returns
returns c =
    let grown = rw (c.in_ok-bytes-2.ensures, c.in_ok-bytes.ensures, c.target_name.ensures) at c.counted.ensures in
    rw (← three_pieces) grown
