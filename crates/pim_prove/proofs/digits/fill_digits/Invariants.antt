use Rattle.std.proofs.Common.{◌≡◌, ℕ, ◌+◌, ◌*◌, ◌<◌, get_or}
use Rattle.pim_io.specs.Lanes.{is_set}
use Rattle.pim_prove.proofs.digits.fill_digits.Given as goal

-- the words so far have their digits
abbrev pub invariant-loop-place : goal.invariant-loop-place
invariant-loop-place l =
    (j : ℕ) → j < l.place → (r : ℕ) → r < 64 → is_set (get_or l.column j 0) r ≡ is_set (64 * (l.start + j) + r) l.k
