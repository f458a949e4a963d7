-- A value for each signal.
use Rattle.std.specs.Prelude.{ℕ, ◌==◌, if◌then◌else◌, nat_eq, nat_lt, length, slice_index_or, unwrap_or}
use Rattle.indexmap.specs.IndexMap.{get}
use Rattle.pim_net.specs.declared.signal_table.SignalTable.{SignalTable}

-- the values, with this one at signal s
abbrev pub put : {T : Type 0} → (ℕ → T) → ℕ → T → ℕ → T
put values s value t = if t == s then value else values t

-- the value of a signal by a table: that of its list where it is there, else that of its map, and else the rest's
abbrev pub values : {T : Type 0} → SignalTable T → ℕ → T
values table s = if nat_lt s (length table.first.items) then slice_index_or table.first.items s table.rest else unwrap_or (get nat_eq table.others s) table.rest
