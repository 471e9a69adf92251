-- The context variables at the start of a slice (9.3.1.1).
use Rattle.std.specs.Prelude.{ℕ, ◌-◌, ◌/◌, min, max, nat_lt, ℤ, pos, negsuc, ◌+ℤ◌, ◌*ℤ◌, Bool, true, false, if◌then◌else◌}
use Rattle.init_table.specs.InitTable.{pair_of}
use Rattle.init_table.specs.declared.table.InitTable.{InitTable}

-- a number shifted to the right by four bits, which rounds down
abbrev pub shifted : ℤ → ℤ
shifted (pos n) = pos (n / 16)
shifted (negsuc n) = negsuc (n / 16)

-- Clip3(1, 126, x)
abbrev pub clipped : ℤ → ℕ
clipped (pos n) = max 1 (min 126 n)
clipped (negsuc n) = 1

-- preCtxState of a pair (m, n), where qp is SliceQP, which is in 0 to 51
abbrev pub pre_state : ℤ × ℤ → ℕ → ℕ
pre_state pair qp = clipped (shifted (pair.0 *ℤ pos qp) +ℤ pair.1)

-- pStateIdx and valMPS
abbrev pub start_of : ℤ × ℤ → ℕ → ℕ × Bool
start_of pair qp = if nat_lt (pre_state pair qp) 64 then (63 - pre_state pair qp, false) else (pre_state pair qp - 64, true)

-- the states of the contexts at the start of a slice, by the pairs of a column
abbrev pub starting_states : InitTable → ℕ → ℕ → ℕ → ℕ × Bool
starting_states init qp column ctx = start_of (pair_of init ctx column) qp
