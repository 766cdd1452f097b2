-- The head of a name: its length, its first bytes and its last ones.
use Rattle.std.specs.Prelude.{ℕ, ◌-◌, List, length, take, drop, nat_lt, if◌then◌else◌}
use Rattle.std.specs.Int.{w64, from_le_bytes}
use Rattle.olk_spec.specs.Names.{Name}
use Rattle.olk_base.specs.declared.names.KeyHead.{KeyHead}

-- up to eight bytes as a number, the lowest byte first
unfoldable pub low_first : List ℕ → ℕ
low_first bs = from_le_bytes w64 bs

-- up to 3 bytes stand whole in `first`; from 4 on four bytes stand at either end, and from 8 on eight
abbrev pub head_of : Name → KeyHead
head_of n =
    if nat_lt (length n) 4 then record { len = length n; first = low_first n; last = 0 }
    else if nat_lt (length n) 8 then record { len = length n; first = low_first (take 4 n); last = low_first (drop (length n - 4) n) }
    else record { len = length n; first = low_first (take 8 n); last = low_first (drop (length n - 8) n) }
