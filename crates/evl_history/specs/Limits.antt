-- How much there is at most.
use Rattle.std.specs.Prelude.{ℕ}

-- the entries of a history
abbrev pub entry_limit : ℕ
entry_limit = 1000000

-- the bytes of one entry: those of one transfer
abbrev pub transfer_limit : ℕ
transfer_limit = 256
