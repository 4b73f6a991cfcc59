-- How many there are at most.
use Rattle.std.specs.Prelude.{ℕ, ◌+◌, ◌*◌}
use Rattle.evl_base.specs.Limits.{line_limit, thread_limit}
use Rattle.evl_clock.specs.Limits.{timer_count}

-- the callbacks of a bank
abbrev pub callback_limit : ℕ
callback_limit = 64

-- the entries of a history
abbrev pub history_limit : ℕ
history_limit = 1000000

-- the in-band plays of one call
abbrev pub inband_limit : ℕ
inband_limit = 64

-- the plays of one call: five for each in-band one, and one for each line, each timer and each deadline; so 4736
abbrev pub play_limit : ℕ
play_limit = 5 * inband_limit + line_limit + timer_count + thread_limit
