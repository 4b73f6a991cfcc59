-- The text of a play, read.
use Rattle.std.specs.Prelude.{ℕ, ◌<◌, ◌^◌, Bool, true, false, List, codes, if◌then◌else◌, Option, Some, None, option_map, option_and_then}
use Rattle.std.specs.Str.{bytes_eq}
use Rattle.evl_base.specs.declared.play.Play.{Play}
use Rattle.evl_base.specs.declared.play.Play.TheVariants.{Clock, Timer, Deadline, Line}
use Rattle.evl_scenario.specs.Values.{around_space, number_below, past_front, stage_of, text_number}

-- numbers that fit their fields
abbrev pub PlayFits : Play → Type 0
PlayFits Clock = Unit {0}
PlayFits (Timer timer count missed handled) = (timer.0 < 2 ^ 16) × (count < 2 ^ 64) × (missed < 2 ^ 64)
PlayFits (Deadline thread) = thread.0 < 2 ^ 16
PlayFits (Line line stage count handled) = (line.0 < 2 ^ 16) × (count < 2 ^ 64)

abbrev pub small_read : List ℕ → Option ℕ
small_read text = number_below (2 ^ 16) (text_number text)

-- whether the callback handled its fire
abbrev pub handled_read : List ℕ → Option Bool
handled_read text =
    if bytes_eq text (codes "handled") then Some true
    else if bytes_eq text (codes "none") then Some false
    else None

-- a number after a word, and what follows a space after it
abbrev pub counted_read : List ℕ → List ℕ → Option (ℕ × List ℕ)
counted_read word text =
    option_and_then (λ rest.
    option_and_then (λ (digits, behind).
    option_map (λ n. (n, behind)) (text_number digits)) (around_space rest)) (past_front word text)

abbrev pub timer_read : List ℕ × List ℕ → Option Play
timer_read (digits, rest) =
    option_and_then (λ timer.
    option_and_then (λ (count, behind).
    option_and_then (λ (missed, last).
    option_map (λ handled. Timer (record { 0 = timer }) count missed handled) (handled_read last)) (counted_read (codes "missed ") behind))
    (counted_read (codes "count ") rest)) (small_read digits)

abbrev pub deadline_read : List ℕ → Option Play
deadline_read text = option_map (λ thread. Deadline (record { 0 = thread })) (option_and_then small_read (past_front (codes "T") text))

abbrev pub fire_read : ℕ → List ℕ × List ℕ → Option Play
fire_read line (word, rest) =
    option_and_then (λ stage.
    option_and_then (λ (count, last).
    option_map (λ handled. Line (record { 0 = line }) stage count handled) (handled_read last)) (counted_read (codes "count ") rest)) (stage_of word)

abbrev pub line_read : List ℕ × List ℕ → Option Play
line_read (digits, rest) = option_and_then (λ line. option_and_then (fire_read line) (around_space rest)) (small_read digits)

abbrev pub named_read : List ℕ × List ℕ → Option Play
named_read (word, rest) =
    if bytes_eq word (codes "timer") then option_and_then timer_read (around_space rest)
    else if bytes_eq word (codes "deadline") then deadline_read rest
    else if bytes_eq word (codes "line") then option_and_then line_read (around_space rest)
    else None

-- the play that has this text
abbrev pub play_read : List ℕ → Option Play
play_read text = if bytes_eq text (codes "clock") then Some Clock else option_and_then named_read (around_space text)
