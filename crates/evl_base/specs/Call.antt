-- The text of a call: its step word, then each key with its value.
use Rattle.std.specs.Prelude.{ℕ, List, ◌++◌}
use Rattle.evl_base.specs.Calls.{name_of, parts_of, told_in, word_in}
use Rattle.evl_base.specs.Fields.{keys_text}
use Rattle.evl_base.specs.declared.call.Call.{Call}
use Rattle.evl_base.specs.declared.call.Call.TheVariants.{Write, BeginWrite}

-- the step word of a call
abbrev pub call_word : Call → List ℕ
call_word call = name_of (word_in (parts_of call))

-- rule: A call's text is its step word and, for each key in order, ` key=value`.
--   clauses: put_call; fields_in; step_word; numbered_word; kind_named
--   rows: calls_are_appended; buffer_calls_have_their_texts; buffer_waits_have_their_texts;
--   flag_calls_have_their_texts; mutex_calls_have_their_texts; waits_have_their_texts
abbrev pub call_text : Call → List ℕ
call_text call = call_word call ++ keys_text (told_in call)

-- how many boxes its bytes take
abbrev pub boxes_in_call : Call → ℕ
boxes_in_call (Write xbuf way bytes) = 1
boxes_in_call (BeginWrite xbuf way bytes until) = 1
boxes_in_call _ = 0
