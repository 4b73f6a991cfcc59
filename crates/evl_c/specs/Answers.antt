-- C's view of answers and plays.
use Rattle.std.specs.Prelude.{ℕ, ℤ, pos, negsuc, Bool, true, false, List, [], length, Option, Some, None, Result, Ok, Err}
use Rattle.evl_base.specs.Refusal.{number_of}
use Rattle.evl_base.specs.declared.numbers.ThreadId.{ThreadId}
use Rattle.evl_base.specs.declared.play.Play.{Play}
use Rattle.evl_base.specs.declared.play.Play.TheVariants.{Clock, Timer, Deadline, Line}
use Rattle.evl_base.specs.declared.refusal.Refusal.{Refusal}
use Rattle.evl_base.specs.declared.reply.Reply.{Reply}
use Rattle.evl_base.specs.declared.reply.Reply.TheVariants.{Done, Begun, Count, Bits, Number, Bytes, Chosen, Handed, TimedOut}
use Rattle.evl_base.specs.declared.stage.Stage.{Stage}
use Rattle.evl_base.specs.declared.stage.Stage.TheVariants.{Inband, Oob}
use Rattle.evl_c.specs.declared.answers.AnswerForm.{AnswerForm}
use Rattle.evl_c.specs.declared.answers.PlayForm.{PlayForm}

-- the number of a thread, -1 where there is none
abbrev pub thread_number : Option ThreadId → ℤ
thread_number None = negsuc 0
thread_number (Some thread) = pos thread.0

abbrev pub stage_number : Stage → ℕ
stage_number Inband = 0
stage_number Oob = 1

-- the number of a reply's kind
abbrev pub kind_number : Reply → ℕ
kind_number Done = 1
kind_number Begun = 2
kind_number (Count count) = 3
kind_number (Bits bits) = 4
kind_number (Number number) = 5
kind_number (Bytes bytes) = 6
kind_number (Chosen thread) = 7
kind_number (Handed next more) = 8
kind_number TimedOut = 9

-- the thread that a reply names
abbrev pub thread_of : Reply → Option ThreadId
thread_of (Chosen thread) = thread
thread_of (Handed next more) = next
thread_of _ = None

abbrev pub has_more : Reply → Bool
has_more (Handed next more) = more
has_more _ = false

abbrev pub count_of : Reply → ℤ
count_of (Count count) = count
count_of _ = pos 0

-- the number that a reply brings: of bytes how many they are
abbrev pub value_of : Reply → ℕ
value_of (Bits bits) = bits
value_of (Number number) = number
value_of (Bytes bytes) = length bytes.items
value_of _ = 0

abbrev pub reply_form : Reply → AnswerForm
reply_form reply = record {
  refusal = 0;
  kind = kind_number reply;
  more = has_more reply;
  thread = thread_number (thread_of reply);
  count = count_of reply;
  number = value_of reply;
  first_play = 0;
  plays = 0;
}

-- what C learns of a refused call
abbrev pub refused_form : Refusal → AnswerForm
refused_form refusal = record {
  refusal = number_of refusal;
  kind = 0;
  more = false;
  thread = negsuc 0;
  count = pos 0;
  number = 0;
  first_play = 0;
  plays = 0;
}

abbrev pub outcome_form : Result Reply Refusal → AnswerForm
outcome_form (Ok reply) = reply_form reply
outcome_form (Err refusal) = refused_form refusal

-- what C learns of an answer, with the index of its first play and how many plays it made
abbrev pub answer_form : Result Reply Refusal → ℕ → ℕ → AnswerForm
answer_form answer first_play plays = record (outcome_form answer) { first_play = first_play; plays = plays }

-- what C learns where nothing was called, for this status
abbrev pub not_called : ℕ → AnswerForm
not_called status = record {
  refusal = 0;
  kind = 255;
  more = false;
  thread = negsuc 0;
  count = pos 0;
  number = status;
  first_play = 0;
  plays = 0;
}

-- the bytes that an answer brings
abbrev pub bytes_of : Result Reply Refusal → List ℕ
bytes_of (Ok (Bytes bytes)) = bytes.items
bytes_of _ = []

-- what C learns of a play
abbrev pub play_form : Play → PlayForm
play_form Clock = record { kind = 0; stage = 0; handled = false; element = 0; count = 0; missed = 0 }
play_form (Timer timer count missed handled) = record { kind = 1; stage = 0; handled = handled; element = timer.0; count = count; missed = missed }
play_form (Deadline thread) = record { kind = 2; stage = 0; handled = false; element = thread.0; count = 0; missed = 0 }
play_form (Line line stage count handled) = record { kind = 3; stage = stage_number stage; handled = handled; element = line.0; count = count; missed = 0 }
