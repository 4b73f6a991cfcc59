-- The calls of steps: for each word its name, its keys and the kind of its answers, the call that it makes of their values,
-- and the word and values of a call. How a step is read and written, and what fits it, is made of these lists.
use Rattle.std.specs.Prelude.{ℕ, false, List, [], ◌∷◌, None, codes}
use Rattle.evl_base.specs.declared.call.Call.{Call}
use Rattle.evl_base.specs.declared.call.Call.TheVariants as make
use Rattle.evl_base.specs.declared.call.StepWord.{StepWord}
use Rattle.evl_base.specs.declared.call.StepWord.TheVariants as word
use Rattle.evl_base.specs.declared.fields.Kind.TheVariants as kind
use Rattle.evl_base.specs.declared.reply.ReplyKind.{ReplyKind}
use Rattle.evl_base.specs.declared.reply.ReplyKind.TheVariants as answer
use Rattle.evl_base.specs.Fields.{Key, Values, Keyed, required_key, optional_key, keyed_values}

-- ---- words

abbrev pub wait_words : List StepWord
wait_words = word.Claim ∷ word.Release ∷ word.Raise ∷ word.Finish ∷ []

abbrev pub buffer_words : List StepWord
buffer_words = word.Write ∷ word.Read ∷ word.Room ∷ word.BeginWrite ∷ word.BeginRead ∷ wait_words

abbrev pub flag_words : List StepWord
flag_words = word.TryTake ∷ word.PostFlags ∷ word.PeekFlags ∷ word.BeginTake ∷ buffer_words

abbrev pub sem_words : List StepWord
sem_words = word.TryGet ∷ word.Put ∷ word.Peek ∷ word.BeginGet ∷ flag_words

abbrev pub thread_words : List StepWord
thread_words = word.Attach ∷ word.Detach ∷ word.SetPolicy ∷ word.SetStage ∷ word.Pick ∷ word.RankOf ∷ sem_words

abbrev pub clock_words : List StepWord
clock_words = word.Tick ∷ word.Now ∷ word.NewTimer ∷ word.StartTimer ∷ word.StopTimer ∷ word.DropTimer ∷ word.Overruns ∷ thread_words

-- all words, by families, each followed by those above
abbrev pub words : List StepWord
words = word.Request ∷ word.Free ∷ word.Arrive ∷ word.Post ∷ word.Stall ∷ word.Unstall ∷ clock_words

-- the name of a word, the keys after `do` and `who`, in the order in which they are written, and the kind of its answers
abbrev pub form_of : StepWord → List ℕ × List Key × ReplyKind
form_of word.Request = (codes "request", required_key kind.Half (codes "line") ∷ required_key kind.Stage (codes "stage") ∷ required_key kind.Byte (codes "callback") ∷ optional_key kind.Word 0 (codes "tag") ∷ [], answer.Done)
form_of word.Free = (codes "free", required_key kind.Half (codes "line") ∷ required_key kind.Stage (codes "stage") ∷ [], answer.Done)
form_of word.Arrive = (codes "arrive", required_key kind.Half (codes "line") ∷ [], answer.Done)
form_of word.Post = (codes "post", required_key kind.Stage (codes "stage") ∷ required_key kind.Half (codes "line") ∷ [], answer.Done)
form_of word.Stall = (codes "stall", required_key kind.Stage (codes "stage") ∷ [], answer.Done)
form_of word.Unstall = (codes "unstall", required_key kind.Stage (codes "stage") ∷ [], answer.Done)
form_of word.Tick = (codes "tick", required_key kind.Number (codes "delta") ∷ [], answer.Done)
form_of word.Now = (codes "now", [], answer.Number)
form_of word.NewTimer = (codes "new_timer", required_key kind.Byte (codes "callback") ∷ optional_key kind.Word 0 (codes "tag") ∷ [], answer.Number)
form_of word.StartTimer = (codes "start_timer", required_key kind.Half (codes "timer") ∷ required_key kind.Number (codes "date") ∷ required_key kind.Number (codes "interval") ∷ [], answer.Done)
form_of word.StopTimer = (codes "stop_timer", required_key kind.Half (codes "timer") ∷ [], answer.Done)
form_of word.DropTimer = (codes "drop_timer", required_key kind.Half (codes "timer") ∷ [], answer.Done)
form_of word.Overruns = (codes "overruns", required_key kind.Half (codes "timer") ∷ [], answer.Number)
form_of word.Attach = (codes "attach", required_key kind.Policy (codes "policy") ∷ required_key kind.Stage (codes "stage") ∷ [], answer.Done)
form_of word.Detach = (codes "detach", [], answer.Done)
form_of word.SetPolicy = (codes "set_policy", required_key kind.Policy (codes "policy") ∷ [], answer.Done)
form_of word.SetStage = (codes "set_stage", required_key kind.Stage (codes "stage") ∷ [], answer.Done)
form_of word.Pick = (codes "pick", [], answer.Chosen)
form_of word.RankOf = (codes "rank_of", required_key kind.Half (codes "thread") ∷ [], answer.Number)
form_of word.TryGet = (codes "try_get", required_key kind.Half (codes "sem") ∷ [], answer.Done)
form_of word.Put = (codes "put", required_key kind.Half (codes "sem") ∷ [], answer.Done)
form_of word.Peek = (codes "peek", required_key kind.Half (codes "sem") ∷ [], answer.Count)
form_of word.BeginGet = (codes "begin_get", required_key kind.Half (codes "sem") ∷ optional_key kind.Until None (codes "until") ∷ [], answer.Begun)
form_of word.TryTake = (codes "try_take", required_key kind.Half (codes "flags") ∷ required_key kind.Take (codes "kind") ∷ [], answer.Bits)
form_of word.PostFlags = (codes "post_flags", required_key kind.Half (codes "flags") ∷ required_key kind.Word (codes "bits") ∷ [], answer.Done)
form_of word.PeekFlags = (codes "peek_flags", required_key kind.Half (codes "flags") ∷ [], answer.Bits)
form_of word.BeginTake = (codes "begin_take", required_key kind.Half (codes "flags") ∷ required_key kind.Take (codes "kind") ∷ optional_key kind.Until None (codes "until") ∷ [], answer.Begun)
form_of word.Write = (codes "write", required_key kind.Half (codes "xbuf") ∷ required_key kind.Way (codes "way") ∷ required_key kind.Bytes (codes "bytes") ∷ [], answer.Done)
form_of word.Read = (codes "read", required_key kind.Half (codes "xbuf") ∷ required_key kind.Way (codes "way") ∷ required_key kind.Half (codes "len") ∷ [], answer.Bytes)
form_of word.Room = (codes "room", required_key kind.Half (codes "xbuf") ∷ required_key kind.Way (codes "way") ∷ [], answer.Number)
form_of word.BeginWrite = (codes "begin_write", required_key kind.Half (codes "xbuf") ∷ required_key kind.Way (codes "way") ∷ required_key kind.Bytes (codes "bytes") ∷ optional_key kind.Until None (codes "until") ∷ [], answer.Begun)
form_of word.BeginRead = (codes "begin_read", required_key kind.Half (codes "xbuf") ∷ required_key kind.Way (codes "way") ∷ required_key kind.Half (codes "len") ∷ optional_key kind.Until None (codes "until") ∷ [], answer.Begun)
form_of word.Claim = (codes "claim", required_key kind.Half (codes "mutex") ∷ required_key kind.Half (codes "owner") ∷ optional_key kind.Until None (codes "until") ∷ [], answer.Begun)
form_of word.Release = (codes "release", required_key kind.Half (codes "mutex") ∷ [], answer.Handed)
form_of word.Raise = (codes "raise", required_key kind.Half (codes "mutex") ∷ [], answer.Done)
form_of word.Finish = (codes "finish", optional_key kind.Truth false (codes "keep") ∷ [], answer.Outcome)

abbrev pub name_of : StepWord → List ℕ
name_of step = (form_of step).0

abbrev pub fields_of : StepWord → List Key
fields_of step = (form_of step).1

abbrev pub answer_of : StepWord → ReplyKind
answer_of step = (form_of step).2

-- ---- calls

-- the call that a word and values make
abbrev pub call_with : (step : StepWord) → Values (fields_of step) → Call
call_with word.Request (line, (stage, (callback, (tag, end)))) = make.Request (record { 0 = line }) stage callback tag
call_with word.Free (line, (stage, end)) = make.Free (record { 0 = line }) stage
call_with word.Arrive (line, end) = make.Arrive (record { 0 = line })
call_with word.Post (stage, (line, end)) = make.Post stage (record { 0 = line })
call_with word.Stall (stage, end) = make.Stall stage
call_with word.Unstall (stage, end) = make.Unstall stage
call_with word.Tick (delta, end) = make.Tick delta
call_with word.Now end = make.Now
call_with word.NewTimer (callback, (tag, end)) = make.NewTimer callback tag
call_with word.StartTimer (timer, (date, (interval, end))) = make.StartTimer (record { 0 = timer }) date interval
call_with word.StopTimer (timer, end) = make.StopTimer (record { 0 = timer })
call_with word.DropTimer (timer, end) = make.DropTimer (record { 0 = timer })
call_with word.Overruns (timer, end) = make.Overruns (record { 0 = timer })
call_with word.Attach (policy, (stage, end)) = make.Attach policy stage
call_with word.Detach end = make.Detach
call_with word.SetPolicy (policy, end) = make.SetPolicy policy
call_with word.SetStage (stage, end) = make.SetStage stage
call_with word.Pick end = make.Pick
call_with word.RankOf (thread, end) = make.RankOf (record { 0 = thread })
call_with word.TryGet (sem, end) = make.TryGet (record { 0 = sem })
call_with word.Put (sem, end) = make.Put (record { 0 = sem })
call_with word.Peek (sem, end) = make.Peek (record { 0 = sem })
call_with word.BeginGet (sem, (until, end)) = make.BeginGet (record { 0 = sem }) until
call_with word.TryTake (flags, (kind, end)) = make.TryTake (record { 0 = flags }) kind
call_with word.PostFlags (flags, (bits, end)) = make.PostFlags (record { 0 = flags }) bits
call_with word.PeekFlags (flags, end) = make.PeekFlags (record { 0 = flags })
call_with word.BeginTake (flags, (kind, (until, end))) = make.BeginTake (record { 0 = flags }) kind until
call_with word.Write (xbuf, (way, (bytes, end))) = make.Write (record { 0 = xbuf }) way bytes
call_with word.Read (xbuf, (way, (len, end))) = make.Read (record { 0 = xbuf }) way len
call_with word.Room (xbuf, (way, end)) = make.Room (record { 0 = xbuf }) way
call_with word.BeginWrite (xbuf, (way, (bytes, (until, end)))) = make.BeginWrite (record { 0 = xbuf }) way bytes until
call_with word.BeginRead (xbuf, (way, (len, (until, end)))) = make.BeginRead (record { 0 = xbuf }) way len until
call_with word.Claim (mutex, (owner, (until, end))) = make.Claim (record { 0 = mutex }) (record { 0 = owner }) until
call_with word.Release (mutex, end) = make.Release (record { 0 = mutex })
call_with word.Raise (mutex, end) = make.Raise (record { 0 = mutex })
call_with word.Finish (keep, end) = make.Finish keep

-- a word with its values
pub data Parts : Type 0 where
  parts : (step : StepWord) → Values (fields_of step) → Parts

abbrev pub word_in : Parts → StepWord
word_in (parts step values) = step

abbrev pub told_by : Parts → List Keyed
told_by (parts step values) = keyed_values (fields_of step) values

-- what makes a call
abbrev pub parts_of : Call → Parts
parts_of (make.Request line stage callback tag) = parts word.Request (line.0, (stage, (callback, (tag, tt))))
parts_of (make.Free line stage) = parts word.Free (line.0, (stage, tt))
parts_of (make.Arrive line) = parts word.Arrive (line.0, tt)
parts_of (make.Post stage line) = parts word.Post (stage, (line.0, tt))
parts_of (make.Stall stage) = parts word.Stall (stage, tt)
parts_of (make.Unstall stage) = parts word.Unstall (stage, tt)
parts_of (make.Tick delta) = parts word.Tick (delta, tt)
parts_of make.Now = parts word.Now tt
parts_of (make.NewTimer callback tag) = parts word.NewTimer (callback, (tag, tt))
parts_of (make.StartTimer timer date interval) = parts word.StartTimer (timer.0, (date, (interval, tt)))
parts_of (make.StopTimer timer) = parts word.StopTimer (timer.0, tt)
parts_of (make.DropTimer timer) = parts word.DropTimer (timer.0, tt)
parts_of (make.Overruns timer) = parts word.Overruns (timer.0, tt)
parts_of (make.Attach policy stage) = parts word.Attach (policy, (stage, tt))
parts_of make.Detach = parts word.Detach tt
parts_of (make.SetPolicy policy) = parts word.SetPolicy (policy, tt)
parts_of (make.SetStage stage) = parts word.SetStage (stage, tt)
parts_of make.Pick = parts word.Pick tt
parts_of (make.RankOf thread) = parts word.RankOf (thread.0, tt)
parts_of (make.TryGet sem) = parts word.TryGet (sem.0, tt)
parts_of (make.Put sem) = parts word.Put (sem.0, tt)
parts_of (make.Peek sem) = parts word.Peek (sem.0, tt)
parts_of (make.BeginGet sem until) = parts word.BeginGet (sem.0, (until, tt))
parts_of (make.TryTake flags kind) = parts word.TryTake (flags.0, (kind, tt))
parts_of (make.PostFlags flags bits) = parts word.PostFlags (flags.0, (bits, tt))
parts_of (make.PeekFlags flags) = parts word.PeekFlags (flags.0, tt)
parts_of (make.BeginTake flags kind until) = parts word.BeginTake (flags.0, (kind, (until, tt)))
parts_of (make.Write xbuf way bytes) = parts word.Write (xbuf.0, (way, (bytes, tt)))
parts_of (make.Read xbuf way len) = parts word.Read (xbuf.0, (way, (len, tt)))
parts_of (make.Room xbuf way) = parts word.Room (xbuf.0, (way, tt))
parts_of (make.BeginWrite xbuf way bytes until) = parts word.BeginWrite (xbuf.0, (way, (bytes, (until, tt))))
parts_of (make.BeginRead xbuf way len until) = parts word.BeginRead (xbuf.0, (way, (len, (until, tt))))
parts_of (make.Claim mutex owner until) = parts word.Claim (mutex.0, (owner.0, (until, tt)))
parts_of (make.Release mutex) = parts word.Release (mutex.0, tt)
parts_of (make.Raise mutex) = parts word.Raise (mutex.0, tt)
parts_of (make.Finish keep) = parts word.Finish (keep, tt)

-- the keys of a call with their values
abbrev pub told_in : Call → List Keyed
told_in call = told_by (parts_of call)
