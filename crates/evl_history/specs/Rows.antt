-- All that a row of a history says: its entry.
use Rattle.std.specs.Prelude.{ℕ, Bool, ◌≡◌, ◌+◌, ◌≤◌, ◌<◌, List, [], ◌∷◌, length, slice_index_or, slice_range, Option, None, Some, Result, Ok, Err, true, false, ⊤}
use Rattle.arrayvec.specs.ArrayVec.{ArrayVec}
use Rattle.evl_base.specs.declared.call.Call.{Call}
use Rattle.evl_base.specs.declared.call.Call.TheVariants as call
use Rattle.evl_base.specs.declared.entry.Entry.{Entry}
use Rattle.evl_base.specs.declared.refusal.Refusal.{Refusal}
use Rattle.evl_base.specs.declared.refusal.Refusal.TheVariants as refusal
use Rattle.evl_base.specs.declared.reply.Reply.{Reply}
use Rattle.evl_base.specs.declared.reply.Reply.TheVariants as reply
use Rattle.evl_base.specs.declared.reply.Reply.TheVariants.{Number, Bytes, Chosen, Handed}
use Rattle.evl_history.specs.declared.row.Brief.{Brief}
use Rattle.evl_history.specs.declared.row.Brief.TheVariants as brief
use Rattle.evl_history.specs.declared.row.Head.{Head}
use Rattle.evl_history.specs.declared.row.Row.{Row}
use Rattle.evl_history.specs.declared.row.Row.TheVariants as row

-- the answer that a byte holds
abbrev pub told : Brief → Result Reply Refusal
told brief.Done = Ok reply.Done
told brief.Begun = Ok reply.Begun
told brief.TimedOut = Ok reply.TimedOut
told brief.NobodyChosen = Ok (Chosen None)
told brief.NobodyNext = Ok (Handed None false)
told brief.Unknown = Err refusal.Unknown
told brief.Invalid = Err refusal.Invalid
told brief.Again = Err refusal.Again
told brief.Busy = Err refusal.Busy
told brief.NotOwner = Err refusal.NotOwner
told brief.Deadlock = Err refusal.Deadlock
told brief.Limit = Err refusal.Limit
told brief.Range = Err refusal.Range
told brief.TooBig = Err refusal.TooBig
told brief.WrongStage = Err refusal.WrongStage

-- whether an answer is bytes
abbrev pub has_bytes : Reply → Bool
has_bytes (Bytes bytes) = true
has_bytes _ = false

-- an entry of the one that a head names, with its number of plays
abbrev pub entry : Head → Call → Result Reply Refusal → Entry
entry head asked answer = record { caller = record { 0 = head.caller }; call = asked; reply = answer; plays = head.plays }

-- these bytes as those of a transfer
abbrev pub transfer : List ℕ → ArrayVec ℕ
transfer bytes = record { items = bytes }

-- so many bytes from a place on
abbrev pub span : List ℕ → ℕ → ℕ → ArrayVec ℕ
span bytes start long = transfer (slice_range bytes start (start + long))

abbrev pub nothing : Entry
nothing = record { caller = record { 0 = 0 }; call = call.Now; reply = Ok reply.Done; plays = 0 }

-- the entry at a place of the wide list
abbrev pub wide_at : List Entry → ℕ → Entry
wide_at wide place = slice_index_or wide place nothing

-- an entry with bytes in the place of its answer
abbrev pub answering : ArrayVec ℕ → Entry → Entry
answering read e = record { caller = e.caller; call = e.call; reply = Ok (Bytes read); plays = e.plays }

-- rule: The bytes of a row are those that were entered with it.
--   also: Rows.span
--   clauses: History::{push, push_transfer, get}
-- the entry of a row, over the wide list and the bytes of all rows
abbrev pub decode : List Entry → List ℕ → Row → Entry
decode wide bytes (row.Wide place) = wide_at wide place
decode wide bytes (row.WideBytes long place start) = answering (span bytes start long) (wide_at wide place)
decode wide bytes (row.Free answer head line stage) = entry head (call.Free line stage) (told answer)
decode wide bytes (row.Arrive answer head line) = entry head (call.Arrive line) (told answer)
decode wide bytes (row.Post answer head line stage) = entry head (call.Post stage line) (told answer)
decode wide bytes (row.Stall answer head stage) = entry head (call.Stall stage) (told answer)
decode wide bytes (row.Unstall answer head stage) = entry head (call.Unstall stage) (told answer)
decode wide bytes (row.Tick answer head delta) = entry head (call.Tick delta) (told answer)
decode wide bytes (row.Date head date) = entry head call.Now (Ok (Number date))
decode wide bytes (row.StopTimer answer head timer) = entry head (call.StopTimer timer) (told answer)
decode wide bytes (row.Detach answer head) = entry head call.Detach (told answer)
decode wide bytes (row.SetStage answer head stage) = entry head (call.SetStage stage) (told answer)
decode wide bytes (row.Pick answer head) = entry head call.Pick (told answer)
decode wide bytes (row.Picked head thread) = entry head call.Pick (Ok (Chosen (Some thread)))
decode wide bytes (row.RankOf answer head thread) = entry head (call.RankOf thread) (told answer)
decode wide bytes (row.Rank head thread rank) = entry head (call.RankOf thread) (Ok (Number rank))
decode wide bytes (row.TryGet answer head sem) = entry head (call.TryGet sem) (told answer)
decode wide bytes (row.Put answer head sem) = entry head (call.Put sem) (told answer)
decode wide bytes (row.Count head sem count) = entry head (call.Peek sem) (Ok (reply.Count count))
decode wide bytes (row.BeginGet answer head sem) = entry head (call.BeginGet sem None) (told answer)
decode wide bytes (row.BeginGetUntil answer head sem date) = entry head (call.BeginGet sem (Some date)) (told answer)
decode wide bytes (row.TryTake answer head flags kind) = entry head (call.TryTake flags kind) (told answer)
decode wide bytes (row.PostFlags answer head flags bits) = entry head (call.PostFlags flags bits) (told answer)
decode wide bytes (row.Bits head flags bits) = entry head (call.PeekFlags flags) (Ok (reply.Bits bits))
decode wide bytes (row.BeginTake answer head flags kind) = entry head (call.BeginTake flags kind None) (told answer)
decode wide bytes (row.Write answer head xbuf way long start) = entry head (call.Write xbuf way (span bytes start long)) (told answer)
decode wide bytes (row.Read answer head xbuf way len) = entry head (call.Read xbuf way len) (told answer)
decode wide bytes (row.ReadBytes head way xbuf len long start) = entry head (call.Read xbuf way len) (Ok (Bytes (span bytes start long)))
decode wide bytes (row.Room head way xbuf free) = entry head (call.Room xbuf way) (Ok (Number free))
decode wide bytes (row.BeginWrite answer head xbuf way long start) = entry head (call.BeginWrite xbuf way (span bytes start long) None) (told answer)
decode wide bytes (row.BeginRead answer head xbuf way len) = entry head (call.BeginRead xbuf way len None) (told answer)
decode wide bytes (row.Claim answer head mutex owner) = entry head (call.Claim mutex owner None) (told answer)
decode wide bytes (row.ClaimUntil answer head mutex owner date) = entry head (call.Claim mutex owner (Some date)) (told answer)
decode wide bytes (row.Release answer head mutex) = entry head (call.Release mutex) (told answer)
decode wide bytes (row.HandedOn head mutex next more) = entry head (call.Release mutex) (Ok (Handed (Some next) more))
decode wide bytes (row.Raise answer head mutex) = entry head (call.Raise mutex) (told answer)
decode wide bytes (row.Finish answer head keep) = entry head (call.Finish keep) (told answer)
decode wide bytes (row.FinishBits head keep bits) = entry head (call.Finish keep) (Ok (reply.Bits bits))
decode wide bytes (row.FinishBytes head keep long start) = entry head (call.Finish keep) (Ok (Bytes (span bytes start long)))

-- the bytes of one transfer are there
abbrev pub IsThere : List ℕ → ℕ → ℕ → Type 0
IsThere bytes start long = (start + long ≤ length bytes) × (long ≤ 256)

-- what a row names is there
abbrev pub IsWithin : List Entry → List ℕ → Row → Type 0
IsWithin wide bytes (row.Wide place) = place < length wide
IsWithin wide bytes (row.WideBytes long place start) = (place < length wide) × IsThere bytes start long
IsWithin wide bytes (row.Write answer head xbuf way long start) = IsThere bytes start long
IsWithin wide bytes (row.ReadBytes head way xbuf len long start) = IsThere bytes start long
IsWithin wide bytes (row.BeginWrite answer head xbuf way long start) = IsThere bytes start long
IsWithin wide bytes (row.FinishBytes head keep long start) = IsThere bytes start long
IsWithin wide bytes _ = ⊤

abbrev pub AreWithin : List Entry → List ℕ → List Row → Type 0
AreWithin wide bytes [] = ⊤
AreWithin wide bytes (row ∷ rows) = IsWithin wide bytes row × AreWithin wide bytes rows

-- a row that is the row of this entry over any wide list and bytes
abbrev pub Codes : Row → Entry → Type 0
Codes row e = (wide : List Entry) → (bytes : List ℕ) → IsWithin wide bytes row × (decode wide bytes row ≡ e)

-- whether a row has all of its entry in itself
abbrev pub is_short : Row → Bool
is_short (row.Wide place) = false
is_short (row.WideBytes long place start) = false
is_short (row.Write answer head xbuf way long start) = false
is_short (row.ReadBytes head way xbuf len long start) = false
is_short (row.BeginWrite answer head xbuf way long start) = false
is_short (row.FinishBytes head keep long start) = false
is_short _ = true

-- whether its answer is a number, bits or a thread
abbrev pub has_number : Row → Bool
has_number (row.Date head date) = true
has_number (row.Picked head thread) = true
has_number (row.Rank head thread rank) = true
has_number (row.Count head sem count) = true
has_number (row.Bits head flags bits) = true
has_number (row.Room head way xbuf free) = true
has_number (row.HandedOn head mutex next more) = true
has_number (row.FinishBits head keep bits) = true
has_number _ = false

-- whether it is of the beginning of a wait, or its answer is a number, bits or a thread
abbrev pub is_late : Row → Bool
is_late (row.BeginGet answer head sem) = true
is_late (row.BeginGetUntil answer head sem date) = true
is_late (row.BeginTake answer head flags kind) = true
is_late (row.BeginRead answer head xbuf way len) = true
is_late (row.Claim answer head mutex owner) = true
is_late (row.ClaimUntil answer head mutex owner date) = true
is_late r = has_number r
