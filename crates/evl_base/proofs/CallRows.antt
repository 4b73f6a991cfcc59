-- The text of each call, computed from the list: a row for each.
use Rattle.std.proofs.Common.{◌≡◌, true, [], map, Some, None, codes, refl}
use Rattle.std.specs.Fmt.{digits}
use Rattle.evl_base.specs.Call.{call_text}
use Rattle.evl_base.specs.Calls.{fields_of, words}
use Rattle.evl_base.specs.Fields.{kind_named}
use Rattle.evl_base.specs.declared.call.Call.TheVariants.{Request, Free, Arrive, Post, Stall, Unstall, Tick, Now, NewTimer, StartTimer, StopTimer, DropTimer, Overruns, Attach, Detach, SetPolicy, SetStage, Pick, RankOf, TryGet, Put, Peek, BeginGet, TryTake, PostFlags, PeekFlags, BeginTake, Write, Read, Room, BeginWrite, BeginRead, Claim, Release, Raise, Finish}
use Rattle.evl_base.specs.declared.policy.Policy.TheVariants.{Fifo, Weak}
use Rattle.evl_base.specs.declared.stage.Stage.TheVariants.{Inband, Oob}
use Rattle.evl_base.specs.declared.take.Take.TheVariants.{Any, Of}
use Rattle.evl_base.specs.declared.way.Way.TheVariants.{In, Out}

request-text : call_text (Request (record { 0 = 3 }) Oob 2 7) ≡ codes "request line=3 stage=oob callback=2 tag=7"
unfolding digits
request-text = refl

free-text : call_text (Free (record { 0 = 3 }) Oob) ≡ codes "free line=3 stage=oob"
unfolding digits
free-text = refl

arrive-text : call_text (Arrive (record { 0 = 3 })) ≡ codes "arrive line=3"
unfolding digits
arrive-text = refl

post-text : call_text (Post Inband (record { 0 = 3 })) ≡ codes "post stage=inband line=3"
unfolding digits
post-text = refl

stall-text : call_text (Stall Oob) ≡ codes "stall stage=oob"
unfolding digits
stall-text = refl

unstall-text : call_text (Unstall Inband) ≡ codes "unstall stage=inband"
unfolding digits
unstall-text = refl

tick-text : call_text (Tick 1000) ≡ codes "tick delta=1000"
unfolding digits
tick-text = refl

now-text : call_text Now ≡ codes "now"
unfolding digits
now-text = refl

new_timer-text : call_text (NewTimer 2 7) ≡ codes "new_timer callback=2 tag=7"
unfolding digits
new_timer-text = refl

start_timer-text : call_text (StartTimer (record { 0 = 1 }) 500 20) ≡ codes "start_timer timer=1 date=500 interval=20"
unfolding digits
start_timer-text = refl

stop_timer-text : call_text (StopTimer (record { 0 = 1 })) ≡ codes "stop_timer timer=1"
unfolding digits
stop_timer-text = refl

drop_timer-text : call_text (DropTimer (record { 0 = 1 })) ≡ codes "drop_timer timer=1"
unfolding digits
drop_timer-text = refl

overruns-text : call_text (Overruns (record { 0 = 1 })) ≡ codes "overruns timer=1"
unfolding digits
overruns-text = refl

attach-text : call_text (Attach (Fifo 5) Oob) ≡ codes "attach policy=fifo 5 stage=oob"
unfolding digits
attach-text = refl

detach-text : call_text Detach ≡ codes "detach"
unfolding digits
detach-text = refl

set_policy-text : call_text (SetPolicy (Weak 0)) ≡ codes "set_policy policy=weak 0"
unfolding digits
set_policy-text = refl

set_stage-text : call_text (SetStage Inband) ≡ codes "set_stage stage=inband"
unfolding digits
set_stage-text = refl

pick-text : call_text Pick ≡ codes "pick"
unfolding digits
pick-text = refl

rank_of-text : call_text (RankOf (record { 0 = 4 })) ≡ codes "rank_of thread=4"
unfolding digits
rank_of-text = refl

try_get-text : call_text (TryGet (record { 0 = 6 })) ≡ codes "try_get sem=6"
unfolding digits
try_get-text = refl

put-text : call_text (Put (record { 0 = 6 })) ≡ codes "put sem=6"
unfolding digits
put-text = refl

peek-text : call_text (Peek (record { 0 = 6 })) ≡ codes "peek sem=6"
unfolding digits
peek-text = refl

begin_get-text : call_text (BeginGet (record { 0 = 6 }) None) ≡ codes "begin_get sem=6 until=none"
unfolding digits
begin_get-text = refl

try_take-text : call_text (TryTake (record { 0 = 0 }) Any) ≡ codes "try_take flags=0 kind=any"
unfolding digits
try_take-text = refl

post_flags-text : call_text (PostFlags (record { 0 = 0 }) 9) ≡ codes "post_flags flags=0 bits=9"
unfolding digits
post_flags-text = refl

peek_flags-text : call_text (PeekFlags (record { 0 = 0 })) ≡ codes "peek_flags flags=0"
unfolding digits
peek_flags-text = refl

begin_take-text : call_text (BeginTake (record { 0 = 0 }) (Of 9) (Some 80)) ≡ codes "begin_take flags=0 kind=of 9 until=80"
unfolding digits
begin_take-text = refl

write-text : call_text (Write (record { 0 = 1 }) In (record { items = [] })) ≡ codes "write xbuf=1 way=in bytes=-"
unfolding digits
write-text = refl

read-text : call_text (Read (record { 0 = 1 }) Out 8) ≡ codes "read xbuf=1 way=out len=8"
unfolding digits
read-text = refl

room-text : call_text (Room (record { 0 = 1 }) In) ≡ codes "room xbuf=1 way=in"
unfolding digits
room-text = refl

begin_write-text : call_text (BeginWrite (record { 0 = 1 }) In (record { items = [] }) (Some 80)) ≡ codes "begin_write xbuf=1 way=in bytes=- until=80"
unfolding digits
begin_write-text = refl

begin_read-text : call_text (BeginRead (record { 0 = 1 }) Out 8 None) ≡ codes "begin_read xbuf=1 way=out len=8 until=none"
unfolding digits
begin_read-text = refl

claim-text : call_text (Claim (record { 0 = 2 }) (record { 0 = 4 }) (Some 80)) ≡ codes "claim mutex=2 owner=4 until=80"
unfolding digits
claim-text = refl

release-text : call_text (Release (record { 0 = 2 })) ≡ codes "release mutex=2"
unfolding digits
release-text = refl

raise-text : call_text (Raise (record { 0 = 2 })) ≡ codes "raise mutex=2"
unfolding digits
raise-text = refl

finish-text : call_text (Finish true) ≡ codes "finish keep=true"
unfolding digits
finish-text = refl

-- each key has the kind of its name
kinds-agree : map (λ word. map (λ key. kind_named key.name) (fields_of word)) words ≡ map (λ word. map (λ key. key.kind) (fields_of word)) words
unfolding kind_named
kinds-agree = refl
