-- Only the task that has the processor computes: nothing else changes what is noted of computing.
use Rattle.std.proofs.Common.{◌≡◌, ◌∙◌, ℕ, Bool, true, false, List, [], ◌∷◌, ◌++◌, ◌+◌, ◌-◌, ◌==◌, ◌&&◌, Option, Some, None, Result, Ok, Err, if◌then◌else◌, refl, sym, ap, arith, eq-eqb, not, slice_get, nat_lt}
use Rattle.evl_base.specs.declared.call.Call.TheVariants.{BeginGet, Finish, Raise, Release}
use Rattle.evl_base.specs.declared.numbers.LineNo.{LineNo}
use Rattle.evl_base.specs.declared.numbers.MutexId.{MutexId}
use Rattle.evl_base.specs.declared.numbers.ThreadId.{ThreadId}
use Rattle.evl_base.specs.declared.refusal.Refusal.{Refusal}
use Rattle.evl_base.specs.declared.refusal.Refusal.TheVariants as refusal
use Rattle.evl_base.specs.declared.reply.Reply.{Reply}
use Rattle.evl_base.specs.declared.reply.Reply.TheVariants.{Handed}
use Rattle.lab_tasks.specs.declared.acts.Act.{Act}
use Rattle.lab_tasks.specs.declared.acts.Act.TheVariants as act
use Rattle.lab_tasks.specs.declared.sets.Rules.{Rules}
use Rattle.lab_tasks.specs.declared.sets.Task.{Task}
use Rattle.lab_schedules.specs.declared.locking.Tried.{Tried}
use Rattle.lab_schedules.specs.declared.locking.Tried.TheVariants as tried
use Rattle.lab_schedules.specs.declared.places.Phase.{Phase}
use Rattle.lab_schedules.specs.declared.places.Phase.TheVariants.{Between, Due, At, Runs, Sleeps, Waits, Over}
use Rattle.lab_schedules.specs.declared.places.Place.{Place}
use Rattle.lab_schedules.specs.declared.events.Stretch.{Stretch}
use Rattle.lab_schedules.specs.declared.events.What.TheVariants as what
use Rattle.lab_schedules.specs.declared.words.Owner.{Owner}
use Rattle.lab_schedules.specs.declared.words.Word.{Word}
use Rattle.lab_schedules.specs.Acts.{act_in, after_attempt, await_date, awaited, did, do_act, end_call, end_run, end_wait, get_until, leave, next_act, rest_until, run, sleep, start, tried_to, wake}
use Rattle.lab_schedules.specs.Choices.{doer}
use Rattle.lab_schedules.specs.Dates.{computed, left_over, noted, passes_to, stretch, ticked}
use Rattle.lab_schedules.specs.Laws.{ComputingIsCounted, OnlyTheDoerComputes, TimeWaits, given, share}
use Rattle.lab_schedules.specs.Locks.{Attempt, attempt, lock, lock_again, lock_free, lock_owned, lock_word, refuse, released_by, taken_by, tried_by, unlock, unlock_last, unlock_owned, unlock_word, with_word}
use Rattle.lab_schedules.specs.Places.{further, rest_of}
use Rattle.lab_schedules.specs.Plays.{Played, answer, called, now, place_at, thread_of, told}
use Rattle.lab_schedules.specs.Words.{nested}
use Rattle.lab_schedules.specs.Turns.{Turned, acting, going_on, is_past, line_due, pausing, turn_of, turn_with, turn_without, turned}

-- ---- choices of two

either : (b : Bool) (x y : Played) (r : List Stretch) → x.runs ≡ r → y.runs ≡ r → (if b then x else y).runs ≡ r
either true x y r one other = one
either false x y r one other = other

either_attempt : (b : Bool) (x y : Attempt) (r : List Stretch) → x.1.runs ≡ r → y.1.runs ≡ r → (if b then x else y).1.runs ≡ r
either_attempt true x y r one other = one
either_attempt false x y r one other = other

either_turn : (b : Bool) (x y : Turned) (r : List Stretch) → x.1.runs ≡ r → y.1.runs ≡ r → (if b then x else y).1.runs ≡ r
either_turn true x y r one other = one
either_turn false x y r one other = other

-- ---- waits

rest_until-keeps : (p : Played) (task date : ℕ) → (rest_until p task date).runs ≡ p.runs
unfolding rest_until
rest_until-keeps p task date = either _ _ p p.runs refl refl

end_wait-keeps : (p : Played) (task : ℕ) → (end_wait p task).runs ≡ p.runs
unfolding end_wait
end_wait-keeps p task = either _ _ p p.runs refl refl

leave-keeps : (p : Played) (task : ℕ) (place : Place) → (leave p task place).runs ≡ p.runs
unfolding leave
leave-keeps p task place = either _ _ p p.runs refl refl

await_date-keeps : (p : Played) (task : ℕ) (place : Place) (date : ℕ) → (await_date p task place date).runs ≡ p.runs
unfolding await_date
await_date-keeps p task place date = either (nat_lt (now p) date) (rest_until p task date) p p.runs (rest_until-keeps p task date) refl

awaited-keeps : (p : Played) (task : ℕ) (place : Place) (date : Option ℕ) → (awaited p task place date).runs ≡ p.runs
awaited-keeps p task place None = leave-keeps p task place
awaited-keeps p task place (Some date) = await_date-keeps p task place date

start-keeps : (p : Played) (task : ℕ) (place : Place) → (start p task place).runs ≡ p.runs
unfolding start
start-keeps p task place = end_wait-keeps p task

wake-keeps : (p : Played) (task : ℕ) (place : Place) → (wake p task place).runs ≡ p.runs
unfolding wake
wake-keeps p task place = end_wait-keeps p task

-- ---- mutexes

taken_by-keeps : (t : Tried) (p : Played) (thread : ThreadId) (mutex : MutexId) (word : Word) → (taken_by t p thread mutex word).1.runs ≡ p.runs
taken_by-keeps tried.Done p thread mutex word = refl
taken_by-keeps tried.Waits p thread mutex word = refl
taken_by-keeps tried.TimedOut p thread mutex word = refl
taken_by-keeps (tried.Refused why) p thread mutex word = refl

lock_free-keeps : (p : Played) (thread : ThreadId) (mutex : MutexId) (word : Word) → (lock_free p thread mutex word).1.runs ≡ p.runs
lock_free-keeps p thread mutex word =
    either_attempt _ _ _ p.runs (taken_by-keeps (tried_by (answer p thread (Raise mutex))) (called p thread (Raise mutex)) thread mutex word) refl

lock_owned-keeps : (p : Played) (thread : ThreadId) (mutex : MutexId) (word : Word) (owner : Option Owner) → (lock_owned p thread mutex word owner).1.runs ≡ p.runs
lock_owned-keeps p thread mutex word None = lock_free-keeps p thread mutex word
lock_owned-keeps p thread mutex word (Some owner) =
    either_attempt _ (lock_again p mutex word owner) _ p.runs (either_attempt _ _ _ p.runs refl refl) refl

lock_word-keeps : (p : Played) (thread : ThreadId) (mutex : MutexId) (word : Option Word) → (lock_word p thread mutex word).1.runs ≡ p.runs
lock_word-keeps p thread mutex None = refl
lock_word-keeps p thread mutex (Some word) = lock_owned-keeps p thread mutex word word.owner

lock-keeps : (p : Played) (thread : ThreadId) (mutex : MutexId) → (lock p thread mutex).1.runs ≡ p.runs
unfolding lock
lock-keeps p thread mutex = either_attempt _ _ _ p.runs (lock_word-keeps p thread mutex (slice_get p.words mutex.0)) refl

released_by-keeps : (given : Result Reply Refusal) (p : Played) (mutex : MutexId) (word : Word) → (released_by given p mutex word).1.runs ≡ p.runs
released_by-keeps (Ok (Handed next more)) p mutex word = refl
released_by-keeps (Ok reply) p mutex word = refl
released_by-keeps (Err why) p mutex word = refl

unlock_last-keeps : (p : Played) (thread : ThreadId) (mutex : MutexId) (word : Word) → (unlock_last p thread mutex word).1.runs ≡ p.runs
unlock_last-keeps p thread mutex word =
    either_attempt _ _ _ p.runs (released_by-keeps (answer p thread (Release mutex)) (called p thread (Release mutex)) mutex word) refl

unlock_owned-keeps : (p : Played) (thread : ThreadId) (mutex : MutexId) (word : Word) (owner : Option Owner) → (unlock_owned p thread mutex word owner).1.runs ≡ p.runs
unlock_owned-keeps p thread mutex word None = refl
unlock_owned-keeps p thread mutex word (Some owner) =
    let less : Attempt = (tried.Done, with_word p mutex (nested word thread (owner.depth - 1))) in
    let last : Attempt = unlock_last p thread mutex word in
    either_attempt (not (owner.thread.0 == thread.0)) (refuse p refusal.NotOwner) (if nat_lt 1 owner.depth then less else last) p.runs refl
    (either_attempt (nat_lt 1 owner.depth) less last p.runs refl (unlock_last-keeps p thread mutex word))

unlock_word-keeps : (p : Played) (thread : ThreadId) (mutex : MutexId) (word : Option Word) → (unlock_word p thread mutex word).1.runs ≡ p.runs
unlock_word-keeps p thread mutex None = refl
unlock_word-keeps p thread mutex (Some word) = unlock_owned-keeps p thread mutex word word.owner

unlock-keeps : (p : Played) (thread : ThreadId) (mutex : MutexId) → (unlock p thread mutex).1.runs ≡ p.runs
unfolding unlock
unlock-keeps p thread mutex = unlock_word-keeps p thread mutex (slice_get p.words mutex.0)

-- ---- acts

tried_to-keeps : (t : Tried) (p : Played) (task : ℕ) (place : Place) → (tried_to t p task place).runs ≡ p.runs
tried_to-keeps tried.Done p task place = refl
tried_to-keeps tried.Waits p task place = refl
tried_to-keeps tried.TimedOut p task place = refl
tried_to-keeps (tried.Refused why) p task place = refl

after_attempt-keeps : (a : Attempt) (task : ℕ) (place : Place) → (after_attempt a task place).runs ≡ a.1.runs
after_attempt-keeps a task place = tried_to-keeps a.0 a.1 task place

end_call-keeps : (p : Played) (task : ℕ) (place : Place) → (end_call p task place).runs ≡ p.runs
unfolding end_call
end_call-keeps p task place = either _ _ _ p.runs (after_attempt-keeps (attempt p (thread_of task) (Finish true)) task place) refl

run-keeps : (p : Played) (task : ℕ) (place : Place) (time : ℕ) → (run p task place time).runs ≡ p.runs
unfolding run
run-keeps p task place time = either _ _ _ p.runs refl refl

sleep-keeps : (p : Played) (task : ℕ) (place : Place) (date : ℕ) → (sleep p task place date).runs ≡ p.runs
unfolding sleep
sleep-keeps p task place date = either _ _ _ p.runs refl (rest_until-keeps (told p task (what.Begins place.act)) task date)

do_act-keeps : (p : Played) (task : ℕ) (place : Place) (is : Task) (one : Act) → (do_act p task place is one).runs ≡ p.runs
do_act-keeps p task place is (act.Run time) = run-keeps p task place time
do_act-keeps p task place is (act.Sleep time) = sleep-keeps p task place _
do_act-keeps p task place is (act.Until time) = sleep-keeps p task place _
do_act-keeps p task place is (act.Lock mutex) = after_attempt-keeps (lock p (thread_of task) mutex) task place ∙ lock-keeps p (thread_of task) mutex
do_act-keeps p task place is (act.Unlock mutex) = after_attempt-keeps (unlock p (thread_of task) mutex) task place ∙ unlock-keeps p (thread_of task) mutex
do_act-keeps p task place is (act.Get sem within) = after_attempt-keeps (attempt p (thread_of task) (BeginGet sem (get_until p within))) task place
do_act-keeps p task place is (act.Call call) = after_attempt-keeps (attempt p (thread_of task) call) task place

next_act-keeps : (p : Played) (task : ℕ) (place : Place) (is : Task) (one : Option Act) → (next_act p task place is one).runs ≡ p.runs
next_act-keeps p task place is None = refl
next_act-keeps p task place is (Some one) = do_act-keeps p task place is one

act_in-keeps : (p : Played) (task : ℕ) (place : Place) (is : Task) (phase : Phase) → (act_in p task place is phase).runs ≡ p.runs
act_in-keeps p task place is Between = awaited-keeps p task place _
act_in-keeps p task place is (Due date) = start-keeps p task place
act_in-keeps p task place is At = next_act-keeps p task place is (slice_get is.does.items place.act)
act_in-keeps p task place is (Sleeps date) = wake-keeps p task place
act_in-keeps p task place is Waits = end_call-keeps p task place
act_in-keeps p task place is (Runs rest) = refl
act_in-keeps p task place is Over = refl

-- ---- turns

acting-keeps : (p : Played) (task : ℕ) (is : Option Task) → (acting p task is).1.runs ≡ p.runs
acting-keeps p task None = refl
acting-keeps p task (Some is) = act_in-keeps p task (place_at p task) is (place_at p task).phase

pausing-keeps : (p : Played) (date : Option ℕ) → (pausing p date).1.runs ≡ p.runs
unfolding ticked
pausing-keeps p None = refl
pausing-keeps p (Some date) = refl

still-keeps : (rules : Rules) (p : Played) (task : ℕ) (rest : Option ℕ) → rest ≡ None → (going_on rules p task rest).1.runs ≡ p.runs
still-keeps rules p task None is = acting-keeps p task (slice_get rules.tasks.items task)
still-keeps rules p task (Some rest) is = cc

turn_with-keeps : (rules : Rules) (p : Played) (line : Option LineNo) → (turn_of rules p (doer p)).1.runs ≡ p.runs → (turn_with rules p line).1.runs ≡ p.runs
turn_with-keeps rules p None own = either_turn (is_past rules (now p)) _ _ p.runs refl own
turn_with-keeps rules p (Some line) own = refl

pub only_the_doer : (rules : Rules) (p : Played) → OnlyTheDoerComputes rules p
unfolding turned
only_the_doer rules p = record {
  others = λ none. turn_with-keeps rules p (line_due rules p.gone (now p)) (ap (λ (d : Option ℕ). (turn_of rules p d).1.runs) none ∙ pausing-keeps p (passes_to rules p None));
  acting = λ task is still. turn_with-keeps rules p (line_due rules p.gone (now p)) (ap (λ (d : Option ℕ). (turn_of rules p d).1.runs) is ∙ still-keeps rules p task (rest_of (place_at p task)) still);
}

chosen_turn : (b : Bool) (x y : Turned) → b ≡ false → (if b then x else y) ≡ y
chosen_turn true x y is = cc
chosen_turn false x y is = refl

-- time waits for a task that can act
still_acts : (rules : Rules) (p : Played) (task : ℕ) (rest : Option ℕ) → rest ≡ None → going_on rules p task rest ≡ acting p task (slice_get rules.tasks.items task)
still_acts rules p task None is = refl
still_acts rules p task (Some rest) is = cc

pub time_waits : (rules : Rules) (p : Played) → TimeWaits rules p
unfolding turned
time_waits rules p = record {
  waits = λ task line past is still.
      ap (λ (l : Option LineNo). turn_with rules p l) line
      ∙ chosen_turn (is_past rules (now p)) _ (turn_of rules p (doer p)) past
      ∙ ap (λ (d : Option ℕ). turn_of rules p d) is
      ∙ still_acts rules p task (rest_of (place_at p task)) still;
}

-- ---- what a job was given

end_run-keeps : (p : Played) (task : ℕ) (place : Place) (acts : ℕ) → (end_run p task place acts).runs ≡ p.runs
unfolding end_run
end_run-keeps p task place acts = either _ _ _ p.runs refl refl

left_over-keeps : (p : Played) (task : ℕ) (place : Place) (acts left : ℕ) → (left_over p task place acts left).runs ≡ p.runs
left_over-keeps p task place acts left = either (left == 0) (end_run p task place acts) _ p.runs (end_run-keeps p task place acts) refl

given-more : (runs : List Stretch) (s : Stretch) (task job : ℕ) → given (runs ++ s ∷ []) task job ≡ given runs task job + share task job s
given-more [] s task job = omega arith
given-more (first ∷ runs) s task job = let more = given-more runs s task job in omega (arith, more)

computed-runs : (p : Played) (task : ℕ) (place : Place) (rest from acts : ℕ) → (computed p task place rest from acts).runs ≡ p.runs ++ stretch task place.job from (now p) ∷ []
unfolding computed
computed-runs p task place rest from acts = left_over-keeps (noted p task place.job from) task place acts (rest - (now p - from))

both_same : (a b : ℕ) → (a == a && b == b) ≡ true
both_same a b = ap (λ (x : Bool). x && b == b) (eq-eqb a a refl) ∙ eq-eqb b b refl

share_of : (task job : ℕ) (s : Stretch) (b : Bool) → (s.task == task && s.job == job) ≡ b → share task job s ≡ (if b then s.to - s.from else 0)
share_of task job s b is = ap (λ (x : Bool). if x then s.to - s.from else 0) is

pub computing_is_counted : (p : Played) (task : ℕ) (place : Place) (rest from acts : ℕ) → ComputingIsCounted p task place rest from acts
computing_is_counted p task place rest from acts =
    let s = stretch task place.job from (now p) in
    record {
      own = ap (λ (runs : List Stretch). given runs task place.job) (computed-runs p task place rest from acts) ∙ given-more p.runs s task place.job
          ∙ ap (λ (n : ℕ). given p.runs task place.job + n) (share_of task place.job s true (both_same task place.job));
      others = λ other job is. ap (λ (runs : List Stretch). given runs other job) (computed-runs p task place rest from acts) ∙ given-more p.runs s other job
          ∙ ap (λ (n : ℕ). given p.runs other job + n) (share_of other job s false is) ∙ omega arith;
    }
