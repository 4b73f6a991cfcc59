-- A flag group of the kernel: its steps, and what they mean to the threads that wait for it.
use Rattle.std.specs.Prelude.{ℕ, List, [], map, Option, None, Ok, option_map}
use Rattle.evl_base.specs.declared.reply.Reply.{Reply}
use Rattle.evl_base.specs.declared.reply.Reply.TheVariants as reply
use Rattle.evl_base.specs.declared.take.Take.{Take}
use Rattle.evl_sync.specs.declared.flag_waiter.FlagWaiter.{FlagWaiter}
use Rattle.evl_sync.specs.Steps.{unless}
use Rattle.evl_sync.specs.FlagGroups as flags
use Rattle.evl_sync.specs.FlagGroups.{FlagGroup, post_refusal, walk_waiters}
use Rattle.evl_kernel.specs.calls.Effects.{Answered, reply_by}

pub data FlagStep : Type 0 where
  -- takes bits of a kind, past all waiters
  take : Take → FlagStep
  -- adds bits, and goes once through the waiters
  post : ℕ → FlagStep
  -- gives the bits
  peek : FlagStep
  -- takes bits, past all waiters, or else the thread waits
  begin : FlagWaiter → FlagStep
  -- a waiter leaves, as its deadline fell due
  drop : ℕ → FlagStep

abbrev pub flag_group : FlagGroup → FlagStep → Answered FlagGroup
flag_group f (take kind) = reply_by (λ got. reply.Bits got) (flags.try_take kind f)
flag_group f (post bits) = reply_by (λ served. reply.Done) (unless (post_refusal bits) (Ok (walk_waiters (flags.post bits f))))
flag_group f peek = Ok (reply.Bits f.bits, f)
flag_group f (begin w) = Ok (reply.Begun, (flags.begin_take w f).1)
flag_group f (drop thread) = Ok (reply.Done, flags.drop_waiter thread f)

-- each with the bits that it took
abbrev pub all_served : List (ℕ × ℕ) → List (ℕ × Reply)
all_served served = map (λ one. (one.0, reply.Bits one.1)) served

-- rule: Threads served by a post wake in queue order.
--   also: Waits.all_woken
--   rows: flag_waiters; flags_posted_by_a_callback
-- whose waits a step ends, and with what
abbrev pub flag_wakes : FlagGroup → FlagStep → List (ℕ × Reply)
flag_wakes f (post bits) = all_served (flags.post bits f).served
flag_wakes f _ = []

-- what a wait that begins is served with at once, if it is
abbrev pub flag_serves : FlagGroup → FlagStep → Option Reply
flag_serves f (begin w) = option_map (λ got. reply.Bits got) (flags.begin_take w f).0
flag_serves f _ = None
