-- A machine's deed at a step: it replies and goes on, or refuses and stays as it is. And the effect of a call on the
-- records, or the refusal that it meets first.
use Rattle.std.specs.Prelude.{ℕ, ◌≡◌, Bool, List, [], ◌∷◌, Option, Some, None, Result, Ok, Err, if◌then◌else◌}
use Rattle.evl_base.specs.declared.refusal.Refusal.{Refusal}
use Rattle.evl_base.specs.declared.refusal.Refusal.TheVariants.{Unknown}
use Rattle.evl_base.specs.declared.reply.Reply.{Reply}
use Rattle.evl_base.specs.declared.reply.Reply.TheVariants as reply
use Rattle.evl_kernel.specs.state.States.{State}

-- the reply and what is left, or a refusal, which leaves all as it was
abbrev pub Answered : Type 0 → Type 0
Answered X = Result (Reply × X) Refusal

-- a call's answer and the records after it
abbrev pub Effect : Type 0
Effect = Answered State

module _ {X : Type 0} where
  abbrev pub done : X → Answered X
  done x = Ok (reply.Done, x)

  -- a number is answered
  abbrev pub tells : ℕ → X → Answered X
  tells n x = Ok (reply.Number n, x)

  -- the first refusal that applies, else the effect
  abbrev pub unless : List (Bool × Refusal) → Answered X → Answered X
  unless [] e = e
  unless ((applies, refusal) ∷ others) e = if applies then Err refusal else unless others e

  -- what is looked up by a number, which may be unknown
  abbrev pub known : {A : Type 0} → Option A → (A → Answered X) → Answered X
  known None f = Err Unknown
  known (Some x) f = f x

  -- a refusal that was found already, else the effect
  abbrev pub refused_by : Option Refusal → Answered X → Answered X
  refused_by None e = e
  refused_by (Some refusal) e = Err refusal

  -- what is left by what was done, or all as it was where it would be refused
  abbrev pub if_done : X → Answered X → X
  if_done x (Ok (reply, after)) = after
  if_done x (Err refusal) = x

  -- what the caller is answered
  abbrev pub reply_in : Answered X → Result Reply Refusal
  reply_in (Ok (reply, after)) = Ok reply
  reply_in (Err refusal) = Err refusal

-- what a part of the kernel answered in its own words, as a reply
abbrev pub reply_by : {A X : Type 0} → (A → Reply) → Result (A × X) Refusal → Answered X
reply_by f (Ok (answer, after)) = Ok (f answer, after)
reply_by f (Err refusal) = Err refusal

-- a reply, and this is left; or a refusal
abbrev pub leaving : {X : Type 0} → X → Result Reply Refusal → Answered X
leaving x (Ok reply) = Ok (reply, x)
leaving x (Err refusal) = Err refusal

-- what was done to a part is done to the whole
abbrev pub lifted : {X Y : Type 0} → (X → Y) → Answered X → Answered Y
lifted f (Ok (reply, after)) = Ok (reply, f after)
lifted f (Err refusal) = Err refusal

-- a step that was made: by which thread's call, or by a callback; what was asked; and the answer, which a callback
-- doesn't get
pub record Made (P : Type 0) : Type 0 where
  pub by : Option ℕ
  pub step : P
  pub answer : Result Reply Refusal

-- the machine answers each step as it is then, and ends there
abbrev pub Runs : {X P : Type 0} → (X → P → Answered X) → X → List (Made P) → X → Type 0
Runs machine old [] new = new ≡ old
Runs machine old (made ∷ others) new = (made.answer ≡ reply_in (machine old made.step)) × Runs machine (if_done old (machine old made.step)) others new
