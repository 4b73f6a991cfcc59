-- The places of a bank's callbacks, and their answers.
use Rattle.std.specs.Prelude.{◌≡◌, ℕ, ◌⊎◌, Bool, List, [], ◌∷◌, map, filter_map, Some, is_some, slice_get}
use Rattle.evl_base.specs.declared.stage.Stage.{Stage}
use Rattle.evl_pipeline.specs.declared.plan.Plan.{Plan}
use Rattle.evl_pipeline.specs.Lines.{Pipeline, Installed, installed_at}
use Rattle.evl_clock.specs.declared.timer.Timer.{Timer}
use Rattle.evl_clock.specs.Clocks.{Clock, timer_at}
use Rattle.evl_kernel.specs.declared.bank.BankPlace.{BankPlace}
use Rattle.evl_kernel.specs.declared.bank.Numbered.{Numbered}
use Rattle.evl_kernel.specs.state.States.{Handler}

-- where the callbacks are: in their places, or on lines and in timers with their numbers
pub record Whereabouts (C : Type 0) : Type 0 where
  pub bank : List (BankPlace C)
  pub lines : Pipeline (Numbered C)
  pub clock : Clock (Numbered C)

module _ {C : Type 0} where
  abbrev pub handler_of : BankPlace C → Handler
  handler_of place = record { kinds = place.kinds.0; plan = place.plan.value.value }

  -- the callback of a place is there
  abbrev pub is_home : BankPlace C → Bool
  is_home place = is_some place.callback

  -- rule: A kernel that is reset is as `new` made it, over its board, its limit and its callbacks, each back in its
  --   bank place; no call has changed how many threads, groups and elements there are. No memory is asked for, so there
  --   is no refusal.
  --   also: Homecomings.ComesHome; Shapes.HasShape
  --   clauses: Kernel::reset
  --   rows: a_kernel_is_reset
  -- the callbacks that are in their places
  abbrev pub callbacks_in : List (BankPlace C) → List C
  callbacks_in bank = filter_map (λ place. place.callback) bank

  -- what the callback of each place declares and answers, wherever it is
  abbrev pub handlers_in : List (BankPlace C) → List Handler
  handlers_in bank = map handler_of bank

  -- the callback of this number is in its place, on a line, or in a timer
  pub record IsHome (w : Whereabouts C) (number : ℕ) (callback : C) : Type 0 where
    pub place : BankPlace C
    pub at : slice_get w.bank number ≡ Some place
    pub there : place.callback ≡ Some callback

  pub record IsOut (w : Whereabouts C) (number : ℕ) (callback : C) : Type 0 where
    pub stage : Stage
    pub line : ℕ
    pub at : Installed (Numbered C)
    pub there : installed_at w.lines stage line ≡ Some at
    pub number_is : at.callback.number ≡ number
    pub callback_is : at.callback.callback ≡ callback

  pub record IsTimed (w : Whereabouts C) (number : ℕ) (callback : C) : Type 0 where
    pub timer : ℕ
    pub at : Timer (Numbered C)
    pub there : timer_at w.clock timer ≡ Some at
    pub number_is : at.callback.number ≡ number
    pub callback_is : at.callback.callback ≡ callback

  abbrev pub Stands : Whereabouts C → ℕ → C → Type 0
  Stands w number callback = IsHome w number callback ⊎ (IsOut w number callback ⊎ IsTimed w number callback)

  -- whatever is in new was in old, under the same number
  abbrev pub BringsNone : Whereabouts C → Whereabouts C → Type 0
  BringsNone old new = (number : ℕ) (callback : C) → Stands new number callback → Stands old number callback

  -- each callback declares and answers what is said of its place
  abbrev pub AnswersByPlan : (C → ℕ) → (C → Plan) → Whereabouts C → Type 0
  AnswersByPlan declared plan w = (number : ℕ) (callback : C) → Stands w number callback
      → slice_get (handlers_in w.bank) number ≡ Some (record { kinds = declared callback; plan = plan callback })

  -- the places of a new bank
  abbrev pub AreFilled : (C → ℕ) → (C → Plan) → List C → List (BankPlace C) → Type 0
  AreFilled declared plan [] places = places ≡ []
  AreFilled declared plan (callback ∷ callbacks) places = (place : BankPlace C) × (others : List (BankPlace C))
      × (places ≡ place ∷ others) × (place.callback ≡ Some callback) × (handler_of place ≡ record { kinds = declared callback; plan = plan callback })
      × AreFilled declared plan callbacks others
