-- Which callbacks C's plans are.
use Rattle.std.specs.Prelude.{ℕ, Bool, nat_le, ◌&&◌, List, [], ◌∷◌, length, map, take, if◌then◌else◌, nat_eq}
use Rattle.std.specs.List.{list_all}
use Rattle.evl_pipeline.specs.declared.action.Action.{Action}
use Rattle.evl_pipeline.specs.declared.action.Action.TheVariants.{PostSem, PostFlags, Propagate, PostOob, StopTimer}
use Rattle.evl_pipeline.specs.Plans.{declares, kind_of}
use Rattle.evl_kernel.specs.state.States.{Handler}
use Rattle.evl_c.specs.declared.forms.PlanForm.{PlanForm}
use Rattle.evl_c.specs.declared.forms.RowForm.{RowForm}

-- the action of a row
abbrev pub action_of : RowForm → Action
action_of row =
    if nat_eq row.action 0 then PostSem (record { 0 = row.element }) else
    if nat_eq row.action 1 then PostFlags (record { 0 = row.element }) row.bits else
    if nat_eq row.action 2 then Propagate else
    if nat_eq row.action 3 then PostOob (record { 0 = row.element }) else
    StopTimer (record { 0 = row.element })

-- a row as a plan has it
abbrev pub period_of : RowForm → ℕ × Action
period_of row = (row.every, action_of row)

-- whether a row's action is one of the five
abbrev pub has_action : RowForm → Bool
has_action row = nat_le row.action 4

-- whether a period is 1 or more, and the kinds have its action's
abbrev pub is_sound_row : ℕ → ℕ × Action → Bool
is_sound_row kinds row = nat_le 1 row.0 && declares kinds (kind_of row.1)

-- the rows that there are
abbrev pub used_rows : PlanForm → List RowForm
used_rows form = take form.count form.rows

-- whether these can be a plan's
abbrev pub has_rows : PlanForm → Bool
has_rows form = list_all has_action (used_rows form) && list_all (is_sound_row form.kinds) (map period_of (used_rows form))

-- whether a form is a plan
abbrev pub is_plan : PlanForm → Bool
is_plan form = nat_le 1 form.accepts && (nat_le form.count 4 && has_rows form)

-- what a callback with such a plan declares and answers
abbrev pub handler_of : PlanForm → Handler
handler_of form = record {
  kinds = form.kinds;
  plan = record { accepts = form.accepts; rows = record { items = map period_of (used_rows form) } };
}

-- whether forms are plans, and no more than a bank holds
abbrev pub are_plans : List PlanForm → Bool
are_plans forms = nat_le (length forms) 64 && list_all is_plan forms

-- a row that isn't there
abbrev pub no_row : RowForm
no_row = record { every = 0; action = 0; element = 0; bits = 0 }

-- a plan of no rows that handles each event
abbrev pub no_rows : PlanForm
no_rows = record { accepts = 1; kinds = 0; count = 0; rows = no_row ∷ no_row ∷ no_row ∷ no_row ∷ [] }

-- a plan of one row
abbrev pub one_row : ℕ → ℕ → ℕ → ℕ → ℕ → ℕ → PlanForm
one_row accepts kinds every action element bits = record {
  accepts = accepts;
  kinds = kinds;
  count = 1;
  rows = record { every = every; action = action; element = element; bits = bits } ∷ no_row ∷ no_row ∷ no_row ∷ [];
}
