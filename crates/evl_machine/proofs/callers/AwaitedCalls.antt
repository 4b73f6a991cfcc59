-- A thread waits for what its own calls say, as a caller keeps it.
use Rattle.std.proofs.Common.{◌≡◌, ℕ, ◌==◌, Bool, true, false, if◌then◌else◌, cond, List, [], ◌∷◌, Option, Some, None, option_map, Result, Ok, Err, refl, sym, ap, ◌∙◌}
use Rattle.evl_base.specs.Board.{board_fits}
use Rattle.evl_base.specs.declared.call.Call.{Call}
use Rattle.evl_base.specs.declared.call.Call.TheVariants.{Now}
use Rattle.evl_base.specs.declared.entry.Entry.{Entry}
use Rattle.evl_base.specs.declared.numbers.MutexId.{MutexId}
use Rattle.evl_base.specs.declared.refusal.Refusal.{Refusal}
use Rattle.evl_base.specs.declared.reply.Reply.{Reply}
use Rattle.evl_kernel.specs.declared.waits.Awaited.{Awaited}
use Rattle.evl_kernel.specs.declared.waits.Awaited.TheVariants.{Sem, Flags, Writing, Reading, Mutex}
use Rattle.evl_kernel.specs.calls.Families.{Task, on_lines, on_clock, on_threads, on_element, on_staged, raises, begins, ends, task_of}
use Rattle.evl_kernel.specs.histories.Histories.{History, IsLegal}
use Rattle.evl_kernel.specs.histories.WaitOwners.{awaited_along, awaited_at, awaited_after}
use Rattle.evl_kernel.proofs.histories.WaitOwners.{waits_along}
use Rattle.evl_machine.specs.declared.unfinished.Unfinished.{Unfinished}
use Rattle.evl_machine.specs.declared.unfinished.Unfinished.TheVariants.{Mutex as of_mutex, Element}
use Rattle.evl_core.specs.accounts.Accounts.{calls_by}
use Rattle.evl_machine.specs.callers.Unfinished.{unfinished_wait, unfinished_from, wait_after, wait_step}

-- what a caller keeps of what its thread waits for
abbrev pub kept_of : Awaited → Unfinished
kept_of (Mutex id) = of_mutex id
kept_of (Sem id) = Element
kept_of (Flags id) = Element
kept_of (Writing id way) = Element
kept_of (Reading id way) = Element

abbrev pub kept : Option Awaited → Option Unfinished
kept o = option_map kept_of o

refused_keeps : (task : Task) (refusal : Refusal) (before : Option Awaited) → awaited_after task (Err refusal) before ≡ before
refused_keeps (on_lines x) refusal before = refl
refused_keeps (on_clock x) refusal before = refl
refused_keeps (on_threads x) refusal before = refl
refused_keeps (on_element x) refusal before = refl
refused_keeps (on_staged x) refusal before = refl
refused_keeps (raises x) refusal before = refl
refused_keeps (begins x until) refusal before = refl
refused_keeps (ends keep) refusal before = refl

answered : (call : Call) (reply : Reply) (before : Option Awaited) → kept (awaited_after (task_of call) (Ok reply) before) ≡ wait_after (kept before) (wait_step call) (Ok reply)
answered Now reply before = refl
answered _ reply before = refl

goes : (call : Call) (reply : Result Reply Refusal) (before : Option Awaited) → kept (awaited_after (task_of call) reply before) ≡ wait_after (kept before) (wait_step call) reply
goes call (Ok reply) before = answered call reply before
goes call (Err refusal) before = ap kept (refused_keeps (task_of call) refusal before)

pub kept_along : (t : ℕ) (es : List Entry) (before : Option Awaited) → kept (awaited_along t es before) ≡ unfinished_from (kept before) (calls_by t es)
kept_along t [] before = refl
kept_along t (e ∷ es) before = by (e.caller.0 == t) (λ before. kept_along t es before)
  where
    by : (b : Bool) → ((before : Option Awaited) → kept (awaited_along t es before) ≡ unfinished_from (kept before) (calls_by t es))
        → kept (awaited_along t es (if b then awaited_after (task_of e.call) e.reply before else before)) ≡ unfinished_from (kept before) (cond b (e ∷ calls_by t es) (calls_by t es))
    by true along = along (awaited_after (task_of e.call) e.reply before) ∙ ap (λ w. unfinished_from w (calls_by t es)) (goes e.call e.reply before)
    by false along = along before

module _ (h : History) (legal : IsLegal h) (fits : board_fits h.board ≡ true) (t : ℕ) where
  -- what a caller keeps is what its thread waits for
  pub unfinished_is : unfinished_wait (calls_by t h.entries) ≡ kept (awaited_at h.state t)
  unfinished_is = sym (ap kept (waits_along h legal fits t) ∙ kept_along t h.entries None)

  pub none_awaited : unfinished_wait (calls_by t h.entries) ≡ None → awaited_at h.state t ≡ None
  none_awaited e = by (awaited_at h.state t) refl
    where
      by : (o : Option Awaited) → awaited_at h.state t ≡ o → awaited_at h.state t ≡ None
      by None is = is
      by (Some a) is = absurd (let f = sym (ap kept is) ∙ sym unfinished_is ∙ e in cc)

  pub mutex_awaited : (id : MutexId) → unfinished_wait (calls_by t h.entries) ≡ Some (of_mutex id) → awaited_at h.state t ≡ Some (Mutex id)
  mutex_awaited id e = by (awaited_at h.state t) refl
    where
      of : (a : Awaited) → Some (kept_of a) ≡ Some (of_mutex id) → Some a ≡ Some (Mutex id)
      of (Mutex j) same = cc
      of (Sem j) same = absurd (cc)
      of (Flags j) same = absurd (cc)
      of (Writing j way) same = absurd (cc)
      of (Reading j way) same = absurd (cc)

      by : (o : Option Awaited) → awaited_at h.state t ≡ o → awaited_at h.state t ≡ Some (Mutex id)
      by None is = absurd (let f = sym (ap kept is) ∙ sym unfinished_is ∙ e in cc)
      by (Some a) is = is ∙ of a (sym (ap kept is) ∙ sym unfinished_is ∙ e)
