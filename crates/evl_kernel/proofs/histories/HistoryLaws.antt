-- Runs, one step at a time.
use Rattle.std.proofs.Common.{◌≡◌, ℕ, ◌≤◌, List, [], ◌∷◌, ◌++◌, length, arith, Result, Ok, Err, is_ok, true, false, refl, sym, ap, ◌∙◌, subst, append_assoc}
use Rattle.std.proofs.lemmas.Bool.{false≢true}
use Rattle.std.proofs.lemmas.List.{append-nil}
use Rattle.evl_base.specs.declared.play.Play.{Play}
use Rattle.evl_base.specs.declared.entry.Entry.{Entry}
use Rattle.evl_base.specs.declared.call.Call.{Call}
use Rattle.evl_base.specs.declared.reply.Reply.{Reply}
use Rattle.evl_base.specs.declared.refusal.Refusal.{Refusal}
use Rattle.evl_pipeline.specs.declared.answer.Answer.{Answer}
use Rattle.evl_pipeline.specs.declared.fire.Fire.{Fire}
use Rattle.evl_kernel.specs.state.Limits.{play_limit}
use Rattle.evl_kernel.specs.state.States.{State}
use Rattle.evl_kernel.specs.calls.Effects.{Effect}
use Rattle.evl_kernel.specs.state.KernelViews.{Adds, Answers, entry_of}
use Rattle.evl_kernel.specs.settling.Settling.{Settles}
use Rattle.evl_kernel.specs.calls.Serving.{answer}
use Rattle.evl_kernel.specs.state.Callbacks.{Whereabouts}
use Rattle.evl_kernel.specs.settling.Fires.{FollowsByCalls, AddsByCalls}
use Rattle.evl_kernel.specs.settling.Settled.{Appends, Performs}
use Rattle.evl_kernel.specs.histories.Histories.{History, opened_kernel, Run, Follows, Step, EntryStep, IsLegal, Extends}

-- two lists after the same one
append_cancel : {A : Type 0} (xs ys zs : List A) → xs ++ ys ≡ xs ++ zs → ys ≡ zs
append_cancel [] ys zs e = e
append_cancel (x ∷ xs) ys zs e = append_cancel xs ys zs (rest_is e)
  where
    rest_is : x ∷ (xs ++ ys) ≡ x ∷ (xs ++ zs) → xs ++ ys ≡ xs ++ zs
    rest_is e = cc

-- a run goes on by one step
pub run_more : (old : State) (entries : List Entry) (plays : List Play) (mid : State) (entry : Entry) (own : List Play) (new : State)
    → Run old entries plays mid → EntryStep mid entry own new → Run old (entries ++ entry ∷ []) (plays ++ own) new
run_more old [] plays mid entry own new (none, same) step =
    (own, [], new, ap (λ (ps : List Play). ps ++ own) none ∙ sym (append-nil own), subst (λ (s : State). EntryStep s entry own new) same step, (refl, refl))
run_more old (first ∷ entries) plays mid entry own new (its, rest, next, split, its_step, run) step =
    (its, rest ++ own, next, ap (λ (ps : List Play). ps ++ own) split ∙ append_assoc its rest own, its_step, run_more next entries rest mid entry own new run step)

pub legal_more : (old new : History) (entry : Entry) (own : List Play) → IsLegal old → Extends old new entry own → IsLegal new
legal_more old new entry own legal more =
    rw (more.board, more.bank, more.entries, more.plays_too) (run_more (opened_kernel old) old.entries old.plays old.state entry own new.state legal more.step)

-- what was answered and then settled is a step
pub answered_step : (old : State) (caller : ℕ) (asked : Call) (reply : Reply) (mid new : State) (plays : List Play)
    → Answers old caller asked (Ok reply) mid → Settles mid plays new → Step old caller asked (Ok reply) plays new
answered_step old caller asked reply mid new plays is settles = subst (λ (e : Effect). Follows old e (Ok reply) plays new) (sym is) (refl, settles)

-- what was refused is a step without plays
pub refused_step : (old : State) (caller : ℕ) (asked : Call) (refusal : Refusal) (new : State)
    → Answers old caller asked (Err refusal) new → Step old caller asked (Err refusal) [] new
refused_step old caller asked refusal new (is, same) = subst (λ (e : Effect). Follows old e (Err refusal) [] new) (sym is) (refl, refl, same)

-- a history with the entry of one step after it
pub one_more_entry : (old new : History) (caller : ℕ) (asked : Call) (result : Result Reply Refusal) (plays : List Play)
    → new.board ≡ old.board → new.bank ≡ old.bank → new.entries ≡ old.entries ++ entry_of caller asked result plays ∷ [] → new.plays ≡ old.plays ++ plays
    → Step old.state caller asked result plays new.state → length plays ≤ play_limit → Adds old caller asked result plays new
one_more_entry old new caller asked result plays same same_bank more more_plays step few = record {
  extends = record { board = same; bank = same_bank; entries = more; plays_too = more_plays; step = (refl, step) };
  few = few;
}

pub performed_answered : {C : Type 0} (gives : C → Fire → Answer → Type 0) (w : Whereabouts C) (before after : List Play) (old mid new : State) (caller : ℕ) (asked : Call) (reply : Reply) → Answers old caller asked (Ok reply) mid → Appends gives w before mid after new
    → Performs gives w before old caller asked (Ok reply) after new
performed_answered gives w before after old mid new caller asked reply is so = record {
  made = so.made;
  appended = so.appended;
  step = answered_step old caller asked reply mid new so.made is so.settles;
  few = so.few;
  called = subst (λ (e : Effect). FollowsByCalls gives w e so.made) (sym is) so.called;
}

pub performed_ok : {C : Type 0} (gives : C → Fire → Answer → Type 0) (w : Whereabouts C) (before after : List Play) (old mid new : State) (caller : ℕ) (asked : Call) (result : Result Reply Refusal)
    → is_ok result ≡ true → Answers old caller asked result mid → Appends gives w before mid after new → Performs gives w before old caller asked result after new
performed_ok gives w before after old mid new caller asked (Ok reply) ok is so = performed_answered gives w before after old mid new caller asked reply is so
performed_ok gives w before after old mid new caller asked (Err refusal) ok is so = absurd (false≢true ok)

pub performed_refused : {C : Type 0} (gives : C → Fire → Answer → Type 0) (w : Whereabouts C) (before : List Play) (old new : State) (caller : ℕ) (asked : Call) (refusal : Refusal) → Answers old caller asked (Err refusal) new → Performs gives w before old caller asked (Err refusal) before new
performed_refused gives w before old new caller asked refusal is = record {
  made = [];
  appended = sym (append-nil before);
  step = refused_step old caller asked refusal new is;
  few = omega arith;
  called = subst (λ (e : Effect). FollowsByCalls gives w e []) (sym is.0) tt;
}

pub performed_err : {C : Type 0} (gives : C → Fire → Answer → Type 0) (w : Whereabouts C) (before : List Play) (old new : State) (caller : ℕ) (asked : Call) (result : Result Reply Refusal)
    → is_ok result ≡ false → Answers old caller asked result new → Performs gives w before old caller asked result before new
performed_err gives w before old new caller asked (Err refusal) err is = performed_refused gives w before old new caller asked refusal is
performed_err gives w before old new caller asked (Ok reply) err is = absurd (false≢true (sym err))

-- the plays that were added are those that were made
pub adds_by_calls : {C : Type 0} (gives : C → Fire → Answer → Type 0) (w : Whereabouts C) (old new : History) (caller : ℕ) (asked : Call) (result : Result Reply Refusal)
    → Performs gives w old.plays old.state caller asked result new.plays new.state → AddsByCalls gives w old caller asked new
adds_by_calls gives w old new caller asked result so plays added =
    subst (λ (ps : List Play). FollowsByCalls gives w (answer old.state caller asked) ps) (append_cancel old.plays so.made plays (sym so.appended ∙ added)) so.called

-- nothing was added
pub adds_nothing : {C : Type 0} (gives : C → Fire → Answer → Type 0) (w : Whereabouts C) (h : History) (caller : ℕ) (asked : Call) → AddsByCalls gives w h caller asked h
adds_nothing gives w h caller asked plays added = none (answer h.state caller asked)
  where
    no_plays : [] ≡ plays
    no_plays = append_cancel h.plays [] plays (append-nil h.plays ∙ added)

    none : (e : Effect) → FollowsByCalls gives w e plays
    none (Err refusal) = tt
    none (Ok (given, changed)) = subst (λ (ps : List Play). FollowsByCalls gives w (Ok (given, changed)) ps) no_plays tt

-- the entry that counts so many plays
abbrev pub counted_entry : ℕ → Call → Result Reply Refusal → ℕ → Entry
counted_entry caller asked reply n = record { caller = record { 0 = caller }; call = asked; reply = reply; plays = n }

-- a step was made, and its entry was entered with the number of its plays
pub kernel_adds : {C : Type 0} (gives : C → Fire → Answer → Type 0) (w : Whereabouts C) (old new : History) (caller : ℕ) (asked : Call) (result : Result Reply Refusal) (n : ℕ)
    → new.board ≡ old.board → new.bank ≡ old.bank → (so : Performs gives w old.plays old.state caller asked result new.plays new.state)
    → new.entries ≡ old.entries ++ counted_entry caller asked result n ∷ [] → n ≡ length so.made → Adds old caller asked result so.made new
kernel_adds gives w old new caller asked result n same same_bank so more counted =
    one_more_entry old new caller asked result so.made same same_bank (more ∙ ap (λ (k : ℕ). old.entries ++ counted_entry caller asked result k ∷ []) counted) so.appended so.step (omega (arith, so.few))

-- a step without a play was made, and its entry was entered
pub quick_adds : (old new : History) (caller : ℕ) (asked : Call) (reply : Reply) → new.board ≡ old.board → new.bank ≡ old.bank → new.plays ≡ old.plays
    → new.entries ≡ old.entries ++ counted_entry caller asked (Ok reply) 0 ∷ [] → Step old.state caller asked (Ok reply) [] new.state → Adds old caller asked (Ok reply) [] new
quick_adds old new caller asked reply same same_bank same_plays more step =
    one_more_entry old new caller asked (Ok reply) [] same same_bank more (same_plays ∙ sym (append-nil old.plays)) step (omega arith)

-- and nothing was called
pub quick_calls : {C : Type 0} (gives : C → Fire → Answer → Type 0) (w : Whereabouts C) (old new : History) (caller : ℕ) (asked : Call) → new.plays ≡ old.plays → AddsByCalls gives w old caller asked new
quick_calls gives w old new caller asked same plays added = adds_nothing gives w old caller asked plays (sym same ∙ added)
