-- Histories that go on, and the calls of one thread in them.
use Rattle.std.proofs.Common.{◌≡◌, ◌≢◌, ◌<◌, ◌==◌, eq-eqb, ne_eqb, ℕ, cond, true, false, List, [], ◌∷◌, ◌++◌, refl, sym, ap, ◌∙◌, subst, append_assoc, arith}
use Rattle.std.proofs.lemmas.List.{append-nil}
use Rattle.evl_base.specs.declared.board.Board.{Board}
use Rattle.evl_base.specs.declared.entry.Entry.{Entry}
use Rattle.evl_base.specs.declared.play.Play.{Play}
use Rattle.evl_kernel.specs.state.States.{State}
use Rattle.evl_kernel.specs.histories.Histories.{History, Run, IsLegal, opened_kernel}
use Rattle.evl_core.specs.declared.views.Account.{Account}
use Rattle.evl_core.specs.accounts.Accounts.{HasNoStranger, IsAccount, saw, threads_of, GoesOn, BeginsWith, calls_by, MadeBy, Fits}

run_runs : (old : State) (xs : List Entry) (ps : List Play) (mid : State) (ys : List Entry) (qs : List Play) (new : State)
    → Run old xs ps mid → Run mid ys qs new → Run old (xs ++ ys) (ps ++ qs) new
run_runs old [] ps mid ys qs new (none, same) more = subst (λ (z : List Play × State). Run z.1 ys (z.0 ++ qs) new) (λ i. (sym none i, same i)) more
run_runs old (x ∷ xs) ps mid ys qs new (own, rest, next, split, step, run) more =
    (own, rest ++ qs, next, ap (λ (rs : List Play). rs ++ qs) split ∙ append_assoc own rest qs, step, run_runs next xs rest mid ys qs new run more)

-- a history goes on by nothing
pub goes_on_none : (h : History) → GoesOn h [] h
goes_on_none h = record { plays = []; board = refl; bank = refl; entries_are = sym (append-nil h.entries); plays_are = sym (append-nil h.plays); run = (refl, refl) }

-- the board stays
pub goes_on_threads : (old new : History) (es : List Entry) → GoesOn old es new → threads_of new ≡ threads_of old
goes_on_threads old new es g = ap (λ (b : Board). b.threads) g.board

-- what goes on and goes on
pub goes_on_more : (h mid new : History) (xs ys : List Entry) → GoesOn h xs mid → GoesOn mid ys new → GoesOn h (xs ++ ys) new
goes_on_more h mid new xs ys f g = record {
  plays = f.plays ++ g.plays;
  board = g.board ∙ f.board;
  bank = g.bank ∙ f.bank;
  entries_are = g.entries_are ∙ (ap (λ (es : List Entry). es ++ ys) f.entries_are ∙ append_assoc h.entries xs ys);
  plays_are = g.plays_are ∙ (ap (λ (ps : List Play). ps ++ g.plays) f.plays_are ∙ append_assoc h.plays f.plays g.plays);
  run = run_runs h.state xs f.plays mid.state ys g.plays new.state f.run g.run;
}

-- a legal history that goes on is legal
pub goes_on_legal : (old new : History) (xs : List Entry) → IsLegal old → GoesOn old xs new → IsLegal new
goes_on_legal old new xs legal g =
    rw (g.board, g.bank, g.entries_are, g.plays_are) (run_runs (opened_kernel old) old.entries old.plays old.state xs g.plays new.state legal g.run)

pub starts_whole : (h : History) → BeginsWith h h
starts_whole h = ([], goes_on_none h)

pub starts_longer : (h new seen : History) (added : List Entry) → GoesOn h added new → BeginsWith h seen → BeginsWith new seen
starts_longer h new seen added g p = (p.0 ++ added, goes_on_more seen h new p.0 added p.1 g)

calls_by-cons : (t : ℕ) (e : Entry) (ys zs : List Entry) → cond (e.caller.0 == t) (e ∷ (ys ++ zs)) (ys ++ zs) ≡ cond (e.caller.0 == t) (e ∷ ys) ys ++ zs
calls_by-cons t e ys zs = elim (e.caller.0 == t) as (λ b. cond b (e ∷ (ys ++ zs)) (ys ++ zs) ≡ cond b (e ∷ ys) ys ++ zs) [ true ↦ refl | false ↦ refl ]

pub calls_by-append : (t : ℕ) (xs ys : List Entry) → calls_by t (xs ++ ys) ≡ calls_by t xs ++ calls_by t ys
calls_by-append t [] ys = refl
calls_by-append t (e ∷ es) ys = ap (λ (h : List Entry). cond (e.caller.0 == t) (e ∷ h) h) (calls_by-append t es ys) ∙ calls_by-cons t e (calls_by t es) (calls_by t ys)

pub calls_by-own : (t : ℕ) (h : List Entry) → MadeBy t h → calls_by t h ≡ h
calls_by-own t [] m = refl
calls_by-own t (e ∷ es) m = subst (λ b. cond b (e ∷ calls_by t es) (calls_by t es) ≡ e ∷ es) (sym (eq-eqb e.caller.0 t m.0)) (ap (λ (h : List Entry). e ∷ h) (calls_by-own t es m.1))

pub calls_by-other : (t u : ℕ) (h : List Entry) → MadeBy t h → u ≢ t → calls_by u h ≡ []
calls_by-other t u [] m apart = refl
calls_by-other t u (e ∷ es) m apart = subst (λ b. cond b (e ∷ calls_by u es) (calls_by u es) ≡ []) (sym (ne_eqb e.caller.0 u (λ same. apart (sym same ∙ m.0)))) (calls_by-other t u es m.1 apart)

pub made_by-append : (t : ℕ) (xs ys : List Entry) → MadeBy t xs → MadeBy t ys → MadeBy t (xs ++ ys)
made_by-append t [] ys m n = n
made_by-append t (e ∷ es) ys m n = (m.0, made_by-append t es ys m.1 n)

-- what fits a history fits a longer one, where the further calls are another's
pub fits_longer : (h new : History) (added : List Entry) (t : ℕ) (a : Account) → GoesOn h added new → MadeBy t added → a.thread ≢ t → Fits h a → Fits new a
fits_longer h new added t a g m apart f = record {
  seen = starts_longer h new a.seen added g f.seen;
  mine = ap (calls_by a.thread) g.entries_are ∙ (calls_by-append a.thread h.entries added ∙ (ap (λ (k : List Entry). calls_by a.thread h.entries ++ k) (calls_by-other t a.thread added m apart) ∙ (append-nil _ ∙ f.mine)));
}

-- no stranger comes by the calls of a thread that is on the board
pub strangers_more : (h new : History) (added : List Entry) (t : ℕ) → GoesOn h added new → MadeBy t added → t < threads_of h → HasNoStranger h → HasNoStranger new
strangers_more h new added t g m member none u far =
    let same = goes_on_threads h new added g in
    let ne : u ≢ t = λ e. absurd (omega arith) in
    ap (calls_by u) g.entries_are ∙ (calls_by-append u h.entries added ∙ (ap (λ (es : List Entry). calls_by u h.entries ++ es) (calls_by-other t u added m ne) ∙ (append-nil _ ∙ none u (omega arith))))

-- what a caller knows once it took a kernel
pub saw_account : (h : History) (room : ℕ) (a : Account) → IsLegal h → HasNoStranger h → Fits h a → IsAccount a → IsAccount (saw h room a)
saw_account h room a legal none f is = record {
  legal = legal;
  member = let same = goes_on_threads a.seen h f.seen.0 f.seen.1 in let m = is.member in omega arith;
  mine = f.mine;
  strangers = none;
}
