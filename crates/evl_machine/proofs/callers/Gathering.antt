-- The seats of all callers are gathered into the one that has the kernel, and the lock is closed.
use Rattle.std.proofs.Common.{◌≡◌, ℕ, zero, suc, ◌≤◌, ◌<◌, List, [], ◌∷◌, ◌++◌, length, map, set, get_or, Bool, true, false, Option, Some, refl, sym, ap, ◌∙◌, subst, append_assoc, append-nil, arith, inl, inr, ⊎_elim}
use Rattle.std.specs.Prelude.{All, slice_index_or}
use Rattle.std.specs.List.{remove}
use Rattle.std.proofs.lemmas.List.Elements.{All-nil, All-cons, All-head, All-tail}
use mathlib.Core.Option.{some, some-injective, some-ne-none}
use lib.ListN.{get_elem?}
use Rattle.atomic_table.specs.Table.{State, Joins}
use Rattle.atomic_table.proofs.Lists.{at_map}
use Rattle.evl_words.specs.Hands.{AreOf}
use Rattle.evl_words.specs.MutexWorld.{MutexView}
use Rattle.evl_words.proofs.Dealing.{joins}
use Rattle.evl_base.specs.declared.refusal.Refusal.{Refusal}
use Rattle.evl_base.specs.declared.refusal.Refusal.TheVariants.{CoreBusy, Invalid}
use Rattle.evl_kernel.specs.histories.Histories.{History, IsLegal}
use Rattle.evl_kernel.specs.state.KernelViews.{KernelView}
use Rattle.evl_core.specs.lock.Lock.{LockView}
use Rattle.evl_core.specs.declared.views.Account.{Account}
use Rattle.evl_core.specs.declared.views.ThreadView.{ThreadView}
use Rattle.evl_core.specs.rule.ThreadRule.{ThreadRule, core_of}
use Rattle.evl_core.specs.accounts.Accounts.{Fits, HasNoStranger, account, calls_by, up_to_date, lost_one, saw, threads_of}
use Rattle.evl_core.specs.worlds.Events.{FailsToTake, Gives, Takes}
use Rattle.evl_core.specs.accounts.Seats.{AccountsFit, CoreMe, view, holding}
use Rattle.evl_core.specs.rule.CoreRule.{account_at}
use Rattle.evl_core.specs.rule.Known.{ComesFrom, CoreHand, IsLive, KeptKnown, KernelMe, accounts_in, ceilings_of, taken_in, mutex_count, past_of, seen}
use Rattle.evl_core.specs.rule.Ties.{mutex_tie}
use Rattle.evl_machine.specs.callers.Handles.{Belongs, MachineState, CallerState, HeldState, returned, shown, turned_away}
use Rattle.evl_machine.specs.calls.Calls.{TookKernel}
use Rattle.evl_machine.specs.calls.Closings.{Closes, KeepsOpen, LacksCaller, accounts_back, gathered}
use Rattle.evl_core.proofs.rule.CoreSteps.{all_fit as fits_all}

fits_left : (h : History) (xs ys : List Account) → AccountsFit h (xs ++ ys) → AccountsFit h xs
fits_left h [] ys f k a e = absurd (some-ne-none a (sym e))
fits_left h (x ∷ xs) ys f zero a e = f zero a e
fits_left h (x ∷ xs) ys f (suc k) a e = fits_left h xs ys (λ i b at. f (suc i) b at) k a e

fits_last : (h : History) (xs : List Account) (x : Account) → AccountsFit h (xs ++ x ∷ []) → Fits h x
fits_last h [] x f = f zero x refl
fits_last h (y ∷ ys) x f = fits_last h ys x (λ i b at. f (suc i) b at)

fits_rest : (h : History) (a : Account) (xs : List Account) → AccountsFit h (a ∷ xs) → AccountsFit h xs
fits_rest h a xs f k b e = f (suc k) b e

-- the lock's only slot, which is full, and empty once its value is taken out
pub one_full : (filled : List Bool) (n : ℕ) → n ≡ 1 → ((k : ℕ) → 0 ≤ k → k < n → slice_index_or filled k false ≡ true) → (0 < n) × (slice_index_or filled 0 false ≡ true)
one_full filled n one full = (omega arith, full 0 (omega arith) (omega arith))

first_cleared : (filled : List Bool) → slice_index_or (set filled 0 false) 0 false ≡ false
first_cleared [] = refl
first_cleared (b ∷ bs) = refl

pub none_full : (filled filled' : List Bool) (n : ℕ) → n ≡ 1 → filled' ≡ set filled 0 false → (k : ℕ) → k < n → slice_index_or filled' k false ≡ false
none_full filled filled' n one now zero less = ap (λ (bs : List Bool). slice_index_or bs 0 false) now ∙ first_cleared filled
none_full filled filled' n one now (suc k) less = absurd (omega arith)

-- a seat that carries an account carries one with more
pub still_live : (xs more now : List Account) → (a : Account) × (others : List Account) × (xs ≡ a ∷ others) → now ≡ xs ++ more → (a : Account) × (others : List Account) × (now ≡ a ∷ others)
still_live xs more now l e = (l.0, l.1 ++ more, e ∙ ap (λ (ys : List Account). ys ++ more) l.2)

module _ {C : Type 0} where
  -- a token takes in the threads of another
  pub joins_known : (first : KernelView C) (id : ℕ) (v : CoreHand C) (other : ℕ) (w : CoreHand C) → Joins (KeptKnown first) id v other w (v ++ w) []
  joins_known first id v other w = joins (ThreadRule past_of ComesFrom (mutex_tie past_of (ceilings_of first)) first (mutex_count first)) id v other w

  accounts_in-append : (v w : CoreHand C) → accounts_in (v ++ w) ≡ accounts_in v ++ accounts_in w
  accounts_in-append [] w = refl
  accounts_in-append (p ∷ ps) w = ap (λ xs. account_at p.number p.view.core ∷ xs) (accounts_in-append ps w)

  taken_in-append : (v w : CoreHand C) (a : Account) (others : List Account) → accounts_in v ≡ a ∷ others → taken_in (v ++ w) ≡ taken_in v
  taken_in-append [] w a others e = absurd (cc)
  taken_in-append (p ∷ ps) w a others e = refl

  pub gathers : (me me' : KernelMe C) (w : CoreHand C) (a b : Account) → IsLive me.0 → me' ≡ (me.0 ++ w, me.1) → accounts_in w ≡ a ∷ [] → a ≡ b → seen me' ≡ gathered (seen me) (b ∷ [])
  gathers me me' w a b lives now one same =
      let more : accounts_in (me.0 ++ w) ≡ accounts_in me.0 ++ b ∷ [] = accounts_in-append me.0 w ∙ ap (λ xs. accounts_in me.0 ++ xs) (one ∙ ap (λ (x : Account). x ∷ []) same) in
      ap seen now ∙ (λ i. (view (taken_in-append me.0 w lives.0 lives.1 lives.2 i) (more i), me.1))

  -- what holds of the views of all threads holds of a hand
  hand_fit : (h : History) (views : List (ThreadView (KernelView C) MutexView)) → ((k : ℕ) (v : ThreadView (KernelView C) MutexView) → get_elem? views k ≡ some v → Fits h (account_at k v.core)) → (hand : CoreHand C) → AreOf views hand → AccountsFit h (accounts_in hand)
  hand_fit h views each [] are k a e = absurd (some-ne-none a (sym e))
  hand_fit h views each (p ∷ ps) are zero a e = subst (Fits h) (some-injective _ a e) (each p.number p.view are.0)
  hand_fit h views each (p ∷ ps) are (suc k) a e = hand_fit h views each ps are.1 k a e

  -- at the end the threads of the token that has the kernel fit the history that it took
  pub closes_known : (first : KernelView C) (id : ℕ) (hand : CoreHand C) (h : History) (s : State (Option (KernelView C)) (CoreHand C)) → KeptKnown first s → get_elem? s.views id ≡ some hand → taken_in hand ≡ Some h → AccountsFit h (accounts_in hand)
  closes_known first id [] h s r at has = λ k a e. absurd (some-ne-none a (sym e))
  closes_known first id (p ∷ ps) h s r at has =
      let are = r.deals.same id (p ∷ ps) at in
      hand_fit h r.views (λ k v there. fits_all past_of ComesFrom first (get_or s.words 0 0) s.homes (map core_of r.views) p.number p.view.core h r.kept.locked.1 (at_map core_of r.views p.number p.view are.0) has k v.core (at_map core_of r.views k v there)) (p ∷ ps) are

  all_fit : (h : History) (cs : List (CallerState C)) → AccountsFit h (accounts_back cs) → All (λ (c : CallerState C). Fits h c.account) cs
  all_fit h [] f = All-nil _
  all_fit h (c ∷ cs) f = All-cons (λ (x : CallerState C). Fits h x.account) c cs (fits_last h (accounts_back cs) c.account f) (all_fit h cs (fits_left h (accounts_back cs) (c.account ∷ []) f))

  -- the accounts come one after another
  pub gathers_none : (me : CoreMe (KernelView C)) → me ≡ gathered me []
  gathers_none me = λ i. (view me.0.taken (sym (append-nil me.0.accounts) i), me.1)

  pub gathers_one : (me : CoreMe (KernelView C)) (done : List (CallerState C)) (c : CallerState C) (me' me'' : CoreMe (KernelView C)) → me' ≡ gathered me (accounts_back done) → me'' ≡ gathered me' (c.account ∷ []) → me'' ≡ gathered me (accounts_back (c ∷ done))
  gathers_one me done c me' me'' was now =
      now ∙ (ap (λ (m : CoreMe (KernelView C)). gathered m (c.account ∷ [])) was ∙ (λ i. (view me.0.taken (append_assoc me.0.accounts (accounts_back done) (c.account ∷ []) i), me.1)))

  -- the seat that has the kernel, with the accounts of the others
  pub has_taken : (a : Account) (more : List Account) (h : History) (me me' : CoreMe (KernelView C)) → me ≡ holding a → a.seen ≡ h → me' ≡ gathered me more → me'.0.taken ≡ Some h
  has_taken a more h me me' holds same now = ap (λ (m : CoreMe (KernelView C)). m.0.taken) (now ∙ ap (λ (m : CoreMe (KernelView C)). gathered m more) holds) ∙ ap (λ (x : History). Some x) same

  pub gathered_fit : (a : Account) (others : List (CallerState C)) (h : History) (me me' : CoreMe (KernelView C)) → me ≡ holding a → me' ≡ gathered me (accounts_back others) → AccountsFit h me'.0.accounts → All (λ (c : CallerState C). Fits h c.account) others
  gathered_fit a others h me me' holds now f =
      let is = ap (λ (m : CoreMe (KernelView C)). m.0.accounts) (now ∙ ap (λ (m : CoreMe (KernelView C)). gathered m (accounts_back others)) holds) in
      all_fit h others (fits_rest h a (accounts_back others) (subst (AccountsFit h) is f))

  -- the first caller and the others
  pub first_removed : (xs : List (CallerState C)) (x : CallerState C) (others : List (CallerState C)) → 0 < length xs → x ≡ slice_index_or xs 0 x → others ≡ remove xs 0 → xs ≡ x ∷ others
  first_removed [] x others some_one at rest = absurd (omega arith)
  first_removed (y ∷ ys) x others some_one at rest = λ i. sym at i ∷ sym rest i

  pub none_handed : (m : MachineState C) (xs : List (CallerState C)) → length xs ≡ 0 → KeepsOpen m xs Invalid xs
  none_handed m [] none = (refl, refl)
  none_handed m (x ∷ xs) none = absurd (omega arith)

  pub stays_busy : (m : MachineState C) (xs : List (CallerState C)) (first : CallerState C) (others back : List (CallerState C)) → xs ≡ first ∷ others → (l : LockView) → back ≡ turned_away l first ∷ others → FailsToTake m.first first.account first.lock (lost_one first.account) l → KeepsOpen m xs CoreBusy back
  stays_busy m xs first others back are l same fails = subst (λ (ys : List (CallerState C)). KeepsOpen m ys CoreBusy back) (sym are) (inl (refl, (l, same, fails)))

  legal_of : (c : CallerState C) (k : HeldState C) → TookKernel c k → IsLegal k.kernel.history
  legal_of c k took = subst (λ (s : CallerState C). IsLegal s.account.seen) took.caller took.just.legal

  strangers_of : (c : CallerState C) (k : HeldState C) → TookKernel c k → HasNoStranger k.kernel.history
  strangers_of c k took = subst (λ (s : CallerState C). HasNoStranger s.account.seen) took.caller took.just.strangers

  fits_first : (c : CallerState C) (k : HeldState C) → TookKernel c k → Fits k.kernel.history c.account
  fits_first c k took = record {
    seen = took.later;
    mine = subst (λ (s : CallerState C). calls_by s.account.thread s.account.seen.entries ≡ s.account.mine) took.caller took.just.mine;
  }

  informs_as : (c : CallerState C) (k : HeldState C) → TookKernel c k → (l : LockView) → returned k.kernel.history l k.caller ≡ shown k.kernel.history k.kernel.room l c
  informs_as c k took l =
      let h = k.kernel.history in
      ap (returned h l) took.caller ∙ ap (λ mine. record c { account = account c.account.thread h mine (c.account.found ++ k.kernel.room ∷ []) c.account.lost; lock = l }) (fits_first c k took).mine

  pub stays_open : (m : MachineState C) (xs : List (CallerState C)) (first : CallerState C) (others back : List (CallerState C)) (k : HeldState C) → xs ≡ first ∷ others → length xs < threads_of m.first.history → TookKernel first k
      → Belongs first m → Takes m.first first.account first.lock k.caller.account k.caller.lock → (l : LockView) → Gives k.caller.machine.first k.caller.account k.caller.lock k.kernel (up_to_date k.kernel.history k.caller.account) l
      → back ≡ returned k.kernel.history l k.caller ∷ others → KeepsOpen m xs Invalid back
  stays_open m xs first others back k are few took of takes l gives now = subst (λ (ys : List (CallerState C)). KeepsOpen m ys Invalid back) (sym are) (inr (
    refl,
    record {
      few = subst (λ (ys : List (CallerState C)). length ys < threads_of m.first.history) are few;
      history = k.kernel.history;
      room = k.kernel.room;
      legal = legal_of first k took;
      strangers = strangers_of first k took;
      fits = fits_first first k took;
      between = k.caller.lock;
      lock = l;
      back_is = now ∙ ap (λ (c : CallerState C). c ∷ others) (informs_as first k took l);
      takes = subst (λ (s : CallerState C). Takes m.first first.account first.lock s.account k.caller.lock) took.caller takes;
      gives = (
        k.kernel,
        refl,
        subst (λ (x : KernelView C). Gives x (saw k.kernel.history k.kernel.room first.account) k.caller.lock k.kernel (up_to_date k.kernel.history (saw k.kernel.history k.kernel.room first.account)) l) (ap (λ (x : MachineState C). x.first) of)
            (subst (λ (s : CallerState C). Gives s.machine.first s.account k.caller.lock k.kernel (up_to_date k.kernel.history s.account) l) took.caller gives),
      );
    },
  ))

  -- the callers that come back are of the machine, as those were that were handed in
  pub back_again : (m : MachineState C) (xs : List (CallerState C)) (refusal : Refusal) (back : List (CallerState C)) → KeepsOpen m xs refusal back → All (λ (c : CallerState C). Belongs c m) xs → All (λ (c : CallerState C). Belongs c m) back
  back_again m [] refusal back (invalid, none) all = subst (λ (ys : List (CallerState C)). All (λ (c : CallerState C). Belongs c m) ys) (sym none) (All-nil _)
  back_again m (x ∷ xs) refusal back kept all = ⊎_elim
      (λ (busy : (refusal ≡ CoreBusy) × ((l : LockView) × (back ≡ turned_away l x ∷ xs) × FailsToTake m.first x.account x.lock (lost_one x.account) l)). subst (λ (ys : List (CallerState C)). All (λ (c : CallerState C). Belongs c m) ys) (sym busy.1.1)
      (All-cons (λ (c : CallerState C). Belongs c m) (turned_away busy.1.0 x) xs (All-head (λ (c : CallerState C). Belongs c m) x xs all) (All-tail (λ (c : CallerState C). Belongs c m) x xs all)))
      (λ (missing : (refusal ≡ Invalid) × LacksCaller m x xs back). subst (λ (ys : List (CallerState C)). All (λ (c : CallerState C). Belongs c m) ys) (sym missing.1.back_is)
      (All-cons (λ (c : CallerState C). Belongs c m) (shown missing.1.history missing.1.room missing.1.lock x) xs (All-head (λ (c : CallerState C). Belongs c m) x xs all) (All-tail (λ (c : CallerState C). Belongs c m) x xs all)))
      kept

  pub closes_all : (m : MachineState C) (xs : List (CallerState C)) (first : CallerState C) (others : List (CallerState C)) (k : HeldState C) → xs ≡ first ∷ others → threads_of m.first.history ≤ length xs → Belongs first m → TookKernel first k
      → Takes m.first first.account first.lock k.caller.account k.caller.lock → All (λ (c : CallerState C). Fits k.kernel.history c.account) others → Closes m xs k.kernel
  closes_all m xs first others k are all of took takes fit = subst (λ (ys : List (CallerState C)). Closes m ys k.kernel) (sym are) (record {
    some_caller = omega arith;
    all_callers = subst (λ (ys : List (CallerState C)). threads_of m.first.history ≤ length ys) are all;
    legal = legal_of first k took;
    strangers = strangers_of first k took;
    fits = All-cons (λ (x : CallerState C). Fits k.kernel.history x.account) first others (fits_first first k took) fit;
    comes = subst (λ (n : MachineState C). ComesFrom n.first k.kernel) of took.comes;
    takes = (k.caller.lock, subst (λ (s : CallerState C). Takes m.first first.account first.lock s.account k.caller.lock) took.caller takes);
  })
