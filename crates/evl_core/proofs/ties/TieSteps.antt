-- Each step on a mutex's word, with the call of the kernel that goes with it, and what it owes of the tie of that mutex.
use Rattle.std.proofs.Common.{◌≡◌, ◌≢◌, ◌⊎◌, inl, inr, ⊎_elim, ℕ, ◌+◌, ◌<◌, ◌==◌, eqb, eq-eqb, ne_eqb, Bool, true, false, not, ◌||◌, List, [], ◌∷◌, Option, Some, None, is_some, if◌then◌else◌, refl, sym, ap, ◌∙◌, subst, arith}
use Rattle.std.specs.Option.{option_map_or}
use Rattle.std.specs.Prelude.{bit_or, bit_and}
use Rattle.std.proofs.lemmas.Bool.{false≢true}
use mathlib.Core.Logic.{dite}
use native.Mathlib.Decide.{ℕ_discrete}
use prog.Atomic.{either}
use Rattle.evl_base.specs.Limits.{thread_limit}
use Rattle.evl_mutex.specs.declared.waiter.Waiter.{Waiter}
use Rattle.evl_mutex.specs.Queues.{enqueued_by_rank, is_nobody}
use Rattle.evl_mutex.specs.Mutexes as record_of
use Rattle.evl_mutex.specs.Mutexes.{Mutex, has_ceiling, is_open_to, handed_to, released_mutex, raised_mutex as raised, left_with, drop_waiter}
use Rattle.evl_words.specs.Mutex as word
use Rattle.evl_words.specs.Mutex.{unowned, seized, owned, offered, is_offered, is_marked, claimed_word}
use Rattle.evl_words.specs.MutexBits.{mutex_word, offer_word, number_in, offers_to}
use Rattle.evl_words.specs.MutexWorld.{NamesBelow}
use Rattle.evl_words.proofs.MutexWords.{number_in-owned, offers_to-word}
use Rattle.evl_kernel.specs.histories.MutexRests.{LeftBy}
use Rattle.evl_core.specs.rule.Ties.{is_claimed, IsPlain, OwnerTie, OfferTie, IsTied, IsLeft}
use Rattle.evl_core.proofs.ties.TieWords.{number_in-offer, claimed-word, plain_unclaimed, plain_offers, number_small, number-claimed, marked-claimed, offered-claimed, names-claimed, try_plain, unlock_plain}

is_some-of : {A : Type 0} {x : A} (o : Option A) → o ≡ Some x → is_some o ≡ true
is_some-of o e = ap is_some e

-- a plain word is of a mutex for which nobody waits
nobody_waits : (m : Mutex) (n : ℕ) → IsPlain n → OwnerTie m n → is_nobody m.waiters ≡ true
nobody_waits m n plain tie = by (is_nobody m.waiters) refl
  where
    by : (b : Bool) → is_nobody m.waiters ≡ b → b ≡ true
    by true e = refl
    by false e = absurd (false≢true (sym (plain_unclaimed n plain) ∙ tie.marked e))

-- and, where it has no ceiling, of one that has no recorded owner
nobody_recorded : (m : Mutex) (n o : ℕ) → IsPlain n → has_ceiling m ≡ false → OwnerTie m n → m.owner ≡ Some o → ⊥
nobody_recorded m n o plain free tie e = false≢true (sym free ∙ tie.raised (nobody_waits m n plain tie) (is_some-of m.owner e))

-- A plain word may become any other plain one where nobody needs the kernel for it
pub owner_plain : (m : Mutex) (a b : ℕ) → IsPlain a → IsPlain b → has_ceiling m ≡ false → OwnerTie m a → OwnerTie m b
owner_plain m a b pa pb free tie = record {
  named = λ o e. absurd (nobody_recorded m a o pa free tie e);
  marked = λ e. absurd (false≢true (sym e ∙ nobody_waits m a pa tie));
  raised = tie.raised;
  ceiled = λ ceiling o e. absurd (false≢true (sym free ∙ ceiling));
  peopled = λ e. absurd (false≢true (sym (plain_unclaimed b pb) ∙ e));
}

pub offer_plain : (got : ℕ → Bool) (a b : ℕ) → IsPlain a → IsPlain b → OfferTie got a → OfferTie got b
offer_plain got a b pa pb tie t = plain_offers b t pb ∙ sym (plain_offers a t pa) ∙ tie t

pub plain_tied : (m : Mutex) (got : ℕ → Bool) (a b : ℕ) → IsPlain a → IsPlain b → has_ceiling m ≡ false → IsTied m got a → IsTied m got b
plain_tied m got a b pa pb free tie = record { owner = owner_plain m a b pa pb free tie.owner; offer = offer_plain got a b pa pb tie.offer }

-- what a word became by a step that needs no kernel
abbrev pub StaysPlain : ℕ → ℕ → Type 0
StaysPlain a b = (b ≡ a) ⊎ (IsPlain a × IsPlain b)

pub try_stays : (n k : ℕ) → k < thread_limit → StaysPlain n (either (eqb n 0) (k + 1) n)
try_stays n k small = dite (ℕ_discrete n 0)
    (λ (e : n ≡ 0). inr ((try_plain n k small e).0, subst (λ b. IsPlain (either b (k + 1) n)) (sym (eq-eqb n 0 e)) (try_plain n k small e).1))
    (λ (ne : n ≢ 0). inl (ap (λ b. either b (k + 1) n) (ne_eqb n 0 ne)))

pub unlock_stays : (n k : ℕ) → k < thread_limit → StaysPlain n (either (eqb n (k + 1)) 0 n)
unlock_stays n k small = dite (ℕ_discrete n (k + 1))
    (λ (e : n ≡ k + 1). inr ((unlock_plain n k small e).0, subst (λ b. IsPlain (either b 0 n)) (sym (eq-eqb n (k + 1) e)) (unlock_plain n k small e).1))
    (λ (ne : n ≢ k + 1). inl (ap (λ b. either b 0 n) (ne_eqb n (k + 1) ne)))

-- a try and an unlocking by anybody keep the tie of a mutex without a ceiling, and what the holder left there
pub stays_tied : (m : Mutex) (got : ℕ → Bool) (a b : ℕ) → has_ceiling m ≡ false → StaysPlain a b → IsTied m got a → IsTied m got b
stays_tied m got a b free same tie = ⊎_elim (λ (e : b ≡ a). subst (IsTied m got) (sym e) tie) (λ (p : IsPlain a × IsPlain b). plain_tied m got a b p.0 p.1 free tie) same

pub stays_left : (left a b : ℕ) → StaysPlain a b → IsLeft false left a → IsLeft false left b
stays_left left a b same was = ⊎_elim (λ (e : b ≡ a). subst (IsLeft false left) (sym e) was)
    (λ (p : IsPlain a × IsPlain b). inr (refl, ⊎_elim (λ (e : a ≡ left). subst IsPlain e p.0) (λ (x : (false ≡ false) × IsPlain left × IsPlain a). x.1) was, p.1)) same

-- at the give: what the holder left there is tied to the new records, so what is there is
pub left_tied : (m : Mutex) (got : ℕ → Bool) (left word : ℕ) → IsLeft (has_ceiling m) left word → IsTied m got left → IsTied m got word
left_tied m got left word is tie = ⊎_elim (λ (e : word ≡ left). subst (IsTied m got) (sym e) tie)
    (λ (x : (has_ceiling m ≡ false) × IsPlain left × IsPlain word). plain_tied m got left word x.1 x.2 x.0 tie) is

-- the records of which only waiters left by their deadlines
pub owner_left : (m m' : Mutex) (n : ℕ) → LeftBy m m' → OwnerTie m n → OwnerTie m' n
owner_left m m' n left tie = record {
  named = λ o e. tie.named o (left.owner o e);
  marked = λ e. tie.marked (left.waited e);
  raised = left.raised;
  ceiled = λ ceiling o e. left.stays ceiling ∙ tie.ceiled (kept_kind ceiling) o e;
  peopled = tie.peopled;
}
  where
    kept_kind : has_ceiling m' ≡ true → has_ceiling m ≡ true
    kept_kind e = subst (λ k. is_some (record_of.ceiling_of k) ≡ true) left.kind e

pub tied_left : (m m' : Mutex) (got got' : ℕ → Bool) (n : ℕ) → LeftBy m m' → ((t : ℕ) → got' t ≡ got t) → IsTied m got n → IsTied m' got' n
tied_left m m' got got' n left same tie = record { owner = owner_left m m' n left tie.owner; offer = λ t. tie.offer t ∙ sym (same t) }

-- a word that isn't 0 has somebody in it
pub peopled_word : (x : word.Mutex) → NamesBelow thread_limit x → x ≢ unowned → (is_claimed (mutex_word x) ≡ true → number_in (mutex_word x) ≢ 0) → number_in (mutex_word x) ≢ 0
peopled_word unowned small there peopled = absurd (there refl)
peopled_word (seized h) small there peopled = peopled refl
peopled_word (owned h marked) small there peopled = λ z. let n : h + 1 ≡ 0 = sym (number_in-owned h marked small) ∙ z in omega arith
peopled_word (offered h marked) small there peopled = λ z. let n : h + 1 ≡ 0 = sym (number_in-offer h marked small) ∙ z in omega arith

-- so nobody else has claimed a mutex and not settled it
pub not_seized : (m : Mutex) (h : ℕ) → OwnerTie m (mutex_word (seized h)) → ⊥
not_seized m h tie = tie.peopled refl refl

-- A claim: the word is marked, whether or not the kernel accepts the wait
module _ (x : word.Mutex) (k : ℕ) (small : NamesBelow thread_limit x) (here : k < thread_limit) (there : x ≢ unowned) where
  marked_is : is_claimed (mutex_word (claimed_word x k)) ≡ true
  marked_is = claimed-word (claimed_word x k) (names-claimed thread_limit x k here small) ∙ marked-claimed x k

  offers_same : (t : ℕ) → offers_to (mutex_word (claimed_word x k)) t ≡ offers_to (mutex_word x) t
  offers_same t = offers_to-word (claimed_word x k) t (names-claimed thread_limit x k here small) ∙ offered-claimed x k t ∙ sym (offers_to-word x t small)

  owner_refused : (m : Mutex) → OwnerTie m (mutex_word x) → OwnerTie m (mutex_word (claimed_word x k))
  owner_refused m tie = record {
    named = λ o e. number-claimed x k small there ∙ tie.named o e;
    marked = λ e. marked_is;
    raised = tie.raised;
    ceiled = λ ceiling o e. tie.ceiled ceiling o (sym (number-claimed x k small there) ∙ e);
    peopled = λ e z. peopled_word x small there tie.peopled (sym (number-claimed x k small there) ∙ z);
  }

  pub claim_refused : (m : Mutex) (got : ℕ → Bool) → IsTied m got (mutex_word x) → IsTied m got (mutex_word (claimed_word x k))
  claim_refused m got tie = record { owner = owner_refused m tie.owner; offer = λ t. offers_same t ∙ tie.offer t }

  somebody : (w : Waiter) (ws : List Waiter) → is_nobody (enqueued_by_rank w ws) ≡ false
  somebody w [] = refl
  somebody w (v ∷ vs) = by (Rattle.std.specs.Prelude.nat_lt v.rank w.rank)
    where
      by : (b : Bool) → is_nobody (if b then w ∷ v ∷ vs else v ∷ enqueued_by_rank w vs) ≡ false
      by true = refl
      by false = refl

  -- accepted for the owner that the word names
  pub claim_accepted : (m : Mutex) (got : ℕ → Bool) (w : Waiter) (o : ℕ) → number_in (mutex_word x) ≡ o + 1 → IsTied m got (mutex_word x) → IsTied (record_of.claimed_mutex m w o) got (mutex_word (claimed_word x k))
  claim_accepted m got w o named tie = record {
    owner = record {
      named = λ p e. let same : o ≡ p = cc in number-claimed x k small there ∙ named ∙ ap (λ q. q + 1) same;
      marked = λ e. marked_is;
      raised = λ none some. absurd (false≢true (sym (somebody w m.waiters) ∙ none));
      ceiled = λ ceiling p e. let n : o + 1 ≡ p + 1 = sym named ∙ sym (number-claimed x k small there) ∙ e in ap (λ (q : ℕ). Some q) (let r = n in omega arith);
      peopled = λ e z. let n : o + 1 ≡ 0 = sym named ∙ sym (number-claimed x k small there) ∙ z in omega arith;
    };
    offer = λ t. offers_same t ∙ tie.offer t;
  }

-- A mutex that nobody had is its thread's: where it has a ceiling, that was recorded
pub raise_tied : (m : Mutex) (got : ℕ → Bool) (k : ℕ) → k < thread_limit → has_ceiling m ≡ true → IsTied m got 0 → IsTied (raised m k) got (k + 1)
raise_tied m got k small ceiling tie = record {
  owner = record {
    named = λ o e. let same : k ≡ o = cc in number_small k small ∙ ap (λ q. q + 1) same;
    marked = λ e. absurd (false≢true (sym e ∙ nobody_waits m 0 (omega arith) tie.owner));
    raised = λ none some. ceiling;
    ceiled = λ has o e. let n : k + 1 ≡ o + 1 = sym (number_small k small) ∙ e in ap (λ (q : ℕ). Some q) (let r = n in omega arith);
    peopled = λ e z. let n : k + 1 ≡ 0 = sym (number_small k small) ∙ z in omega arith;
  };
  offer = offer_plain got 0 (k + 1) (omega arith) (omega arith) tie.offer;
}

-- a raise of a mutex that nobody has isn't refused
pub none_recorded : (m : Mutex) (got : ℕ → Bool) → IsTied m got 0 → m.owner ≡ None
none_recorded m got tie = by m.owner refl
  where
    by : (o : Option ℕ) → m.owner ≡ o → o ≡ None
    by None e = refl
    by (Some o) e = absurd (let z : 0 ≡ o + 1 = tie.owner.named o e in omega arith)

-- nor is a release by the owner, nor a claim of the owner, for another recorded one
pub open_to_named : (m : Mutex) (n k : ℕ) → number_in n ≡ k + 1 → OwnerTie m n → is_open_to k m ≡ true
open_to_named m n k named tie = by m.owner refl
  where
    by : (o : Option ℕ) → m.owner ≡ o → option_map_or (λ p. p == k) o true ≡ true
    by None e = refl
    by (Some o) e = let z = tie.named o e in eq-eqb o k (omega arith)

-- A release: the word is offered to whom the kernel names, and marked where more wait, or it is nobody's
abbrev pub word_given : Option ℕ → Bool → ℕ
word_given None more = 0
word_given (Some next) more = offer_word next more

abbrev pub got_given : Option ℕ → ℕ → Bool
got_given None t = false
got_given (Some next) t = next == t

pub release_tied : (m : Mutex) → ((next : ℕ) → (released_mutex m).next ≡ Some next → next < thread_limit) → IsTied (released_mutex m).after (got_given (released_mutex m).next) (word_given (released_mutex m).next (released_mutex m).more)
release_tied m low = by m.waiters low
  where
    by : (ws : List Waiter) → ((next : ℕ) → (handed_to m ws).next ≡ Some next → next < thread_limit) → IsTied (handed_to m ws).after (got_given (handed_to m ws).next) (word_given (handed_to m ws).next (handed_to m ws).more)
    by [] low = record {
      owner = record { named = λ o e. absurd (cc); marked = λ e. absurd (false≢true (sym e)); raised = λ none some. absurd (false≢true some); ceiled = λ has o e. absurd (let z : 0 ≡ o + 1 = e in omega arith); peopled = λ e. absurd (false≢true e) };
      offer = λ t. refl;
    }
    by (w ∷ ws) low = record {
      owner = record {
        named = λ o e. number_in-offer w.thread (not (is_nobody ws)) small ∙ ap (λ q. q + 1) (who (not (is_nobody ws) || has_ceiling m) o e);
        marked = λ e. claimed-word (offered w.thread (not (is_nobody ws))) small ∙ ap not e;
        raised = λ none some. alone (is_nobody ws) (has_ceiling m) none some;
        ceiled = λ has o e. recorded (not (is_nobody ws)) (has_ceiling m) o has (let n : w.thread + 1 ≡ o + 1 = sym (number_in-offer w.thread (not (is_nobody ws)) small) ∙ e in omega arith);
        peopled = λ e z. let n : w.thread + 1 ≡ 0 = sym (number_in-offer w.thread (not (is_nobody ws)) small) ∙ z in omega arith;
      };
      offer = λ t. offers_to-word (offered w.thread (not (is_nobody ws))) t small;
    }
      where
        small : w.thread < thread_limit
        small = low w.thread refl

        who : (b : Bool) (o : ℕ) → (if b then Some w.thread else None) ≡ Some o → w.thread ≡ o
        who true o e = cc
        who false o e = absurd (cc)

        recorded : (some ceiling : Bool) (o : ℕ) → ceiling ≡ true → w.thread ≡ o → (if some || ceiling then Some w.thread else None) ≡ Some o
        recorded true true o has e = ap (λ (q : ℕ). Some q) e
        recorded false true o has e = ap (λ (q : ℕ). Some q) e
        recorded some false o has e = absurd (false≢true has)

        alone : (none ceiling : Bool) → none ≡ true → is_some (if not none || ceiling then Some w.thread else None) ≡ true → ceiling ≡ true
        alone true true n s = refl
        alone true false n s = absurd (false≢true s)
        alone false ceiling n s = absurd (false≢true n)

-- An acceptance, after which nobody's wait for the mutex is ended by getting it
pub accept_tied : (m : Mutex) (got got' : ℕ → Bool) (k : ℕ) (marked : Bool) → k < thread_limit → ((t : ℕ) → got' t ≡ false) → IsTied m got (mutex_word (offered k marked)) → IsTied m got' (mutex_word (owned k marked))
accept_tied m got got' k marked small nobody tie = record {
  owner = record {
    named = λ o e. number_in-owned k marked small ∙ sym (number_in-offer k marked small) ∙ tie.owner.named o e;
    marked = λ e. claimed-word (owned k marked) small ∙ sym (claimed-word (offered k marked) small) ∙ tie.owner.marked e;
    raised = tie.owner.raised;
    ceiled = λ has o e. tie.owner.ceiled has o (number_in-offer k marked small ∙ sym (number_in-owned k marked small) ∙ e);
    peopled = λ e z. let n : k + 1 ≡ 0 = sym (number_in-owned k marked small) ∙ z in omega arith;
  };
  offer = λ t. offers_to-word (owned k marked) t small ∙ sym (nobody t);
}

-- who is offered the mutex is alone in that
pub offered_alone : (got : ℕ → Bool) (k : ℕ) (marked : Bool) → k < thread_limit → OfferTie got (mutex_word (offered k marked)) → (t : ℕ) → got t ≡ eqb k t
offered_alone got k marked small tie t = sym (tie t) ∙ offers_to-word (offered k marked) t small
