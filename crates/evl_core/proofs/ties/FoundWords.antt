-- All that a step on a mutex's word says of the word that it found: the mutex that the word shows.
use Rattle.std.proofs.Common.{◌≡◌, ◌≢◌, ℕ, ◌+◌, ◌<◌, eqb-true, Bool, true, map, refl, sym, ap, ◌∙◌, arith}
use Rattle.atomic_table.proofs.Lists.{at_map}
use Rattle.evl_base.specs.declared.numbers.ThreadId.{ThreadId}
use Rattle.evl_base.specs.Limits.{thread_limit}
use Rattle.evl_words.specs.declared.mutex.Claim.{Claim}
use Rattle.evl_words.specs.declared.mutex.Claim.TheVariants.{Won, Queued, Seizing}
use Rattle.evl_words.specs.declared.mutex.MutexReply.TheVariants.{Won as IsWon, Queued as IsQueued, Seizing as IsSeizing}
use Rattle.evl_words.specs.declared.mutex.MutexRole.TheVariants.{Owner}
use Rattle.evl_words.specs.Mutex.{Mutex, unowned, seized, owned, offered, claim_answer, is_offered, is_owner}
use Rattle.evl_words.specs.MutexBits.{claim_reply, mutex_word, number_in, offer_word, offers_to}
use Rattle.evl_words.specs.MutexCalls.{reply_of}
use Rattle.evl_words.specs.MutexWorld.{MutexDoes, MutexKind, MutexView, NamesBelow, owns}
use Rattle.evl_words.proofs.MutexSteps.{names_within}
use Rattle.evl_words.proofs.MutexWords.{claim_reply-word, number_in-owned, offers_to-word}
use Rattle.evl_words.proofs.Sequences.{at_below}
use Rattle.evl_core.proofs.ties.TieWords.{number_in-offer}

-- the mutex that a word shows, whose names are those of threads
pub record Shown (found : ℕ) : Type 0 where
  pub mutex : Mutex
  pub word : found ≡ mutex_word mutex
  pub below : NamesBelow thread_limit mutex

module _ (k : ℕ) (p q : MutexView) (kind : MutexKind) (found : ℕ) (d : MutexDoes k p kind found q) where
  pub shown : Shown found
  shown =
      let tied = d.event.stands.history.tied in
      record { mutex = d.event.stands.state; word = sym d.event.shows ∙ tied.word; below = names_within _ d.event.stands.state tied.few tied.below }

  owner_of : (x : Mutex) → is_owner x k ≡ true → (marked : Bool) × (x ≡ owned k marked)
  owner_of unowned e = absurd (cc)
  owner_of (seized h) e = absurd (cc)
  owner_of (owned h marked) e = (marked, ap (λ i. owned i marked) (eqb-true h k e))
  owner_of (offered h marked) e = absurd (cc)

  -- an owner found its own number
  pub owned_found : p.held.role ≡ Owner → (marked : Bool) × (found ≡ mutex_word (owned k marked))
  owned_found owner =
      let e = d.event in
      let tied = e.stands.history.tied in
      let mine = owner_of e.stands.state (tied.owner k p.held (at_map (λ (x : MutexView). x.held) e.world.views k p e.at) ∙ ap owns owner) in
      (mine.0, sym e.shows ∙ tied.word ∙ ap mutex_word mine.1)

  offered_of : (x : Mutex) → is_offered x k ≡ true → (marked : Bool) × (x ≡ offered k marked)
  offered_of unowned e = absurd (cc)
  offered_of (seized h) e = absurd (cc)
  offered_of (owned h marked) e = absurd (cc)
  offered_of (offered h marked) e = (marked, ap (λ i. offered i marked) (eqb-true h k e))

  -- to whom a word offers the mutex, it is that offer
  pub offer_found : offers_to found k ≡ true → (marked : Bool) × (found ≡ offer_word k marked)
  offer_found offers =
      let s = shown in
      let mine = offered_of s.mutex (sym (offers_to-word s.mutex k s.below) ∙ ap (λ n. offers_to n k) (sym s.word) ∙ offers) in
      (mine.0, s.word ∙ ap mutex_word mine.1)

-- what the answer to a claim on a shown word says of the mutex
claim_is : (found : ℕ) (s : Shown found) (told : Claim) → reply_of told ≡ claim_reply found → reply_of told ≡ claim_answer s.mutex
claim_is found s told is = is ∙ ap claim_reply s.word ∙ claim_reply-word s.mutex s.below

-- won: it was nobody's
pub won_found : (found : ℕ) → Shown found → reply_of Won ≡ claim_reply found → found ≡ 0
won_found found s is = s.word ∙ by s.mutex (claim_is found s Won is)
  where
    by : (x : Mutex) → IsWon ≡ claim_answer x → mutex_word x ≡ 0
    by unowned e = refl
    by (seized h) e = absurd (cc)
    by (owned h marked) e = absurd (cc)
    by (offered h marked) e = absurd (cc)

-- seizing: another one has won it
pub seizing_found : (found : ℕ) (s : Shown found) → reply_of Seizing ≡ claim_reply found → (h : ℕ) × (found ≡ mutex_word (seized h))
seizing_found found s is = let x = by s.mutex (claim_is found s Seizing is) in (x.0, s.word ∙ ap mutex_word x.1)
  where
    by : (x : Mutex) → IsSeizing ≡ claim_answer x → (h : ℕ) × (x ≡ seized h)
    by unowned e = absurd (cc)
    by (seized h) e = (h, refl)
    by (owned h marked) e = absurd (cc)
    by (offered h marked) e = absurd (cc)

-- queued: somebody has it, whom the answer names
pub queued_found : (found : ℕ) (s : Shown found) (owner : ThreadId) → reply_of (Queued owner) ≡ claim_reply found → (s.mutex ≢ unowned) × (number_in (mutex_word s.mutex) ≡ owner.0 + 1)
queued_found found s owner is = by s.mutex s.below (claim_is found s (Queued owner) is)
  where
    by : (x : Mutex) → NamesBelow thread_limit x → IsQueued owner.0 ≡ claim_answer x → (x ≢ unowned) × (number_in (mutex_word x) ≡ owner.0 + 1)
    by unowned below e = absurd (cc)
    by (seized h) below e = absurd (cc)
    by (owned h marked) below e = let same : owner.0 ≡ h = cc in ((λ is. absurd (cc)), number_in-owned h marked below ∙ ap (λ n. n + 1) (sym same))
    by (offered h marked) below e = let same : owner.0 ≡ h = cc in ((λ is. absurd (cc)), number_in-offer h marked below ∙ ap (λ n. n + 1) (sym same))
