-- The note of each step on a mutex's word by the thread that has the kernel, and how it found the word.
use Rattle.std.proofs.Common.{◌≡◌, ◌≢◌, ◌==◌, ℕ, ◌+◌, Bool, List, Option, IsSomeAnd, Ok, Err, slice_get, refl, sym, ap, ◌∙◌}
use Rattle.std.specs.Prelude.{bit_and, bit_or}
use mathlib.Core.Option.{none}
use prog.Atomic.{either}
use Rattle.atomic_table.specs.Seated.{TableId}
use Rattle.atomic_table.specs.Table.{Step, step}
use Rattle.evl_base.specs.declared.refusal.Refusal.{Refusal}
use Rattle.evl_kernel.specs.state.KernelViews.{KernelView}
use Rattle.evl_words.specs.declared.mutex.Claim.{Claim}
use Rattle.evl_words.specs.declared.mutex.MutexPass.{MutexPass}
use Rattle.evl_words.specs.declared.mutex.place.MutexPlace.{MutexPlace}
use Rattle.evl_words.specs.MutexBits.{claim_reply, offer_word, offers_to}
use Rattle.evl_words.specs.MutexCalls.{reply_of}
use Rattle.evl_words.specs.MutexRule.{awaited, claimed, does, forgot, tried}
use Rattle.evl_words.specs.MutexWorld.{accepts, awaits, claims, forgets, frees, offers, settles, tries}
use Rattle.evl_core.specs.rule.Known.{KernelMe, accepted_known, awaited_known, claimed_known, forgot_known, freed_known, offered_known, settled_known, tried_held_known}
use Rattle.evl_core.specs.words.MutexTokens.{IsAtTable}
use Rattle.evl_core.specs.words.Noted.{FoundAny, FoundClaimed, FoundOffered, FoundTried, Notes}
use Rattle.evl_core.proofs.words.MutexStepLaws.{number_is}
use Rattle.evl_core.proofs.words.MutexTokens.{notes}

module _ {C : Type 0} (table : TableId) (first : KernelView C) (id : TableId) (me me' : KernelMe C) (ps : List MutexPlace) (i : ℕ) (t : IsAtTable table first id me.0 ps) (slots w a b found : ℕ) (e : w ≡ i) where
  abbrev st : Step (Option (KernelView C))
  st = step slots (1 + w) a b none

  at_word : (1 + w) ≡ 1 + i
  at_word = ap (λ n. 1 + n) e

  -- the place there has this number
  abbrev HasNumber : ℕ → Type 0
  HasNumber n = IsSomeAnd (slice_get ps i) (λ p. p.number ≡ n)

  own : (n : ℕ) → HasNumber n → t.its.number ≡ n
  own n mine = number_is me.0 ps i t.its n mine

  module _ (n : ℕ) (mine : HasNumber n) where
    pub won_noted : (pass : MutexPass) → b ≡ n + 1 → tried_held_known st me found me' → found ≡ 0 → Notes i tries (FoundTried (Ok pass)) me.0 me'.0
    won_noted pass is told free =
        notes i t.its.number t.its.thread tries found me me' st at_word t.its.one tried (λ st p q cs ds found x. x.0) (λ st n. either (n == 0) st.second n) (λ x. ap (λ y. either (x == 0) y x) (ap (λ y. y + 1) (own n mine) ∙ sym is)) told (FoundTried (Ok pass)) free

    pub lost_noted : (refusal : Refusal) → b ≡ n + 1 → tried_held_known st me found me' → found ≢ 0 → Notes i tries (FoundTried (Err refusal)) me.0 me'.0
    lost_noted refusal is told other =
        notes i t.its.number t.its.thread tries found me me' st at_word t.its.one tried (λ st p q cs ds found x. x.0) (λ st n. either (n == 0) st.second n) (λ x. ap (λ y. either (x == 0) y x) (ap (λ y. y + 1) (own n mine) ∙ sym is)) told (FoundTried (Err refusal)) other

    pub settle_noted : a ≡ n + 1 → settled_known st me found me' → Notes i settles FoundAny me.0 me'.0
    settle_noted is told =
        notes i t.its.number t.its.thread settles found me me' st at_word t.its.one (does settles) (λ st p q cs ds found x. x) (λ st n. st.first) (λ x. ap (λ y. y + 1) (own n mine) ∙ sym is) told FoundAny tt

    pub forget_noted : (offered : Bool) → offers_to found n ≡ offered → forgot_known st me found me' → Notes i forgets (FoundOffered offered) me.0 me'.0
    forget_noted offered is told =
        notes i t.its.number t.its.thread forgets found me me' st at_word t.its.one forgot (λ st p q cs ds found x. x.0) (λ st n. n) (λ x. refl) told (FoundOffered offered) (ap (offers_to found) (own n mine) ∙ is)

    pub await_noted : (offered : Bool) → offers_to found n ≡ offered → awaited_known st me found me' → Notes i awaits (FoundOffered offered) me.0 me'.0
    await_noted offered is told =
        notes i t.its.number t.its.thread awaits found me me' st at_word t.its.one awaited (λ st p q cs ds found x. x.0) (λ st n. n) (λ x. refl) told (FoundOffered offered) (ap (offers_to found) (own n mine) ∙ is)

  pub claim_noted : (answer : Claim) → a ≡ 2147483648 → claimed_known st me found me' → reply_of answer ≡ claim_reply found → Notes i claims (FoundClaimed answer) me.0 me'.0
  claim_noted answer is told replied =
      notes i t.its.number t.its.thread claims found me me' st at_word t.its.one claimed (λ st p q cs ds found x. x.0) (λ st n. bit_or n st.first) (λ x. ap (bit_or x) (sym is)) told (FoundClaimed answer) replied

  pub offer_noted : (next : ℕ) (more : Bool) → a ≡ offer_word next more → offered_known next more st me found me' → Notes i (offers next more) FoundAny me.0 me'.0
  offer_noted next more is told =
      notes i t.its.number t.its.thread (offers next more) found me me' st at_word t.its.one (does (offers next more)) (λ st p q cs ds found x. x) (λ st n. st.first) (λ x. sym is) told FoundAny tt

  pub free_noted : a ≡ 0 → freed_known st me found me' → Notes i frees FoundAny me.0 me'.0
  free_noted is told =
      notes i t.its.number t.its.thread frees found me me' st at_word t.its.one (does frees) (λ st p q cs ds found x. x) (λ st n. st.first) (λ x. sym is) told FoundAny tt

  pub take_noted : a ≡ 18446744072635809791 → accepted_known st me found me' → Notes i accepts FoundAny me.0 me'.0
  take_noted is told =
      notes i t.its.number t.its.thread accepts found me me' st at_word t.its.one (does accepts) (λ st p q cs ds found x. x) (λ st n. bit_and n st.first) (λ x. ap (bit_and x) (sym is)) told FoundAny tt
