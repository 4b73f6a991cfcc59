use Rattle.std.proofs.Common.{◌≡◌, ◌≢◌, ◌<◌, ◌⊎◌, ◌+◌, ◌/◌, ℕ, zero, suc, inl, inr, true, false, [], ◌∷◌, List, length, ap, ◌∙◌, subst, arith, refl, slice_set}
use Rattle.std.proofs.lemmas.List.{get_or-set_other}
use Rattle.evl_bitmap.specs.NumberSet.{NumberSet}
use Rattle.evl_mutex.proofs.LendingLaws.{same_or_not}
use Rattle.evl_sched.specs.Threads.{Sched, is_attached}
use Rattle.evl_kernel.specs.state.ChangedThreads.{is_noted, of_word}
use Rattle.evl_kernel.proofs.calls.HandLaws.{attached-low}
use Rattle.evl_kernel.proofs.state.ChangedLaws.{unnoted}
use Rattle.evl_kernel.proofs.ranks.hand_on.Goals as goal

emptied : (words : List NumberSet) (w : ℕ) → of_word (slice_set words w []) w ≡ []
emptied [] w = refl
emptied (s ∷ ss) zero = refl
emptied (s ∷ ss) (suc w) = emptied ss w

pub loop-word-init : goal.loop-word-init
loop-word-init g c = record { kept = refl; given = c.requires.others; none = λ w l. absurd (omega (arith, l)) }

pub loop-word-preserved : goal.loop-word-preserved
loop-word-preserved g c =
    let words = c.loop-word.changes in let at = c.loop-word.word in
    record {
      kept = c.hand_word.ensures.kept ∙ c.loop-word.invariant.kept;
      given = c.hand_word.ensures.others;
      none = λ w l. ap (λ (all : List NumberSet). of_word all w) c.hand_word.ensures.none ∙ by w l (same_or_not w at);
    }
  where
    by : (w : ℕ) → w < c.loop-word.word + 1 → (w ≡ c.loop-word.word) ⊎ (w ≢ c.loop-word.word) → of_word (slice_set c.loop-word.changes c.loop-word.word []) w ≡ []
    by w l (inl here) = ap (of_word (slice_set c.loop-word.changes c.loop-word.word [])) here ∙ emptied c.loop-word.changes c.loop-word.word
    by w l (inr ne) = get_or-set_other c.loop-word.changes c.loop-word.word w [] [] ne ∙ c.loop-word.invariant.none w (omega (arith, l, ne))

pub words_of-words-requires : goal.words_of-words-requires
words_of-words-requires g c = omega (arith, c.requires.told.seats, c.requires.told.few)

pub returns : goal.returns
returns g c =
    let s = c.args.sched.now.sched in
    let free : (t : ℕ) → is_attached s t ≡ true → is_noted c.loop-word.changes t ≡ false = λ t attached.
    let low : t < length s.seats = attached-low s t attached in
    unnoted c.loop-word.changes t (omega (arith, low, c.requires.told.seats, c.requires.told.few))
    (c.loop-word.invariant.none (t / 32) (omega (arith, low, c.words_of-words.ensures.all, c.loop-word-test.false))) in
    record {
      given = λ t attached. c.loop-word.invariant.given t (free t (subst (λ (q : Sched). is_attached q t ≡ true) c.loop-word.invariant.kept attached)) attached;
      kept = c.loop-word.invariant.kept;
      none = free;
    }
