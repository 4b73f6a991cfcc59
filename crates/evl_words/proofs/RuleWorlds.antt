-- The rule of a table of one word says what holds of the word's world, no less and no more.
use Rattle.std.proofs.Common.{◌≡◌, ℕ, List, [], ◌∷◌, length, get_or, refl, sym, ap, subst, arith}
use Rattle.atomic_table.specs.Table.{State}
use Rattle.evl_words.specs.declared.history.View.{View}
use Rattle.evl_words.specs.Events.{World, Part}
use Rattle.evl_words.specs.Hands.{Hand, Deals, Dealt}
use Rattle.evl_words.specs.Parts.{OneWord}
use Rattle.evl_words.specs.Dealings.{Dealing, Holds}
use Rattle.evl_words.specs.Lying.{LiesAlone, LiesInWorld}

only_word : (words : List ℕ) → length words ≡ 1 → words ≡ get_or words 0 0 ∷ []
only_word [] one = absurd (omega arith)
only_word (x ∷ []) one = refl
only_word (x ∷ y ∷ ys) one = absurd (omega arith)

module _ {S E H : Type 0} (Stands : World E H → Type 0) (seats : ℕ) (s : State S (Hand (View E H))) where
  pub rule_to_world : Dealt (OneWord (Part Stands) seats) s → LiesInWorld Stands seats s
  rule_to_world r = (
    record { world = record { word = get_or s.words 0 0; log = r.kept.kept.0; views = r.views }; hands = s.views },
    record { word = only_word s.words r.kept.one; hands = refl; all = r.kept.all },
    (r.kept.kept.1, r.deals),
  )

  pub world_to_rule : LiesInWorld Stands seats s → Dealt (OneWord (Part Stands) seats) s
  world_to_rule (d, so, stands) = record {
    views = d.world.views;
    deals = subst (Deals d.world.views) (sym so.hands) stands.1;
    kept = record {
      one = ap length so.word;
      all = so.all;
      kept = subst (λ words. Part Stands (get_or words 0 0) d.world.views) (sym so.word) (d.world.log, stands.0);
    };
  }
