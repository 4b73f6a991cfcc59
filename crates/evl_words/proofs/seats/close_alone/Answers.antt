use Rattle.std.proofs.Common.{get_or, sym, ap, ◌∙◌}
use Rattle.evl_words.proofs.Sequences.{first_is}
use Rattle.evl_words.proofs.seats.close_alone.Goals as goal

pub returns : goal.returns
returns g c = let final = c.close-closed.ensures.values.2 in record { state = final.0; kept = final.1; shown = sym (ap (λ l. get_or l 0 0) final.2 ∙ first_is _ _ c.word-word.ensures) }
