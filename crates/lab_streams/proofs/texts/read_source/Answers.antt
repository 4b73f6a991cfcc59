use Rattle.std.proofs.Common.{◌≡◌}
use Rattle.lab_streams.specs.declared.texts.Unread.TheVariants.{TooLong}
use Rattle.lab_streams.proofs.TextLemmas.{all_of_bounded, long_of_bounded}
use Rattle.lab_streams.proofs.texts.read_source.Goals as goal

pub returns-in-Ok-clause-text : goal.returns-in-Ok-clause-text
returns-in-Ok-clause-text g c = all_of_bounded (λ t. t.items) _ c.in-Ok.text.items c.bounded.result c.in-Ok.ensures.text c.bounded.ensures.text c.bounded.ensures.bound

pub returns-in-Ok-clause-long : goal.returns-in-Ok-clause-long
returns-in-Ok-clause-long g c = long_of_bounded (λ e. e ≡ TooLong) _ c.in-Ok.text.items c.bounded.result c.in-Ok.ensures.text c.bounded.ensures.long
