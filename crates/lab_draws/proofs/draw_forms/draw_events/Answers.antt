use Rattle.std.proofs.Common.{◌∙◌, ℕ, List, OnOk, subst}
use Rattle.std.specs.Io.KnownBytes.{Appends}
use Rattle.lab_draws.proofs.DrawLemmas.{events_is}
use Rattle.lab_draws.proofs.draw_forms.draw_events.Goals as goal

pub returns-in-Ok-clause-text : goal.returns-in-Ok-clause-text
returns-in-Ok-clause-text g c =
    subst (λ (l : List ℕ). OnOk c.put.result (Appends (g.O.Stream.contents c.args.out.now) (g.O.Stream.contents c.put.new.out) l))
    (c.as_bytes.ensures.value ∙ c.in-Ok.ensures ∙ events_is c.args.marks.now) c.put.ensures.bytes
