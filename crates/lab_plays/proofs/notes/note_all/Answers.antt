use Rattle.std.proofs.Common.{◌∙◌, None, List, ℕ, [], ap, map, max, string_bytes, subst}
use Rattle.evl_plans.specs.Told.{handler_of}
use Rattle.lab_plays.specs.Expects.{JudgesText}
use Rattle.lab_plays.proofs.notes.note_all.Goals as goal

pub returns : goal.returns
returns c =
    let bank = map handler_of c.args.plans.now in
    let own = c.in_ok-judged.judged in
    let judges : JudgesText bank None [] c.args.text.items own = subst (λ (t : List ℕ). JudgesText bank None [] t own) c.as_slice.ensures.value c.in_ok-judged.ensures in (
      string_bytes c.note_given.new.json,
      c.in_ok-is_bad.is_bad,
      own,
      c.in_ok-is_bad.ensures,
      judges,
      c.in_ok-note_judged.ensures,
      c.worse.ensures ∙ ap (λ (n : ℕ). max n own.status) c.status_of.ensures,
    )
