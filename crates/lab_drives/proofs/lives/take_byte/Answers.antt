use Rattle.std.proofs.Common.{List, ℕ, [], ◌∷◌, sym, subst}
use Rattle.lab_drives.specs.Lives.{Hears}
use Rattle.lab_drives.specs.Writings.{AnswersLine}
use Rattle.lab_drives.proofs.LiveLemmas.{heard_line}
use Rattle.lab_drives.proofs.lives.take_byte.Goals as goal

pub returns-then-byte-eq10-clause-heard : goal.returns-then-byte-eq10-clause-heard
returns-then-byte-eq10-clause-heard g c =
    let waiting = c.args.waiting.now.items in
    let byte = c.args.byte in
    let old = c.args.session.now in
    let new = c.answer.new.session in
    let (told, line, grown) = c.in_ok-answer.ensures in
    let same = subst (λ (l : List ℕ). AnswersLine l old new told) c.as_slice.ensures.value line in
    let heard = heard_line waiting byte old new told c.requires c.if-byte-eq10.true same in
    (told, subst (λ (l : List ℕ). Hears (byte ∷ []) waiting l old new told) (sym c.clear.ensures.items) heard, grown)
