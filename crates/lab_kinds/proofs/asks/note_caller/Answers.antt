use Rattle.std.proofs.Common.{rules, ◌≡◌, ◌∙◌, ◌++◌, ℕ, List, [], ◌∷◌, Bor, ap, map, sym}
use Rattle.std.proofs.lemmas.List.{map-append}
use Rattle.lab_kinds.specs.Orders.{caller_of}
use Rattle.lab_kinds.proofs.asks.note_caller.Goals as goal

pub returns-in_ok-push : goal.returns-in_ok-push
returns-in_ok-push c =
    let own : caller_of c.args.text.now c.args.setup c.args.item ≡ c.named-then-eq.result.now ∷ [] =
    search (rules, c.if-number_of-setup.true, c.if-eq.true, c.if-eq.ensures, c.eq.ensures, c.number_of.ensures, c.named.ensures, c.named-then-eq.ensures) in
    ap (λ (all : List (Bor (List ℕ))). map (λ (who : Bor (List ℕ)). who.now) all) c.in_ok-push.ensures.items
    ∙ map-append (λ (who : Bor (List ℕ)). who.now) c.args.callers.now.items (c.named-then-eq.result ∷ [])
    ∙ ap (λ (behind : List (List ℕ)). map (λ (who : Bor (List ℕ)). who.now) c.args.callers.now.items ++ behind) (sym own)
