-- Texts, and front parts of texts.
use Rattle.std.proofs.Common.{◌≡◌, ℕ, List, true, false, nat_eq, length, drop, Some, None, sym, ◌∙◌, ap, subst}
use Rattle.std.specs.List.{starts_with}
use Rattle.std.specs.Str.{IsUtf8, IsCharBoundary, is_utf8}
use Rattle.std.specs.Str.Pattern.{FindsTextPrefix, StripsPrefix}
use Rattle.std.proofs.lemmas.Str.{is_utf8-from_IsUtf8, IsUtf8-from_is_utf8}
use Rattle.std.proofs.lemmas.Str.Pattern.{starts_text}
use Rattle.std.proofs.lemmas.Bool.{false_from_ne_true}
use Rattle.evl_scenario.specs.Values.{past_front}

pub is_utf8-true : (bytes : List ℕ) → IsUtf8 bytes → is_utf8 bytes ≡ true
is_utf8-true bytes h = is_utf8-from_IsUtf8 bytes h

pub is_utf8-false : (bytes : List ℕ) → (IsUtf8 bytes → ⊥) → is_utf8 bytes ≡ false
is_utf8-false bytes h = false_from_ne_true (is_utf8 bytes) (λ e. h (IsUtf8-from_is_utf8 bytes e))

-- what follows a front part that was found
pub text_after-found : (front text rest : List ℕ) → StripsPrefix (FindsTextPrefix front) text rest → Some rest ≡ past_front front text
text_after-found front text rest found =
    let starts : true ≡ starts_with nat_eq text front = starts_text true front text (found.0, found.1, let P : ℕ → Type 0 = λ n. IsCharBoundary text n in subst P (sym found.1.0) found.1.2) in
    let same : rest ≡ drop (length front) text = found.2 ∙ ap (λ (n : ℕ). drop n text) found.1.0 in
    rw (← starts, same)

-- nothing follows one that wasn't
pub text_after-missing : (front text : List ℕ) → FindsTextPrefix front text None → None ≡ past_front front text
text_after-missing front text missing =
    let starts : false ≡ starts_with nat_eq text front = starts_text false front text missing in
    rw (← starts)
