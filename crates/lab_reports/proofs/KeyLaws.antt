-- The text of a call of the kernel is joined of its name and of its keys with their values.
use Rattle.std.proofs.Common.{◌≡◌, ℕ, ◌==◌, Bool, true, not, ◌&&◌, List, [], ◌∷◌, ◌++◌, codes, map, take, refl, ◌∙◌, ap}
use Rattle.std.proofs.lemmas.Bool.{and_parts}
use Rattle.std.specs.List.{list_all}
use Rattle.evl_base.specs.Call.{call_text, call_word as word_of}
use Rattle.evl_base.specs.declared.call.Call.{Call}
use Rattle.evl_base.specs.declared.call.Call.TheVariants.{Now}
use Rattle.evl_base.specs.Calls.{told_in}
use Rattle.evl_base.specs.Fields.{Keyed, keys_text, value_text}
use Rattle.evl_scenario.specs.Widths.{AllFit, CallFits}
use Rattle.lab_traces.specs.Parts.{Lacks}
use Rattle.lab_traces.proofs.CallTexts.{value-no_equals}
use Rattle.lab_reports.specs.Calls.{ArePairs, IsJoined, Pair, call_pairs, call_word, keyed_pair, pairs_text}
use Rattle.lab_reports.proofs.JoinLaws.{parts_back}

keys_joined : (keyed : List Keyed) → keys_text keyed ≡ pairs_text (map keyed_pair keyed)
keys_joined [] = refl
keys_joined (k ∷ rest) = ap (λ (x : List ℕ). codes " " ++ (k.0 ++ (codes "=" ++ (value_text k.1 ++ x)))) (keys_joined rest)

-- neither a space nor an equals sign
abbrev is_named : ℕ → Bool
is_named c = not (c == 32) && not (c == 61)

names : (call : Call) → (list_all is_named (word_of call) && list_all (λ keyed. list_all is_named keyed.0) (told_in call)) ≡ true
names Now = refl
names _ = refl

lacks_both : (text : List ℕ) → list_all is_named text ≡ true → Lacks 32 text × Lacks 61 text
lacks_both [] h = (refl, refl)
lacks_both (c ∷ rest) h =
    let (here, more) = and_parts (is_named c) (list_all is_named rest) h in
    let (space, equals) = and_parts (not (c == 32)) (not (c == 61)) here in
    let behind = lacks_both rest more in
    (rw (space, behind.0) refl, rw (equals, behind.1) refl)

are_pairs : (keyed : List Keyed) → list_all (λ k. list_all is_named k.0) keyed ≡ true → AllFit keyed → ArePairs (map keyed_pair keyed)
are_pairs [] h fits = tt
are_pairs (k ∷ rest) h fits =
    let (here, more) = and_parts (list_all is_named k.0) (list_all (λ x. list_all is_named x.0) rest) h in
    let name = lacks_both k.0 here in
    (name.0, name.1, value-no_equals k.1 fits.0, are_pairs rest more fits.1)

call_joined : (call : Call) → CallFits call → IsJoined (call_text call) (word_of call) (map keyed_pair (told_in call))
call_joined call fits =
    let both = and_parts (list_all is_named (word_of call)) (list_all (λ k. list_all is_named k.0) (told_in call)) (names call) in
    record {
      whole = ap (λ (x : List ℕ). word_of call ++ x) (keys_joined (told_in call));
      one_word = (lacks_both (word_of call) both.0).0;
      are_pairs = are_pairs (told_in call) both.1 fits;
    }

few : (call : Call) → take 8 (map keyed_pair (told_in call)) ≡ map keyed_pair (told_in call)
few Now = refl
few _ = refl

pub call_back : (text given : List ℕ) (told : List Pair) (call : Call) → given ≡ call_word text → told ≡ call_pairs text → CallFits call → text ≡ call_text call
    → (given ≡ word_of call) × (told ≡ map keyed_pair (told_in call))
call_back text given told call g t fits same =
    let joined : IsJoined text (word_of call) (map keyed_pair (told_in call)) = rw same (call_joined call fits) in
    let back = parts_back text (word_of call) given (map keyed_pair (told_in call)) told g t joined in
    (back.0, back.1 ∙ few call)
