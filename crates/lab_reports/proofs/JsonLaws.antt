-- The text written of a trace, part by part.
use Rattle.std.proofs.Common.{◌≡◌, ℕ, Bool, Bor, true, List, ◌∷◌, ◌++◌, append_assoc, codes, decimal, map, Option, Some, None, is_some, option_map, refl, ap, ap₂, sym, ◌∙◌}
use Rattle.std.specs.Prelude.{unwrap_or}
use Rattle.lab_traces.specs.Parts.{before_end}
use Rattle.lab_traces.specs.Entries.{EntryParts, names_refusal}
use Rattle.lab_traces.specs.Lines.{Said, entry}
use Rattle.lab_reports.specs.Calls.{Pair, call_pairs, call_word}
use Rattle.lab_reports.specs.Json.{answer_json, answer_parts, call_json, end_json, entry_groups, entry_json, first_plays, head_json, kind_json, left_json, lines_json, json_list, number_json, owner_json, pair_json, play_json, truth_json, value_json}
use Rattle.lab_reports.specs.Quotes.{json_text}

-- a text and what follows it
then : (old a one tail new : List ℕ) → one ≡ old ++ a → new ≡ one ++ tail → new ≡ old ++ (a ++ tail)
then old a one tail new e f = f ∙ ap (λ (x : List ℕ). x ++ tail) e ∙ append_assoc old a tail

-- a text that may be there, and else another one
module _ (found : Option (Bor (List ℕ))) (text : Option (List ℕ)) (is : option_map (λ front. front.now) found ≡ text) where
  pub found_or : (other one : Bor (List ℕ)) → one ≡ unwrap_or found other → one.now ≡ unwrap_or text other.now
  found_or other one e = ap (λ (b : Bor (List ℕ)). b.now) e ∙ by found ∙ ap (λ (t : Option (List ℕ)). unwrap_or t other.now) is
    where
      by : (o : Option (Bor (List ℕ))) → (unwrap_or o other).now ≡ unwrap_or (option_map (λ front. front.now) o) other.now
      by None = refl
      by (Some front) = refl

  pub is_found : (there : Bool) → there ≡ is_some found → there ≡ is_some text
  is_found there e = e ∙ by found ∙ ap (λ (t : Option (List ℕ)). is_some t) is
    where
      by : (o : Option (Bor (List ℕ))) → is_some o ≡ is_some (option_map (λ front. front.now) o)
      by None = refl
      by (Some front) = refl

-- ---- parts of a line

pub call_told : (call word : List ℕ) (pairs : List Pair) (old one two three four new : List ℕ)
    → one ≡ old ++ codes "\"call\": " → two ≡ one ++ json_text word → three ≡ two ++ codes ", \"keys\": {"
    → four ≡ three ++ json_list true (map pair_json pairs) → new ≡ four ++ codes "}"
    → word ≡ call_word call → pairs ≡ call_pairs call → new ≡ old ++ call_json call
call_told call word pairs old one two three four new e f g h i w p =
    let keys = json_list true (map pair_json pairs) in
    then old (codes "\"call\": ") one (json_text word ++ (codes ", \"keys\": {" ++ (keys ++ codes "}"))) new e
    (then one (json_text word) two (codes ", \"keys\": {" ++ (keys ++ codes "}")) new f
    (then two (codes ", \"keys\": {") three (keys ++ codes "}") new g
    (then three keys four (codes "}") new h i)))
    ∙ ap (λ (x : List ℕ). old ++ (codes "\"call\": " ++ (json_text x ++ (codes ", \"keys\": {" ++ (keys ++ codes "}"))))) w
    ∙ ap (λ (x : List Pair). old ++ (codes "\"call\": " ++ (json_text (call_word call) ++ (codes ", \"keys\": {" ++ (json_list true (map pair_json x) ++ codes "}"))))) p

pub owner_told : (value thread : List ℕ) (more : Bool) (old one two new : List ℕ)
    → one ≡ old ++ codes "{\"thread\": " → two ≡ one ++ value_json (codes "thread") thread → new ≡ two ++ (codes ", \"more\": " ++ (truth_json more ++ codes "}"))
    → thread ≡ unwrap_or (before_end (codes " more") value) value → more ≡ is_some (before_end (codes " more") value) → new ≡ old ++ owner_json value
owner_told value thread more old one two new e f g t m =
    then old (codes "{\"thread\": ") one (value_json (codes "thread") thread ++ (codes ", \"more\": " ++ (truth_json more ++ codes "}"))) new e
    (then one (value_json (codes "thread") thread) two (codes ", \"more\": " ++ (truth_json more ++ codes "}")) new f g)
    ∙ ap₂ (λ (x : List ℕ) (y : Bool). old ++ (codes "{\"thread\": " ++ (value_json (codes "thread") x ++ (codes ", \"more\": " ++ (truth_json y ++ codes "}"))))) t m

pub answer_told : (answer kind value : List ℕ) (refused : Bool) (old one two three four new : List ℕ)
    → one ≡ old ++ codes ", \"answer\": {\"kind\": " → two ≡ one ++ json_text kind → three ≡ two ++ codes ", \"value\": " → four ≡ three ++ kind_json kind value
    → new ≡ four ++ (codes "}, \"refused\": " ++ truth_json refused) → (kind, value) ≡ answer_parts answer → refused ≡ names_refusal answer → new ≡ old ++ answer_json answer
answer_told answer kind value refused old one two three four new e f g h i p r =
    let ends = codes "}, \"refused\": " ++ truth_json refused in
    then old (codes ", \"answer\": {\"kind\": ") one (json_text kind ++ (codes ", \"value\": " ++ (kind_json kind value ++ ends))) new e
    (then one (json_text kind) two (codes ", \"value\": " ++ (kind_json kind value ++ ends)) new f
    (then two (codes ", \"value\": ") three (kind_json kind value ++ ends) new g (then three (kind_json kind value) four ends new h i)))
    ∙ ap₂ (λ (x : Pair) (y : Bool). old ++ (codes ", \"answer\": {\"kind\": " ++ (json_text x.0 ++ (codes ", \"value\": " ++ (kind_json x.0 x.1 ++ (codes "}, \"refused\": " ++ truth_json y)))))) p r

pub entry_told : (parts : EntryParts) (old one two three four new : List ℕ)
    → one ≡ old ++ codes ", \"number\": " → two ≡ one ++ number_json parts.number
    → three ≡ two ++ (codes ", \"who\": " ++ (decimal parts.thread ++ codes ", "))
    → four ≡ three ++ call_json parts.call → new ≡ four ++ answer_json parts.answer → new ≡ old ++ entry_json (Some parts)
entry_told parts old one two three four new e f g h i =
    let behind = call_json parts.call ++ answer_json parts.answer in
    let who = decimal parts.thread in
    then old (codes ", \"number\": ") one (number_json parts.number ++ (codes ", \"who\": " ++ (who ++ (codes ", " ++ behind)))) new e
    (then one (number_json parts.number) two (codes ", \"who\": " ++ (who ++ (codes ", " ++ behind))) new f
    (then two (codes ", \"who\": " ++ (who ++ codes ", ")) three behind new g (then three (call_json parts.call) four (answer_json parts.answer) new h i)
    ∙ ap (λ (x : List ℕ). two ++ (codes ", \"who\": " ++ x)) (append_assoc who (codes ", ") behind)))

pub head_told : (file : List ℕ) (parts : Option EntryParts) (old one two three new : List ℕ)
    → one ≡ old ++ codes "{\"file\": " → two ≡ one ++ json_text file → three ≡ two ++ entry_json parts → new ≡ three ++ codes ", \"plays\": ["
    → new ≡ old ++ head_json file parts
head_told file parts old one two three new e f g h =
    then old (codes "{\"file\": ") one (json_text file ++ (entry_json parts ++ codes ", \"plays\": [")) new e
    (then one (json_text file) two (entry_json parts ++ codes ", \"plays\": [") new f
    (then two (entry_json parts) three (codes ", \"plays\": [") new g h))

-- ---- lines

-- an entry begins a line, after the end of the one before it
begun_from : (file : List ℕ) (begun : Option Bool) (parts : EntryParts) (rest : List Said)
    → end_json begun ++ (head_json file (Some parts) ++ left_json file (Some true) rest) ≡ left_json file begun (entry parts ∷ rest)
begun_from file begun parts rest = by begun
  where
    line : List ℕ
    line = head_json file (Some parts)

    plays : List ℕ
    plays = json_list true (map play_json (first_plays rest))

    more : List ℕ
    more = lines_json file (entry_groups rest)

    one : line ++ (plays ++ (codes "]}\n" ++ more)) ≡ (line ++ (plays ++ codes "]}\n")) ++ more
    one = sym (append_assoc line (plays ++ codes "]}\n") more ∙ ap (λ (x : List ℕ). line ++ x) (append_assoc plays (codes "]}\n") more))

    by : (b : Option Bool) → end_json b ++ (line ++ (plays ++ (codes "]}\n" ++ more))) ≡ left_json file b (entry parts ∷ rest)
    by None = one
    by (Some is_first) = ap (λ (x : List ℕ). codes "]}\n" ++ x) one

pub entry_begun : (file : List ℕ) (begun : Option Bool) (parts : EntryParts) (rest : List Said) (old one new : List ℕ)
    → one ≡ old ++ end_json begun → new ≡ one ++ head_json file (Some parts)
    → new ++ left_json file (Some true) rest ≡ old ++ left_json file begun (entry parts ∷ rest)
entry_begun file begun parts rest old one new e f =
    let left = left_json file (Some true) rest in
    ap (λ (x : List ℕ). x ++ left) f ∙ append_assoc one (head_json file (Some parts)) left
    ∙ ap (λ (x : List ℕ). x ++ (head_json file (Some parts) ++ left)) e ∙ append_assoc old (end_json begun) (head_json file (Some parts) ++ left)
    ∙ ap (λ (x : List ℕ). old ++ x) (begun_from file begun parts rest)
