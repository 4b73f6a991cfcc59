use Rattle.std.proofs.Common.{rules, ◌≡◌, ◌++◌, ℕ, map, List, [], ◌∷◌, refl, sym, ap, ◌∙◌, append_assoc, length, ◌==◌, ◌+◌, false, inr, is_some}
use Rattle.std.proofs.lemmas.Bool.{false≢true}
use Rattle.std.proofs.lemmas.List.{length-map, map-append}
use Rattle.std.proofs.lemmas.List.Elements.{All-map, All-push, All-same}
use Rattle.std.specs.List.{All}
use Rattle.lab_traces.specs.Parts.{Lacks}
use Rattle.lab_traces.specs.Says.{BeginsOtherwise, IsLine, IsMisread, read_of, says_some, text_of, whole_lines}
use Rattle.lab_traces.specs.declared.traces.TraceLine.{TraceLine}
use Rattle.lab_traces.proofs.traces.read_lines.Goals as goal

reads_more : (lines all : List TraceLine) (line : TraceLine) → all ≡ lines ++ line ∷ [] → map read_of lines ≡ map says_some lines → read_of line ≡ says_some line
    → map read_of all ≡ map says_some all
reads_more lines all line same h k = rw same (rw (map-append read_of lines (line ∷ []), map-append says_some lines (line ∷ []), h, k) refl)

one_more : (lines : List TraceLine) (line : TraceLine) (more : List ℕ)
    → whole_lines (map text_of (lines ++ line ∷ [])) ++ more ≡ whole_lines (map text_of lines) ++ (text_of line ++ 10 ∷ more)
one_more [] line more = append_assoc (text_of line) (10 ∷ []) more
one_more (first ∷ rest) line more =
    append_assoc (text_of first) (10 ∷ whole_lines (map text_of (rest ++ line ∷ []))) more
    ∙ ap (λ (x : List ℕ). text_of first ++ 10 ∷ x) (one_more rest line more)
    ∙ sym (append_assoc (text_of first) (10 ∷ whole_lines (map text_of rest)) (text_of line ++ 10 ∷ more))

whole_more : (lines all : List TraceLine) (line : TraceLine) (rest more text : List ℕ) → all ≡ lines ++ line ∷ [] → rest ≡ text_of line ++ 10 ∷ more
    → whole_lines (map text_of lines) ++ rest ≡ text → whole_lines (map text_of all) ++ more ≡ text
whole_more lines all line rest more text same cut h =
    rw same (one_more lines line more ∙ sym (ap (λ (x : List ℕ). whole_lines (map text_of lines) ++ x) cut) ∙ h)

each_more : (lines all : List TraceLine) (line : TraceLine) → all ≡ lines ++ line ∷ [] → read_of line ≡ says_some line → Lacks 10 (text_of line)
    → All (λ l. IsLine (text_of l)) lines → All (λ l. IsLine (text_of l)) all
each_more lines all line same read apart h =
    let each : TraceLine → Type 0 = λ l. IsLine (text_of l) in
    let here : each line = record { alone = apart; says = ap is_some read } in
    All-same each all (lines ++ line ∷ []) same (All-push each lines line h here)

misread : (lines : List TraceLine) (rest text : List ℕ) (n : ℕ) → whole_lines (map text_of lines) ++ rest ≡ text → All (λ l. IsLine (text_of l)) lines
    → (length rest == 0) ≡ false → n ≡ length lines + 1 → BeginsOtherwise rest → IsMisread text n
misread lines rest text n whole each some number otherwise = record {
  front = map text_of lines;
  rest = rest;
  whole = sym whole;
  lines = All-map IsLine text_of lines each;
  number = number ∙ ap (λ k. k + 1) (sym (length-map lines text_of));
  more = λ none. false≢true (sym some ∙ ap (λ (x : List ℕ). length x == 0) none);
  otherwise = otherwise;
}

pub loop-rest-preserved : goal.loop-rest-preserved
loop-rest-preserved c = (
  search rules,
  reads_more c.loop-rest.lines.items c.push.new.self.items c.in-Some.line c.in-Ok.ensures.items c.loop-rest.invariant.1 c.in-Some.ensures.read,
  whole_more c.loop-rest.lines.items c.push.new.self.items c.in-Some.line c.loop-rest.rest.now c.in-Some.more.now c.args.text.now c.in-Ok.ensures.items
      c.in-Some.ensures.whole c.loop-rest.invariant.2,
  each_more c.loop-rest.lines.items c.push.new.self.items c.in-Some.line c.in-Ok.ensures.items c.in-Some.ensures.read c.in-Some.ensures.apart c.loop-rest.invariant.3,
)

pub returns-in_default-clause-refused : goal.returns-in_default-clause-refused
returns-in_default-clause-refused c =
    inr (
      _,
      refl,
      misread c.loop-rest.lines.items c.loop-rest.rest.now c.args.text.now _ c.loop-rest.invariant.2 c.loop-rest.invariant.3
          (search rules) (search rules) (c.in_default.ensures.none refl),
    )
