-- All that is written, by what each call of the body writes.
use Rattle.std.proofs.Common.{◌≡◌, ◌≢◌, ◌≤◌, length, subst, ℕ, List, [], Bool, true, Option, Some, None, Result, Ok, Err, IfOk, OnOk, refl}
use Rattle.std.specs.Prelude.{IsSomeAnd, is_ok}
use Rattle.std.specs.Io.KnownBytes.{Appends}
use Rattle.std.proofs.KnownBytes.{Appends-nil}
use Rattle.evl_scenario.specs.declared.faults.Fault.{Fault}
use Rattle.lab_kinds.specs.declared.kinds.TextKind.{TextKind}
use Rattle.lab_lines.specs.Kinds.{IsUnread}
use Rattle.lab_lines.specs.declared.texts.LinesFault.{LinesFault}
use Rattle.lab_streams.specs.Endings.{kinded_words, line_about}
use Rattle.lab_streams.specs.Lines.{SaysUnread, place_text}
use Rattle.lab_streams.specs.Outputs.{OfRead, Output, Writes, WritesOfText, prints, refuses}
use Rattle.lab_streams.specs.Readings.{IsReadOf, IsTooLong, most_bytes, unread_words}
use Rattle.lab_streams.specs.Texts.{IsAllOf, reads_input}
use Rattle.lab_streams.specs.declared.texts.Unread.{Unread}
use Rattle.lab_streams.specs.declared.texts.Unread.TheVariants as unread
use Rattle.lab_streams.specs.declared.texts.Unread.TheVariants.{NoFile, TooLong}

module _ (E : Type 0) (Is : Output → Type 0) (old new quiet spoken : Option (List ℕ)) where
  -- the output last, or the error stream
  pub written_out : (printed said : List ℕ) (status : ℕ) (r : Result ℕ E) → Is (record { printed = printed; said = said; status = status })
      → OnOk r (Appends old new printed) → Appends quiet spoken said → IfOk r (λ s. s ≡ status) → IfOk r (Writes Is old new quiet spoken)
  written_out printed said status (Ok s) is prints says ends = record { output = record { printed = printed; said = said; status = status }; is = is; printed = prints; said = says; ended = ends }
  written_out printed said status (Err e) is prints says ends = tt

  pub written_err : (printed said : List ℕ) (status : ℕ) (r : Result ℕ E) → Is (record { printed = printed; said = said; status = status })
      → Appends old new printed → OnOk r (Appends quiet spoken said) → IfOk r (λ s. s ≡ status) → IfOk r (Writes Is old new quiet spoken)
  written_err printed said status (Ok s) is prints says ends = record { output = record { printed = printed; said = said; status = status }; is = is; printed = prints; said = says; ended = ends }
  written_err printed said status (Err e) is prints says ends = tt

  -- what is written of the one is written of the other
  pub written_as : (Was : Output → Type 0) (r : Result ℕ E) → ((output : Output) → Was output → Is output) → IfOk r (Writes Was old new quiet spoken)
      → IfOk r (Writes Is old new quiet spoken)
  written_as Was (Ok s) same w = record { output = w.output; is = same w.output w.is; printed = w.printed; said = w.said; ended = w.ended }
  written_as Was (Err e) same w = tt

module _ (E : Type 0) (Is : Output → Type 0) (old new quiet : Option (List ℕ)) where
  -- only the output
  pub printed : (text : List ℕ) (r : Result ℕ E) → Is (prints text) → OnOk r (Appends old new text) → IfOk r (λ s. s ≡ 0) → IfOk r (Writes Is old new quiet quiet)
  printed text (Ok s) is puts ends = record { output = prints text; is = is; printed = puts; said = Appends-nil quiet; ended = ends }
  printed text (Err e) is puts ends = tt

  -- of which there is something
  pub printed_some : (r : Result ℕ E) → ((text : List ℕ) → Is (prints text)) → OnOk r ((text : List ℕ) × Appends old new text) → IfOk r (λ s. s ≡ 0)
      → IfOk r (Writes Is old new quiet quiet)
  printed_some (Ok s) is puts ends = record { output = prints puts.0; is = is puts.0; printed = puts.1; said = Appends-nil quiet; ended = ends }
  printed_some (Err e) is puts ends = tt

module _ (E : Type 0) (Is : Output → Type 0) (old quiet spoken : Option (List ℕ)) where
  -- only the error stream
  pub said : (status : ℕ) (text : List ℕ) (r : Result ℕ E) → Is (refuses status text) → OnOk r (Appends quiet spoken text) → IfOk r (λ s. s ≡ status)
      → IfOk r (Writes Is old old quiet spoken)
  said status text (Ok s) is says ends = record { output = refuses status text; is = is; printed = Appends-nil old; said = says; ended = ends }
  said status text (Err e) is says ends = tt

  -- of a fault that has words
  pub said_of : (line : List ℕ → List ℕ) (words : Option (List ℕ)) (r : Result ℕ E) → ((output : Output) → IsSomeAnd words (λ w. output ≡ refuses 2 (line w)) → Is output)
      → OnOk r (IsSomeAnd words (λ w. Appends quiet spoken (line w))) → IfOk r (λ s. s ≡ 2) → IfOk r (Writes Is old old quiet spoken)
  said_of line (Some w) (Ok s) is says ends = record { output = refuses 2 (line w); is = is _ refl; printed = Appends-nil old; said = says; ended = ends }
  said_of line None (Ok s) is says ends = absurd says
  said_of line words (Err e) is says ends = tt

  -- and once it is written
  pub told : (text : List ℕ) (was : Result Bool E) (r : Result ℕ E) → Is (refuses 2 text) → OnOk was (Appends quiet spoken text) → IfOk r (λ s. (s ≡ 2) × (is_ok was ≡ true))
      → IfOk r (Writes Is old old quiet spoken)
  told text (Ok b) (Ok s) is says ends = record { output = refuses 2 text; is = is; printed = Appends-nil old; said = says; ended = ends.0 }
  told text (Err d) (Ok s) is says ends = let no = ends.1 in cc
  told text was (Err e) is says ends = tt

  pub told_of : (line : List ℕ → List ℕ) (words : Option (List ℕ)) (was : Result Bool E) (r : Result ℕ E)
      → ((output : Output) → IsSomeAnd words (λ w. output ≡ refuses 2 (line w)) → Is output) → OnOk was (IsSomeAnd words (λ w. Appends quiet spoken (line w)))
      → IfOk r (λ s. (s ≡ 2) × (is_ok was ≡ true)) → IfOk r (Writes Is old old quiet spoken)
  told_of line (Some w) (Ok b) (Ok s) is says ends = record { output = refuses 2 (line w); is = is _ refl; printed = Appends-nil old; said = says; ended = ends.0 }
  told_of line None (Ok b) (Ok s) is says ends = absurd says
  told_of line words (Err d) (Ok s) is says ends = let no = ends.1 in cc
  told_of line words was (Err e) is says ends = tt

-- a fault of a text of a kind
pub told_kinded : (E : Type 0) (Is : Output → Type 0) (old quiet spoken : Option (List ℕ)) (name : List ℕ) (kind other : TextKind) (fault : Fault) (was : Result Bool E) (r : Result ℕ E) → kind ≡ other
    → ((output : Output) → IsSomeAnd (kinded_words other fault) (λ w. output ≡ refuses 2 (line_about name w)) → Is output)
    → OnOk was (IsSomeAnd (kinded_words kind fault) (λ w. Appends quiet spoken (line_about name w))) → IfOk r (λ s. (s ≡ 2) × (is_ok was ≡ true))
    → IfOk r (Writes Is old old quiet spoken)
told_kinded E Is old quiet spoken name kind other fault was r same is says ends =
    told_of E Is old quiet spoken (line_about name) (kinded_words other fault) was r is
    (subst (λ (k : TextKind). OnOk was (IsSomeAnd (kinded_words k fault) (λ w. Appends quiet spoken (line_about name w)))) same says) ends

-- once it is written
pub once_told : (E : Type 0) (P : Type 0) (was : Result Bool E) (r : Result ℕ E) → OnOk was P → IfOk r (λ s. (s ≡ 2) × (is_ok was ≡ true)) → OnOk r P
once_told E P (Ok b) (Ok s) is ends = is
once_told E P (Err d) (Ok s) is ends = let no = ends.1 in cc
once_told E P was (Err e) is ends = tt

-- a text of lines that can't be read
some_said : (line : Option (List ℕ)) (output : Output) → IsSomeAnd line (λ l. output ≡ refuses 2 l) → (said : List ℕ) × IsSomeAnd line (λ l. said ≡ l) × (output ≡ refuses 2 said)
some_said (Some l) output h = (l, refl, h)
some_said None output h = absurd h

pub unread_said : (name text : List ℕ) (e : LinesFault) (output : Output) → IsUnread text e → IsSomeAnd (place_text name e) (λ l. output ≡ refuses 2 l)
    → (said : List ℕ) × SaysUnread name text said × (output ≡ refuses 2 said)
unread_said name text e output is h = let s = some_said (place_text name e) output h in (s.0, (e, is, s.1), s.2)

-- by what was read of a file
pub unread_is : (known : Option (List ℕ)) (why : Unread) → (why ≡ TooLong → IsTooLong known) → IsReadOf known (Err why)
unread_is known NoFile long = tt
unread_is known TooLong long = long refl
unread_is known unread.Memory long = tt

module _ (E : Type 0) (Is : List ℕ → Output → Type 0) (name : List ℕ) (file known old quiet spoken : Option (List ℕ)) where
  pub of_read : (new : Option (List ℕ)) (text : List ℕ) (r : Result ℕ E) → length text ≤ most_bytes → (reads_input file ≡ true → IsAllOf known text)
      → IfOk r (Writes (Is text) old new quiet spoken) → IfOk r (WritesOfText (OfRead Is name) file known old new quiet spoken)
  of_read new text (Ok s) few read w =
      record { text = Ok text; read = read; writes = record { output = w.output; is = (few, w.is); printed = w.printed; said = w.said; ended = w.ended } }
  of_read new text (Err e) few read w = tt

  pub of_unread : (why : Unread) (was : Result Bool E) (r : Result ℕ E) → (why ≡ TooLong → reads_input file ≡ true → IsTooLong known)
      → OnOk was (IsSomeAnd (unread_words why) (λ w. Appends quiet spoken (line_about name w))) → IfOk r (λ s. (s ≡ 2) × (is_ok was ≡ true))
      → IfOk r (WritesOfText (OfRead Is name) file known old old quiet spoken)
  of_unread why was (Ok s) long says ends = record {
    text = Err why;
    read = λ reads. unread_is known why (λ is. long is reads);
    writes = told_of E (OfRead Is name (Err why)) old quiet spoken (line_about name) (unread_words why) was (Ok s) (λ output h. h) says ends;
  }
  of_unread why was (Err e) long says ends = tt
