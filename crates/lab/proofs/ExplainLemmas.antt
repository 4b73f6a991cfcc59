-- The words for files that are refused, after what a part says.
use Rattle.std.proofs.Common.{◌≡◌, ◌∙◌, ℕ, List, [], ◌∷◌, ◌++◌, append-nil, append_assoc, Bool, true, false, Option, Result, Ok, Err, IfOk, refl, sym, ap, ap₂, subst}
use Rattle.std.specs.Prelude.{MatchBool}
use Rattle.std.specs.Io.KnownBytes.{Appends}
use Rattle.lab_kinds.specs.Reports.{Reports}
use Rattle.lab_kinds.specs.declared.kinds.TextKind.{TextKind}
use Rattle.lab.specs.Explains.{Behind, Explains, ExplainsEach, ExplainsFile, ExplainsGiven, ExplainsKind, ExplainsRead, IsFirstLine, fault_text}
use Rattle.lab_streams.specs.Readings.{Reading}
use Rattle.lab_streams.specs.Texts.{is_input}
use Rattle.lab.specs.declared.explains.Takes.{Takes}
use Rattle.lab_streams.specs.declared.texts.Unread.{Unread}

-- a report that has a fault, and one that has none
pub fault_found : (own : TextKind) (name text report line said : List ℕ) → Reports own name text [] report true → IsFirstLine report line → said ≡ fault_text name line
    → ExplainsKind own name text said
fault_found own name text report line said reports is same = (report, true, reports, (line, is, same))

pub no_fault : (own : TextKind) (name text report said : List ℕ) → Reports own name text [] report false → said ≡ [] → ExplainsKind own name text said
no_fault own name text report said reports none = (report, false, reports, none)

-- a file that was read, and one that wasn't
pub file_read : {S E : Type 0} (bytes : S → List ℕ) (own : Takes) (name text : List ℕ) (r : Result S E) → false ≡ is_input name
    → IfOk r (λ s. ExplainsGiven own name text (bytes s)) → IfOk r (λ s. ExplainsFile own name (bytes s))
file_read bytes own name text (Ok s) isnt given =
    subst (λ (b : Bool). MatchBool b (bytes s ≡ []) ((read : Reading) × ExplainsRead own name read (bytes s))) isnt (Ok text, given)
file_read bytes own name text (Err e) isnt given = tt

pub file_unread : (own : Takes) (name said : List ℕ) (why : Unread) → false ≡ is_input name → said ≡ [] → ExplainsFile own name said
file_unread own name said why isnt none =
    subst (λ (b : Bool). MatchBool b (said ≡ []) ((read : Reading) × ExplainsRead own name read said)) isnt (Err why, none)

-- one file more
pub each_more : (own : Takes) (names : List (List ℕ)) (name said more : List ℕ) → ExplainsEach own names said → ExplainsFile own name more
    → ExplainsEach own (names ++ name ∷ []) (said ++ more)
each_more own [] name said more none file = (more, [], file, refl, ap (λ (l : List ℕ). l ++ more) none ∙ sym (append-nil more))
each_more own (first ∷ rest) name said more (own_said, others, is, each, whole) file =
    (own_said, others ++ more, is, each_more own rest name others more each file, ap (λ (l : List ℕ). l ++ more) whole ∙ append_assoc own_said others more)

-- after a part
pub behind : (Part : Option (List ℕ) → Option (List ℕ) → Option (List ℕ) → Option (List ℕ) → ℕ → Type 0) (own : Takes) (names : List (List ℕ))
    (old new quiet between spoken : Option (List ℕ)) (status : ℕ) → Part old new quiet between status
    → ((said : List ℕ) × Explains own status names said × Appends between spoken said) → Behind Part own names old new quiet spoken status
behind Part own names old new quiet between spoken status part (said, is, says) = record { between = between; part = part; said = said; explains = is; says = says }
