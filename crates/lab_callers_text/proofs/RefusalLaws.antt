-- Why a text of callers is refused, of what its parts say.
use Rattle.std.proofs.Common.{◌≡◌, ◌≤◌, ◌⊎◌, inl, inr, ℕ, List, Bool, false, length, Result, Ok, Err, refl, sym, subst, ◌∙◌, ap}
use Rattle.std.proofs.lemmas.Option.{none-some, same_Some}
use Rattle.std.specs.Prelude.{Option, Some, None, option_map}
use Rattle.std.specs.Result.{IsErrAnd, IfErr}
use Rattle.toml.specs.Data.{Items, Members, members_depth}
use Rattle.toml.specs.Parse.{parse_document}
use Rattle.evl_scenario.specs.declared.faults.Fault.{Fault}
use Rattle.evl_scenario.specs.declared.faults.Fault.TheVariants as fault
use Rattle.lab_callers_text.specs.Documents.{all_put, items_in, put_list, read_for, staxes_in}
use Rattle.lab_callers_text.specs.Readings.{IsAgainst, IsRefused, IsRefusedFor, IsUnfit, document_of}

-- a document whose steps are these is refused for its scenario, or since a step of it can't be put
steps_refused : (given : Option ℕ) (document plain : Members) (limits text : List ℕ) (are_put : Bool) (count : ℕ) (e : Fault) (found : Option Items)
    → option_map all_put found ≡ Some are_put → option_map (λ steps. length (put_list steps)) found ≡ Some count
    → (members_depth plain ≤ 80 → parse_document text ≡ Some plain)
    → IsUnfit given text limits count e ⊎ ((e ≡ fault.Text) × (are_put ≡ false))
    → (steps : Items) × (found ≡ Some steps) × IsRefusedFor given plain limits steps e
steps_refused given document plain limits text are_put count e None put each reads why = absurd (none-some are_put put)
steps_refused given document plain limits text are_put count e (Some steps) put each reads (inl unfit) =
    (steps, refl, inr (text, reads, inl (subst (λ (n : ℕ). IsUnfit given text limits n e) (sym (same_Some (length (put_list steps)) count each)) unfit)))
steps_refused given document plain limits text are_put count e (Some steps) put each reads (inr never) =
    (steps, refl, inr (text, reads, inr (never.0, same_Some (all_put steps) are_put put ∙ never.1)))

pub refused_for : (given : Option ℕ) (bytes : List ℕ) (document plain : Members) (limits text : List ℕ) (are_put : Bool) (count : ℕ) (e : Fault)
    → document_of bytes ≡ Some document → staxes_in document ≡ Some limits
    → option_map all_put (items_in document) ≡ Some are_put → option_map (λ steps. length (put_list steps)) (items_in document) ≡ Some count
    → read_for document ≡ Some plain → (members_depth plain ≤ 80 → parse_document text ≡ Some plain)
    → IsUnfit given text limits count e ⊎ ((e ≡ fault.Text) × (are_put ≡ false))
    → IsRefused given bytes e
refused_for given bytes document plain limits text are_put count e is staxes put each read reads why =
    let steps = steps_refused given document plain limits text are_put count e (items_in document) put each reads why in
    inr (inr (document, is, inr (limits, staxes, steps.0, steps.1, plain, read, steps.2)))

-- what is passed on
pub passed : {A : Type 0} (P : Fault → Type 0) (result : Result A Fault) (e : Fault) → IsErrAnd result (λ told. told ≡ e) → P e → IfErr result P
passed P (Ok _) e told so = absurd told
passed P (Err _) e told so = subst P (sym told) so
