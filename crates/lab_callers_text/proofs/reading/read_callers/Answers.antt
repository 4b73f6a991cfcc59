use Rattle.std.proofs.Common.{◌≡◌, ◌⊎◌, inl, inr, List, ℕ, false, length, refl, sym, subst, string_bytes}
use Rattle.toml.specs.View.{table_view}
use Rattle.evl_scenario.specs.declared.faults.Fault.{Fault}
use Rattle.evl_scenario.specs.declared.faults.Fault.TheVariants as fault
use Rattle.lab_callers_text.specs.Readings.{IsRefused, IsUnfit}
use Rattle.lab_callers_text.proofs.RefusalLaws.{passed, refused_for}
use Rattle.lab_callers_text.proofs.reading.read_callers.Goals as goal

pub returns-in_err-read-clause-refused : goal.returns-in_err-read-clause-refused
returns-in_err-read-clause-refused c =
    let e = c.in_err-read.field-0.0 in
    let read = c.in_ok-staxes.ensures in
    passed (IsRefused c.args.limit c.args.bytes.now) _ e c.from_residual-in_err-read.ensures.1
    (elim c.in_err-read.ensures.other as (λ why. IsRefused c.args.limit c.args.bytes.now e) [
      | inl memory ↦ inl memory
      | inr unfit ↦ refused_for c.args.limit c.args.bytes.now _ _ _ (string_bytes c.in_ok-text.text) _ _ e
          c.in_ok-table.ensures.document read.staxes read.put read.each read.read c.in_ok-text.ensures.text
          (inl (subst (λ (t : List ℕ). IsUnfit c.args.limit t c.in_ok-staxes.staxes.items (length c.in_ok-staxes.marks.all.items) e) c.as_str.ensures.value unfit))
    ])

pub returns-clause-refused : goal.returns-clause-refused
returns-clause-refused c =
    let read = c.in_ok-staxes.ensures in
    refused_for c.args.limit c.args.bytes.now _ _ _ (string_bytes c.in_ok-text.text) _ _ fault.Text
    c.in_ok-table.ensures.document read.staxes read.put read.each read.read c.in_ok-text.ensures.text (inr (refl, c.if-marks.false))
