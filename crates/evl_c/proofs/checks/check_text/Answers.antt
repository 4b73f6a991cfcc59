use Rattle.std.proofs.Common.{◌∙◌, [], ℕ, List, ap, length, map, string_bytes, subst}
use Rattle.evl_plans.specs.Told.{handler_of}
use Rattle.evl_c.specs.Checks.{ChecksText}
use Rattle.evl_c.specs.Windows.{window}
use Rattle.evl_c.proofs.checks.check_text.Goals as goal

pub returns-clause-told : goal.returns-clause-told
returns-clause-told c =
    let bank = map handler_of c.args.plans.now in
    let name = c.args.name.now in
    let told = string_bytes c.tell_given.new.told in
    let fault = c.in_ok-is_at_fault.is_at_fault in
    let of-given = subst (λ (given : List ℕ). ChecksText bank name given (string_bytes c.new-told.result) told fault) c.in_ok-given.ensures.items c.in_ok-is_at_fault.ensures in
    record {
      printed = told;
      checks = subst (λ (before : List ℕ). ChecksText bank name c.args.text.now before told fault) c.new-told.ensures.bytes of-given;
      tells = (
        c.put_window.ensures ∙ ap (λ (text : List ℕ). window text c.args.start c.args.out.now) c.as_bytes-bytes.ensures.value,
        ap length c.as_bytes-bytes.ensures.value,
      );
    }
