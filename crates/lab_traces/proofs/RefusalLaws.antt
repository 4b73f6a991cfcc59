-- Refusals begin with a capital letter, and replies don't.
use Rattle.std.proofs.Common.{◌≡◌, ℕ, Bool, true, false, List, Some, None, Result, Ok, Err, is_err, refl, ◌∙◌, ap}
use Rattle.evl_base.specs.Reply.{outcome_text}
use Rattle.evl_base.specs.declared.refusal.Refusal.{Refusal}
use Rattle.evl_base.specs.declared.refusal.Refusal.TheVariants.{Raced}
use Rattle.evl_base.specs.declared.reply.Reply.{Reply}
use Rattle.evl_base.specs.declared.reply.Reply.TheVariants.{Done, Begun, Count, Bits, Number, Bytes, Chosen, Handed, TimedOut}
use Rattle.lab_traces.specs.Entries.{names_refusal}

named : (outcome : Result Reply Refusal) → names_refusal (outcome_text outcome) ≡ is_err outcome
named (Ok Done) = refl
named (Ok Begun) = refl
named (Ok (Count count)) = refl
named (Ok (Bits bits)) = refl
named (Ok (Number number)) = refl
named (Ok (Bytes bytes)) = refl
named (Ok (Chosen None)) = refl
named (Ok (Chosen (Some thread))) = refl
named (Ok (Handed None more)) = refl
named (Ok (Handed (Some thread) true)) = refl
named (Ok (Handed (Some thread) false)) = refl
named (Ok TimedOut) = refl
named (Err (Raced first second)) = refl
named (Err _) = refl

pub refusals_are_told : (answer : List ℕ) (told : Bool) (outcome : Result Reply Refusal) → told ≡ names_refusal answer → answer ≡ outcome_text outcome → told ≡ is_err outcome
refusals_are_told answer told outcome is same = is ∙ ap names_refusal same ∙ named outcome
