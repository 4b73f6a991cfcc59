-- The statuses with which exports for kernels end, and the calls that take memory.
use Rattle.std.specs.Prelude.{ℕ, Bool, ◌==◌, List, [], ◌∷◌}
use Rattle.std.specs.List.{list_any}
use Rattle.evl_base.specs.Calls.{fields_of}
use Rattle.evl_base.specs.declared.call.StepWord.{StepWord}
use Rattle.evl_c.specs.Calls.{is_bytes, word_of}
use Rattle.evl_c.specs.declared.calls.CallForm.{CallForm}

-- a status is one of these
abbrev pub is_among : List ℕ → ℕ → Bool
is_among statuses status = list_any (λ s. s == status) statuses

-- of `evlsim_c_open`: done, bad board, no memory, bad plan
abbrev pub of_open : List ℕ
of_open = 0 ∷ 2 ∷ 4 ∷ 5 ∷ []

-- of `evlsim_c_reset`: done, no kernel
abbrev pub of_reset : List ℕ
of_reset = 0 ∷ 6 ∷ []

-- of `evlsim_c_apply`: done, no memory, no kernel, bad number
abbrev pub of_apply : List ℕ
of_apply = 0 ∷ 4 ∷ 6 ∷ 7 ∷ []

-- of what asks a kernel, or looks at a play: done, no kernel, bad number
abbrev pub of_look : List ℕ
of_look = 0 ∷ 6 ∷ 7 ∷ []

-- of `evlsim_c_trace`: done, no memory, no kernel
abbrev pub of_trace : List ℕ
of_trace = 0 ∷ 4 ∷ 6 ∷ []

-- of `evlsim_c_machine_open`: done, bad board, no memory, bad plan, another number of handles than of threads
abbrev pub of_machine : List ℕ
of_machine = 0 ∷ 2 ∷ 4 ∷ 5 ∷ 7 ∷ []

-- of what locks and unlocks by a caller: done, no caller; and of `evlsim_c_caller_trace`: also no memory, and that the core is taken
abbrev pub of_caller : List ℕ
of_caller = 0 ∷ 6 ∷ []

abbrev pub of_caller_trace : List ℕ
of_caller_trace = 0 ∷ 4 ∷ 6 ∷ 11 ∷ []

-- of `evlsim_c_caller_ask`: done, no caller, bad number, the core is taken
abbrev pub of_caller_ask : List ℕ
of_caller_ask = 0 ∷ 6 ∷ 7 ∷ 11 ∷ []

-- of `evlsim_c_scenario`: done, bad board or limit, no memory, no kernel, too long
abbrev pub of_scenario : List ℕ
of_scenario = 0 ∷ 2 ∷ 4 ∷ 6 ∷ 8 ∷ []

-- of `evlsim_c_call_text` and `evlsim_c_refusal_text`: done, bad number
abbrev pub of_numbered_text : List ℕ
of_numbered_text = 0 ∷ 7 ∷ []

-- of `evlsim_c_check`: done, bad name, no memory; over plans also bad plan
abbrev pub of_check : List ℕ
of_check = 0 ∷ 1 ∷ 4 ∷ []

abbrev pub of_check_over : List ℕ
of_check_over = 0 ∷ 1 ∷ 4 ∷ 5 ∷ []

-- calls of this word bring bytes of their own, for which memory is asked: there is a key for them
abbrev pub word_brings_bytes : StepWord → Bool
word_brings_bytes word = list_any (λ key. is_bytes key.kind) (fields_of word)

-- the call of this form does
abbrev pub brings_bytes : CallForm → Bool
brings_bytes form = word_brings_bytes (word_of form)
