-- C's view of a caller of a machine that was there, and is.
use Rattle.std.proofs.Common.{◌≡◌, ℕ, List, Option, Some, Result, subst, sym}
use Rattle.evl_base.specs.declared.refusal.Refusal.{Refusal}
use Rattle.evl_hosts.specs.Hosts.{HostState, Looks, Steps, TellsTrace}
use Rattle.evl_c.specs.HostCalls.{Asks, AsksAs, Traces, TracesAs}
use Rattle.evl_c.specs.Readings.{reading_of}
use Rattle.evl_c.specs.declared.readings.QuestionForm.{QuestionForm}
use Rattle.evl_c.specs.declared.readings.ReadingForm.{ReadingForm}

pub asks_as : (status : ℕ) (question : QuestionForm) (before after : Option HostState) (old seen new : HostState) (r : Result ReadingForm Refusal) (told : ReadingForm)
    → before ≡ Some old → seen ≡ old → after ≡ Some new
    → Steps (λ a b. Looks seen.machine (λ kernel. reading_of kernel question) r a b) seen.staxes seen.mutexes seen new → AsksAs r told status → Asks status question before after told
asks_as status question before after old seen new r told was same is steps shown =
    subst (λ (o : Option HostState). Asks status question o after told) (sym was)
    (subst (λ (o : Option HostState). Asks status question (Some old) o told) (sym is)
    (r, subst (λ (o : HostState). Steps (λ a b. Looks o.machine (λ kernel. reading_of kernel question) r a b) o.staxes o.mutexes o new) same steps, shown))

pub traces_as : (status start : ℕ) (before after : Option HostState) (old seen new : HostState) (r : Result (List ℕ) Refusal) (buffer told : List ℕ) (count : ℕ)
    → before ≡ Some old → seen ≡ old → after ≡ Some new
    → Steps (λ a b. TellsTrace seen.machine r a b) seen.staxes seen.mutexes seen new → TracesAs r start buffer told count status → Traces status start before after buffer told count
traces_as status start before after old seen new r buffer told count was same is steps shown =
    subst (λ (o : Option HostState). Traces status start o after buffer told count) (sym was)
    (subst (λ (o : Option HostState). Traces status start (Some old) o buffer told count) (sym is)
    (r, subst (λ (o : HostState). Steps (λ a b. TellsTrace o.machine r a b) o.staxes o.mutexes o new) same steps, shown))
