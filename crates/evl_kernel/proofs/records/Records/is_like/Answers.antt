use Rattle.std.proofs.Common.{◌≡◌, map, refl, sym, ap, ◌∙◌}
use Rattle.evl_kernel.specs.state.Callbacks.{is_home}
use Rattle.evl_kernel.specs.state.Records.{state_of}
use Rattle.evl_kernel.specs.state.RecordsInside.{records_view}
use Rattle.evl_kernel.proofs.state.LikenessLaws.{banked-alike, homes-alike, state-alike}
use Rattle.evl_kernel.proofs.records.Records.is_like.Goals as goal

pub returns-then-not-are_homes_alike-clause-other : goal.returns-then-not-are_homes_alike-clause-other
returns-then-not-are_homes_alike-clause-other g c same =
    c.if-not-are_homes_alike.ensures.other
    (ap (map is_home) c.as_slice.ensures.value
    ∙ homes-alike (records_view c.self.inside) (records_view c.other.inside) (rw (← c.self.view_is, ← c.other.view_is) at same)
    ∙ sym (ap (map is_home) c.as_slice-2.ensures.value))

pub returns-clause-alike : goal.returns-clause-alike
returns-clause-alike g c found handlers =
    let homes : map is_home c.self.inside.bank.items ≡ map is_home c.other.inside.bank.items =
    sym (ap (map is_home) c.as_slice.ensures.value) ∙ c.if-not-are_homes_alike.ensures.alike refl ∙ ap (map is_home) c.as_slice-2.ensures.value in
    let alike : state_of (records_view c.self.inside) ≡ state_of (records_view c.other.inside) =
    state-alike (records_view c.self.inside) (records_view c.other.inside) c.if-self-other.false (c.if-not-is_like-2.ensures.alike refl)
    (banked-alike c.self.inside.bank.items c.other.inside.bank.items (rw (← c.self.view_is, ← c.other.view_is) at handlers) homes)
    (c.is_like-4.ensures.alike found) (c.if-not-is_like-3.ensures.alike refl) (c.if-not-is_like.ensures.alike refl)
    (sym c.as_slice-3.ensures.value ∙ c.if-not-are_alike.ensures.alike refl ∙ c.as_slice-4.ensures.value) in
    rw (← c.self.view_is, ← c.other.view_is) alike
