use Rattle.std.proofs.Common.{◌-◌, ap, sym, ◌∙◌, false}
use Rattle.std.specs.Prelude.{slice_get}
use Rattle.std.specs.Option.{option_map_or}
use Rattle.cc_kernel.proofs.Moments.{after-time-is}
use Rattle.cc_rules.specs.Events.{is_time}
use Rattle.cc_kernel.proofs.kernel.Kernel.is_after_time.Goals as goal

pub returns-in-Some : goal.returns-in-Some
returns-in-Some g c =
    let k = c.self.inside in
    let m = g.B.Behave.means k.code.value in
    rw (← c.self.view_is)
    (c.is_time.ensures
    ∙ ap (λ o. option_map_or is_time o false) (sym c.in-Some.ensures.item ∙ ap (λ n. slice_get k.journal.items (n - 1)) c.len-count.ensures.len)
    ∙ sym (after-time-is m k.store.input k.journal.items))

pub returns-in-None : goal.returns-in-None
returns-in-None g c =
    let k = c.self.inside in
    let m = g.B.Behave.means k.code.value in
    rw (← c.self.view_is)
    (ap (λ o. option_map_or is_time o false) (sym c.in-None.ensures.item ∙ ap (λ n. slice_get k.journal.items (n - 1)) c.len-count.ensures.len)
    ∙ sym (after-time-is m k.store.input k.journal.items))
