use Rattle.std.proofs.Common.{◌≡◌, ℕ, ◌+◌, get_or, sym, ◌∙◌, subst}
use Rattle.cc_code.proofs.Waiting.{agrees-known}
use Rattle.cc_code.specs.Rules.{AgreesIn}
use Rattle.cc_code.specs.Waiting.{IsKnown}
use Rattle.cc_code.specs.Works.{entry_of, table_at}
use Rattle.cc_code.specs.declared.waits.Waits.{Waits}
use Rattle.cc_code.specs.declared.waits.Waits.TheVariants as waits
use Rattle.cc_code.proofs.offers.is_known_to_agree.Goals as goal

pub returns-in-Never : goal.returns-in-Never
returns-in-Never c = λ t.
    let is : get_or c.args.selects.now.waits.items (c.args.at + 1) waits.Never ≡ waits.Never = sym c.waits_from.ensures ∙ c.in-Never.is in
    let known : IsKnown c.args.raw.now (c.args.at + 1) waits.Never = subst (λ (w : Waits). IsKnown c.args.raw.now (c.args.at + 1) w) is (c.requires.selects.waits (c.args.at + 1)) in
    agrees-known c.args.raw.now c.args.selects.now.waits.items c.args.at c.args.alt c.args.site waits.Never c.requires.offer known (λ j h. absurd h)

pub returns-in-At : goal.returns-in-At
returns-in-At c = λ t.
    let w : Waits = waits.At c.in-At.table in
    let is : get_or c.args.selects.now.waits.items (c.args.at + 1) waits.Never ≡ w = sym c.waits_from.ensures ∙ c.in-At.is in
    let known : IsKnown c.args.raw.now (c.args.at + 1) w = subst (λ (v : Waits). IsKnown c.args.raw.now (c.args.at + 1) v) is (c.requires.selects.waits (c.args.at + 1)) in
    agrees-known c.args.raw.now c.args.selects.now.waits.items c.args.at c.args.alt c.args.site w c.requires.offer known
    (λ j h. subst (λ (i : ℕ). AgreesIn c.args.alt c.args.site (entry_of c.args.alt (table_at c.args.raw.now i))) h (c.agrees_in.ensures.0 t))
