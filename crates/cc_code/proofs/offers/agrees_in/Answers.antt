use Rattle.std.proofs.Common.{◌≡◌, List, [], refl, subst}
use Rattle.cc_code.proofs.Lists.{absent}
use Rattle.cc_code.specs.Rules.{AgreesIn}
use Rattle.cc_code.specs.Works.{entry_of, table_at}
use Rattle.cc_code.specs.declared.code.TableEntry.{TableEntry}
use Rattle.cc_code.proofs.offers.agrees_in.Goals as goal

pub returns-in-None : goal.returns-in-None
returns-in-None c =
    let e : [] ≡ table_at c.args.raw.now c.args.table = absent c.args.raw.now.tables c.args.table [] c.in-None.ensures.value in
    (λ h. subst (λ (t : List TableEntry). AgreesIn c.args.alt c.args.site (entry_of c.args.alt t)) e tt, λ h. refl)
