use Rattle.std.proofs.Common.{refl}
use Rattle.cc_sound.proofs.Computed.{two-means, two-sites, two-typed}
use Rattle.cc_sound.specs.Formed.{is_formed, is_formed_statement}
use Rattle.cc_sound.specs.Sizes.{things_in}
use Rattle.cc_faults.specs.declared.plain.Phrase.TheBlock as P
use Rattle.cc_faults.specs.declared.plain.Choice.TheBlock as S
use Rattle.cc_sound.proofs.examples.bodies_in_another_order.Goals as goal
use denote.Hole.Carrier.{hidden}

pub returns : goal.returns
unfolding is_formed is_formed_statement things_in P.shape-the_row-Phrase-1 P.hidden-the_row-Phrase-0 P.hidden-the_row-Phrase-1 P.hidden-the_row-Step-2 P.hidden-the_row-Operation-3 P.hidden-the_row-Compared-4 S.hidden-the_row-Statement-0 S.shape-the_row-Statement-1 S.hidden-the_row-Statement-1 S.hidden-the_row-Alternative-2 hidden
returns c =
    record {
      things = refl;
      formed = refl;
      means = two-means;
      sites = two-sites;
      typed = two-typed;
    }
