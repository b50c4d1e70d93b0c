use Rattle.std.proofs.Common.{refl}
use Rattle.cc_typed.specs.Typed.{is_typed_statement}
use Rattle.cc_faults.specs.Judged.{after_each, answer, both, checked, each, each_after, map}
use Rattle.cc_faults.specs.Programs.{program}
use Rattle.cc_faults.specs.Statements.{after, judged}
use Rattle.cc_sound.specs.Formed.{is_formed_statement}
use Rattle.cc_sound.specs.Sizes.{things_in}
use Rattle.cc_sound.proofs.examples.a_structure_without_a_field.Goals as goal

pub returns : goal.returns
unfolding program answer map checked both each each_after after_each judged after is_formed_statement things_in is_typed_statement
returns c =
    record {
      not_formed = refl;
      means = refl;
      not_typed = refl;
    }
