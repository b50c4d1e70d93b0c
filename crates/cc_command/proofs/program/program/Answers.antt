use Rattle.std.proofs.Common.{◌≡◌, ◌∙◌, ap, false, true}
use Rattle.cc_command.proofs.Typing.{program-straight, program-typed}
use Rattle.cc_source.specs.Straight.{is_straight_program}
use Rattle.cc_typed.specs.Typed.{is_typed_program}
use Rattle.cc_command.proofs.program.program.Goals as goal

pub of-program-requires : goal.of-program-requires
of-program-requires c = record { typed = ap is_typed_program c.in_ok-parts.ensures ∙ program-typed c.args.bytes.now c.requires }

pub unreachable-requires : goal.unreachable-requires
unreachable-requires c =
    never (c.in-None.ensures.some.1 (ap is_straight_program (c.of-program.ensures.parts ∙ c.in_ok-parts.ensures) ∙ program-straight c.args.bytes.now))
  where
    never : false ≡ true → ⊥
    never e = cc
