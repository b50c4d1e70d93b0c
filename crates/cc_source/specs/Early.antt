-- What a straight program is to the machine.
use Rattle.std.specs.Prelude.{ℕ, Bool, ◌&&◌, if◌then◌else◌, [], ◌∷◌, length, None}
use Rattle.cc_base.specs.Meaning.{Meaning}
use Rattle.cc_base.specs.declared.request.Request.TheVariants.{Done}
use Rattle.cc_typed.specs.Parts.{Parts}
use Rattle.cc_source.specs.Programs.{meaning}
use Rattle.cc_source.specs.Straight.{is_straight_program}
use Rattle.cc_typed.specs.Typed.{is_typed_program}

unfoldable pub is_early : Parts → Bool
is_early p = is_typed_program p && is_straight_program p

-- what stands for the meaning of parts that no value of the type has
abbrev pub no_meaning : Meaning
no_meaning = record { kinds = 0 ∷ []; shapes = []; act = λ kind args grants. Done; fit = λ site env args. None }

-- each value of the type is typed and straight, so this is the meaning of its program
abbrev pub early_meaning : Parts → Meaning
early_meaning p = if is_early p then meaning p else no_meaning

abbrev pub early_sites : Parts → ℕ
early_sites p = if is_early p then length p.sites else 0
