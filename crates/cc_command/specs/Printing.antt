-- What a program means that prints bytes, one after another.
use Rattle.std.specs.Prelude.{ℕ, ◌-◌, List, [], ◌∷◌, length, slice_get, None}
use Rattle.std.specs.Option.{option_map_or}
use Rattle.cc_base.specs.Meaning.{Meaning}
use Rattle.cc_base.specs.declared.names.Pid.{Pid}
use Rattle.cc_base.specs.declared.request.Request.{Request}
use Rattle.cc_base.specs.declared.request.Request.TheVariants.{Print, Done}
use Rattle.cc_rules.specs.declared.event.Event.{Event}
use Rattle.cc_rules.specs.declared.event.Event.TheVariants.{Ask}
use Rattle.cc_rules.specs.declared.event.Word.{Word}

-- what the process asks after this many grants, of which the first is for its start: the Print of the next byte, and
-- after the last byte it is done
abbrev pub request_after : List ℕ → ℕ → Request
request_after bytes grants = option_map_or (λ byte. Print (byte ∷ [])) (slice_get bytes (grants - 1)) Done

-- the program has `main` alone
abbrev pub printing : List ℕ → Meaning
printing bytes =
    record {
      kinds = 0 ∷ [];
      shapes = [];
      act = λ kind args grants. request_after bytes (length grants);
      fit = λ site env args. None;
    }

abbrev pub main : Pid
main = record { 0 = 0 }

-- `main` asks a request of this word
abbrev pub asked : Word → Event
asked w = Ask main w
