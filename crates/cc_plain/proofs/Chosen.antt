-- Whether a call is chosen, as the loop over the other calls finds it.
use Rattle.std.proofs.Common.{◌≡◌, ℕ, ℤ, Bool, true, false, List, refl, Option, Some, None}
use Rattle.std.specs.Prelude.{is_some}
use Rattle.std.specs.List.{list_all}
use Rattle.std.specs.Option.{option_map_or}
use Rattle.cc_base.specs.Meaning.{Meaning}
use Rattle.cc_base.specs.declared.alternatives.Alt.{Alt}
use Rattle.cc_rules.specs.Choice.{goes_before, is_chosen, rank}
use Rattle.cc_rules.specs.declared.process.TransactionCall.{TransactionCall}

-- the call is eligible, and goes before the other
abbrev pub goes : Meaning → ℕ → Alt → TransactionCall → TransactionCall → Bool
goes m p alt call other =
    option_map_or (λ k. goes_before k call.number.0 (rank m p alt other) other.number.0) (rank m p alt call) false

all-goes :
    (f : ℤ → TransactionCall → Bool) (o : Option ℤ) (calls : List TransactionCall) (b : Bool)
    → is_some o ≡ true
    → list_all (λ other. option_map_or (λ k. f k other) o false) calls ≡ b
    → option_map_or (λ k. list_all (f k) calls) o false ≡ b
all-goes f None calls b s h = cc
all-goes f (Some k) calls b s h = h

-- a call that is eligible is chosen exactly where it goes before each
pub chosen-is :
    (m : Meaning) (p : ℕ) (alt : Alt) (calls : List TransactionCall) (call : TransactionCall) (b : Bool)
    → is_some (rank m p alt call) ≡ true
    → list_all (goes m p alt call) calls ≡ b
    → is_chosen m p alt calls call ≡ b
chosen-is m p alt calls call b s h =
    all-goes (λ k other. goes_before k call.number.0 (rank m p alt other) other.number.0) (rank m p alt call) calls b s h

pub not-eligible :
    (m : Meaning) (p : ℕ) (alt : Alt) (calls : List TransactionCall) (call : TransactionCall)
    → is_some (rank m p alt call) ≡ false
    → is_chosen m p alt calls call ≡ false
not-eligible m p alt calls call s = none (rank m p alt call) (λ k. list_all (λ other. goes_before k call.number.0 (rank m p alt other) other.number.0) calls) s
  where
    none : (o : Option ℤ) (f : ℤ → Bool) → is_some o ≡ false → option_map_or f o false ≡ false
    none None f h = refl
    none (Some k) f h = cc
