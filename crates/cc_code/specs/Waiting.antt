-- At which selects control may come to wait within one select.
use Rattle.std.specs.Prelude.{◌≡◌, ℕ, ◌<◌, ◌≤◌, List, [], ◌∷◌, get_or, slice_get, Some, Bool, true, false}
use Rattle.cc_code.specs.Control.{Reaches, GoesWithin}
use Rattle.cc_code.specs.declared.code.RawCode.{RawCode}
use Rattle.cc_code.specs.declared.code.TableEntry.{TableEntry}
use Rattle.cc_code.specs.declared.instr.Instr.TheVariants as instr
use Rattle.cc_code.specs.declared.waits.Selects.{Selects}
use Rattle.cc_code.specs.declared.waits.Waits.{Waits}
use Rattle.cc_code.specs.declared.waits.Waits.TheVariants as waits

-- selects of a table are among them
abbrev pub Allows : Waits → ℕ → Type 0
Allows waits.Never j = ⊥
Allows (waits.At i) j = i ≡ j
Allows waits.Unknown j = Unit {0}

-- each select at which control may come to wait from an address on is among them
abbrev pub IsKnown : RawCode → ℕ → Waits → Type 0
IsKnown k at w = (x j : ℕ) → Reaches (GoesWithin k) (at ∷ []) x → slice_get k.instrs x ≡ Some (instr.SelWait j) → Allows w j

abbrev pub AreWaits : RawCode → List Waits → Type 0
AreWaits k known = (at : ℕ) → IsKnown k at (get_or known at waits.Never)

-- what is known from an address on is among these too
abbrev pub Covers : List Waits → Waits → ℕ → Type 0
Covers known w y = (j : ℕ) → Allows (get_or known y waits.Never) j → Allows w j

-- the alternatives of a table rise
abbrev pub IsAscending : List TableEntry → Type 0
IsAscending t = (a b : ℕ) (x y : TableEntry) → a < b → slice_get t a ≡ Some x → slice_get t b ≡ Some y → x.alt < y.alt

-- for each table whether its alternatives rise
abbrev pub AreAscending : RawCode → List Bool → Type 0
AreAscending k bits = (j : ℕ) (t : List TableEntry) → slice_get k.tables j ≡ Some t → get_or bits j false ≡ true → IsAscending t

-- the alternatives before a place are below this one, those from it on are not
abbrev pub AreBelow : List TableEntry → ℕ → ℕ → Type 0
AreBelow t alt n = (i : ℕ) (x : TableEntry) → i < n → slice_get t i ≡ Some x → x.alt < alt

abbrev pub AreFrom : List TableEntry → ℕ → ℕ → Type 0
AreFrom t alt n = (i : ℕ) (x : TableEntry) → n ≤ i → slice_get t i ≡ Some x → alt ≤ x.alt

-- what is known of the selects
pub record AreSelects (k : RawCode) (s : Selects) : Type 0 where
  pub waits : AreWaits k s.waits.items
  pub ascending : AreAscending k s.ascending.items
