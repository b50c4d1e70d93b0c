-- How a process goes on with the alternative that was taken.
use Rattle.std.specs.Prelude.{◌≡◌, ℕ, ◌+◌, ℤ, pos, List, length, slice_get, Option, Some, None}
use Rattle.cc_base.specs.Granted.{alternative_taken, args_taken}
use Rattle.cc_base.specs.declared.names.FaultKind.{FaultKind}
use Rattle.cc_base.specs.declared.names.FaultKind.TheVariants.{Index}
use Rattle.cc_base.specs.declared.request.Grant.{Grant}
use Rattle.cc_code.specs.Works.{entry_of, table_at, with_cells}
use Rattle.cc_code.specs.declared.code.RawCode.{RawCode}
use Rattle.cc_code.specs.declared.code.Site.{Site}
use Rattle.cc_code.specs.declared.code.TableEntry.{TableEntry}
use Rattle.cc_vm.specs.Granting.{granted}
use Rattle.cc_vm.specs.Machine.{between, located}
use Rattle.cc_vm.specs.declared.lists.Lists.{Lists}

-- it goes on at an address with these cells in all
pub record Turns (new : List ℤ) (at : ℕ) (a b : Lists) : Type 0 where
  pub stack : b.stack.items ≡ a.stack.items
  pub cells : b.cells.items ≡ new
  pub frames : b.frames.items ≡ a.frames.items
  pub registers : b.registers ≡ granted a.registers at a.registers.top

-- arguments are stored at a place of the variables, where all find room there
abbrev pub StoresArgs : Option ℕ → List ℤ → ℕ → Lists → Lists → Option FaultKind → Type 0
StoresArgs None args at a b o = o ≡ Some Index
StoresArgs (Some offset) args at a b o = (o ≡ None) × Turns (with_cells (a.registers.first + offset) args a.cells.items) at a b

abbrev pub StoresInto : Option Site → List ℤ → ℕ → Lists → Lists → Option FaultKind → Type 0
StoresInto None args at a b o = o ≡ Some Index
StoresInto (Some s) args at a b o =
    StoresArgs (located (pos s.into) (length args) (between a.registers.first a.registers.end a.cells.items)) args at a b o

abbrev pub StoresAt : RawCode → Option ℕ → List ℤ → ℕ → Lists → Lists → Option FaultKind → Type 0
StoresAt k None args at a b o = (o ≡ None) × Turns a.cells.items at a b
StoresAt k (Some site) args at a b o = StoresInto (slice_get k.sites site) args at a b o

-- the arguments of the call are stored where the site of an entry says, and it goes on there
abbrev pub TurnsBy : RawCode → Option TableEntry → List ℤ → Lists → Lists → Option FaultKind → Type 0
TurnsBy k None args a b o = o ≡ Some Index
TurnsBy k (Some e) args a b o = StoresAt k e.site args e.address a b o

abbrev pub Selected : RawCode → ℕ → Grant → Lists → Lists → Option FaultKind → Type 0
Selected k j g a b o = TurnsBy k (entry_of (alternative_taken g) (table_at k j)) (args_taken g) a b o
