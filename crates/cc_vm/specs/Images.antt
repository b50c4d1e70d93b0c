-- What code is to the machine that runs processes of it.
use Rattle.std.specs.List.{list_all}
use Rattle.std.specs.Prelude.{ℕ, Bool, true, false, ◌&&◌, if◌then◌else◌, List, [], ◌∷◌, length, slice_get, nat_eq, nat_lt, Option, Some, None}
use Rattle.cc_base.specs.Meaning.{Meaning}
use Rattle.cc_base.specs.declared.request.Request.TheVariants.{Done}
use Rattle.cc_code.specs.Meaning.{fit, meaning}
use Rattle.cc_code.specs.declared.code.Part.{Part}
use Rattle.cc_code.specs.declared.code.RawCode.{RawCode}
use Rattle.cc_code.specs.declared.code.Site.{Site}
use Rattle.cc_code.specs.declared.instr.Instr.{Instr}
use Rattle.cc_code.specs.declared.instr.Instr.TheVariants as instr

abbrev pub has_site : RawCode → Option Site → Bool
has_site k None = false
has_site k (Some s) = nat_lt s.trans (length k.transactions)

-- the kind, the transaction or the site of a request that the instruction leads to is there
abbrev pub names_there : RawCode → Instr → Bool
names_there k (instr.Create kind) = nat_lt kind (length k.kinds)
names_there k (instr.Ask t) = nat_lt t (length k.transactions)
names_there k (instr.AskWithin t a) = nat_lt t (length k.transactions)
names_there k (instr.Send t) = nat_lt t (length k.transactions)
names_there k (instr.OfferAccept i s) = has_site k (slice_get k.sites s)
names_there k i = true

abbrev pub has_main : List Part → Bool
has_main [] = false
has_main (p ∷ ps) = nat_eq p.args 0

-- `main` is there without arguments, and so is what the instructions name
unfoldable pub is_whole : RawCode → Bool
is_whole k = has_main k.kinds && list_all (names_there k) k.instrs

-- what stands for the meaning of code that no value of the type has
abbrev pub other_meaning : RawCode → Meaning
other_meaning k = record { kinds = 0 ∷ []; shapes = k.transactions; act = λ kind args grants. Done; fit = fit k }

-- verified code is whole, so this is its meaning
abbrev pub image_meaning : RawCode → Meaning
image_meaning k = if is_whole k then meaning k else other_meaning k

abbrev pub image_sites : RawCode → ℕ
image_sites k = length k.sites
