use Rattle.std.proofs.Common.{◌≡◌, ℕ, ◌<◌, List, length, Some, Bool, true, slice_get, subst}
use Rattle.std.specs.Prelude.{◌↔◌}
use Rattle.std.proofs.lemmas.Option.{slice_get_within}
use Rattle.cc_code.specs.Checked.{AreNamed, IsSet, Names, PartsLead, SitesLead}
use Rattle.cc_code.specs.Rules.{HasEntries, IsAddress, IsNamed, UnnamedEntries}
use Rattle.cc_code.specs.declared.code.Part.{Part}
use Rattle.cc_code.specs.declared.code.RawCode.{RawCode}
use Rattle.cc_code.specs.declared.code.Site.{Site}
use Rattle.cc_code.specs.declared.instr.Instr.{Instr}
use Rattle.cc_code.specs.declared.unnamed.Thing.{Thing}
use Rattle.cc_code.specs.declared.unnamed.Thing.TheVariants as thing
use Rattle.cc_code.proofs.unnamed.unnamed_lead.Goals as goal

abbrev Exact : RawCode → Thing → List Bool → ℕ → Type 0
Exact k t bits count = (n : ℕ) → n < count → IsSet bits n ↔ AreNamed k.instrs t n

-- what no instruction names is what has no bit
parts-same : (k : RawCode) (t : Thing) (parts : List Part) (bits : List Bool) → Exact k t bits (length parts)
    → PartsLead k parts bits ↔ ((f : ℕ) (p : Part) → slice_get parts f ≡ Some p → (IsNamed k (Names t f) → ⊥) → IsAddress k p.entry)
parts-same k t parts bits exact = (
  λ h f p e not. h f p e (λ set. not ((exact f (slice_get_within parts f p e)).0 set)),
  λ h f p e not. h f p e (λ named. not ((exact f (slice_get_within parts f p e)).1 named)),
)

sites-same : (k : RawCode) (bits : List Bool) → Exact k thing.Site bits (length k.sites)
    → SitesLead k k.sites bits ↔ ((n : ℕ) (s : Site) → slice_get k.sites n ≡ Some s → (IsNamed k (Names thing.Site n) → ⊥) → HasEntries k s)
sites-same k bits exact = (
  λ h n s e not. h n s e (λ set. not ((exact n (slice_get_within k.sites n s e)).0 set)),
  λ h n s e not. h n s e (λ named. not ((exact n (slice_get_within k.sites n s e)).1 named)),
)

exact-of : (k : RawCode) (t : Thing) (instrs : List Instr) (bits : List Bool) (n m : ℕ) → instrs ≡ k.instrs → n ≡ m → ((i : ℕ) → i < n → IsSet bits i ↔ AreNamed instrs t i) → Exact k t bits m
exact-of k t instrs bits n m e f h = subst (λ (is : List Instr). (i : ℕ) → i < m → IsSet bits i ↔ AreNamed is t i) e (subst (λ (z : ℕ). (i : ℕ) → i < z → IsSet bits i ↔ AreNamed instrs t i) f h)

together : (k : RawCode) (fs ks ss : List Bool) → Exact k thing.Function fs (length k.functions) → Exact k thing.Kind ks (length k.kinds) → Exact k thing.Site ss (length k.sites)
    → (PartsLead k k.functions fs × PartsLead k k.kinds ks × SitesLead k k.sites ss) ↔ UnnamedEntries k
together k fs ks ss ef ek es = (
  λ h. record { functions = (parts-same k thing.Function k.functions fs ef).0 h.0; kinds = (parts-same k thing.Kind k.kinds ks ek).0 h.1; sites = (sites-same k ss es).0 h.2 },
  λ u. ((parts-same k thing.Function k.functions fs ef).1 u.functions, (parts-same k thing.Kind k.kinds ks ek).1 u.kinds, (sites-same k ss es).1 u.sites),
)

parts-of : (k : RawCode) (b : Bool) (slice parts : List Part) (bits : List Bool) → slice ≡ parts → (b ≡ true) ↔ PartsLead k slice bits → (b ≡ true) ↔ PartsLead k parts bits
parts-of k b slice parts bits e h = subst (λ (ps : List Part). (b ≡ true) ↔ PartsLead k ps bits) e h

pub returns : goal.returns
returns c =
    let k : RawCode = c.args.raw.now in
    let fs : List Bool = c.in_ok-functions.functions.items in
    let ks : List Bool = c.in_ok-kinds.kinds.items in
    let ss : List Bool = c.in_ok-sites.sites.items in
    let all = together k fs ks ss
    (exact-of k thing.Function c.as_slice-instrs.result.now fs _ (length k.functions) c.as_slice-instrs.ensures c.len.ensures c.in_ok-functions.ensures.exact)
    (exact-of k thing.Kind c.as_slice-instrs.result.now ks _ (length k.kinds) c.as_slice-instrs.ensures c.len-2.ensures c.in_ok-kinds.ensures.exact)
    (exact-of k thing.Site c.as_slice-instrs.result.now ss _ (length k.sites) c.as_slice-instrs.ensures c.len-3.ensures c.in_ok-sites.ensures.exact) in
    let f = parts-of k c.parts_lead.result c.as_slice.result.now k.functions fs c.as_slice.ensures c.parts_lead.ensures in
    let g = parts-of k c.parts_lead-2.result c.as_slice-2.result.now k.kinds ks c.as_slice-2.ensures c.parts_lead-2.ensures in
    let s : (c.sites_lead.result ≡ true) ↔ SitesLead k k.sites ss = subst (λ (l : List Site). (c.sites_lead.result ≡ true) ↔ SitesLead k l ss) c.as_slice-3.ensures c.sites_lead.ensures in (
      λ t. (let three = c.all_three.ensures.0 t in all.0 (f.0 three.0, g.0 three.1, s.0 three.2)),
      λ u. (let three = all.1 u in c.all_three.ensures.1 (f.1 three.0, g.1 three.1, s.1 three.2)),
    )
