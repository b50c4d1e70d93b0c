use Rattle.std.proofs.Common.{◌≡◌, ℕ, List, [], ◌∷◌, ◌++◌, slice_get, Some, refl, sym, ◌∙◌, ap, take, append_assoc, append-nil}
use Rattle.std.proofs.lemmas.List.{map-append}
use Rattle.cc_code.proofs.Lists.{item, take_next}
use Rattle.cc_code.specs.Checked.{address_starts}
use Rattle.cc_code.specs.Control.{fragments, fragments_of, optional}
use Rattle.cc_code.specs.Reach.{begin, place_of}
use Rattle.cc_code.specs.declared.code.RawCode.{RawCode}
use Rattle.cc_code.specs.declared.code.Site.{Site}
use Rattle.cc_code.specs.declared.reach.Start.{Start}
use Rattle.cc_code.proofs.parts.fragment_starts.Goals as goal

fragments-more : (ss : List Site) (s : Site) → fragments (ss ++ s ∷ []) ≡ fragments ss ++ fragments_of s
fragments-more [] s = append-nil (fragments_of s)
fragments-more (t ∷ ss) s = ap (λ (l : List ℕ). fragments_of t ++ l) (fragments-more ss s) ∙ sym (append_assoc (fragments_of t) (fragments ss) (fragments_of s))

starts-append : (k : RawCode) (xs ys : List ℕ) → address_starts k (xs ++ ys) ≡ address_starts k xs ++ address_starts k ys
starts-append k xs ys = map-append (λ (a : ℕ). begin (place_of k a) 0) xs ys

-- the starts of one more site
site-more : (k : RawCode) (front : List Site) (s : Site) (s0 s1 s2 : List Start) → s0 ≡ address_starts k (fragments front) → s1 ≡ s0 ++ address_starts k (optional s.such) → s2 ≡ s1 ++ address_starts k (optional s.by)
    → s2 ≡ address_starts k (fragments (front ++ s ∷ []))
site-more k front s s0 s1 s2 e0 e1 e2 =
    let such : List Start = address_starts k (optional s.such) in
    let by : List Start = address_starts k (optional s.by) in
    e2
    ∙ ap (λ (l : List Start). l ++ by) (e1 ∙ ap (λ (l : List Start). l ++ such) e0)
    ∙ append_assoc (address_starts k (fragments front)) such by
    ∙ ap (λ (l : List Start). address_starts k (fragments front) ++ l) (sym (starts-append k (optional s.such) (optional s.by)))
    ∙ sym (starts-append k (fragments front) (fragments_of s))
    ∙ ap (address_starts k) (sym (fragments-more front s))

pub loop-site-preserved : goal.loop-site-preserved
loop-site-preserved c =
    let sites : List Site = c.as_slice-site-items.result.now in
    let e : slice_get sites c.loop-site.site-index ≡ Some c.site-item.result = item sites sites c.loop-site.site-index c.site-item.result refl c.loop-site-test.true c.site-item.is in
    record {
      are = c.loop-site.invariant.are;
      starts = site-more c.args.raw.now (take c.loop-site.site-index sites) c.site-item.result _ _ _ c.loop-site.invariant.starts c.in_ok-put_start.ensures c.in_ok-put_start-2.ensures
          ∙ ap (λ (ss : List Site). address_starts c.args.raw.now (fragments ss)) (sym (take_next sites c.loop-site.site-index c.site-item.result e));
    }
