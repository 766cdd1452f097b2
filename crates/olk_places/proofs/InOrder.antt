-- Lemmas on what is told of errors.
use Rattle.std.proofs.Common.{◌≡◌, ℕ, ◌+◌, ◌<◌, false, List, [], ◌∷◌, ◌++◌, length, map, take, get_or, refl, sym, ap, subst, ◌∙◌, string_bytes, arith}
use Rattle.std.specs.declared.cmp.Ordering.{Ordering}
use Rattle.std.specs.declared.cmp.Ordering.TheVariants.{Less, Equal, Greater}
use Rattle.std.specs.Ordering.{nat_cmp, ordering_then, is_lt}
use Rattle.std.specs.Cmp.Lexicographic.{slice_cmp}
use Rattle.std.specs.List.Sorted.{IsSorted}
use Rattle.std.proofs.lemmas.List.{get_or-map, length-map, take_more, map-append, get_or_read_under}
use Rattle.olk_spec.specs.Texts.{prints_fraction}
use Rattle.olk_reports.specs.Errors.{fault_of}
use Rattle.olk_reports.specs.declared.error.ValidationError.{ValidationError}
use Rattle.olk_answers.specs.Told.{told, told_cmp, PrintNoFraction}
use Rattle.olk_places.specs.Told.{shown, IsOf}
use Rattle.olk_places.specs.declared.told.Told.{Told}

-- what comes last in a comparison makes nothing less that was not
not_less : (a b c d : Ordering) → is_lt (ordering_then a (ordering_then b (ordering_then c d))) ≡ false → is_lt (ordering_then a (ordering_then b c)) ≡ false
not_less Less b c d h = h
not_less Greater b c d h = h
not_less Equal Less c d h = h
not_less Equal Greater c d h = h
not_less Equal Equal Less d h = h
not_less Equal Equal Greater d h = h
not_less Equal Equal Equal d h = refl

abbrev pub own_cmp : Told → Told → Ordering
own_cmp a b = ordering_then (slice_cmp nat_cmp a.instance_path.now b.instance_path.now) (ordering_then (slice_cmp nat_cmp a.schema_path.now b.schema_path.now) (ordering_then (slice_cmp nat_cmp (string_bytes a.message) (string_bytes b.message)) (nat_cmp a.index b.index)))

pub shown_ascend : (ts : List Told) → IsSorted own_cmp ts → IsSorted told_cmp (map shown ts)
shown_ascend [] up k d low high = absurd (omega arith)
shown_ascend (t ∷ ts) up k d low high =
    let all = t ∷ ts in
    let within : k + 1 < length all = omega (arith, length-map all shown, high) in
    let later = get_or-map shown all (k + 1) t d within in
    let here = get_or-map shown all k t d (omega arith) in
    let x = get_or all (k + 1) t in
    let y = get_or all k t in
    let less = not_less (slice_cmp nat_cmp x.instance_path.now y.instance_path.now) (slice_cmp nat_cmp x.schema_path.now y.schema_path.now) (slice_cmp nat_cmp (string_bytes x.message) (string_bytes y.message)) (nat_cmp x.index y.index) (up k t low within) in
    rw (later, here) less

-- one more error is told
pub told_next : (errors : List ValidationError) (i : ℕ) (e : ValidationError) (ts : List Told) (t : Told) → i < length errors → e ≡ get_or errors i e
    → PrintNoFraction (map fault_of errors) → (prints_fraction (fault_of e) ≡ false → shown t ≡ told (fault_of e))
    → map shown ts ≡ map told (map fault_of (take i errors)) → map shown (ts ++ t ∷ []) ≡ map told (map fault_of (take (i + 1) errors))
told_next errors i e ts t low is none tells before =
    let here = get_or-map fault_of errors i e (fault_of e) low ∙ ap fault_of (sym is) in
    let plain = subst (λ f. prints_fraction f ≡ false) here (none i (fault_of e) (omega (arith, length-map errors fault_of, low))) in
    let more = take_more errors i e low ∙ ap (λ x. take i errors ++ x ∷ []) (sym is) in
    map-append shown ts (t ∷ [])
    ∙ ap (λ l. l ++ shown t ∷ []) before
    ∙ ap (λ x. map told (map fault_of (take i errors)) ++ x ∷ []) (tells plain)
    ∙ sym (map-append told (map fault_of (take i errors)) (fault_of e ∷ []))
    ∙ ap (map told) (sym (map-append fault_of (take i errors) (e ∷ [])))
    ∙ ap (λ l. map told (map fault_of l)) (sym more)

pub is_of : (errors : List ValidationError) (i : ℕ) (e : ValidationError) (t : Told) → i < length errors → e ≡ get_or errors i e → t.index ≡ i
    → (prints_fraction (fault_of e) ≡ false → shown t ≡ told (fault_of e)) → IsOf errors t
is_of errors i e t low is at tells = record {
  within = rw at low;
  tells = λ d.
      let here : e ≡ get_or errors t.index d = rw at (get_or_read_under errors i (length errors) e d is low refl) in
      subst (λ x. prints_fraction (fault_of x) ≡ false → shown t ≡ told (fault_of x)) here tells;
}
