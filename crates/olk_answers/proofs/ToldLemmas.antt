-- Lemmas on what is told of faults.
use Rattle.std.proofs.Common.{◌≡◌, ◌≢◌, ℕ, ◌+◌, ◌<◌, ◌==◌, Bool, false, List, [], ◌∷◌, ◌++◌, length, map, take, get_or, refl, sym, ap, subst, ◌∙◌, arith}
use Rattle.std.specs.List.Sorted.{IsSorted}
use Rattle.std.proofs.lemmas.Bool.{ne_eqb}
use Rattle.std.proofs.lemmas.List.{get_or-map, length-map, take_more, map-append}
use Rattle.serde_json.specs.Data.{Data, string, item}
use Rattle.serde_json.specs.View.{items_of}
use Rattle.serde_json.specs.Written.{has_float, items_have_float}
use Rattle.olk_spec.specs.Names.{Name, Path, is_empty}
use Rattle.olk_spec.specs.Tree.{Tree, Described, is_valid, annotations, errors}
use Rattle.olk_spec.specs.Answers as rows
use Rattle.olk_spec.specs.Json.{items_from}
use Rattle.olk_spec.specs.Texts.{prints_fraction}
use Rattle.olk_reports.specs.Errors.{fault_of}
use Rattle.olk_reports.specs.declared.error.ValidationError.{ValidationError}
use Rattle.olk_answers.specs.Evaluated.{annotation_data, description_data, evaluation_data}
use Rattle.olk_spec.specs.Answers.{tree_data}
use Rattle.olk_answers.specs.Told.{Told, told, shown, told_cmp, error_data, errors_data, PrintNoFraction}
use Rattle.olk_answers.specs.declared.errors.ToldError.{ToldError}

errors_are_plain : (es : List Told) → items_have_float (items_of (map error_data es)) ≡ false
errors_are_plain [] = refl
errors_are_plain (e ∷ es) = errors_are_plain es

pub answer_is_plain : (valid : Bool) (es : List Told) → has_float (errors_data valid es) ≡ false
answer_is_plain valid es = rw (errors_are_plain es)

pub shown_ascend : (ts : List ToldError) → IsSorted (λ a b. told_cmp (shown a) (shown b)) ts → IsSorted told_cmp (map shown ts)
shown_ascend [] up k d low high = absurd (omega arith)
shown_ascend (t ∷ ts) up k d low high =
    let all = t ∷ ts in
    let within : k + 1 < length all = omega (arith, length-map all shown, high) in
    let later = get_or-map shown all (k + 1) t d within in
    let here = get_or-map shown all k t d (omega arith) in
    rw (later, here) (up k t low within)

-- one more error is told
pub told_next : (errors : List ValidationError) (i : ℕ) (e : ValidationError) (ts : List ToldError) (t : ToldError) → i < length errors → e ≡ get_or errors i e
    → PrintNoFraction (map fault_of errors) → (prints_fraction (fault_of e) ≡ false → shown t ≡ told (fault_of e))
    → map shown ts ≡ map told (map fault_of (take i errors)) → map shown (ts ++ t ∷ []) ≡ map told (map fault_of (take (i + 1) errors))
told_next errors i e ts t low is none tells before =
    let here = get_or-map fault_of errors i e (fault_of e) low ∙ ap fault_of (sym is) in
    let plain = subst (λ f. prints_fraction f ≡ false) here (none i (fault_of e) (omega (arith, length-map errors fault_of, low))) in
    let more = take_more errors i e low ∙ ap (λ x. take i errors ++ x ∷ []) (sym is) in
    map-append shown ts (t ∷ [])
    ∙ ap (λ l. l ++ shown t ∷ []) before
    ∙ ap (λ x. map told (map fault_of (take i errors)) ++ x ∷ []) (tells plain)
    ∙ sym (map-append told (map fault_of (take i errors)) (fault_of e ∷ []))
    ∙ ap (map told) (sym (map-append fault_of (take i errors) (e ∷ [])))
    ∙ ap (λ l. map told (map fault_of l)) (sym more)

pub is_empty-length : {X : Type 0} (xs : List X) → (length xs == 0) ≡ is_empty xs
is_empty-length [] = refl
is_empty-length (x ∷ xs) =
    let some : length (x ∷ xs) ≢ 0 = λ e. omega arith in
    ne_eqb (length (x ∷ xs)) 0 some

-- ---- evaluations

names_are_plain : (ns : List Name) → items_have_float (items_of (map string ns)) ≡ false
names_are_plain [] = refl
names_are_plain (n ∷ ns) = names_are_plain ns

annotations_are_plain : (ns : List (Path × Path × List Name)) → items_have_float (items_of (map annotation_data ns)) ≡ false
annotations_are_plain [] = refl
annotations_are_plain ((P, Q, n) ∷ ns) = rw (names_are_plain n, annotations_are_plain ns)

descriptions_are_plain : (es : List (Path × Path × Described)) → items_have_float (items_of (map description_data es)) ≡ false
descriptions_are_plain [] = refl
descriptions_are_plain ((P, Q, (k, t, fraction)) ∷ es) = descriptions_are_plain es

pub evaluation_is_plain : (valid : Bool) (ns : List (Path × Path × List Name)) (es : List (Path × Path × Described)) → has_float (evaluation_data valid ns es) ≡ false
evaluation_is_plain valid ns es = rw (annotations_are_plain ns, descriptions_are_plain es)

-- the answer is the one of the worked rows

items_same : (ds : List Data) → items_of ds ≡ items_from ds
items_same [] = refl
items_same (d ∷ ds) = ap (item d) (items_same ds)

annotations_same : (ns : List (Path × Path × List Name)) → items_of (map annotation_data ns) ≡ items_from (map rows.annotation_data ns)
annotations_same [] = refl
annotations_same ((P, Q, names) ∷ ns) = rw (items_same (map string names)) (ap (item (rows.annotation_data (P, Q, names))) (annotations_same ns))

descriptions_same : (es : List (Path × Path × Described)) → items_of (map description_data es) ≡ items_from (map rows.error_data es)
descriptions_same [] = refl
descriptions_same ((P, Q, (k, t, fraction)) ∷ es) = ap (item (rows.error_data (P, Q, (k, t, fraction)))) (descriptions_same es)

pub evaluation_is_tree : (t : Tree) → evaluation_data (is_valid t) (annotations t) (errors t) ≡ tree_data t
evaluation_is_tree t = rw (annotations_same (annotations t), descriptions_same (errors t)) refl
