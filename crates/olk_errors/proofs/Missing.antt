-- Names that an object lacks, one by one.
use Rattle.std.proofs.Common.{◌≡◌, Bool, true, false, not, ◌&&◌, List, [], ◌∷◌, ◌++◌, map, String, Global, string_bytes, refl, sym, ap, subst, ◌∙◌, None, Ok}
use Rattle.std.specs.List.{flat_map}
use Rattle.serde_json.specs.Data.{Data, object, Members}
use Rattle.serde_json.specs.Find.{as_object}
use Rattle.olk_spec.specs.Names.{Name, Path, put_if, is_empty}
use Rattle.olk_spec.specs.Faults.{Fault, fault, Kind, Required, itself}
use Rattle.olk_spec.specs.Schemas.{has, is_object}
use Rattle.olk_spec.specs.Accepts.{missing}
use Rattle.olk_spec.specs.Reports.{required_faults}
use Rattle.olk_tree.specs.Maps.{texts_of}
use Rattle.olk_tree.specs.Firsts.{or_else, first_of, head_of}
use Rattle.olk_tree.specs.Questions.{Question, always, every}
use Rattle.olk_errors.specs.Outcomes.{of_each, of_names}
use Rattle.olk_errors.specs.Found.{Outcome}
use Rattle.olk_errors.specs.Sinks.{Ends}
use Rattle.olk_errors.specs.declared.sink.ErrorSink.{ErrorSink}
use Rattle.olk_errors.proofs.Sinks.{unasked, ends_past}
use Rattle.olk_errors.proofs.Own.{IsOwn, is_own, like_at}

-- where these names are missing
abbrev wanting : Data → Path → Path → List Name → Outcome
wanting v P Q ns = record { accepts = is_empty ns; first = head_of (map (λ n. fault (Required n) v Q P) ns); all = map (λ n. fault (Required n) v Q P) ns }

module _ (v : Data) where
  -- whether the one name is there
  abbrev pub is_there : String Global → Question
  is_there name = always (is_empty (missing (string_bytes name ∷ []) v))

  put_empty : {X : Type 0} (b : Bool) (x : X) (xs : List X) → (is_empty (put_if b x []) && is_empty xs) ≡ is_empty (put_if b x xs)
  put_empty true x xs = refl
  put_empty false x xs = refl

  pub all_there : (names : List (String Global)) (u : Bool) → (every is_there names).accepts u ≡ is_empty (missing (texts_of names) v)
  all_there [] u = refl
  all_there (name ∷ names) u =
      ap (λ b. is_empty (missing (string_bytes name ∷ []) v) && b) (all_there names u) ∙ put_empty (is_object v && not (has (string_bytes name) v)) (string_bytes name) (missing (texts_of names) v)

  module _ (P Q : Path) where
    -- the fault of the one name, where it is absent
    abbrev pub lacked : String Global → List Fault
    lacked name = required_faults (string_bytes name ∷ []) v P Q

    abbrev told : Name → Fault
    told n = fault (Required n) v Q P

    pub put_map : (b : Bool) (n : Name) (ns : List Name) → map told (put_if b n []) ++ map told ns ≡ map told (put_if b n ns)
    put_map true n ns = refl
    put_map false n ns = refl

    put_first : (b : Bool) (n : Name) (ns : List Name) → or_else (map told (put_if b n [])) (head_of (map told ns)) ≡ head_of (map told (put_if b n ns))
    put_first true n ns = refl
    put_first false n ns = refl

    pub all_lacked : (names : List (String Global)) → flat_map lacked names ≡ required_faults (texts_of names) v P Q
    all_lacked [] = refl
    all_lacked (name ∷ names) = ap (λ fs. lacked name ++ fs) (all_lacked names) ∙ put_map (is_object v && not (has (string_bytes name) v)) (string_bytes name) (missing (texts_of names) v)

    pub first_lacked : (names : List (String Global)) → first_of lacked names ≡ head_of (required_faults (texts_of names) v P Q)
    first_lacked [] = refl
    first_lacked (name ∷ names) = ap (or_else (lacked name)) (first_lacked names) ∙ put_first (is_object v && not (has (string_bytes name) v)) (string_bytes name) (missing (texts_of names) v)

-- of an object, where it was looked whether it has the name
module _ (ms : Members) (v : Data) (is : v ≡ object ms) (n : Name) {found : Bool} (looked : found ≡ has n (object ms)) where
  absent_if : (is_object v && not (has n v)) ≡ not found
  absent_if = (λ i. is_object (is i) && not (has n (is i))) ∙ ap not (sym looked)

  pub there : found ≡ true → missing (n ∷ []) v ≡ []
  there t = ap (λ c. put_if c n []) (absent_if ∙ ap not t)

  pub not_there : found ≡ false → missing (n ∷ []) v ≡ n ∷ []
  not_there f = ap (λ c. put_if c n []) (absent_if ∙ ap not f)

  module _ (P Q : Path) where
    pub there_past : {T : Type 0} {y : T} {sink : ErrorSink} → found ≡ true → Ends (Ok y) sink sink (of_names (n ∷ []) v P Q)
    there_past t = ends_past (ap (wanting v P Q) (there t))

    pub lacked_own : found ≡ false → {k : Kind} → k ≡ Required n → IsOwn (fault k v Q P) (of_names (n ∷ []) v P Q)
    lacked_own f {k} kind =
        subst (λ ns. IsOwn (fault k v Q P) (wanting v P Q ns)) (sym (not_there f))
        (is_own (Required n) v P Q {case = true} refl refl refl (like_at kind itself refl refl))

module _ (v : Data) (P Q : Path) (names : List (String Global)) where
  -- asking for each of the names is asking for all
  pub names_together : of_each true (is_there v) (lacked v P Q) (lacked v P Q) names ≡ of_names (texts_of names) v P Q
  names_together = λ i. record { accepts = all_there v names true i; first = first_lacked v P Q names i; all = all_lacked v P Q names i }

-- what is no object lacks nothing
pub nothing_missing : (ns : List Name) (v : Data) → None ≡ as_object v → missing ns v ≡ []
nothing_missing [] v e = refl
nothing_missing (n ∷ ns) (object ms) e = cc
nothing_missing (n ∷ ns) v e = nothing_missing ns v e

-- ---- one name

module _ (v : Data) (P Q : Path) (n : Name) where
  pub one_first : (b : Bool) → head_of (map (λ n. fault (Required n) v Q P) (put_if b n [])) ≡ map (λ n. fault (Required n) v Q P) (put_if b n [])
  one_first true = refl
  one_first false = refl

-- ---- of what is no object

pub other_lacks_nothing : (ns : List Name) (v : Data) (P Q : Path) → None ≡ as_object v → of_names ns v P Q ≡ unasked
other_lacks_nothing ns v P Q none = ap (wanting v P Q) (nothing_missing ns v none)
