-- What is wrong with a document, where what is wrong at the places that its references name is known in part.
use Rattle.std.proofs.Common.{◌≡◌, Bool, true, false, cond, List, [], ◌∷◌, ◌++◌, Contains, Option, Some, None, ⊎_elim, refl, sym, ◌∙◌, ap, subst, arith, true≢false}
use Rattle.std.specs.List.{flat_map}
use Rattle.std.proofs.lemmas.List.Concat.{flat_map-append}
use Rattle.std.proofs.lemmas.List.Elements.{Contains-append_left, Contains-append_right, Contains-append_cases}
use Rattle.serde_json.specs.Data.{Data, string, object, Members}
use Rattle.olk_spec.specs.Names.{Text, Name, Path, ◌//◌, down, is_empty}
use Rattle.olk_spec.specs.World.{World}
use Rattle.olk_spec.specs.Faults.{Fault, SingleType, string_type}
use Rattle.olk_spec.specs.Malformed.{keyword_malformations, own_refusals, read_places, is_text, unless_kind}
use Rattle.olk_spec.specs.Schemas.{Keywords, Part, Schema, answer_for, as_text, is_object, listed, read, read_members}
use Rattle.olk_spec.specs.Vocabulary.{Keyword, unsupported, unread, keyword_named}
use Rattle.olk_spec.proofs.Each.{Each, Each-append, Each-both, Each-implies}
use Rattle.olk_spec.proofs.Maps.{flat_map-map}
use Rattle.olk_spec.proofs.Reading.{members_read, schema_of_read}
use Rattle.olk_meaning.proofs.Refusals.{same_refusals}
use Rattle.olk_document_spec.specs.Following.{referring_text}
use Rattle.olk_document_spec.specs.Keywords.{Document_keyword, reference, document_keyword, beneath, is_other}
use Rattle.olk_document_spec.specs.Malformed.{reference_texts, document_places, references_step, references_read}
use Rattle.olk_document_spec.specs.Malformed.{reference_refusals, document_refusals, document_malformed, member_malformed, document_malformations_step, malformations_under}
use Rattle.olk_document_spec.proofs.Conservative.{is_other_one}
use Rattle.olk_document_spec.proofs.Following.{Each-apart}
use Rattle.olk_document_meaning.proofs.Others.{is_idle, own_is_idle}
use Rattle.olk_document_meaning.proofs.Places_read.{Unasked, ask_nothing, asked_by, own_places_asked, layer_places_asked, GoodPlace, GoodMember, layer_places, own_places, by_places_read}

-- ---- lists

Each-flat_map_apart : {X Y : Type 0} (P : Y → Type 0) (f : X → List Y) (xs : List X) → Each P (flat_map f xs) → Each (λ x. Each P (f x)) xs
Each-flat_map_apart P f [] h = tt
Each-flat_map_apart P f (x ∷ xs) h = let b = Each-apart P (f x) (flat_map f xs) h in (b.0, Each-flat_map_apart P f xs b.1)

-- each of these faults is one of those; and if there are none of these, there are none of those
abbrev pub Tells : List Fault → List Fault → Type 0
Tells fs gs = (f : Fault) → Contains fs f → Contains gs f

abbrev pub Clears : List Fault → List Fault → Type 0
Clears fs gs = fs ≡ [] → gs ≡ []

nothing_told : (f : Fault) → Contains [] f → ⊥
nothing_told f h = absurd (omega (arith, h.1))

tells_joined : (fs gs hs ks : List Fault) → Tells fs hs → Tells gs ks → Tells (fs ++ gs) (hs ++ ks)
tells_joined fs gs hs ks h k f c = ⊎_elim (λ x. Contains-append_left hs ks f (h f x)) (λ x. Contains-append_right hs ks f (k f x)) (Contains-append_cases fs gs f c)

clears_joined : (fs gs hs ks : List Fault) → Clears fs hs → Clears gs ks → Clears (fs ++ gs) (hs ++ ks)
clears_joined [] gs hs ks h k e = λ i. h refl i ++ k e i
clears_joined (f ∷ fs) gs hs ks h k e = absurd (true≢false (sym (ap is_empty e)))

-- ---- the references that an object reads, by its members

abbrev Told : Type 0
Told = Path → List Fault

module _ (W : World) where
  abbrev references_of : Unasked → List Text
  references_of rs = flat_map (λ r. references_read W r.0.schema) rs

  abbrev member_references : Members → Name × Data → List Text
  member_references ms m = referring_text (document_keyword m.0) m.1 ++ (references_of (layer_places W ms m) ++ references_of (own_places W m))

  text_read : (n : Name) (d : Data) (w : Document_keyword) → reference_texts n (read (references_step W) d) w ≡ referring_text w d
  text_read n d reference = ap as_text (schema_of_read (references_step W) d)
  text_read n d _ = refl

  references_asked : (rs : Unasked) → flat_map (λ r. r.0.answer) (asked_by (references_step W) rs) ≡ references_of rs
  unfolding references_read
  references_asked rs = flat_map-map _ _ _ (λ r. refl) rs

  module _ (ms : Members) where
    abbrev R : Keywords (List Text)
    R = read_members (references_step W) ms

    member_read : (m : Name × Data) → reference_texts m.0 (read (references_step W) m.1) (document_keyword m.0)
        ++ flat_map (λ r. r.0.answer) (read_places m.0 R (read (references_step W) m.1) (keyword_named (beneath W) m.0) ++ document_places m.0 (read (references_step W) m.1) (document_keyword m.0)) ≡ member_references ms m
    member_read m =
        let layer = ap (flat_map (λ r. r.0.answer)) (layer_places_asked (references_step W) m.0 m.1 ms (keyword_named (beneath W) m.0)) ∙ references_asked (layer_places W ms m) in
        let own = ap (flat_map (λ r. r.0.answer)) (own_places_asked (references_step W) m.0 m.1 (document_keyword m.0)) ∙ references_asked (own_places W m) in
        let both = flat_map-append (λ r. r.0.answer) (read_places m.0 R (read (references_step W) m.1) (keyword_named (beneath W) m.0)) (document_places m.0 (read (references_step W) m.1) (document_keyword m.0)) ∙ (λ i. layer i ++ own i) in
        λ i. text_read m.0 m.1 (document_keyword m.0) i ++ both i

    references_by_members : references_read W (object ms) ≡ flat_map (member_references ms) (listed ms)
    unfolding references_read
    references_by_members = ap (flat_map (λ m. reference_texts m.0 m.1 (document_keyword m.0)
        ++ flat_map (λ r. r.0.answer) (read_places m.0 R m.1 (keyword_named (beneath W) m.0) ++ document_places m.0 m.1 (document_keyword m.0)))) (members_read (references_step W) ms)
        ∙ flat_map-map _ _ _ member_read (listed ms)

-- ---- what is told at places

module _ (step : Schema Told → Told) (P : Path) where
  abbrev told_at : Unasked → List Fault
  told_at rs = flat_map (λ r. answer_for step r.0.schema (down P r.1)) rs

  told_asked : (rs : Unasked) → flat_map (λ r. r.0.answer (down P r.1)) (asked_by step rs) ≡ told_at rs
  told_asked rs = flat_map-map _ _ _ (λ r. refl) rs

  module _ (W : World) (m : Name × Data) where
    layer_told_at : (ms : Members) → flat_map (λ r. r.0.answer (down P r.1)) (read_places m.0 (read_members step ms) (read step m.1) (keyword_named (beneath W) m.0)) ≡ told_at (layer_places W ms m)
    layer_told_at ms = ap (flat_map (λ r. r.0.answer (down P r.1))) (layer_places_asked step m.0 m.1 ms (keyword_named (beneath W) m.0)) ∙ told_asked (layer_places W ms m)

    own_told_at : flat_map (λ r. r.0.answer (down P r.1)) (document_places m.0 (read step m.1) (document_keyword m.0)) ≡ told_at (own_places W m)
    own_told_at = ap (flat_map (λ r. r.0.answer (down P r.1))) (own_places_asked step m.0 m.1 (document_keyword m.0)) ∙ told_asked (own_places W m)

module _ (W : World) (M : Text → Option (List Fault)) where
  refused_by_members : (ms : Members) (P : Path) → answer_for (document_malformations_step W M) (object ms) P
      ≡ flat_map (λ m. member_malformed W M (read_members (document_malformations_step W M) ms) m.0 (read (document_malformations_step W M) m.1) P) (listed ms)
  refused_by_members ms P = ap (flat_map (λ m. member_malformed W M (read_members (document_malformations_step W M) ms) m.0 m.1 P)) (members_read (document_malformations_step W M) ms) ∙ flat_map-map _ _ _ (λ m. refl) (listed ms)

-- ---- from what is wrong where the places are so by M to what is wrong where they are so by N

-- what is told of a reference by the one is told of it by the other
abbrev pub IsToldBy : Option (List Fault) → Option (List Fault) → Type 0
IsToldBy a b = (k : Name) (d : Data) (P : Path) → Tells (reference_refusals k d P a) (reference_refusals k d P b)

pub not_followed_by_either : (a b : Option (List Fault)) → a ≡ None → b ≡ None → IsToldBy a b
not_followed_by_either a b p q k d P x c = subst (λ o. Contains (reference_refusals k d P o) x) (p ∙ sym q) c

pub nothing_is_told : (a b : Option (List Fault)) → a ≡ Some [] → IsToldBy a b
nothing_is_told a b p k d P x c = absurd (nothing_told x (subst (λ o. Contains (reference_refusals k d P o) x) p c))

module _ (W : World) (M N : Text → Option (List Fault)) where
  abbrev f : Schema Told → Told
  f = document_malformations_step W M

  abbrev g : Schema Told → Told
  g = document_malformations_step W N

  -- Rel: a relation of faults that is kept where lists are joined
  module _ (Rel : List Fault → List Fault → Type 0) (same : (fs : List Fault) → Rel fs fs) (joined : (fs gs hs ks : List Fault) → Rel fs hs → Rel gs ks → Rel (fs ++ gs) (hs ++ ks)) where
    abbrev Related : Text → Type 0
    Related t = (k : Name) (d : Data) (P : Path) → Rel (reference_refusals k d P (M t)) (reference_refusals k d P (N t))

    related_each : {X : Type 0} (p q : X → List Fault) (xs : List X) → Each (λ x. Rel (p x) (q x)) xs → Rel (flat_map p xs) (flat_map q xs)
    related_each p q [] h = same []
    related_each p q (x ∷ xs) h = joined (p x) (flat_map p xs) (q x) (flat_map q xs) h.0 (related_each p q xs h.1)

    moved : {fs gs hs ks : List Fault} → fs ≡ hs → gs ≡ ks → Rel hs ks → Rel fs gs
    moved {fs = fs} {ks = ks} p q r = subst (Rel fs) (sym q) (subst (λ l. Rel l ks) (sym p) r)

    abbrev IsRelated : Data → Type 0
    IsRelated d = Each Related (references_read W d) → (P : Path) → Rel (answer_for f d P) (answer_for g d P)

    places_related : (P : Path) (rs : Unasked) → Each (GoodPlace IsRelated) rs → Each Related (references_of W rs) → Rel (told_at f P rs) (told_at g P rs)
    places_related P rs h a = related_each _ _ rs (Each-implies _ _ (λ r b. b.0 b.1 (down P r.1)) rs
        (Each-both (GoodPlace IsRelated) _ rs h (Each-flat_map_apart Related (λ r. references_read W r.0.schema) rs a)))

    refusals_related : (k : Name) (d : Data) (P : Path) (w : Document_keyword) → Each Related (referring_text w d) → Rel (document_refusals M k d P w) (document_refusals N k d P w)
    refusals_related k d P reference a = joined _ _ _ _ (same (unless_kind (is_text d) (SingleType string_type) d P))
        (related_each (λ t. reference_refusals k d P (M t)) (λ t. reference_refusals k d P (N t)) (as_text d) (Each-implies Related _ (λ t b. b k d P) (as_text d) a))
    refusals_related k d P _ a = same _

    module _ (ms : Members) (m : Name × Data) (P : Path) (h : GoodMember W IsRelated ms m) (a : Each Related (member_references W ms m)) where
      abbrev apart : Each Related (referring_text (document_keyword m.0) m.1) × Each Related (references_of W (layer_places W ms m) ++ references_of W (own_places W m))
      apart = Each-apart Related (referring_text (document_keyword m.0) m.1) (references_of W (layer_places W ms m) ++ references_of W (own_places W m)) a

      abbrev places_apart : Each Related (references_of W (layer_places W ms m)) × Each Related (references_of W (own_places W m))
      places_apart = Each-apart Related (references_of W (layer_places W ms m)) (references_of W (own_places W m)) apart.1

      layer_related : Rel (keyword_malformations (beneath W) (read_members f ms) m.0 (read f m.1) P (keyword_named (beneath W) m.0)) (keyword_malformations (beneath W) (read_members g ms) m.0 (read g m.1) P (keyword_named (beneath W) m.0))
      layer_related = joined _ _ _ _ (moved (same_refusals f g (beneath W) m.0 m.1 (P // m.0) (keyword_named (beneath W) m.0)) refl (same _))
          (moved (layer_told_at f P W m ms) (layer_told_at g P W m ms) (places_related P (layer_places W ms m) h.0 places_apart.0))

      own_related : Rel (document_malformed M m.0 (read f m.1) P (document_keyword m.0)) (document_malformed N m.0 (read g m.1) P (document_keyword m.0))
      own_related = joined _ _ _ _
          (moved (ap (λ s. document_refusals M m.0 s (P // m.0) (document_keyword m.0)) (schema_of_read f m.1)) (ap (λ s. document_refusals N m.0 s (P // m.0) (document_keyword m.0)) (schema_of_read g m.1))
          (refusals_related m.0 m.1 (P // m.0) (document_keyword m.0) apart.0))
          (moved (own_told_at f P W m) (own_told_at g P W m) (places_related P (own_places W m) h.1 places_apart.1))

      either_related : (b : Bool) (fs gs hs ks : List Fault) → Rel fs hs → Rel gs ks → Rel (cond b fs gs) (cond b hs ks)
      either_related true fs gs hs ks p q = p
      either_related false fs gs hs ks p q = q

      member_related : Rel (member_malformed W M (read_members f ms) m.0 (read f m.1) P) (member_malformed W N (read_members g ms) m.0 (read g m.1) P)
      member_related = either_related (is_other m.0) _ _ _ _ layer_related own_related

    no_object_related : (d : Data) → is_object d ≡ false → IsRelated d
    no_object_related (object ms) e a P = absurd (true≢false e)
    no_object_related _ e a P = same _

    object_related : (ms : Members) → Each (GoodMember W IsRelated ms) (listed ms) → IsRelated (object ms)
    object_related ms h a P = moved (refused_by_members W M ms P) (refused_by_members W N ms P) (related_each _ _ (listed ms)
        (Each-implies _ _ (λ m b. member_related ms m P b.0 b.1) (listed ms)
        (Each-both (GoodMember W IsRelated ms) _ (listed ms) h (Each-flat_map_apart Related (member_references W ms) (listed ms) (subst (Each Related) (references_by_members W ms) a)))))

    related : (d : Data) → IsRelated d
    related = by_places_read W IsRelated no_object_related object_related

  clears_reference : (t : Text) → (M t ≡ Some [] → N t ≡ Some []) → Related Clears (λ fs e. e) clears_joined t
  clears_reference t h k d P = by (M t) refl
    where
      by : (o : Option (List Fault)) → M t ≡ o → Clears (reference_refusals k d P o) (reference_refusals k d P (N t))
      by None q e = absurd (true≢false (sym (ap is_empty e)))
      by (Some fs) q e = ap (reference_refusals k d P) (h (q ∙ ap (λ gs. Some gs) e))

  -- where nothing is wrong by N at each place that a reference names at which nothing is by M, a schema in which nothing is wrong by M has nothing wrong by N
  pub clean_carried : (d : Data) (P : Path) → Each (λ t. M t ≡ Some [] → N t ≡ Some []) (references_read W d) → malformations_under W M d P ≡ [] → malformations_under W N d P ≡ []
  unfolding malformations_under
  clean_carried d P h = related Clears (λ fs e. e) clears_joined d (Each-implies _ (Related Clears (λ fs e. e) clears_joined) clears_reference (references_read W d) h) P

  -- where what is told of each reference by M is told of it by N, what is wrong with a schema by M is wrong by N
  pub told_carried : (d : Data) (P : Path) → Each (λ t. IsToldBy (M t) (N t)) (references_read W d) → (x : Fault) → Contains (malformations_under W M d P) x → Contains (malformations_under W N d P) x
  unfolding malformations_under
  told_carried d P h = related Tells (λ fs x c. c) tells_joined d h P

-- ---- what is wrong at the place that a reference names

module _ (W : World) (N : Text → Option (List Fault)) where
  abbrev refuses : Schema Told → Told
  refuses = document_malformations_step W N

  -- what is wrong at the place that the text names is among these faults
  abbrev Covers : List Fault → Text → Type 0
  Covers fs t = (gs : List Fault) → N t ≡ Some gs → Tells gs fs

  covers_more : (fs gs : List Fault) → Tells fs gs → (ts : List Text) → Each (Covers fs) ts → Each (Covers gs) ts
  covers_more fs gs h ts = Each-implies (Covers fs) (Covers gs) (λ t c hs e x m. h x (c hs e x m)) ts

  abbrev IsCovered : Data → Type 0
  IsCovered d = (P : Path) → Each (Covers (answer_for refuses d P)) (references_read W d)

  places_covered : (P : Path) (rs : Unasked) → Each (GoodPlace IsCovered) rs → Each (Covers (told_at refuses P rs)) (references_of W rs)
  places_covered P [] h = tt
  places_covered P (r ∷ rs) h =
      let here = answer_for refuses r.0.schema (down P r.1) in
      let rest = told_at refuses P rs in
      Each-append (Covers (here ++ rest)) (references_read W r.0.schema) (references_of W rs)
      (covers_more here (here ++ rest) (Contains-append_left here rest) (references_read W r.0.schema) (h.0 (down P r.1)))
      (covers_more rest (here ++ rest) (Contains-append_right here rest) (references_of W rs) (places_covered P rs h.1))

  text_covered : (k : Name) (d : Data) (P : Path) (w : Document_keyword) → Each (Covers (document_refusals N k d P w)) (referring_text w d)
  text_covered k (string s) P reference = (
    (λ gs e x c. Contains-append_left (reference_refusals k (string s) P (N s)) [] x (subst (λ o. Contains (reference_refusals k (string s) P o) x) (sym e) c)),
    tt,
  )
  text_covered k d P reference = tt
  text_covered k d P w = tt

  idle_reads_nothing : {X : Type 0} (k : Name) (S : Keywords X) (p : Part X) (w : Keyword) → is_idle w ≡ true → read_places k S p w ≡ []
  idle_reads_nothing k S p unsupported e = refl
  idle_reads_nothing k S p unread e = refl
  idle_reads_nothing k S p w e = absurd (true≢false (sym e))

  module _ (ms : Members) (m : Name × Data) (P : Path) (h : GoodMember W IsCovered ms m) where
    abbrev here : Part Told
    here = read refuses m.1

    abbrev layer_told : List Fault
    layer_told = keyword_malformations (beneath W) (read_members refuses ms) m.0 here P (keyword_named (beneath W) m.0)

    abbrev own_told : List Fault
    own_told = document_malformed N m.0 here P (document_keyword m.0)

    layer_covered : Each (Covers layer_told) (references_of W (layer_places W ms m))
    layer_covered = covers_more (told_at refuses P (layer_places W ms m)) layer_told
        (λ x c. Contains-append_right (own_refusals (beneath W) m.0 here (P // m.0) (keyword_named (beneath W) m.0)) _ x (subst (λ l. Contains l x) (sym (layer_told_at refuses P W m ms)) c))
        (references_of W (layer_places W ms m)) (places_covered P (layer_places W ms m) h.0)

    own_covered : Each (Covers own_told) (references_of W (own_places W m))
    own_covered = covers_more (told_at refuses P (own_places W m)) own_told
        (λ x c. Contains-append_right (document_refusals N m.0 here.whole.schema (P // m.0) (document_keyword m.0)) _ x (subst (λ l. Contains l x) (sym (own_told_at refuses P W m)) c))
        (references_of W (own_places W m)) (places_covered P (own_places W m) h.1)

    reference_covered : Each (Covers own_told) (referring_text (document_keyword m.0) m.1)
    reference_covered = covers_more (document_refusals N m.0 m.1 (P // m.0) (document_keyword m.0)) own_told
        (λ x c. Contains-append_left (document_refusals N m.0 here.whole.schema (P // m.0) (document_keyword m.0)) _ x
        (subst (λ s. Contains (document_refusals N m.0 s (P // m.0) (document_keyword m.0)) x) (sym (schema_of_read refuses m.1)) c))
        (referring_text (document_keyword m.0) m.1) (text_covered m.0 m.1 (P // m.0) (document_keyword m.0))

    member_covered : Each (Covers (member_malformed W N (read_members refuses ms) m.0 here P)) (member_references W ms m)
    member_covered = by (is_other m.0) refl
      where
        by : (b : Bool) → is_other m.0 ≡ b → Each (Covers (cond b layer_told own_told)) (member_references W ms m)
        by true q =
            let none = is_other_one (document_keyword m.0) q in
            Each-append (Covers layer_told) (referring_text (document_keyword m.0) m.1) _ (subst (λ w. Each (Covers layer_told) (referring_text w m.1)) (sym none) tt)
            (Each-append (Covers layer_told) (references_of W (layer_places W ms m)) (references_of W (own_places W m)) layer_covered
            (subst (λ w. Each (Covers layer_told) (references_of W (document_places m.0 (read ask_nothing m.1) w))) (sym none) tt))
        by false q =
            let none = idle_reads_nothing m.0 (read_members ask_nothing ms) (read ask_nothing m.1) (keyword_named (beneath W) m.0) (own_is_idle W m.0 q) in
            Each-append (Covers own_told) (referring_text (document_keyword m.0) m.1) _ reference_covered
            (Each-append (Covers own_told) (references_of W (layer_places W ms m)) (references_of W (own_places W m)) (subst (λ rs. Each (Covers own_told) (references_of W rs)) (sym none) tt) own_covered)

  no_object_covered : (d : Data) → is_object d ≡ false → IsCovered d
  unfolding references_read
  no_object_covered (object ms) e P = absurd (true≢false e)
  no_object_covered _ e P = tt

  members_covered : (p : Name × Data → List Fault) (q : Name × Data → List Text) (xs : List (Name × Data)) → Each (λ m. Each (Covers (p m)) (q m)) xs → Each (Covers (flat_map p xs)) (flat_map q xs)
  members_covered p q [] h = tt
  members_covered p q (x ∷ xs) h = Each-append (Covers (p x ++ flat_map p xs)) (q x) (flat_map q xs)
      (covers_more (p x) (p x ++ flat_map p xs) (Contains-append_left (p x) (flat_map p xs)) (q x) h.0)
      (covers_more (flat_map p xs) (p x ++ flat_map p xs) (Contains-append_right (p x) (flat_map p xs)) (flat_map q xs) (members_covered p q xs h.1))

  object_covered : (ms : Members) → Each (GoodMember W IsCovered ms) (listed ms) → IsCovered (object ms)
  object_covered ms h P = subst (Each (Covers (answer_for refuses (object ms) P))) (sym (references_by_members W ms))
      (subst (λ fs. Each (Covers fs) (flat_map (member_references W ms) (listed ms))) (sym (refused_by_members W N ms P))
      (members_covered (λ m. member_malformed W N (read_members refuses ms) m.0 (read refuses m.1) P) (member_references W ms) (listed ms)
      (Each-implies (GoodMember W IsCovered ms) _ (λ m c. member_covered ms m P c) (listed ms) h)))

  -- what is wrong at the place that a reference names is told of the schema that refers there
  pub place_told : (d : Data) (P : Path) → Each (λ t. (fs : List Fault) → N t ≡ Some fs → (x : Fault) → Contains fs x → Contains (malformations_under W N d P) x) (references_read W d)
  unfolding malformations_under
  place_told d P = by_places_read W IsCovered no_object_covered object_covered d P
