-- The text of a leaf is the only one that it finds.
use Rattle.std.proofs.Common.{◌≡◌, ◌++◌, List, ◌∷◌, [], map, true, false, Bool, String, Global, Vec, string_bytes, refl, sym, ap, ◌∙◌, true≢false}
use Rattle.std.specs.Prelude.{codes}
use Rattle.std.specs.List.{list_any}
use Rattle.std.proofs.lemmas.List.{append-nil, map-append}
use Rattle.serde_json.specs.Data.{Data}
use Rattle.olk_spec.specs.Names.{Text, is_empty}
use Rattle.olk_spec.specs.Bench.{unless, shown}
use Rattle.olk_vocabulary.specs.Leaves.{kind_name}
use Rattle.olk_bench.proofs.Findings.{unless_text}
use Rattle.olk_vocabulary.specs.declared.kinds.Kind.{Kind}
use Rattle.olk_vocabulary.specs.Keywords.{is_of_kind, kinds_text, candidates}
use Rattle.olk_vocabulary.specs.Leaves.{leaf_finds, leaf_text}
use Rattle.olk_vocabulary.specs.declared.leaf.VocabularyLeaf.{VocabularyLeaf}
use Rattle.olk_vocabulary.specs.declared.leaf.VocabularyLeaf.TheVariants as leaf
use Rattle.olk_spec.proofs.Maps.{items_list-view}
use Rattle.olk_vocabulary.proofs.Lists.{kind_texts, some_kind}

pub finds_text : (l : VocabularyLeaf) (v : Data) → is_empty (leaf_finds l v) ≡ false → leaf_finds l v ≡ leaf_text l v ∷ []
finds_text (leaf.Types ks) v h = unless_text _ _ h ∙ ap (λ ts. kinds_text v ts ∷ []) (kind_texts ks.items)
finds_text (leaf.Enum c) v h = unless_text _ _ h ∙ ap (λ ds. (shown v ++ codes " is not one of " ++ candidates ds) ∷ []) (items_list-view c.values.items)
finds_text (leaf.UniqueItems true) v h = unless_text _ _ h
finds_text (leaf.UniqueItems false) v h = absurd (true≢false h)
finds_text _ v h = unless_text _ _ h

pub none_more : (texts found : List Text) → is_empty found ≡ true → texts ≡ texts ++ found
none_more texts [] h = sym (append-nil texts)
none_more texts (t ∷ found) h = absurd (true≢false (sym h))

-- a list of texts, with one more at its end
pub one_more : (old new : List (String Global)) (s : String Global) (t : Text) (found : List Text) → new ≡ old ++ s ∷ [] → string_bytes s ≡ t → found ≡ t ∷ []
    → map string_bytes new ≡ map string_bytes old ++ found
one_more old new s t found is e f =
    ap (map string_bytes) is ∙ map-append string_bytes old (s ∷ []) ∙ ap (λ u. map string_bytes old ++ (u ∷ [])) e ∙ ap (λ fs. map string_bytes old ++ fs) (sym f)

is_empty-unless : (ok : Bool) (t : Text) → is_empty (unless ok t) ≡ ok
is_empty-unless true t = refl
is_empty-unless false t = refl

pub kinds_accept : (ks : Vec Kind Global) (v : Data) → is_empty (leaf_finds (leaf.Types ks) v) ≡ list_any (λ k. is_of_kind (kind_name k) v) ks.items
kinds_accept ks v = is_empty-unless _ _ ∙ some_kind ks.items v
