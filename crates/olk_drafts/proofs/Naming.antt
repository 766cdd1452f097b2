-- The files to which references lead.
use Rattle.std.proofs.Common.{◌≡◌, ℕ, ◌+◌, ◌<◌, ◌≤◌, List, [], ◌++◌, drop, length, slice_index_or as get_or, Bor, ap}
use Rattle.std.specs.Prelude.{option_to_list}
use Rattle.std.specs.List.{flat_map}
use Rattle.std.proofs.lemmas.List.{drop_more, drop_all}
use Rattle.olk_spec.specs.Names.{Text}
use Rattle.olk_drafts.specs.References.{as_texts, file_named}
use Rattle.olk_drafts.specs.declared.sources.Source.{Source}

-- stands behind the last text
abbrev pub nowhere : Bor Text
nowhere = record { ref_ptr = (0, 0); now = [] }

module _ (s : Source) where
  -- those of the references from a position on
  abbrev pub named_from : ℕ → List (Bor Text) → List Text
  named_from i ts = flat_map (λ t. option_to_list (file_named s t)) (as_texts (drop i ts))

  module _ (i : ℕ) (ts : List (Bor Text)) where
    pub text_left : i < length ts → named_from i ts ≡ option_to_list (file_named s (get_or ts i nowhere).now) ++ named_from (i + 1) ts
    text_left l = ap (λ l. flat_map (λ t. option_to_list (file_named s t)) (as_texts l)) (drop_more ts i nowhere l)

    pub no_text_left : length ts ≤ i → named_from i ts ≡ []
    no_text_left l = ap (λ l. flat_map (λ t. option_to_list (file_named s t)) (as_texts l)) (drop_all i ts l)
