-- Paths as their segments.
use Rattle.std.proofs.Common.{◌≡◌, ℕ, ◌+◌, ◌<◌, ◌≤◌, Bool, true, false, ◌&&◌, ◌-◌, List, [], ◌∷◌, map, take, drop, length, slice_index_or as get_or, Bor, sym, ap, ◌∙◌, arith}
use Rattle.std.specs.List.{list_all, before_first, after_first, position_or_len}
use Rattle.std.proofs.lemmas.List.{drop_more, drop_all, take_all, take-map, length-map}
use Rattle.olk_spec.specs.Names.{Text}
use Rattle.olk_drafts.specs.Sources.{is_name, fronts}

-- a character that isn't there cuts nothing
module _ (p : ℕ → Bool) (bs : List ℕ) (e : position_or_len p bs ≡ length bs) where
  pub all_before : bs ≡ before_first p bs
  all_before = sym (take_all (position_or_len p bs) bs (omega arith))

  pub none_after : [] ≡ after_first p bs
  none_after = sym (drop_all (position_or_len p bs + 1) bs (omega arith))

abbrev pub names_from : ℕ → List (Bor Text) → Bool
names_from i ss = list_all is_name (map (λ s. s.now) (drop i ss))

module _ (i : ℕ) (ss : List (Bor Text)) where
  names_step : {s : Bor Text} → i < length ss → s ≡ get_or ss i s → names_from i ss ≡ list_all is_name (s.now ∷ map (λ s. s.now) (drop (i + 1) ss))
  names_step {s} l e = ap (λ l. list_all is_name (map (λ s. s.now) l)) (drop_more ss i s l ∙ ap (λ w. w ∷ drop (i + 1) ss) (sym e))

  pub a_name : {s : Bor Text} → i < length ss → s ≡ get_or ss i s → is_name s.now ≡ true → names_from i ss ≡ names_from (i + 1) ss
  a_name l e h = names_step l e ∙ ap (λ b. b && names_from (i + 1) ss) h

  pub no_name : {s : Bor Text} → i < length ss → s ≡ get_or ss i s → is_name s.now ≡ false → names_from i ss ≡ false
  no_name l e h = names_step l e ∙ ap (λ b. b && names_from (i + 1) ss) h

  pub no_more_names : length ss ≤ i → true ≡ names_from i ss
  no_more_names l = sym (ap (λ l. list_all is_name (map (λ s. s.now) l)) (drop_all i ss l))

-- all segments but the last
pub fronts_taken : (ss : List (Bor Text)) (i : ℕ) → i ≡ length ss - 1 → map (λ s. s.now) (take i ss) ≡ fronts (map (λ s. s.now) ss)
fronts_taken ss i e = sym (take-map (λ s. s.now) i ss) ∙ ap (λ n. take n (map (λ s. s.now) ss)) (e ∙ ap (λ n. n - 1) (sym (length-map ss (λ s. s.now))))
