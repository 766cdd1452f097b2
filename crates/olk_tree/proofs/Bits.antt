-- A bit that is set in a list of words.
use Rattle.std.proofs.Common.{◌≡◌, ℕ, suc, ◌-◌, ◌≤◌, ◌∷◌, ◌*◌, ◌/◌, ◌%◌, ◌^◌, ◌<◌, true, List, length, get_or, slice_index_or, slice_set, bit_or, w64, inl, inr, ap, sym, ◌∙◌, arith}
use Rattle.std.specs.Prelude.{◌≢◌, ◌==◌}
use Rattle.std.specs.Int.{bit_at}
use Rattle.std.proofs.lemmas.Bool.{cases_eq}
use Rattle.std.proofs.lemmas.List.{get_or-set_same, get_or-set_other}
use Rattle.std.proofs.lemmas.Nat.Bits.{bit_at_set_same, bit_at_set_other}
use Rattle.olk_tree.specs.Tables.{has_bit}

-- the word of bit i with that bit, and the words with it
abbrev pub word_with : List ℕ → ℕ → ℕ
word_with words i = bit_or (slice_index_or words (i / 64) 0) (1 * 2 ^ (i % 64) % 2 ^ 64)

abbrev pub with_bit : List ℕ → ℕ → List ℕ
with_bit words i = slice_set words (i / 64) (word_with words i)

module _ (words : List ℕ) (i : ℕ) (within : i / 64 < length words) where
  pub bit_is_set : has_bit (with_bit words i) i ≡ true
  bit_is_set =
      ap (λ w. bit_at w (i % 64) == 1) (get_or-set_same words (i / 64) (word_with words i) 0 within) ∙ ap (λ b. b == 1) (bit_at_set_same w64 (get_or words (i / 64) 0) (i % 64) (omega arith))

  pub others_stay : (j : ℕ) → j ≢ i → has_bit (with_bit words i) j ≡ has_bit words j
  others_stay j apart =
      elim (cases_eq (j / 64) (i / 64)) [
        | inl same ↦
            ap (λ k. bit_at (get_or (with_bit words i) k 0) (j % 64) == 1) same
            ∙ ap (λ w. bit_at w (j % 64) == 1) (get_or-set_same words (i / 64) (word_with words i) 0 within)
            ∙ ap (λ b. b == 1) (bit_at_set_other w64 (get_or words (i / 64) 0) (i % 64) (omega arith) (j % 64) (λ e. apart (omega arith)))
            ∙ ap (λ k. bit_at (get_or words k 0) (j % 64) == 1) (sym same)
        | inr other ↦ ap (λ w. bit_at w (j % 64) == 1) (get_or-set_other words (i / 64) (j / 64) (word_with words i) 0 other)
      ]

-- ---- the first word apart

-- a bit that is set in the first word, and one in the others
pub first_set : (w : ℕ) (ws : List ℕ) (i : ℕ) → i < 64 → (bit_or w (1 * 2 ^ i % 2 ^ 64)) ∷ ws ≡ with_bit (w ∷ ws) i
first_set w ws i few =
    let here : 0 ≡ i / 64 = omega arith in
    let same : i ≡ i % 64 = omega arith in
    λ j. slice_set (w ∷ ws) (here j) (bit_or (slice_index_or (w ∷ ws) (here j) 0) (1 * 2 ^ (same j) % 2 ^ 64))

pub other_set : (w : ℕ) (ws : List ℕ) (i : ℕ) → 64 ≤ i
    → w ∷ slice_set ws (i / 64 - 1) (bit_or (slice_index_or ws (i / 64 - 1) 0) (1 * 2 ^ (i % 64) % 2 ^ 64)) ≡ with_bit (w ∷ ws) i
other_set w ws i many =
    let there : suc (i / 64 - 1) ≡ i / 64 = omega arith in
    λ j. slice_set (w ∷ ws) (there j) (bit_or (slice_index_or (w ∷ ws) (there j) 0) (1 * 2 ^ (i % 64) % 2 ^ 64))
