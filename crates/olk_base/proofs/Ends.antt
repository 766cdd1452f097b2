-- Two texts of one length whose first and last parts cover them.
use Rattle.std.proofs.Common.{◌≡◌, ℕ, ◌+◌, ◌-◌, ◌≤◌, Bool, true, false, List, ◌++◌, length, take, drop, bytes_eq, inl, inr, sym, ap, ◌∙◌, arith}
use Rattle.std.specs.Cmp.Lexicographic.{bytes_decides}
use Rattle.std.proofs.lemmas.Bool.{true≢false, cases_Bool}
use Rattle.std.proofs.lemmas.List.{drop-drop, take-append-drop}

-- what is behind the first n, by the last n
rest_of_end : (xs : List ℕ) (n : ℕ) → n ≤ length xs → length xs ≤ n + n → drop (n - (length xs - n)) (drop (length xs - n) xs) ≡ drop n xs
rest_of_end xs n whole covered = drop-drop (n - (length xs - n)) (length xs - n) xs ∙ ap (λ k. drop k xs) (omega arith)

module _ (xs ys : List ℕ) (n : ℕ) (as_long : length xs ≡ length ys) (whole : n ≤ length xs) (covered : length xs ≤ n + n) (ends : drop (length xs - n) xs ≡ drop (length ys - n) ys) where
  rests : drop n xs ≡ drop n ys
  rests =
      sym (rest_of_end xs n whole covered) ∙ ap (drop (n - (length xs - n))) ends ∙ ap (λ k. drop (n - (k - n)) (drop (length ys - n) ys)) as_long
      ∙ rest_of_end ys n (omega arith) (omega arith)

  same_text : take n xs ≡ take n ys → xs ≡ ys
  same_text starts = sym (take-append-drop n xs) ∙ ap (λ t. t ++ drop n xs) starts ∙ ap (λ t. take n ys ++ t) rests ∙ take-append-drop n ys

  pub starts_decide : (r : Bool) → r ≡ bytes_eq (take n xs) (take n ys) → r ≡ bytes_eq xs ys
  starts_decide true e = sym ((bytes_decides xs ys).1 (same_text ((bytes_decides _ _).0 (sym e))))
  starts_decide false e =
      elim (cases_Bool (bytes_eq xs ys)) [
        | inl equal ↦ absurd (true≢false (sym ((bytes_decides _ _).1 (ap (take n) ((bytes_decides xs ys).0 equal))) ∙ sym e))
        | inr other ↦ sym other
      ]
