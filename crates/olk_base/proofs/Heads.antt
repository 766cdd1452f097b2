-- Two names whose heads are the same are the same, if they are short or the same in the middle.
use Rattle.std.proofs.Common.{inl, inr, ◌≡◌, ℕ, zero, suc, ◌+◌, ◌-◌, ◌<◌, ◌≤◌, List, [], ◌∷◌, ◌++◌, length, take, drop, replicate, get_or, refl, sym, ◌∙◌, ap, arith, get_or-drop, take-add, drop-drop}
use Rattle.std.proofs.Math.Nat.{sub-zero, zero-sub, suc-sub-suc}
use Rattle.std.proofs.Math.Seq.{drop-nil, take-append_seam}
use Rattle.std.proofs.lemmas.List.{take-append-drop, length-replicate, length-append}
use Rattle.std.proofs.lemmas.Nat.{le_bytes_8}
use Rattle.std.proofs.lemmas.Bool.{cases_lt}
use Rattle.std.proofs.lemmas.Bool.Decides.{nat_tests}
use Rattle.std.proofs.lemmas.Grind.{common_steps}
use Rattle.std.specs.Int.{w64, to_le_bytes, sum_through, byte_worth}
use Rattle.olk_base.specs.Heads.{head_of, low_first}

sum_through-same : (f g : ℕ → ℕ) → ((i : ℕ) → f i ≡ g i) → (n : ℕ) → sum_through f n ≡ sum_through g n
sum_through-same f g h zero = h 0
sum_through-same f g h (suc n) = let e = sum_through-same f g h n in let d = h (suc n) in cc

get_or-zeros : (k i : ℕ) → get_or {A = ℕ} (replicate k 0) i 0 ≡ 0
get_or-zeros zero i = refl
get_or-zeros (suc k) zero = refl
get_or-zeros (suc k) (suc i) = get_or-zeros k i

get_or-padded : (a : List ℕ) (k i : ℕ) → get_or (a ++ replicate k 0) i 0 ≡ get_or a i 0
get_or-padded [] k i = get_or-zeros k i
get_or-padded (x ∷ a) k zero = refl
get_or-padded (x ∷ a) k (suc i) = get_or-padded a k i

padded : List ℕ → List ℕ
padded a = a ++ replicate (8 - length a) 0

-- a list that reads the same at each place is the same number
pub low_first-same : (a b : List ℕ) → ((i : ℕ) → get_or a i 0 ≡ get_or b i 0) → low_first a ≡ low_first b
unfolding low_first
low_first-same a b h = sum_through-same (λ i. byte_worth i (get_or a i 0)) (λ i. byte_worth i (get_or b i 0)) (λ i. ap (λ x. byte_worth i x) (h i)) 7

bytes_of : (a : List ℕ) → length a ≤ 8 → ((i : ℕ) → get_or a i 0 < 256) → to_le_bytes w64 (low_first a) ≡ padded a
unfolding low_first padded
bytes_of a l h =
    le_bytes_8 (padded a) (low_first a)
    (simp (length-append, length-replicate) (omega arith))
    (λ i. rw get_or-padded (h i))
    (sym (low_first-same (padded a) a (λ i. get_or-padded a (8 - length a) i)))

-- zeros after a list do not change its number
pub low_first-padded : (a : List ℕ) (k : ℕ) → low_first (a ++ replicate k 0) ≡ low_first a
low_first-padded a k = low_first-same (a ++ replicate k 0) a (λ i. get_or-padded a k i)

drop-zeros : (n k : ℕ) → drop {A = ℕ} n (replicate k 0) ≡ replicate (k - n) 0
drop-zeros zero k = simp sub-zero
drop-zeros (suc n) zero = simp (drop-nil {A = ℕ}, zero-sub)
drop-zeros (suc n) (suc k) = rw (suc-sub-suc) (drop-zeros n k)

-- eight zeros whose first bytes are overwritten by a
pub low_first-written : (a w : List ℕ) → w ≡ a → low_first (w ++ drop (length a) (replicate 8 0)) ≡ low_first a
low_first-written a w e = rw (e, drop-zeros (length a) 8) (low_first-padded a (8 - length a))

-- each is a byte
abbrev IsBytes : List ℕ → Type 0
IsBytes a = (i : ℕ) → get_or a i 0 < 256

low_first-injective : (a b : List ℕ) → length a ≡ length b → length a ≤ 8 → IsBytes a → IsBytes b → low_first a ≡ low_first b → a ≡ b
unfolding padded
low_first-injective a b l m p q e =
    let mb : length b ≤ 8 = omega arith in
    let pads : padded a ≡ padded b = sym (bytes_of a m p) ∙ ap (to_le_bytes w64) e ∙ bytes_of b mb q in
    sym (take-append_seam a (replicate (8 - length a) 0)) ∙ ap (take (length a)) pads ∙ ap (λ n. take n (padded b)) l ∙ take-append_seam b (replicate (8 - length b) 0)

IsBytes-take : (n : ℕ) (a : List ℕ) → IsBytes a → IsBytes (take n a)
IsBytes-take n a p i = grind (arith, common_steps, p i)

IsBytes-drop : (n : ℕ) (a : List ℕ) → IsBytes a → IsBytes (drop n a)
IsBytes-drop n a p i = rw get_or-drop (p (n + i))

-- the first k and the last from m on, where they meet
overlap : (k m : ℕ) (a b : List ℕ) → m ≤ k → take k a ≡ take k b → drop m a ≡ drop m b → a ≡ b
overlap k m a b h f l =
    let j : m + (k - m) ≡ k = omega arith in
    let d : drop k a ≡ drop k b = sym (drop-drop (k - m) m a ∙ ap (λ n. drop n a) j) ∙ ap (drop (k - m)) l ∙ drop-drop (k - m) m b ∙ ap (λ n. drop n b) j in
    sym (take-append-drop k a) ∙ ap (λ xs. xs ++ drop k a) f ∙ ap (λ xs. take k b ++ xs) d ∙ take-append-drop k b

-- the first k, the next j and the rest
three_parts : (k j : ℕ) (a b : List ℕ) → take k a ≡ take k b → take j (drop k a) ≡ take j (drop k b) → drop (k + j) a ≡ drop (k + j) b → a ≡ b
three_parts k j a b f g l =
    let t : take (k + j) a ≡ take (k + j) b = take-add k j a ∙ ap (λ xs. xs ++ take j (drop k a)) f ∙ ap (λ xs. take k b ++ xs) g ∙ sym (take-add k j b) in
    overlap (k + j) (k + j) a b (omega arith) t l

head_short : (bs : List ℕ) → length bs < 4 → head_of bs ≡ record { len = length bs; first = low_first bs; last = 0 }
head_short bs h = grind (arith, nat_tests)

head_middle : (bs : List ℕ) → 4 ≤ length bs → length bs < 8 → head_of bs ≡ record { len = length bs; first = low_first (take 4 bs); last = low_first (drop (length bs - 4) bs) }
head_middle bs h l = grind (arith, nat_tests)

head_long : (bs : List ℕ) → 8 ≤ length bs → head_of bs ≡ record { len = length bs; first = low_first (take 8 bs); last = low_first (drop (length bs - 8) bs) }
head_long bs h = grind (arith, nat_tests)

head_len : (bs : List ℕ) → (head_of bs).len ≡ length bs
head_len bs = grind (arith, nat_tests)

-- the bytes from 8 on and before the last 8, of n bytes
abbrev pub middle : ℕ → List ℕ → List ℕ
middle n a = take (n - 8 - 8) (drop 8 a)

module _ (a b : List ℕ) (p : IsBytes a) (q : IsBytes b) (e : head_of a ≡ head_of b) where
  same_len : length a ≡ length b
  same_len = sym (head_len a) ∙ ap (λ h. h.len) e ∙ head_len b

  same_short : length a < 4 → a ≡ b
  same_short h =
      let hb : length b < 4 = let l = same_len in omega arith in
      low_first-injective a b same_len (omega arith) p q (ap (λ r. r.first) (sym (head_short a h) ∙ e ∙ head_short b hb))

  -- where the head is of the first k and of the last k
  module _ (k : ℕ) (small : k ≤ 8) (long : k ≤ length a)
      (head_is : (bs : List ℕ) → length bs ≡ length a → head_of bs ≡ record { len = length bs; first = low_first (take k bs); last = low_first (drop (length bs - k) bs) }) where
    ends : (take k a ≡ take k b) × (drop (length a - k) a ≡ drop (length a - k) b)
    ends =
        let l = same_len in
        let r = sym (head_is a refl) ∙ e ∙ head_is b (sym l) in
        let first : take k a ≡ take k b = low_first-injective (take k a) (take k b) (grind (arith, common_steps)) (grind (arith, common_steps))
        (IsBytes-take k a p) (IsBytes-take k b q) (ap (λ r. r.first) r) in
        let last : drop (length a - k) a ≡ drop (length b - k) b =
        low_first-injective (drop (length a - k) a) (drop (length b - k) b) (grind (arith, common_steps)) (grind (arith, common_steps))
        (IsBytes-drop (length a - k) a p) (IsBytes-drop (length b - k) b q) (ap (λ r. r.last) r) in
        (first, last ∙ ap (λ n. drop (n - k) b) (sym l))

  same_middle : 4 ≤ length a → length a < 8 → a ≡ b
  same_middle h k =
      let parts = ends 4 (omega arith) h (λ bs l. head_middle bs (omega arith) (omega arith)) in
      overlap 4 (length a - 4) a b (omega arith) parts.0 parts.1

  long_ends : 8 ≤ length a → (take 8 a ≡ take 8 b) × (drop (length a - 8) a ≡ drop (length a - 8) b)
  long_ends h = ends 8 (omega arith) h (λ bs l. head_long bs (omega arith))

  same_long : 8 ≤ length a → length a ≤ 16 → a ≡ b
  same_long h k = overlap 8 (length a - 8) a b (omega arith) (long_ends h).0 (long_ends h).1

  pub same_up_to_16 : length b ≤ 16 → a ≡ b
  same_up_to_16 k =
      let l = same_len in
      elim (cases_lt (length a) 4) [
        | inl h ↦ same_short h
        | inr h ↦ elim (cases_lt (length a) 8) [ inl j ↦ same_middle h j | inr j ↦ same_long j (omega arith) ]
      ]

  pub same_with_middle : 16 < length b → middle (length b) a ≡ middle (length b) b → a ≡ b
  same_with_middle k m =
      let l = same_len in
      let h : 8 ≤ length a = omega arith in
      let j : 8 + (length a - 8 - 8) ≡ length a - 8 = omega arith in
      three_parts 8 (length a - 8 - 8) a b (long_ends h).0 (ap (λ n. middle n a) l ∙ m ∙ ap (λ n. middle n b) (sym l)) (ap (λ n. drop n a) j ∙ (long_ends h).1 ∙ sym (ap (λ n. drop n b) j))
