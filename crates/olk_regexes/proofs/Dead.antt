-- Where no marks stand in the parts, and in a whole of them.
use Rattle.std.proofs.Common.{◌≡◌, ℕ, zero, suc, ◌+◌, ◌-◌, ◌≤◌, Bool, true, false, ◌||◌, ◌&&◌, List, [], ◌∷◌, ◌++◌, length, take, drop, slice_set, refl, sym, ◌∙◌, ap, subst, arith, length-take-le}
use Rattle.std.specs.List.{All}
use Rattle.std.proofs.lemmas.List.Elements.{All-nil, All-cons, All-head, All-tail, All-take, All-drop}
use Rattle.olk_regexes.specs.Live.{IsDead, live_then, live_or}
use Rattle.olk_regexes.specs.Marks.{live, expr, matches, Steps}
use Rattle.olk_regexes.specs.declared.regex.Regex.{Regex}
use Rattle.olk_regexes.proofs.Found.{live-none}
use Rattle.olk_regexes.proofs.Places.{first_part, second_part, whole, right_part, both, star_part, star_whole}
use borrow.Rule.Slice.PartMut.{put_mid}

abbrev IsNone : Bool → Type 0
IsNone b = b ≡ false

none_here : (k : ℕ) → All IsNone (drop k [])
none_here zero = All-nil IsNone
none_here (suc k) = All-nil IsNone

all-append : (x y : List Bool) → All IsNone x → All IsNone y → All IsNone (x ++ y)
all-append [] y hx hy = hy
all-append (b ∷ x) y hx hy = All-cons IsNone b (x ++ y) (All-head IsNone b x hx) (all-append x y (All-tail IsNone b x hx) hy)

dead_tail : (k : ℕ) (b : Bool) (m : List Bool) → All IsNone (drop k (b ∷ m)) → All IsNone (drop (k - 1) m)
dead_tail zero b m h = All-tail IsNone b m h
dead_tail (suc k) b m h = let e : suc k - 1 ≡ k = omega arith in rw e h

dead_take : (k n : ℕ) (m : List Bool) → All IsNone (drop k m) → All IsNone (drop k (take n m))
dead_take zero n m h = All-take IsNone n m h
dead_take (suc k) zero m h = All-nil IsNone
dead_take (suc k) (suc n) [] h = All-nil IsNone
dead_take (suc k) (suc n) (b ∷ m) h = dead_take k n m h

dead_later : (k j : ℕ) (m : List Bool) → k ≤ j → All IsNone (drop k m) → All IsNone (drop j m)
dead_later zero j m e h = All-drop IsNone j m h
dead_later (suc k) zero m e h = absurd (omega arith)
dead_later (suc k) (suc j) [] e h = All-nil IsNone
dead_later (suc k) (suc j) (b ∷ m) e h = dead_later k j m (omega arith) h

dead_drop : (j k n : ℕ) (m : List Bool) → k ≤ j + n → All IsNone (drop k m) → All IsNone (drop j (drop n m))
dead_drop j k zero m e h = dead_later k j m (omega arith) h
dead_drop j k (suc n) [] e h = none_here j
dead_drop j zero (suc n) (b ∷ m) e h = dead_drop j zero n m (omega arith) (All-tail IsNone b m h)
dead_drop j (suc k) (suc n) (b ∷ m) e h = dead_drop j k n m (omega arith) h

dead_beyond : (x y : List Bool) (j k : ℕ) → j ≡ length x + k → All IsNone (drop k y) → All IsNone (drop j (x ++ y))
dead_beyond [] y j k e h = let z : length {A = Bool} [] ≡ 0 = refl in let d : k ≡ j = omega arith in subst (λ t. All IsNone (drop t y)) d h
dead_beyond (b ∷ x) y zero k e h = let z : length (b ∷ x) ≡ suc (length x) = refl in absurd (omega arith)
dead_beyond (b ∷ x) y (suc j) k e h = let z : length (b ∷ x) ≡ suc (length x) = refl in dead_beyond x y j k (omega arith) h

dead_both : (f : ℕ) (x y : List Bool) → All IsNone (drop f x) → All IsNone y → All IsNone (drop f (x ++ y))
dead_both zero x y hx hy = all-append x y hx hy
dead_both (suc f) [] y hx hy = All-drop IsNone (suc f) y hy
dead_both (suc f) (b ∷ x) y hx hy = dead_both f x y hx hy

dead_whole : (e : Bool) (f g n : ℕ) (x y : List Bool) → length x ≡ n → All IsNone (drop f x) → All IsNone (drop g y) →
    All IsNone (drop (live_then e f g (1 + n)) (e ∷ (x ++ y)))
dead_whole e f (suc g) n x y l hx hy =
    let d : 1 + n + suc g ≡ suc (length x + suc g) = omega arith in rw d (dead_beyond x y (length x + suc g) (suc g) refl hy)
dead_whole e (suc f) zero n x y l hx hy = dead_both (suc f) x y hx hy
dead_whole true zero zero n x y l hx hy = all-append x y hx hy
dead_whole false zero zero n x y l hx hy = All-cons IsNone false (x ++ y) refl (all-append x y hx hy)

dead_or : (f g n : ℕ) (x y : List Bool) → length x ≡ n → All IsNone (drop f x) → All IsNone (drop g y) →
    All IsNone (drop (live_or f g n) (x ++ y))
dead_or f (suc g) n x y l hx hy = dead_beyond x y (n + suc g) (suc g) (omega arith) hy
dead_or f zero n x y l hx hy = dead_both f x y hx hy

none_live : (a b : Bool) → a ≡ false → (a || (false && b)) ≡ false
none_live a b e = grind arith

-- where nothing begins and no mark stands, a character does nothing
pub nothing_moves : (r : Regex) (c : ℕ) (m : List Bool) → IsDead 0 m → Steps r false c m m false
unfolding Steps
nothing_moves r c m h [] = sym (none_live (live r m (c ∷ [])) (matches (expr r) (c ∷ [])) (live-none r m h (c ∷ [])))
nothing_moves r c m h (d ∷ w) = live-none r m h (d ∷ w) ∙ sym (none_live (live r m (c ∷ d ∷ w)) (matches (expr r) (c ∷ d ∷ w)) (live-none r m h (c ∷ d ∷ w)))

-- ---- the parts' own

pub first_dead : (l n : ℕ) (s : List Bool) (k : ℕ) → length s ≡ suc k → IsDead l s → IsDead (l - 1) (take (1 + n - 1) (drop 1 s))
first_dead l n [] k e h = let z : length {A = Bool} [] ≡ 0 = refl in absurd (omega arith)
first_dead l n (b ∷ m) k e h = rw (first_part n b m) (dead_take (l - 1) n m (dead_tail l b m h))

pub second_dead : (l n : ℕ) (s x : List Bool) (k : ℕ) → length s ≡ suc (n + k) → length x ≡ length (take (1 + n - 1) (drop 1 s)) → IsDead l s →
    IsDead (l - (1 + n)) (take (length (put_mid 1 (1 + n - 1) s x) - (1 + n)) (drop (1 + n) (put_mid 1 (1 + n - 1) s x)))
second_dead l n [] x k e hx h = let z : length {A = Bool} [] ≡ 0 = refl in absurd (omega arith)
second_dead l n (b ∷ m) x k e hx h =
    let z : length (b ∷ m) ≡ suc (length m) = refl in
    let hm : n ≤ length m = omega arith in
    let lx : length x ≡ n = hx ∙ ap length (first_part n b m) ∙ length-take-le n m hm in
    rw (second_part n b m x hm lx) (dead_drop (l - (1 + n)) l (suc n) (b ∷ m) (omega arith) h)

pub then_dead : (n : ℕ) (e : Bool) (f g k : ℕ) (s x y : List Bool) → length s ≡ suc (n + k) → length x ≡ length (take (1 + n - 1) (drop 1 s)) →
    IsDead f x → IsDead g y →
    IsDead (live_then e f g (1 + n)) (slice_set (put_mid (1 + n) (length (put_mid 1 (1 + n - 1) s x) - (1 + n)) (put_mid 1 (1 + n - 1) s x) y) 0 e)
then_dead n e f g k [] x y l hx hf hg = let z : length {A = Bool} [] ≡ 0 = refl in absurd (omega arith)
then_dead n e f g k (b ∷ m) x y l hx hf hg =
    let z : length (b ∷ m) ≡ suc (length m) = refl in
    let hm : n ≤ length m = omega arith in
    let lx : length x ≡ n = hx ∙ ap length (first_part n b m) ∙ length-take-le n m hm in
    rw (whole n b e m x y hm lx) (dead_whole e f g n x y lx hf hg)

pub left_dead : (l n : ℕ) (s : List Bool) → IsDead l s → IsDead l (take n s)
left_dead l n s h = dead_take l n s h

pub right_dead : (l n k : ℕ) (s x : List Bool) → length s ≡ n + k → length x ≡ length (take n s) → IsDead l s →
    IsDead (l - n) (take (length (x ++ drop n s) - n) (drop n (x ++ drop n s)))
right_dead l n k s x e hx h =
    let hm : n ≤ length s = omega arith in
    let lx : length x ≡ n = hx ∙ length-take-le n s hm in
    rw (right_part n s x hm lx) (dead_drop (l - n) l n s (omega arith) h)

pub or_dead : (n f g k : ℕ) (s x y : List Bool) → length s ≡ n + k → length x ≡ length (take n s) → IsDead f x → IsDead g y →
    IsDead (live_or f g n) (put_mid n (length (x ++ drop n s) - n) (x ++ drop n s) y)
or_dead n f g k s x y e hx hf hg =
    let hm : n ≤ length s = omega arith in
    let lx : length x ≡ n = hx ∙ length-take-le n s hm in
    rw (both n s x y hm lx) (dead_or f g n x y lx hf hg)

dead_star : (e : Bool) (f : ℕ) (x : List Bool) → All IsNone (drop f x) → All IsNone (drop (live_then e f 0 1) (e ∷ x))
dead_star e (suc f) x h = h
dead_star true zero x h = h
dead_star false zero x h = All-cons IsNone false x refl h

pub each_dead : (l k : ℕ) (s : List Bool) → length s ≡ suc k → IsDead l s → IsDead (l - 1) (take (length s - 1) (drop 1 s))
each_dead l k [] e h = let z : length {A = Bool} [] ≡ 0 = refl in absurd (omega arith)
each_dead l k (b ∷ m) e h = rw (star_part b m) (dead_tail l b m h)

pub star_dead : (e : Bool) (f k : ℕ) (s x : List Bool) → length s ≡ suc k → IsDead f x →
    IsDead (live_then e f 0 1) (slice_set (put_mid 1 (length s - 1) s x) 0 e)
star_dead e f k [] x l h = let z : length {A = Bool} [] ≡ 0 = refl in absurd (omega arith)
star_dead e f k (b ∷ m) x l h = rw (star_whole b e m x) (dead_star e f x h)
