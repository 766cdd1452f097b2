-- What one character more finds.
use Rattle.std.proofs.Common.{◌≡◌, ℕ, Bool, true, false, ◌||◌, ◌&&◌, List, [], ◌∷◌, ◌++◌, take, drop, refl, sym, ◌∙◌, ap, arith, append_assoc}
use Rattle.std.specs.List.{All}
use Rattle.std.proofs.lemmas.List.Elements.{All-take, All-drop, All-head, All-tail}
use Rattle.olk_regexes.specs.Language.{Text, framed}
use Rattle.olk_regexes.specs.declared.regex.Regex.{Regex, Empty, One, Then', Or', Star'}
use Rattle.olk_regexes.specs.Marks.{after, split, many, rest, live, expr, matches, Steps}
use Rattle.olk_regexes.specs.Search.{some_prefix, finds_in, finds, Reads}

prefix-same : (f g : Text → Bool) → ((d : ℕ) (v : Text) → f (d ∷ v) ≡ g (d ∷ v)) → (w : Text) → some_prefix f w ≡ some_prefix g w
prefix-same f g e [] = refl
prefix-same f g e (c ∷ w) =
    ap (λ x. x || some_prefix (after c f) w) (e c []) ∙
    ap (λ x. g (c ∷ []) || x) (prefix-same (after c f) (after c g) (λ d v. e c (d ∷ v)) w)

or-more : (a b x y : Bool) → ((a || b) || (x || y)) ≡ ((a || x) || (b || y))
or-more a b x y = grind arith

prefix-or : (f g : Text → Bool) (w : Text) → some_prefix (λ v. f v || g v) w ≡ (some_prefix f w || some_prefix g w)
prefix-or f g [] = refl
prefix-or f g (c ∷ w) =
    ap (λ x. (f (c ∷ []) || g (c ∷ [])) || x) (prefix-or (after c f) (after c g) w) ∙
    or-more (f (c ∷ [])) (g (c ∷ [])) (some_prefix (after c f) w) (some_prefix (after c g) w)

read-tests : (x y z u t : Bool) → ((x || y) || ((z || u) || t)) ≡ ((x || z) || ((y || u) || t))
read-tests x y z u t = grind arith

read-step : (f f1 M : Text → Bool) (e : Bool) (c : ℕ) →
    ((v : Text) → rest e f1 v ≡ (f (c ∷ v) || (true && M (c ∷ v)))) →
    (w : Text) → (some_prefix f (c ∷ w) || finds_in M (c ∷ w)) ≡ (e || (some_prefix f1 w || finds_in M w))
read-step f f1 M e c h w =
    read-tests (f (c ∷ [])) (some_prefix (after c f) w) (M (c ∷ [])) (some_prefix (after c M) w) (finds_in M w) ∙
    ap (λ x. x || ((some_prefix (after c f) w || some_prefix (after c M) w) || finds_in M w)) (sym (h [])) ∙
    ap (λ x. e || (x || finds_in M w)) (sym (prefix-same f1 (λ v. f (c ∷ v) || M (c ∷ v)) (λ d v. h (d ∷ v)) w ∙ prefix-or (after c f) (after c M) w))

pub found_reads : (r : Regex) (c : ℕ) (old : List Bool) → Reads r c true old old true
unfolding Reads
found_reads r c old w = refl

pub step_reads : (r : Regex) (c : ℕ) (old new : List Bool) (e : Bool) → Steps r true c old new e → Reads r c false old new e
unfolding Reads Steps
step_reads r c old new e h w = read-step (live r old) (live r new) (matches (expr r)) e c h w

split-none : (f q : Text → Bool) → ((u : Text) → f u ≡ false) → (w : Text) → split f q w ≡ false
split-none f q e [] = ap (λ x. x && q []) (e [])
split-none f q e (c ∷ w) =
    ap (λ x. (x && q (c ∷ w)) || split (after c f) q w) (e []) ∙ split-none (after c f) q (λ u. e (c ∷ u)) w

rest-none : (b : Bool) (f : Text → Bool) → b ≡ false → ((u : Text) → f u ≡ false) → (u : Text) → rest b f u ≡ false
rest-none b f eb ef [] = eb
rest-none b f eb ef (c ∷ u) = ef (c ∷ u)

or-none : (a b : Bool) → a ≡ false → b ≡ false → (a || b) ≡ false
or-none a b ea eb = grind arith

-- nothing is under way where no mark stands
pub live-none : (r : Regex) (m : List Bool) → All (λ b. b ≡ false) m → (w : Text) → live r m w ≡ false
live-none Empty m h w = refl
live-none (One k) m h w = refl
live-none (Then' _ p n _ _ q _) [] h w = refl
live-none (Then' _ p n _ _ q _) (b ∷ m) h w =
    or-none (split (rest b (live p (take n m))) (matches (expr q)) w) (live q (drop n m) w)
    (split-none (rest b (live p (take n m))) (matches (expr q))
    (rest-none b (live p (take n m)) (All-head (λ b. b ≡ false) b m h) (live-none p (take n m) (All-take (λ b. b ≡ false) n m (All-tail (λ b. b ≡ false) b m h)))) w)
    (live-none q (drop n m) (All-drop (λ b. b ≡ false) n m (All-tail (λ b. b ≡ false) b m h)) w)
live-none (Or' _ p n _ q) m h w =
    or-none (live p (take n m) w) (live q (drop n m) w)
    (live-none p (take n m) (All-take (λ b. b ≡ false) n m h) w) (live-none q (drop n m) (All-drop (λ b. b ≡ false) n m h) w)
live-none (Star' _ p) [] h w = refl
live-none (Star' _ p) (b ∷ m) h w =
    split-none (rest b (live p m)) (many (matches (expr p))) (rest-none b (live p m) (All-head (λ b. b ≡ false) b m h) (live-none p m (All-tail (λ b. b ≡ false) b m h))) w

prefix-none : (f : Text → Bool) → ((u : Text) → f u ≡ false) → (w : Text) → some_prefix f w ≡ false
prefix-none f e [] = refl
prefix-none f e (c ∷ w) = ap (λ x. x || some_prefix (after c f) w) (e (c ∷ [])) ∙ prefix-none (after c f) (λ u. e (c ∷ u)) w

pub none_begun : (r : Regex) (m : List Bool) → All (λ b. b ≡ false) m → (w : Text) → some_prefix (live r m) w ≡ false
none_begun r m h w = prefix-none (live r m) (live-none r m h) w

or-false : (a : Bool) → (a || false) ≡ a
or-false a = grind arith

-- what is found so far, and what is still to be found
unfoldable pub Found : Regex → Bool → Text → Bool → List Bool → Type 0
Found r empty read found marks = (w : Text) →
    (empty || finds_in (matches (expr r)) (1114112 ∷ (read ++ w))) ≡ (found || (some_prefix (live r marks) w || finds_in (matches (expr r)) w))

pub found_init : (r : Regex) (empty found : Bool) (old new : List Bool) → All (λ b. b ≡ false) old →
    Reads r 1114112 empty old new found → Found r empty [] found new
unfolding Reads Found
found_init r empty found old new h e w =
    ap (λ x. empty || (x || finds_in (matches (expr r)) (1114112 ∷ w))) (sym (none_begun r old h (1114112 ∷ w))) ∙ e w

pub found_more : (r : Regex) (empty found more : Bool) (read : Text) (c : ℕ) (old new : List Bool) →
    Found r empty read found old → Reads r c found old new more → Found r empty (read ++ c ∷ []) more new
unfolding Reads Found
found_more r empty found more read c old new h e w =
    ap (λ x. empty || finds_in (matches (expr r)) (1114112 ∷ x)) (append_assoc read (c ∷ []) w) ∙ h (c ∷ w) ∙ e w

pub found_end : (r : Regex) (empty found result : Bool) (read : Text) (old new : List Bool) →
    Found r empty read found old → Reads r 1114113 found old new result → empty ≡ matches (expr r) [] →
    result ≡ finds (matches (expr r)) (framed read)
unfolding Reads Found
found_end r empty found result read old new h e z =
    sym (or-false result) ∙ sym (e []) ∙ sym (h (1114113 ∷ [])) ∙
    ap (λ x. x || finds_in (matches (expr r)) (1114112 ∷ (read ++ 1114113 ∷ []))) z
