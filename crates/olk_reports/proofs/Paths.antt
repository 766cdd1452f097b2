-- Facts on pushed paths.
use Rattle.std.proofs.Common.{◌≡◌, ◌≢◌, Result, Ok, Err, OnOk, OnErr, is_ok, ℕ, zero, suc, Bool, true, false, ◌+◌, ◌-◌, ◌<◌, ◌≤◌, List, [], ◌∷◌, ◌++◌, length, get_or, take, refl, sym, ap, ◌∙◌, cond, eqb, arith, ◌⊎◌, inl, inr, length-append}
use Rattle.std.specs.List.{flat_map, list_all}
use mathlib.Core.Bool.{true≢false}
use Rattle.std.specs.Str.{IsUtf8, chars}
use lib.Utf8.{encodes, encode}
use Rattle.std.proofs.Math.Seq.{take-append_seam, get_or-append_seam}
use Rattle.std.proofs.lemmas.List.{append_assoc, append-nil, get_or-append-add}
use Rattle.std.proofs.lemmas.Str.{encode_ascii, encodes-chars, inside_one}
use Rattle.std.proofs.lemmas.Bool.Decides.{nat_tests}
use Rattle.std.proofs.lemmas.Grind.{flat_map-append}
use Rattle.olk_spec.specs.Names.{◌//◌, escaped}
use Rattle.olk_reports.specs.Paths.{HasLastSlash, escaped_char, is_plain_byte}

escape_high : (xs : List ℕ) → ((k : ℕ) → k < length xs → 128 ≤ get_or xs k 0) → flat_map escaped xs ≡ xs
escape_high [] h = refl
escape_high (x ∷ xs) h =
    let here : 128 ≤ x = h 0 (omega arith) in
    let more = escape_high xs (λ k l. h (suc k) (omega arith)) in
    grind (arith, nat_tests)

split : (c : ℕ) → (c < 128) ⊎ (128 ≤ c)
split c = grind arith

escape_low : (c : ℕ) → c < 128 → flat_map escaped (encode c) ≡ escaped_char c
escape_low c l = let e = encode_ascii c l in grind (arith, nat_tests)

clash : (c k : ℕ) → 128 ≤ c → k < length (encode c) → get_or (encode c) k 0 < 128 → ⊥
clash c k h l low =
    let same = inside_one c [] (encode c) k (sym (append-nil (encode c))) l low in omega arith

high_bytes : (c : ℕ) → 128 ≤ c → (k : ℕ) → k < length (encode c) → 128 ≤ get_or (encode c) k 0
high_bytes c h k l =
    elim (split (get_or (encode c) k 0)) [ inl low ↦ absurd (clash c k h l low) | inr high ↦ high ]

escape_of_high : (c : ℕ) → 128 ≤ c → flat_map escaped (encode c) ≡ escaped_char c
escape_of_high c h = let e = escape_high (encode c) (high_bytes c h) in grind (arith, nat_tests)

escape_encode : (c : ℕ) → flat_map escaped (encode c) ≡ escaped_char c
escape_encode c = elim (split c) [ inl l ↦ escape_low c l | inr h ↦ escape_of_high c h ]

escape_encodes : (cs : List ℕ) → flat_map escaped_char cs ≡ flat_map escaped (encodes cs)
escape_encodes [] = refl
escape_encodes (c ∷ cs) =
    ap (λ l. l ++ flat_map escaped_char cs) (sym (escape_encode c)) ∙ ap (λ l. flat_map escaped (encode c) ++ l) (escape_encodes cs) ∙ sym (flat_map-append escaped (encode c) (encodes cs))

pub escaped_chars : (bs : List ℕ) → IsUtf8 bs → flat_map escaped_char (chars bs) ≡ flat_map escaped bs
escaped_chars bs u = escape_encodes (chars bs) ∙ ap (flat_map escaped) (encodes-chars bs u)

plain_escaped : (bs : List ℕ) → list_all is_plain_byte bs ≡ true → flat_map escaped bs ≡ bs
plain_escaped [] h = refl
plain_escaped (b ∷ bs) h =
    let here : is_plain_byte b ≡ true = grind (arith, nat_tests) in
    let rest : list_all is_plain_byte bs ≡ true = grind (arith, nat_tests) in
    let more = plain_escaped bs rest in
    grind (arith, nat_tests)

pub plain_below : (old segment : List ℕ) {slash new : List ℕ} → list_all is_plain_byte segment ≡ true → slash ≡ old ++ 47 ∷ [] → new ≡ slash ++ segment → new ≡ old // segment
plain_below old segment plain e is = is ∙ ap (λ l. l ++ segment) e ∙ append_assoc old (47 ∷ []) segment ∙ ap (λ l. old ++ 47 ∷ l) (sym (plain_escaped segment plain))

-- what is appended as it is
pub pushed_plain : {A E : Type 0} (r : Result A E) (old new segment : List ℕ) → new ≡ cond (is_ok r) (old ++ segment) old → list_all is_plain_byte segment ≡ true
    → OnOk r (new ≡ old ++ flat_map escaped segment)
pushed_plain (Ok x) old new segment is plain = is ∙ ap (λ l. old ++ l) (sym (plain_escaped segment plain))
pushed_plain (Err e) old new segment is plain = tt

pub kept_plain : {A E : Type 0} (r : Result A E) (old new segment : List ℕ) → new ≡ cond (is_ok r) (old ++ segment) old → OnErr r ((rest : List ℕ) × (new ≡ old ++ rest))
kept_plain (Ok x) old new segment is = tt
kept_plain (Err e) old new segment is = ([], is ∙ sym (append-nil old))

pub of_ok : {A E Q : Type 0} (r : Result A E) → is_ok r ≡ true → OnOk r Q → Q
of_ok (Ok x) e q = q
of_ok (Err f) e q = absurd (true≢false (sym e))

pub on_err : {A E Q : Type 0} (r : Result A E) → Q → OnErr r Q
on_err (Ok x) q = tt
on_err (Err e) q = q

abbrev NoSlash : List ℕ → Type 0
NoSlash xs = (k : ℕ) → k < length xs → get_or xs k 0 ≢ 47

NoSlash-cons : (x : ℕ) (xs : List ℕ) → x ≢ 47 → NoSlash xs → NoSlash (x ∷ xs)
NoSlash-cons x xs h t zero l = h
NoSlash-cons x xs h t (suc k) l = t k (omega arith)

NoSlash-escaped : (b : ℕ) (xs : List ℕ) → NoSlash xs → NoSlash (escaped b ++ xs)
NoSlash-escaped b xs t = by_tilde (eqb b 126) refl
  where
    by_slash : (y : Bool) → eqb b 47 ≡ y → NoSlash (cond y (126 ∷ 49 ∷ []) (b ∷ []) ++ xs)
    by_slash true e = NoSlash-cons 126 (49 ∷ xs) (omega arith) (NoSlash-cons 49 xs (omega arith) t)
    by_slash false e = NoSlash-cons b xs (grind (arith, nat_tests)) t

    by_tilde : (x : Bool) → eqb b 126 ≡ x → NoSlash (cond x (126 ∷ 48 ∷ []) (cond (eqb b 47) (126 ∷ 49 ∷ []) (b ∷ [])) ++ xs)
    by_tilde true e = NoSlash-cons 126 (48 ∷ xs) (omega arith) (NoSlash-cons 48 xs (omega arith) t)
    by_tilde false e = by_slash (eqb b 47) refl

NoSlash-escape : (n : List ℕ) → NoSlash (flat_map escaped n)
NoSlash-escape [] = λ k l. absurd (omega arith)
NoSlash-escape (b ∷ bs) = NoSlash-escaped b (flat_map escaped bs) (NoSlash-escape bs)

later : (q xs : List ℕ) → NoSlash xs → (j k : ℕ) → k ≡ length q + suc j → k < length (q ++ 47 ∷ xs) → get_or (q ++ 47 ∷ xs) k 0 ≡ 47 → ⊥
later q xs t j k e hi h =
    let n = length-append q (47 ∷ xs) in
    let m = get_or-append-add q (47 ∷ xs) (suc j) 0 in
    t j (omega arith) (sym m ∙ ap (λ i. get_or (q ++ 47 ∷ xs) i 0) (sym e) ∙ h)

last_slash-after : (q xs : List ℕ) → NoSlash xs → HasLastSlash (q ++ 47 ∷ xs) (length q)
last_slash-after q xs t = record {
  within = omega (arith, length-append q (47 ∷ xs));
  is_slash = get_or-append_seam q 47 xs 0;
  is_last = λ k lo hi e. later q xs t (k - (length q + 1)) k (omega arith) hi e;
}

pub last_slash-pushed : (q n : List ℕ) → HasLastSlash (q // n) (length q)
last_slash-pushed q n = last_slash-after q (flat_map escaped n) (NoSlash-escape n)

pub take-pushed : (q n : List ℕ) → take (length q) (q // n) ≡ q
take-pushed q n = take-append_seam q (47 ∷ flat_map escaped n)

pub ruleset pushed_paths = (last_slash-pushed, take-pushed)
