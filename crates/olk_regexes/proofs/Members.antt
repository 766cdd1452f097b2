-- A turn of the loop that reads a class.
use Rattle.std.proofs.Common.{◌≡◌, ℕ, suc, zero, ◌<◌, List, ◌++◌, Some, None, ◌∙◌, ap, arith}
use Rattle.olk_regexes.specs.Language.{Text}
use Rattle.olk_regexes.specs.Escapes.{Read, next}
use Rattle.olk_regexes.specs.Classes.{member, class_end, closed_or, members}
use Rattle.olk_regexes.specs.declared.class.Characters.{Characters}

pub members_end : (n : ℕ) (rs : List Characters) (w v : Text) (a : Read (List Characters)) →
    0 < n → Some v ≡ class_end w → members n rs w ≡ a → Some (rs, v) ≡ a
members_end zero rs w v a h e i = absurd (omega arith)
members_end (suc n) rs w v a h e i = ap (λ o. closed_or rs o (next (member w) (λ more u. members n (rs ++ more) u))) e ∙ i

pub members_none : (n : ℕ) (rs : List Characters) (w : Text) (a : Read (List Characters)) →
    None ≡ class_end w → None ≡ member w → members n rs w ≡ a → None ≡ a
members_none zero rs w a e m i = i
members_none (suc n) rs w a e m i =
    ap (λ o. next o (λ more u. members n (rs ++ more) u)) m ∙
    ap (λ o. closed_or rs o (next (member w) (λ more u. members n (rs ++ more) u))) e ∙ i

pub members_more : (n k : ℕ) (rs more : List Characters) (w v : Text) (a : Read (List Characters)) →
    n ≡ suc k → None ≡ class_end w → Some (more, v) ≡ member w → members n rs w ≡ a → members k (rs ++ more) v ≡ a
members_more n k rs more w v a h e m i =
    let j : members (suc k) rs w ≡ a = rw h at i in
    ap (λ o. next o (λ more u. members k (rs ++ more) u)) m ∙
    ap (λ o. closed_or rs o (next (member w) (λ more u. members k (rs ++ more) u))) e ∙ j

pub members_out : (n : ℕ) (rs : List Characters) (w : Text) (a : Read (List Characters)) →
    n ≡ 0 → members n rs w ≡ a → None ≡ a
members_out n rs w a h i = rw h at i
