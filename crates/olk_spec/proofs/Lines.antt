-- Sorting texts forgets their order, and like faults are told in one line.
use Rattle.std.specs.Prelude.{◌≡◌, Bool, true, false, List, [], ◌∷◌, ◌++◌, map, codes}
use Rattle.std.specs.List.{flat_map}
use Rattle.std.specs.Ordering.{nat_cmp, ordering_reverse, is_gt}
use Rattle.std.specs.declared.cmp.Ordering.{Ordering}
use Rattle.std.specs.declared.cmp.Ordering.TheVariants.{Less, Equal, Greater}
use Rattle.std.specs.Cmp.Lexicographic.{slice_cmp}
use Rattle.std.specs.FinMap.{slice_cmp-IsAntisymmetric, nat_cmp-IsAntisymmetric}
use Rattle.std.proofs.lemmas.Cmp.{nat_list_cmp_total, upto}
use Rattle.std.proofs.Common.{refl, sym, ◌∙◌, ap, true≢false}
use Rattle.serde_json.specs.Written.{compact_text}
use Rattle.olk_spec.specs.Names.{Text}
use Rattle.olk_spec.specs.Faults.{Fault, fault, Kind, Context, Faults, no_fault, and_fault, faults_in, IsLike, like, IsLikeKind, itself, like_any_of, like_not_valid, like_multiple, like_names, IsLikeContext, like_none, like_branch, ◌∼◌, like_empty, like_next, like_swap, like_through}
use Rattle.olk_spec.specs.Answers.{put_before, insert_text, sorted, path_text, line, in_brackets, branch_texts, fault_lines}
use Rattle.olk_spec.specs.Texts.{keyword}
use Rattle.olk_spec.specs.Forms.{told as kind_told, told_inside, kind_name, fault_keyword}
use Rattle.olk_spec.proofs.Order.{like_text}

-- ---- sorting

behind_by : (o : Ordering) (t s : Text) (ss more : List Text) → is_gt o ≡ true → put_before o t s ss more ≡ s ∷ more
behind_by Greater t s ss more h = refl
behind_by _ t s ss more h = absurd (true≢false (sym h))

front_by : (o : Ordering) (t s : Text) (ss more : List Text) → is_gt o ≡ false → put_before o t s ss more ≡ t ∷ s ∷ ss
front_by Greater t s ss more h = absurd (true≢false h)
front_by _ t s ss more h = refl

behind : (t s : Text) (ss : List Text) → is_gt (slice_cmp nat_cmp t s) ≡ true → insert_text t (s ∷ ss) ≡ s ∷ insert_text t ss
behind t s ss h = behind_by _ t s ss _ h

front : (t s : Text) (ss : List Text) → is_gt (slice_cmp nat_cmp t s) ≡ false → insert_text t (s ∷ ss) ≡ t ∷ s ∷ ss
front t s ss h = front_by _ t s ss _ h

-- two texts that come before all others
module _ (s t : Text) (l : List Text) (first : insert_text s l ≡ s ∷ l) (second : insert_text t l ≡ t ∷ l) where
  heads_by : (o : Ordering) → slice_cmp nat_cmp s t ≡ o → slice_cmp nat_cmp t s ≡ ordering_reverse o → insert_text s (t ∷ l) ≡ insert_text t (s ∷ l)
  heads_by Less p q = front s t l (ap is_gt p) ∙ sym (behind t s l (ap is_gt q) ∙ ap (λ r. s ∷ r) second)
  heads_by Equal p q = let e : s ≡ t = slice_cmp-IsAntisymmetric nat_cmp-IsAntisymmetric s t p in λ i. insert_text (e i) (sym e i ∷ l)
  heads_by Greater p q = (behind s t l (ap is_gt p) ∙ ap (λ r. t ∷ r) first) ∙ sym (front t s l (ap is_gt q))

  heads : insert_text s (t ∷ l) ≡ insert_text t (s ∷ l)
  heads = heads_by (slice_cmp nat_cmp s t) refl (nat_list_cmp_total.antisymm t s)

-- one that comes behind x, and one that does not
one_behind : (s t x : Text) (xs : List Text) → is_gt (slice_cmp nat_cmp s x) ≡ true → is_gt (slice_cmp nat_cmp t x) ≡ false
    → insert_text s (insert_text t (x ∷ xs)) ≡ insert_text t (insert_text s (x ∷ xs))
one_behind s t x xs p q = by (is_gt _) refl
  where
    by : (b : Bool) → is_gt (slice_cmp nat_cmp s t) ≡ b → insert_text s (insert_text t (x ∷ xs)) ≡ insert_text t (insert_text s (x ∷ xs))
    by true h = (ap (insert_text s) (front t x xs q) ∙ behind s t _ h ∙ ap (λ r. t ∷ r) (behind s x xs p)) ∙ sym (ap (insert_text t) (behind s x xs p) ∙ front t x _ q)
    by false h = absurd (true≢false (sym p ∙ upto nat_list_cmp_total s t x h q))

-- two texts go in in either order
either_order : (s t : Text) (l : List Text) → insert_text s (insert_text t l) ≡ insert_text t (insert_text s l)
either_order s t [] = heads s t [] refl refl
either_order s t (x ∷ xs) = by (either_order s t xs) _ _ refl refl
  where
    by : insert_text s (insert_text t xs) ≡ insert_text t (insert_text s xs) → (a b : Bool) → is_gt (slice_cmp nat_cmp s x) ≡ a → is_gt (slice_cmp nat_cmp t x) ≡ b
        → insert_text s (insert_text t (x ∷ xs)) ≡ insert_text t (insert_text s (x ∷ xs))
    by more true true p q =
        (ap (insert_text s) (behind t x xs q) ∙ behind s x _ p) ∙ ap (λ r. x ∷ r) more
        ∙ sym (ap (insert_text t) (behind s x xs p) ∙ behind t x _ q)
    by more true false p q = one_behind s t x xs p q
    by more false true p q = sym (one_behind t s x xs q p)
    by more false false p q = ap (insert_text s) (front t x xs q) ∙ heads s t (x ∷ xs) (front s x xs p) (front t x xs q) ∙ sym (ap (insert_text t) (front s x xs p))

-- ---- lines

in_lines : (fs : Faults) → fault_lines fs ≡ map line (faults_in fs)
in_lines no_fault = refl
in_lines (and_fault f fs) = λ i. line f ∷ in_lines fs i

mutual
  pub like_line : (f g : Fault) → IsLike f g → line f ≡ line g
  like_line (fault k v Q P) (fault l w R O) (like h) =
      λ i. like_text (fault k v Q P) (fault l v Q P) (like h) i ++ codes " @ " ++ path_text Q ++ codes ", " ++ path_text P ++ like_brackets h i

  like_brackets : {k l : Kind} → IsLikeKind k l → in_brackets k ≡ in_brackets l
  like_brackets (like_any_of h) = ap (λ t. codes " [" ++ t ++ codes "]") (like_branches h)
  like_brackets (like_not_valid h) = ap (λ t. codes " [" ++ t ++ codes "]") (like_branches h)
  like_brackets (like_multiple h) = ap (λ t. codes " [" ++ t ++ codes "]") (like_branches h)
  like_brackets _ = refl

  like_branches : {c d : Context} → IsLikeContext c d → branch_texts c ≡ branch_texts d
  like_branches like_none = refl
  like_branches (like_branch {fs} {gs} {c} {d} h k) =
      let e : sorted (fault_lines fs) ≡ sorted (fault_lines gs) = ap sorted (in_lines fs) ∙ same_lines h ∙ sym (ap sorted (in_lines gs)) in
      λ i. codes "{" ++ flat_map (λ t. t ++ codes ";") (e i) ++ codes "}" ++ like_branches k i

  pub same_lines : {fs gs : List Fault} → fs ∼ gs → sorted (map line fs) ≡ sorted (map line gs)
  same_lines like_empty = refl
  same_lines (like_next {f} {g} h k) = λ i. insert_text (like_line f g h i) (same_lines k i)
  same_lines (like_swap {f} {g} {fs}) = either_order (line f) (line g) (sorted (map line fs))
  same_lines (like_through h k) = same_lines h ∙ same_lines k

-- ---- kinds

mutual
  pub like_told : (f g : Fault) → IsLike f g → kind_told f ≡ kind_told g
  like_told (fault k v Q P) (fault l w R O) (like h) =
      λ i. like_kind_name h i ++ codes " of " ++ compact_text v ++ codes " @ " ++ path_text Q ++ codes ", " ++ path_text P ++ like_inside h i

  like_kind_name : {k l : Kind} → IsLikeKind k l → kind_name k ≡ kind_name l
  like_kind_name itself = refl
  like_kind_name _ = refl

  like_inside : {k l : Kind} → IsLikeKind k l → told_inside k ≡ told_inside l
  like_inside itself = refl
  like_inside (like_any_of h) = refl
  like_inside (like_not_valid h) = refl
  like_inside (like_multiple h) = refl
  like_inside (like_names {f} {g} h) = ap (λ t. codes " {" ++ t ++ codes "}") (like_told f g h)

same_keyword : {k l : Kind} → IsLikeKind k l → keyword k ≡ keyword l
same_keyword itself = refl
same_keyword _ = refl

pub like_keyword : (f g : Fault) → IsLike f g → fault_keyword f ≡ fault_keyword g
like_keyword (fault k v Q P) (fault l w R O) (like h) = same_keyword h
