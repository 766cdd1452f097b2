-- What is kept of one fault is kept of a fault of some list that is like all of them.
use Rattle.std.proofs.Common.{◌≡◌, ℕ, zero, suc, ◌<◌, length, get_or, List, [], ◌∷◌, refl, sym, ap, subst, arith}
use Rattle.std.specs.List.{Contains}
use Rattle.serde_json.specs.Data.{Data}
use Rattle.olk_spec.specs.Names.{Path}
use Rattle.olk_spec.specs.Faults.{Fault, fault, Kind, AdditionalProperties, AnyOf, OneOfNotValid, OneOfMultipleValid, Not, Required, FalseSchema, PropertyNames, Leaf, SingleType, MultipleTypes, UniqueItems, Regex, Unsupported, LeafRefused, IsLike, like, IsLikeKind, itself, like_any_of, like_not_valid, like_multiple, like_names, ◌∼◌, like_next}
use Rattle.olk_spec.specs.Reports.{cut, cut_kind}
use Rattle.olk_spec.proofs.Order.{like_itself, ∼_refl}
use Rattle.olk_errors.specs.Found.{IsKeptOf}
use Rattle.olk_errors.proofs.Own.{no_place}

-- f is what is kept of something like g
record Kept (f g : Fault) : Type 0 where
  pub whole : Fault
  pub told : f ≡ cut whole
  pub alike : IsLike whole g

kept_as : {w l : Kind} {v : Data} {Q P : Path} → IsLikeKind w l → Kept (fault (cut_kind w) v Q P) (fault l v Q P)
kept_as {w} {v = v} {Q} {P} h = record { whole = fault w v Q P; told = refl; alike = like h }

mutual
  kept_kind : (k l : Kind) (v : Data) (Q P : Path) → IsLikeKind k (cut_kind l) → Kept (fault k v Q P) (fault l v Q P)
  kept_kind k (AdditionalProperties []) v Q P itself = kept_as itself
  kept_kind k (AdditionalProperties (n ∷ ns)) v Q P itself = kept_as itself
  kept_kind k (AnyOf c) v Q P itself = kept_as itself
  kept_kind (AnyOf d) (AnyOf c) v Q P (like_any_of h) = kept_as (like_any_of h)
  kept_kind k (OneOfNotValid c) v Q P itself = kept_as itself
  kept_kind (OneOfNotValid d) (OneOfNotValid c) v Q P (like_not_valid h) = kept_as (like_not_valid h)
  kept_kind k (OneOfMultipleValid c) v Q P itself = kept_as itself
  kept_kind (OneOfMultipleValid d) (OneOfMultipleValid c) v Q P (like_multiple h) = kept_as (like_multiple h)
  kept_kind k (Not d) v Q P itself = kept_as itself
  kept_kind k (Required n) v Q P itself = kept_as itself
  kept_kind k FalseSchema v Q P itself = kept_as itself
  kept_kind k (PropertyNames f) v Q P itself = kept_as itself
  kept_kind (PropertyNames g) (PropertyNames f) v Q P (like_names h) =
      let n = kept g f h in record { whole = fault (PropertyNames n.whole) v Q P; told = ap (λ x. fault (PropertyNames x) v Q P) n.told; alike = like (like_names n.alike) }
  kept_kind k (Leaf n t) v Q P itself = kept_as itself
  kept_kind k (SingleType t) v Q P itself = kept_as itself
  kept_kind k MultipleTypes v Q P itself = kept_as itself
  kept_kind k UniqueItems v Q P itself = kept_as itself
  kept_kind k Regex v Q P itself = kept_as itself
  kept_kind k (Unsupported n) v Q P itself = kept_as itself
  kept_kind k (LeafRefused n) v Q P itself = kept_as itself

  kept : (f g : Fault) → IsLike f (cut g) → Kept f g
  kept (fault k v Q P) (fault l w R O) (like h) = kept_kind k l v Q P h

-- a list with one fault exchanged for one that is like it
record Exchanged (fs : List Fault) (h : Fault) : Type 0 where
  pub list : List Fault
  pub alike : list ∼ fs
  pub among : Contains list h

exchanged : (fs : List Fault) (g h : Fault) (n : ℕ) → n < length fs → get_or fs n g ≡ g → IsLike h g → Exchanged fs h
exchanged [] g h n l e alike = absurd (no_place n l)
exchanged (f ∷ fs) g h zero l e alike = record { list = h ∷ fs; alike = like_next (subst (IsLike h) (sym e) alike) (∼_refl fs); among = (0, omega arith, refl) }
exchanged (f ∷ fs) g h (suc n) l e alike =
    let r = exchanged fs g h n (omega (arith, l)) e alike in
    let m = r.among.1 in
    record { list = f ∷ r.list; alike = like_next (like_itself f) r.alike; among = (suc r.among.0, omega (arith, m), r.among.2) }

-- f is what is kept of a fault of some list that is like these
pub record KeptOfLike (faults : List Fault) (f : Fault) : Type 0 where
  pub whole : Fault
  pub list : List Fault
  pub alike : list ∼ faults
  pub among : Contains list whole
  pub told : f ≡ cut whole

pub kept_of_like : (faults : List Fault) (f : Fault) → IsKeptOf faults f → KeptOfLike faults f
kept_of_like faults f of_all =
    let k = kept f of_all.whole of_all.like in
    let x = exchanged faults of_all.whole k.whole of_all.among.0 of_all.among.1 of_all.among.2 k.alike in
    record { whole = k.whole; list = x.list; alike = x.alike; among = x.among; told = k.told }
