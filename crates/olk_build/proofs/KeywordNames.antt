-- Which keyword a name is that is none of those that are read here.
use Rattle.std.proofs.Common.{◌≡◌, Bool, true, false, if◌then◌else◌, List, [], ◌∷◌, codes, bytes_eq, refl, sym, true≢false}
use Rattle.olk_spec.specs.Names.{Name, is_among}
use Rattle.olk_spec.specs.World.{World}
use Rattle.olk_spec.specs.Vocabulary.{Keyword, unsupported, unsupported_names, leaf_or_unread, keyword_named}
use Rattle.olk_build.specs.Reading.{IsOther}
use Rattle.olk_spec.proofs.{Each.Each, Walks.neither}

else_side : (b : Bool) (w x y : Keyword) → b ≡ false → x ≡ y → (if b then w else x) ≡ y
else_side true w x y e h = absurd (true≢false e)
else_side false w x y e h = h

then_side : (b : Bool) (w x : Keyword) → b ≡ true → (if b then w else x) ≡ w
then_side true w x e = refl
then_side false w x e = absurd (true≢false (sym e))

none_among : (n : Name) (ns : List Name) → is_among n ns ≡ false → Each (λ m. bytes_eq n m ≡ false) ns
none_among n [] e = tt
none_among n (m ∷ ns) e = let p = neither (bytes_eq n m) (is_among n ns) e in (p.0, none_among n ns p.1)

module _ (W : World) (k : Name) (other : IsOther k) where
  keyword_rest : (w : Keyword) → (if is_among k unsupported_names then unsupported else leaf_or_unread (W.reads k)) ≡ w → keyword_named W k ≡ w
  keyword_rest w h =
      let q = none_among k (codes "properties" ∷ codes "patternProperties" ∷ codes "additionalProperties" ∷ codes "propertyNames" ∷ codes "required" ∷ codes "dependentRequired" ∷ codes "dependentSchemas" ∷ codes "dependencies" ∷ codes "propertyDependencies" ∷ codes "allOf" ∷ codes "anyOf" ∷ codes "oneOf" ∷ codes "not" ∷ codes "if" ∷ codes "then" ∷ codes "else" ∷ []) other in
      else_side _ _ _ _ q.0 (else_side _ _ _ _ q.1.0 (else_side _ _ _ _ q.1.1.0 (else_side _ _ _ _ q.1.1.1.0 (else_side _ _ _ _ q.1.1.1.1.0
      (else_side _ _ _ _ q.1.1.1.1.1.0 (else_side _ _ _ _ q.1.1.1.1.1.1.0 (else_side _ _ _ _ q.1.1.1.1.1.1.1.0 (else_side _ _ _ _ q.1.1.1.1.1.1.1.1.0
      (else_side _ _ _ _ q.1.1.1.1.1.1.1.1.1.0 (else_side _ _ _ _ q.1.1.1.1.1.1.1.1.1.1.0 (else_side _ _ _ _ q.1.1.1.1.1.1.1.1.1.1.1.0
      (else_side _ _ _ _ q.1.1.1.1.1.1.1.1.1.1.1.1.0 (else_side _ _ _ _ q.1.1.1.1.1.1.1.1.1.1.1.1.1.0
      (else_side _ _ _ _ q.1.1.1.1.1.1.1.1.1.1.1.1.1.1.0 (else_side _ _ _ _ q.1.1.1.1.1.1.1.1.1.1.1.1.1.1.1.0 h)))))))))))))))

  pub refused_keyword : is_among k unsupported_names ≡ true → keyword_named W k ≡ unsupported
  refused_keyword e = keyword_rest unsupported (then_side (is_among k unsupported_names) unsupported (leaf_or_unread (W.reads k)) e)
