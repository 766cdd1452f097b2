-- What a walk over a pattern has read so far.
use Rattle.std.proofs.Common.{◌≡◌, ℕ, List, [], ◌∷◌, ◌++◌, encode_utf8_all, encode_utf8, refl, sym, ◌∙◌, ap, append_assoc, append-nil}
use Rattle.std.proofs.lemmas.Str.{encodes-append}
use Rattle.olk_spec.specs.Literals.{body_of, put_front}

-- of the items at the start of the pattern, those before `rest` are read, and `text` is theirs
pub record HasRead (pattern text rest : List ℕ) : Type 0 where
  pub items : List ℕ
  pub text_is : text ≡ encode_utf8_all items
  pub left : body_of pattern ≡ (items ++ (body_of rest).0, (body_of rest).1)

pub HasRead-more : (pattern text rest after : List ℕ) (c : ℕ) → HasRead pattern text rest → body_of rest ≡ put_front c (body_of after) → HasRead pattern (text ++ encode_utf8 c) after
HasRead-more pattern text rest after c h e = record {
  items = h.items ++ c ∷ [];
  text_is = ap (λ xs. xs ++ encode_utf8 c) h.text_is ∙ sym (encodes-append h.items (c ∷ []) ∙ ap (λ xs. encode_utf8_all h.items ++ xs) (append-nil (encode_utf8 c)));
  left = h.left ∙ (rw (e, append_assoc) refl);
}
