-- Short replies, field by field.
use Rattle.std.proofs.Common.{◌≡◌, ◌∙◌, List, [], ◌∷◌, ◌++◌, sym, ap, append_assoc, append-nil}
use Rattle.cube_defs.specs.Text.{Text}
use Rattle.reply_text.specs.Replies.{fields_text, record_text}
use Rattle.reply_text.proofs.Records.{fields-append, record-fields}

pub begun-fields : (word line : Text) (now : Text) → now ≡ word ++ 44 ∷ line → now ≡ word ++ fields_text (line ∷ [])
begun-fields word line now n = n ∙ ap (λ (z : Text). word ++ 44 ∷ z) (sym (append-nil line))

pub more-fields : (word : Text) (xs more : List Text) (before now : Text) → before ≡ word ++ fields_text xs
    → now ≡ before ++ fields_text more → now ≡ word ++ fields_text (xs ++ more)
more-fields word xs more before now b n =
    n ∙ ap (λ (z : Text). z ++ fields_text more) b ∙ append_assoc word (fields_text xs) (fields_text more)
    ∙ ap (λ (z : Text). word ++ z) (sym (fields-append xs more))

pub field-more : (word : Text) (xs : List Text) (field before now : Text) → before ≡ word ++ fields_text xs
    → now ≡ before ++ 44 ∷ field → now ≡ word ++ fields_text (xs ++ field ∷ [])
field-more word xs field before now b n
    = more-fields word xs (field ∷ []) before now b (n ∙ ap (λ (z : Text). before ++ 44 ∷ z) (sym (append-nil field)))

pub fields-ended : (word : Text) (xs : List Text) (before now : Text) → before ≡ word ++ fields_text xs
    → now ≡ before ++ 10 ∷ [] → now ≡ record_text (word ∷ xs)
fields-ended word xs before now b n = n ∙ ap (λ (z : Text). z ++ 10 ∷ []) (b ∙ sym (record-fields word xs))
